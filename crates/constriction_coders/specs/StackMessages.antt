-- The words of symbols on a stack: one program encodes them, and another decodes them from the words alone.
use Rattle.std.specs.Prelude.{ℕ, List, [], Option}
use Rattle.constriction_model.specs.Coding.{InTurn}
use Rattle.constriction_coders.specs.Compressed.{IsCompressed}
use Rattle.constriction_coders.specs.Steps.{Content, content, IsEncoded}

-- These are the words of these symbols, the first one on top: the words of a coder that held nothing and then took the symbols.
pub record IsStackOf {Symbol : Type 0} (entry : Symbol → Option (ℕ × ℕ)) (precision : ℕ) (symbols : List Symbol) (words : List ℕ)
    : Type 0 where
  pub full : Content
  pub led : InTurn (λ s. IsEncoded (entry s) precision) symbols full (content 0 [])
  pub compressed : IsCompressed full words
