-- Symbols that a coder encodes one after the other, whatever coder it is.
use Rattle.std.specs.Prelude.{◌≡◌, ℕ, List, ◌∷◌, ◌++◌, Option, None, Result, Err}
use Rattle.constriction_model.specs.Coding.{InTurn}
use Rattle.constriction_words.specs.declared.CoderError.{CoderError}
use Rattle.constriction_words.specs.declared.CoderError.TheVariants.{Frontend}

module _ {Coder Content Symbol Fault E : Type 0} (held : Coder → Content)
    (IsEncoded : Option (ℕ × ℕ) → Content → Content → Type 0)
    (Encodes : Option (ℕ × ℕ) → Coder → Result (Unit {0}) (CoderError Fault E) → Coder → Type 0)
    (entry : Symbol → Option (ℕ × ℕ)) where
  -- symbols were encoded after `old`, the first one first, and the next one was not, which left what the coder held
  pub record StopsAt (done : List Symbol) (symbol : Symbol) (error : CoderError Fault E) (old : Content) (new : Coder) : Type 0 where
    pub reached : Coder
    pub led : InTurn (λ s. IsEncoded (entry s)) done old (held reached)
    pub impossible : (fault : Fault) → error ≡ Frontend fault → entry symbol ≡ None
    pub step : Encodes (entry symbol) reached (Err error) new
    pub same : held new ≡ held reached

  -- the symbols before one were encoded, and that one was not
  abbrev pub EncodingStops : List Symbol → CoderError Fault E → Content → Coder → Type 0
  EncodingStops symbols error old new =
      (done : List Symbol) × (symbol : Symbol) × (after : List Symbol) × (symbols ≡ done ++ symbol ∷ after)
      × StopsAt done symbol error old new
