-- The words that a walk through a coder's words has yet to give.
use Rattle.std.specs.Prelude.{ℕ, List, [], ◌∷◌, ◌++◌, Option, Some, None}
use Rattle.constriction_coders.specs.declared.stack.iter_compressed.CompressedWords.{CompressedWords}

abbrev one_or_none : Option ℕ → List ℕ
one_or_none (Some word) = word ∷ []
one_or_none None = []

-- those under the state, and then those of the state
abbrev pub words_left : CompressedWords → List ℕ
words_left walk = walk.words.now ++ one_or_none walk.low ++ one_or_none walk.high
