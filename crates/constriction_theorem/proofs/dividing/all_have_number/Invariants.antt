use Rattle.std.proofs.Common.{◌≡◌, take}
use Rattle.std.specs.Prelude.{All}
use Rattle.constriction_theorem.proofs.dividing.all_have_number.Given as goal

-- the words so far have the number
abbrev pub invariant-loop-word : goal.invariant-loop-word
invariant-loop-word g l = All (λ word. g.Word.WholeNumber.whole word ≡ l.number) (take l.word-index l.words)
