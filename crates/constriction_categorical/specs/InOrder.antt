-- Lists of symbols in increasing order that a model accepts.
use Rattle.std.specs.Prelude.{ℕ, Bool, List}
use Rattle.std.specs.List.Sorted.{IsStrictlySortedBy}
use Rattle.std.specs.declared.cmp.Ordering.{Ordering}
use Rattle.constriction_model.specs.Acceptance.{AreAccepted}

-- a model of any symbols accepts the symbols and completed weights, and each symbol is less than the next one
abbrev pub AreInOrder : {Symbol : Type 0} → (Symbol → Symbol → Bool) → (Symbol → Symbol → Ordering) → (bits precision : ℕ)
    → List Symbol → List ℕ → Type 0
AreInOrder eq cmp bits precision symbols weights =
    AreAccepted eq bits precision symbols weights × IsStrictlySortedBy cmp symbols
