use Rattle.std.proofs.Common.{◌≡◌, ℕ, List, Result, Ok, Err}
use Rattle.std.specs.Prelude.{IfOk, nat_eq}
use Rattle.std.specs.Cmp.{nat_eq_equiv}
use Rattle.constriction.specs.Entries.{HoldsEntriesOf, SameEntries}
use Rattle.constriction.specs.Rows.{Row}
use Rattle.constriction.specs.lemmas.Stand.{entries-of, same-equal}
use Rattle.constriction_test_support.proofs.given.encoder_of.Goals as goal

-- if clones are the same values, what has the entries of the clones has the entries of the rows
their-entries : {A E : Type 0} (rows : A → List (Row ℕ)) (others : List (Row ℕ)) (r : Result A E)
    → IfOk r (λ e. HoldsEntriesOf nat_eq (λ s t. t ≡ s) (rows e) others) → IfOk r (λ e. SameEntries nat_eq (rows e) others)
their-entries rows others (Ok e) h =
    entries-of nat_eq nat_eq_equiv (λ s t. t ≡ s) (same-equal nat_eq nat_eq_equiv (λ s t. t ≡ s) (λ x y is. is)) (rows e) others h
their-entries rows others (Err e) h = tt

pub returns : goal.returns
returns c = their-entries _ _ c.to_generic_encoder_model.result c.to_generic_encoder_model.ensures.ok
