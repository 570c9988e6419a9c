-- Models that are made of other models.
use Rattle.std.proofs.Common.{◌≡◌, ℕ, Bool, true, List, Result, Ok, Err, eq-eqb, sym}
use Rattle.std.specs.Prelude.{IfOk, IfErr, nat_eq}
use Rattle.std.specs.Cmp.{IsEquivalence}
use Rattle.constriction_model.specs.Entries.{HoldsEntriesOf}
use Rattle.constriction_model.specs.Model.{ClonesAreEqual}
use Rattle.constriction_model.specs.Rows.{Row, entry_of}
use Rattle.constriction_model.specs.declared.ModelError.{ModelError}
use Rattle.constriction_model.specs.declared.ModelError.TheVariants.{InvalidTable, OutOfMemory}
use Rattle.constriction_model.specs.lemmas.Stand.{entries-of}
use Rattle.constriction_theorem.specs.Answers.{IsDecidedBy}

-- a clone of a number is that number, and so is equal to it
pub same_are_equal : (x y : ℕ) → y ≡ x → nat_eq x y ≡ true
same_are_equal x y e = eq-eqb x y (sym e)

-- what is known before a call is known of its value
pub whatever-ok : {A E P : Type 0} (r : Result A E) → P → IfOk r (λ _. P)
whatever-ok (Ok x) p = p
whatever-ok (Err e) p = tt

-- a call that refuses memory alone finds no list invalid
pub never-invalid : {A P : Type 0} (r : Result A ModelError) → IfErr r (λ e. e ≡ OutOfMemory) → r ≡ Err InvalidTable → P
never-invalid (Ok x) refused is = absurd (cc)
never-invalid (Err e) refused is = absurd (cc)

-- an error that is handed on is found as the call found it
pub handed-on : {Made Answers Accepted : Type 0} {Tells : Answers → Type 0} (r : Result Made ModelError) (s : Result Answers ModelError)
    (e f : ModelError) → r ≡ Err e → s ≡ Err f → f ≡ e → (r ≡ Err InvalidTable → ¬ Accepted) → IsDecidedBy s Accepted Tells
handed-on r (Ok x) e f was is same invalid = absurd (cc)
handed-on r (Err g) e f was is same invalid = record { accepted = tt; answers = tt; invalid = λ wrong. invalid (cc) }

-- want of memory decides nothing
pub refused-decided : {Answers Accepted : Type 0} {Tells : Answers → Type 0} (r : Result Answers ModelError) → r ≡ Err OutOfMemory
    → IsDecidedBy r Accepted Tells
refused-decided (Ok x) is = absurd (cc)
refused-decided (Err e) is = record { accepted = tt; answers = tt; invalid = λ wrong. absurd (cc) }

-- a hashed encoder with clones of the symbols of rows has the entries of these rows
pub entries-of-made : {Symbol Model Error : Type 0} (eq : Symbol → Symbol → Bool) → IsEquivalence eq
    → (IsClone : Symbol → Symbol → Type 0) → ClonesAreEqual eq IsClone → (rows : Model → List (Row Symbol)) (others : List (Row Symbol))
    (r : Result Model Error) → IfOk r (λ e. HoldsEntriesOf eq IsClone (rows e) others)
    → IfOk r (λ e. (s : Symbol) → entry_of eq (rows e) s ≡ entry_of eq others s)
entries-of-made eq laws IsClone equal rows others (Ok e) h = entries-of eq laws IsClone equal (rows e) others h
entries-of-made eq laws IsClone equal rows others (Err e) h = tt
