-- What a look-up of a row answers in a model that stores symbols.
use Rattle.std.specs.Prelude.{◌≡◌, ℕ, List, Result, slice_index_or, IfOk, IfErr}
use Rattle.constriction_model.specs.Model.{row_of, LiesWithin}
use Rattle.constriction_model.specs.Rows.{Row}

module _ {Symbol Word Weight E : Type 0} (IsClone : Symbol → Symbol → Type 0) (IsInfallible : Symbol → Type 0) (whole : Word → ℕ)
    (base : Weight → Word) (precision : ℕ) where
  -- the answer is the row at an index, with a clone of its symbol; it is refused only if the clone may be
  pub record IsClonedRow (rows : List (Row Symbol)) (index : ℕ) (answer : Result (Symbol × Word × Weight) E) : Type 0 where
    pub row : IfOk answer (λ x. (own : Symbol) × IsClone own x.0
        × (slice_index_or rows index (row_of whole base (own, x.1, x.2)) ≡ row_of whole base (own, x.1, x.2)))
    pub within : IfOk answer (λ x. LiesWithin precision (row_of whole base x))
    pub refused : IfErr answer (λ _. (r : Row Symbol) × (slice_index_or rows index r ≡ r) × ¬ (IsInfallible r.symbol))
