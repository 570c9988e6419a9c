-- How far the quantiles below 2 ^ precision are filled.
use Rattle.std.specs.Prelude.{◌≡◌, ℕ, ◌+◌, ◌^◌, ◌<◌, ◌≤◌, ◌⊎◌, Bool, List, All, length, map, sum, Option, Some, None, IfSome}
use Rattle.std.specs.Iterator.{Yields}
use Rattle.std.specs.List.{AllZip}
use Rattle.std.specs.Option.{option_map}
use Rattle.constriction_model.specs.Acceptance.{completed, Reading, WasRead, MayGive}
use Rattle.constriction_model.specs.Rows.{Row, symbols_of, entry_of}
use Rattle.constriction_stored_rows.specs.Ends.{IsNoCdf}

-- where the next row would begin, or 2 ^ precision if all quantiles are filled
abbrev pub filled_to : {Word : Type 0} → (Word → ℕ) → ℕ → Option Word → ℕ
filled_to whole precision (Some next) = whole next
filled_to whole precision None = 2 ^ precision

-- a row of this weight that begins at `left` ends at `end`
pub record IsRowEnd {Word : Type 0} (whole : Word → ℕ) (bits precision : ℕ) (left weight : Word) (end : Option Word) : Type 0 where
  pub positive : 0 < whole weight
  pub fits : whole weight < 2 ^ bits
  pub is : filled_to whole precision end ≡ whole left + whole weight
  pub below : IfSome end (λ next. whole next < 2 ^ precision)

-- the rows of these weights fit, and the next row would begin at `end`
pub record IsFilled {Word : Type 0} (whole : Word → ℕ) (bits precision : ℕ) (weights : List Word) (end : Option Word) : Type 0 where
  pub positive : All (λ w. 0 < w) (map whole weights)
  pub fit : All (λ w. w < 2 ^ bits) (map whole weights)
  pub is : filled_to whole precision end ≡ sum (map whole weights)
  pub below : IfSome end (λ next. whole next < 2 ^ precision)

-- the iterator gave these weights so far, whose rows leave `room` quantiles after the one at `left`
pub record IsBegun {S Word : Type 0} (steps : S → Option Word → S → Type 0) (it : S) (whole : Word → ℕ) (bits precision : ℕ)
    (weights : List Word) (s : S) (left : Word) (room : ℕ) : Type 0 where
  pub given : Yields steps it weights s
  pub filled : IsFilled whole bits precision weights (Some left)
  pub rest : whole left + room + 1 ≡ 2 ^ precision

-- The weights that the iterator gave are not accepted, whatever would follow, after the rows of some were taken. Or their rows end before
-- they do.
abbrev pub AreNotTaken : {S Word T : Type 0} → (S → Option Word → S → Type 0) → S → (Word → ℕ) → ℕ → ℕ → Bool
    → (List ℕ → T → Type 0) → (ℕ → Type 0) → Type 0
AreNotTaken {Word = Word} {T = T} steps it whole bits precision infer Took EndsBefore =
    (IsNoCdf steps it whole bits precision infer × (ws : List ℕ) × (t : T) × Took ws t)
    ⊎ ((n : ℕ) × EndsBefore n × (ws : List Word) × (read : Reading) × WasRead steps it read ws
    × ((all : List Word) → MayGive read ws all → n ≤ length (completed precision infer (map whole all))))

-- these entries hold these rows: the symbol and the left cumulative of each, in order
abbrev pub HoldsRows : {Word Symbol : Type 0} → (Word → ℕ) → List (Word × Symbol) → List (Row Symbol) → Type 0
HoldsRows whole entries rows =
    (map (λ x. x.1) entries ≡ symbols_of rows) × (map (λ x. whole x.0) entries ≡ map (λ r. r.left) rows)

-- the entries `cloned` are clones of the others: one for each, in order, with the same word and a clone of the symbol
abbrev pub AreEntriesCloned : {Word Symbol : Type 0} → (Symbol → Symbol → Type 0) → List (Word × Symbol) → List (Word × Symbol) → Type 0
AreEntriesCloned IsClone entries cloned = AllZip (λ e c. IsClone e.1 c.1 × (c.0 ≡ e.0)) entries cloned

-- a map finds for each symbol its entry in these rows, or None if it has none
abbrev pub HoldsEntries : {Symbol Entry : Type 0} → (Symbol → Symbol → Bool) → (Entry → ℕ × ℕ) → (Symbol → Option Entry) → List (Row Symbol)
    → Type 0
HoldsEntries {Symbol} eq numbers found rows = (s : Symbol) → option_map numbers (found s) ≡ entry_of eq rows s
