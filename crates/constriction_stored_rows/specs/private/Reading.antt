-- How far symbols were read, and rows stored.
use Rattle.std.specs.Prelude.{◌≡◌, ℕ, ◌≤◌, Bool, List, length, Option}
use Rattle.std.specs.Iterator.{Count, IsFinite, Yields}
use Rattle.std.specs.List.{IsDistinct}
use Rattle.constriction_model.specs.Acceptance.{Reading, WasRead, MayGive}
use Rattle.constriction_model.specs.Rows.{Row, rows_of}

module _ {S Symbol : Type 0} (steps : S → Option Symbol → S → Type 0) (Goes : S → Type 0) (remaining : S → Count)
    (eq : Symbol → Symbol → Bool) (Holds : List (Row Symbol) → Type 0) where
  -- a symbol came for each of these weights, no two of them are equal, the rows of both are stored, and the iterator goes on
  pub record TookRows (it : S) (weights : List ℕ) (u : S) : Type 0 where
    pub symbols : List Symbol
    pub given : Yields steps it symbols u
    pub as_many : length symbols ≡ length weights
    pub distinct : IsDistinct eq symbols
    pub held : Holds (rows_of symbols weights)
    pub goes : Goes u
    pub ends : IsFinite (remaining u)

-- symbols were read, after which the iterator gives no list of n symbols or more of which no two are equal
abbrev pub EndsBefore : {S Symbol : Type 0} → (S → Option Symbol → S → Type 0) → (Symbol → Symbol → Bool) → S → ℕ → Type 0
EndsBefore {Symbol = Symbol} steps eq it n = (symbols : List Symbol) × (read : Reading) × WasRead steps it read symbols
    × ((all : List Symbol) → MayGive read symbols all → n ≤ length all → ¬ (IsDistinct eq all))
