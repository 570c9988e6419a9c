-- Two symbols, each of a state of its own, from the law of places.
use Rattle.std.proofs.Common.{◌≡◌, ℕ, ◌^◌, ◌<◌, Bool, true, false, List, [], ◌∷◌, ◌++◌, Option, Result, refl}
use Rattle.std.proofs.lemmas.List.Elements.{All-nil}
use Rattle.constriction.specs.Coding.{StandsForEqual}
use Rattle.constriction.specs.Rows.{Row, RowsTile, entry_of}
use Rattle.constriction_coders.specs.Intervals.{Held, IsRead}
use Rattle.constriction_coders.specs.Places.{placed, entry_at, IsDecodedAt}
use Rattle.constriction_coders.specs.RangeLaws.{IsAt, RangeMessageComesBack}
use Rattle.constriction_coders.specs.Spans.{Span, whole, IsNarrowed, IsSealed}
use Rattle.constriction_coders.proofs.Messages.{came-back}
use Rattle.constriction_coders.proofs.Sealing.{sealed-tell}
use Rattle.constriction_coders.proofs.Spanning.{whole-reached}

-- the rows of the first symbol, and those of the second one
abbrev pub rows_in : {Symbol : Type 0} → List (Row Symbol) → List (Row Symbol) → Bool → List (Row Symbol)
rows_in first second true = first
rows_in first second false = second

-- after a symbol the first one is not to come
abbrev pub after_first : {Symbol : Type 0} → Bool → Symbol → Bool
after_first state symbol = false

module _ {Symbol S E : Type 0} (Stands : Symbol → Symbol → Type 0) (eq : Symbol → Symbol → Bool) (rows others : List (Row Symbol))
    (gives : S → Result (Option ℕ) E → S → Type 0) (tells : S → List ℕ → Type 0) (precision : ℕ) (tile : RowsTile 32 precision rows)
    (tile_others : RowsTile 32 precision others) where
  abbrev entry : Bool → Symbol → Option (ℕ × ℕ)
  entry state = entry_of eq (rows_in rows others state)

  abbrev Reads : Bool × Symbol → Held S → Held S → Type 0
  Reads = IsDecodedAt eq entry (rows_in rows others) precision (λ own. IsRead Stands own gives precision)

  module _ (law : RangeMessageComesBack (placed after_first true) (entry_at entry) precision Reads tells (StandsForEqual Stands eq))
      (symbol answer other other_answer : Symbol) (old mid last : Span) (words : List ℕ) (start middle end : Held S) (new : old ≡ whole)
      (first : IsNarrowed (entry_of eq rows symbol) precision old mid) (second : IsNarrowed (entry_of eq others other) precision mid last)
      (sealed : IsSealed last words) (starts : IsAt tells whole (words ++ []) start)
      (read : IsRead Stands rows gives precision answer start middle)
      (read_on : IsRead Stands others gives precision other_answer middle end) where
    -- both symbols come back
    pub two-back : StandsForEqual Stands eq symbol answer × StandsForEqual Stands eq other other_answer
    two-back =
        let e : IsNarrowed (entry_of eq rows symbol) precision whole mid = rw new at first in
        let back = came-back (placed after_first true) (entry_at entry) precision Reads tells (StandsForEqual Stands eq) law start 2
        (answer ∷ other_answer ∷ []) end (
          middle,
          record { tile = tile; alike = λ s. refl; step = read },
          (end, record { tile = tile_others; alike = λ s. refl; step = read_on }, refl),
        ) (symbol ∷ other ∷ []) (words ++ []) whole last whole-reached refl (
          mid,
          record { left = e.left; weight = e.weight; known = e.known; within = e.within; next = e.next },
          (
            last,
            record { left = second.left; weight = second.weight; known = second.known; within = second.within; next = second.next },
            refl,
          ),
        ) (sealed-tell last words [] sealed (All-nil (λ (w : ℕ). w < 2 ^ 32))) starts refl in
        (back.0, back.1.0)
