-- How many questions a search of all rows asks.
use Rattle.std.specs.Prelude.{◌≡◌, ℕ, ◌+◌, ◌-◌, ◌<◌, ◌≤◌, List, [], ◌∷◌, ◌++◌, if◌then◌else◌, length, map, nat_lt, take}
use Rattle.std.proofs.Common.{ap, arith, get_or, inl, inr, sym, ◌∙◌}
use Rattle.std.proofs.lemmas.Bool.{cases_lt, lt-ltb}
use Rattle.std.proofs.lemmas.List.{map-append, take_more}

-- a probe from `first` on with all of n rows has n of them
pub all_probed : (n first size : ℕ) → ((i : ℕ) → i < n → (first ≤ i) × (i < first + size)) → first + size ≤ n → size ≡ n
all_probed n first size all within = elim (cases_lt 0 n) [
  | inl some ↦ omega (arith, (all 0 some).0, (all (n - 1) (omega (arith, some))).1, within)
  | inr none ↦ omega (arith, none, within)
]

-- what holds of a number below another one
pub if_below : (m n a b c : ℕ) → m < n → a ≡ b → a ≡ (if nat_lt m n then b else c)
if_below m n a b c below same = rw (lt-ltb m n below) same

-- the counts so far, and that of one query more
pub asked_more : {Query : Type 0} (count : Query → ℕ) (queries : List Query) (i : ℕ) (query : Query) (asked : ℕ) (old new : List ℕ)
    → i < length queries → asked ≡ count (get_or queries i query) → old ≡ map count (take i queries) → new ≡ old ++ asked ∷ []
    → new ≡ map count (take (i + 1) queries)
asked_more count queries i query asked old new less is so_far pushed =
    pushed ∙ ap (λ ns. ns ++ asked ∷ []) so_far ∙ ap (λ n. map count (take i queries) ++ n ∷ []) is
    ∙ sym (map-append count (take i queries) (get_or queries i query ∷ [])) ∙ ap (map count) (sym (take_more queries i query less))
