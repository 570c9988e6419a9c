-- How bytes are cut at a separator.
use Rattle.std.proofs.Common.{refl, ◌≡◌, ℕ, ◌+◌, ◌-◌, ◌<◌, ◌≤◌, Bool, true, false, List, [], ◌∷◌, Some, None, ap, sym, ◌∙◌, length, take, drop, arith, nat_lt, cond, take_all, length-drop}
use Rattle.std.specs.List.{position, position_or_len, slice_split}
use Rattle.std.proofs.lemmas.Bool.{ltb-true, ltb-false}
use Rattle.std.proofs.lemmas.Option.{same_Some}
use Rattle.std.proofs.lemmas.List.Splits.{slice_split_first, slice_split_none}
use Rattle.std.proofs.lemmas.Grind.{common_steps}
use Rattle.std.proofs.lemmas.List.Sums.{fails_before_first}

-- a position that was found is the first, and stands in the list
found_position : (n i at : ℕ) (b : Bool) → nat_lt i n ≡ b → Some at ≡ cond b (Some i) None → (at ≡ i) × (i < n)
found_position n i at true t e = (same_Some at i e, ltb-true i n t)
found_position n i at false t e = absurd (cc)

no_position : (n i : ℕ) (b : Bool) → nat_lt i n ≡ b → None ≡ cond b (Some i) None → n ≤ i
no_position n i true t e = absurd (cc)
no_position n i false t e = ltb-false i n t

-- the first part ends at the first separator, and the other parts are those of what follows
pub cut_at : (p : ℕ → Bool) (bytes : List ℕ) (at : ℕ) → Some at ≡ position p bytes
    → slice_split p bytes ≡ take at bytes ∷ slice_split p (take (length bytes - (at + 1)) (drop (at + 1) bytes))
cut_at p bytes at e =
    let found = found_position (length bytes) (position_or_len p bytes) at (nat_lt (position_or_len p bytes) (length bytes)) refl e in
    let rest : take (length bytes - (at + 1)) (drop (at + 1) bytes) ≡ drop (at + 1) bytes =
    take_all (length bytes - (at + 1)) (drop (at + 1) bytes) (omega (arith, length-drop (at + 1) bytes)) in
    slice_split_first p bytes 0 found.1 ∙ ap (λ i. take i bytes ∷ slice_split p (drop (i + 1) bytes)) (sym found.0)
    ∙ ap (λ r. take at bytes ∷ slice_split p r) (sym rest)

-- without a separator there is one part
pub cut_nowhere : (p : ℕ → Bool) (bytes : List ℕ) → None ≡ position p bytes → slice_split p bytes ≡ bytes ∷ []
cut_nowhere p bytes e =
    let past = no_position (length bytes) (position_or_len p bytes) (nat_lt (position_or_len p bytes) (length bytes)) refl e in
    slice_split_none p bytes (λ k x h. let fails = fails_before_first p bytes k x (grind (arith, common_steps)) in
    grind (arith, common_steps))
