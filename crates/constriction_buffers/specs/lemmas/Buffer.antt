-- Lists with other words in them: the impls cite these, and a caller's proof may.
use Rattle.std.specs.Prelude.{◌≡◌, ℕ, zero, suc, List, [], ◌∷◌, ◌++◌, ◌+◌, ◌≤◌, ◌<◌, length, take, drop, slice_set}
use Rattle.std.proofs.Common.{arith, ap, sym, ◌∙◌}
use Rattle.std.proofs.lemmas.List.{take-append-drop}
use Rattle.std.proofs.lemmas.Grind.{common_steps}
use Rattle.constriction_buffers.specs.Buffer.{refilled}

-- a list of the same length replaces the whole list
pub refilled_same : {A : Type 0} (old new : List A) → length new ≡ length old → refilled old new ≡ new
refilled_same old new h = grind (arith, common_steps)

-- the length stays the same for every list
pub length-refilled : {A : Type 0} (old new : List A) → length (refilled old new) ≡ length old
length-refilled old new = grind (arith, common_steps)

-- the last of two lists counts
pub refilled_again : {A : Type 0} (old between new : List A) → length new ≡ length old
    → refilled (refilled old between) new ≡ refilled old new
refilled_again old between new h =
    refilled_same (refilled old between) new (h ∙ sym (length-refilled old between)) ∙ sym (refilled_same old new h)

-- to set a word in the first n words is to set it in the list
pub set_front : {A : Type 0} (old : List A) (n i : ℕ) (w : A) → i < n → n ≤ length old
    → slice_set (take n old) i w ++ drop n old ≡ slice_set old i w
set_front [] n i w h k = absurd (omega arith)
set_front (x ∷ old) zero i w h k = absurd (omega arith)
set_front (x ∷ old) (suc n) zero w h k = ap (λ l. w ∷ l) (take-append-drop n old)
set_front (x ∷ old) (suc n) (suc i) w h k = ap (λ l. x ∷ l) (set_front old n i w (omega arith) (omega arith))

-- to set a word after the first n words is to set it in the list
pub set_back : {A : Type 0} (old : List A) (n i : ℕ) (w : A) → n ≤ length old
    → take n old ++ slice_set (drop n old) i w ≡ slice_set old (n + i) w
set_back old zero i w k = let e : i ≡ zero + i = omega arith in ap (λ j. slice_set old j w) e
set_back [] (suc n) i w k = absurd (omega arith)
set_back (x ∷ old) (suc n) i w k =
    let e : suc (n + i) ≡ suc n + i = omega arith in
    ap (λ l. x ∷ l) (set_back old n i w (omega arith)) ∙ ap (λ j. slice_set (x ∷ old) j w) e
