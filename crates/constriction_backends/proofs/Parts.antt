-- A list and the part of it from one index up to another. No public clause cites this module.
use Rattle.std.proofs.Common.{◌≡◌, ℕ, List, [], ◌++◌, ◌+◌, ◌-◌, ◌≤◌, length, take, drop, arith, refl, ap, ◌∙◌}
use Rattle.std.proofs.lemmas.List.{drop-drop, take-append-drop, append-nil, length-drop, take_all}
use Rattle.std.proofs.Math.Seq.{drop-length}
use Rattle.constriction_backends.specs.private.Part.{with_part}

-- other words in the part that ends where the list ends
pub with_part-end : {A : Type 0} (old : List A) (from to : ℕ) (new : List A) → to ≡ length old
    → with_part old from to new ≡ take from old ++ new
with_part-end old from to new end =
    let none : drop to old ≡ [] = ap (λ n. drop n old) end ∙ drop-length old in
    ap (λ l. take from old ++ (new ++ l)) none ∙ ap (λ l. take from old ++ l) (append-nil new)

-- the part that begins where the list begins
pub part-begin : {A : Type 0} (old : List A) (to : ℕ) → take (to - 0) old ≡ take to old
part-begin old to = let e : to - 0 ≡ to = omega arith in ap (λ n. take n old) e

-- the part that ends where the list ends
pub part-end : {A : Type 0} (old : List A) (from to : ℕ) → to ≡ length old → take (to - from) (drop from old) ≡ drop from old
part-end old from to end =
    let all : length (drop from old) ≡ length old - from = length-drop from old in
    let long : length (drop from old) ≤ to - from = omega arith in
    take_all (to - from) (drop from old) long

-- a list is its three parts in a row
pub cut_part : {A : Type 0} (old : List A) (from to : ℕ) → from ≤ to → to ≤ length old
    → take from old ++ (take (to - from) (drop from old) ++ drop to old) ≡ old
cut_part old from to h k =
    let on : from + (to - from) ≡ to = omega arith in
    let rest : drop (to - from) (drop from old) ≡ drop to old = drop-drop (to - from) from old ∙ ap (λ n. drop n old) on in
    rw (← rest, take-append-drop (to - from) (drop from old), take-append-drop from old) refl
