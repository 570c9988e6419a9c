-- Weights as bytes: LEB128 ends by itself.
use Rattle.std.proofs.Common.{◌≡◌, ℕ, ◌+◌, ◌-◌, ◌/◌, ◌%◌, ◌<◌, ◌≤◌, suc, List, [], ◌∷◌, ◌++◌}
use Rattle.std.proofs.Common.{length, get_or, drop, refl, ap, sym, ◌∙◌, append_assoc, arith, inl}
use Rattle.std.proofs.Common.{inr}
use Rattle.std.specs.Prelude.{All}
use Rattle.std.proofs.lemmas.Bool.Decides.{leb_tells, nat_tests}
use Rattle.std.proofs.lemmas.List.{drop-drop, flat_map_more}
use Rattle.std.proofs.lemmas.List.Elements.{All-head, All-tail}
use Rattle.constriction_pack.specs.Contents.{bytes_of_weights, leb128}

-- how many bytes a number has
data Shape (n : ℕ) (bytes : List ℕ) : Type 0 where
  one : n < 128 → bytes ≡ n ∷ [] → Shape n bytes
  two : 128 ≤ n → n < 16384 → bytes ≡ (n % 128 + 128) ∷ n / 128 ∷ [] → Shape n bytes
  three : 16384 ≤ n → bytes ≡ (n % 128 + 128) ∷ (n / 128 % 128 + 128) ∷ n / 16384 ∷ []
      → Shape n bytes

shape_of : (n : ℕ) → Shape n (leb128 n)
shape_of n = elim (leb_tells (suc n) 128) [
  | inl h ↦ one (omega arith) (grind (arith, nat_tests))
  | inr h ↦ elim (leb_tells (suc n) 16384) [
    | inl k ↦ two (omega arith) (omega arith) (grind (arith, nat_tests))
    | inr k ↦ three (omega arith) (grind (arith, nat_tests))
  ]
]

-- lists that begin with two others
joined : {bs cs front other : List ℕ} (xs ys : List ℕ) → bs ≡ front → cs ≡ other
    → bs ++ xs ≡ cs ++ ys → front ++ xs ≡ other ++ ys
joined xs ys p q e = ap (λ zs. zs ++ xs) (sym p) ∙ e ∙ ap (λ zs. zs ++ ys) q

shape_once : (n m : ℕ) (bs cs xs ys : List ℕ) → Shape n bs → Shape m cs → bs ++ xs ≡ cs ++ ys
    → (n ≡ m) × (xs ≡ ys)
shape_once n m bs cs xs ys (one a p) (one b q) e =
    let f = joined xs ys p q e in (ap (λ zs. get_or zs 0 0) f, ap (drop 1) f)
shape_once n m bs cs xs ys (one a p) (two b d q) e =
    absurd (omega (arith, ap (λ zs. get_or zs 0 0) (joined xs ys p q e)))
shape_once n m bs cs xs ys (one a p) (three b q) e =
    absurd (omega (arith, ap (λ zs. get_or zs 0 0) (joined xs ys p q e)))
shape_once n m bs cs xs ys (two a c p) (one b q) e =
    absurd (omega (arith, ap (λ zs. get_or zs 0 0) (joined xs ys p q e)))
shape_once n m bs cs xs ys (two a c p) (two b d q) e =
    let f = joined xs ys p q e in
    (omega (arith, ap (λ zs. get_or zs 0 0) f, ap (λ zs. get_or zs 1 0) f), ap (drop 2) f)
shape_once n m bs cs xs ys (two a c p) (three b q) e =
    absurd (omega (arith, ap (λ zs. get_or zs 1 0) (joined xs ys p q e)))
shape_once n m bs cs xs ys (three a p) (one b q) e =
    absurd (omega (arith, ap (λ zs. get_or zs 0 0) (joined xs ys p q e)))
shape_once n m bs cs xs ys (three a p) (two b d q) e =
    absurd (omega (arith, ap (λ zs. get_or zs 1 0) (joined xs ys p q e)))
shape_once n m bs cs xs ys (three a p) (three b q) e =
    let f = joined xs ys p q e in
    let first = ap (λ zs. get_or zs 0 0) f in
    let second = ap (λ zs. get_or zs 1 0) f in
    (omega (arith, first, second, ap (λ zs. get_or zs 2 0) f), ap (drop 3) f)

leb128_once : (n m : ℕ) (xs ys : List ℕ) → leb128 n ++ xs ≡ leb128 m ++ ys → (n ≡ m) × (xs ≡ ys)
leb128_once n m xs ys e = shape_once n m _ _ xs ys (shape_of n) (shape_of m) e

-- as many weights with the same bytes are the same weights, whatever follows them
pub weights_once : (us ws xs ys : List ℕ) → bytes_of_weights us ++ xs ≡ bytes_of_weights ws ++ ys
    → length us ≡ length ws → All (λ w. 0 < w) us → All (λ w. 0 < w) ws → (us ≡ ws) × (xs ≡ ys)
weights_once [] [] xs ys e n p q = (refl, e)
weights_once [] (w ∷ ws) xs ys e n p q = absurd (omega (arith, n))
weights_once (u ∷ us) [] xs ys e n p q = absurd (omega (arith, n))
weights_once (u ∷ us) (w ∷ ws) xs ys e n p q =
    let one = leb128_once (u - 1) (w - 1) _ _
    (sym (append_assoc (leb128 (u - 1)) (bytes_of_weights us) xs) ∙ e
    ∙ append_assoc (leb128 (w - 1)) (bytes_of_weights ws) ys) in
    let rest = weights_once us ws xs ys one.1 (omega (arith, n)) (All-tail (λ w. 0 < w) u us p)
    (All-tail (λ w. 0 < w) w ws q) in
    let above : 0 < u = All-head (λ w. 0 < w) u us p in
    let below : 0 < w = All-head (λ w. 0 < w) w ws q in
    let same : u ≡ w = omega (arith, one.0) in
    (rw (same, rest.0) refl, rest.1)

-- what is left of weights after the first ones
pub weights_left : (us ws xs ys : List ℕ) → bytes_of_weights us ++ xs ≡ bytes_of_weights ws ++ ys
    → length us < length ws → (number : ℕ) × (rest : List ℕ) × (xs ≡ leb128 number ++ rest)
weights_left [] [] xs ys e n = absurd (omega (arith, n))
weights_left [] (w ∷ ws) xs ys e n =
    (w - 1, bytes_of_weights ws ++ ys, e ∙ append_assoc (leb128 (w - 1)) (bytes_of_weights ws) ys)
weights_left (u ∷ us) [] xs ys e n = absurd (omega (arith, n))
weights_left (u ∷ us) (w ∷ ws) xs ys e n =
    let one = leb128_once (u - 1) (w - 1) _ _
    (sym (append_assoc (leb128 (u - 1)) (bytes_of_weights us) xs) ∙ e
    ∙ append_assoc (leb128 (w - 1)) (bytes_of_weights ws) ys) in
    weights_left us ws xs ys one.1 (omega (arith, n))

-- one weight more
pub weights_more : (ws bytes part : List ℕ) (w at n : ℕ)
    → bytes ≡ bytes_of_weights ws ++ drop at bytes → part ≡ drop at bytes
    → part ≡ leb128 (w - 1) ++ drop n part
    → bytes ≡ bytes_of_weights (ws ++ w ∷ []) ++ drop (at + n) bytes
weights_more ws bytes part w at n so_far is e =
    let step : drop at bytes ≡ leb128 (w - 1) ++ drop (at + n) bytes =
    sym is ∙ e ∙ ap (λ xs. leb128 (w - 1) ++ xs) (ap (drop n) is ∙ drop-drop n at bytes) in
    so_far ∙ ap (λ xs. bytes_of_weights ws ++ xs) step
    ∙ sym (append_assoc (bytes_of_weights ws) (leb128 (w - 1)) (drop (at + n) bytes))
    ∙ ap (λ xs. xs ++ drop (at + n) bytes) (flat_map_more (λ (v : ℕ). leb128 (v - 1)) [] ws w)
