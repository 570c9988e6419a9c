-- Lists that loops write, and sums over them.
use Rattle.std.proofs.Common.{◌≡◌, ◌≢◌, ℕ, ◌+◌, ◌<◌, List, [], ◌∷◌, ◌++◌, length, map, drop, get_or, set, replicate, refl, sym, ◌∙◌, ap, arith, zero-add, get_or-set_other, get_or-set_same, below_more, sum}
use Rattle.std.specs.List.{range_with_len}
use Rattle.std.proofs.lemmas.List.{ext_get_or, get_or-map, length-map, map_push, replicate_more}
use Rattle.std.proofs.lemmas.List.FromFn.{sum_by-map-range_with_len_more}

-- a list whose elements are those of a map
pub mapped : (f : ℕ → ℕ) (xs ys : List ℕ) → length ys ≡ length xs
    → ((k : ℕ) → k < length xs → get_or ys k 0 ≡ f (get_or xs k 0)) → ys ≡ map f xs
mapped f xs ys long each =
    ext_get_or 0 ys (map f xs) (long ∙ sym (length-map xs f))
    (λ k h. let b : k < length xs = omega arith in each k b ∙ sym (get_or-map f xs k 0 0 b))

-- a loop that writes what a fact at each index speaks of
pub set_more : (P : ℕ → ℕ → Type 0) (xs : List ℕ) (i v : ℕ) → i < length xs → ((k : ℕ) → k < i → P k (get_or xs k 0)) → P i v
    → (k : ℕ) → k < i + 1 → P k (get_or (set xs i v) k 0)
set_more P xs i v within before here =
    below_more (λ k. P k (get_or (set xs i v) k 0)) i
    (λ k h. let ne : k ≢ i = omega arith in rw get_or-set_other (before k h))
    (rw get_or-set_same here)

-- one element more of those that all have one value
pub map_more : {A B : Type 0} (f : A → B) (all : List A) (xs : List A) (x : A) (n : ℕ) (v : B) → all ≡ xs ++ x ∷ []
    → map f xs ≡ replicate n v → f x ≡ v → map f all ≡ replicate (n + 1) v
map_more f all xs x n v is e here =
    ap (map f) is ∙ map_push f xs x ∙ ap (λ ys. ys ++ f x ∷ []) e ∙ ap (λ y. replicate n v ++ y ∷ []) here ∙ replicate_more n v

-- one term more
pub sum_more : (f : ℕ → ℕ) (i s : ℕ) → s ≡ sum (map f (range_with_len 0 i)) → s + f i ≡ sum (map f (range_with_len 0 (i + 1)))
sum_more f i s e = ap (λ t. t + f i) e ∙ sym (sum_by-map-range_with_len_more (λ x. x) f 0 i i (zero-add i))

-- words with the same numbers are the same, if each number has one word
pub map-once : {Word : Type 0} (number : Word → ℕ) → ((a b : Word) → number a ≡ number b → a ≡ b) → (xs ys : List Word)
    → map number xs ≡ map number ys → xs ≡ ys
map-once number once [] [] same = refl
map-once number once [] (y ∷ ys) same = absurd (omega (arith, ap length same))
map-once number once (x ∷ xs) [] same = absurd (omega (arith, ap length same))
map-once number once (x ∷ xs) (y ∷ ys) same =
    ap (λ z. z ∷ xs) (once x y (ap (λ ns. get_or ns 0 0) same))
    ∙ ap (λ zs. y ∷ zs) (map-once number once xs ys (ap (drop 1) same))
