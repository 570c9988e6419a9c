-- Shares of quantiles.
use Rattle.std.proofs.Common.{◌≡◌, ℕ, ◌+◌, ◌*◌, ◌/◌, ◌%◌, ◌^◌, ◌<◌, ◌≤◌, true, List, [], ◌∷◌, ◌++◌, length, get_or, take, refl, sym, suc}
use Rattle.std.proofs.Common.{◌∙◌, arith}
use Rattle.std.proofs.lemmas.Bool.{ltb-true}
use Rattle.std.proofs.lemmas.Grind.{common_steps}
use Rattle.std.proofs.lemmas.Nat.{mul-le, same_from_place, div-add-mod', div_below, mod_below}
use Rattle.std.proofs.Math.Nat.{mul-div_cancel_left}
use Rattle.std.proofs.lemmas.List.{take_all, take-append-le, length_push}
use Rattle.std.proofs.lemmas.List.Elements.{All-filter, All-weaker, filter_passes}
use Rattle.std.proofs.lemmas.List.Sums.{sum_by-cons, sum_by_push, sum_by_more}
use Rattle.std.specs.Prelude.{All, cond, filter, nat_lt, sum}
use Rattle.constriction_model.specs.Acceptance.{IsAccepted}
use Rattle.constriction_coders.specs.Counts.{AreWeightsOf, occurring}

-- a share fits 128 bits
pub share_fits : (count shared carried total : ℕ) → count < 2 ^ 64 → shared + 1 < 2 ^ 32 → total < 2 ^ 127 → carried < total
    → count * shared + carried < 2 ^ 128
share_fits count shared carried total few small fits less =
    let most : count * shared ≤ 18446744073709551616 * 4294967296 =
    mul-le count shared 18446744073709551616 4294967296 (omega arith) (omega arith) in omega arith

-- a share adds no more to a weight than is shared
pub quotient_fits : (count shared carried total : ℕ) → count ≤ total → carried < total
    → (count * shared + carried) / total ≤ shared
quotient_fits count shared carried total few less =
    let most = mul-le count shared total shared few (omega arith) in
    let below = div_below (count * shared + carried) total (shared + 1) (omega arith) (omega arith) in omega arith

-- how many quantiles weights have in all, if less than `total` is left to share
shared_out : (given total carried shares ones : ℕ) → carried < total → given * total + carried ≡ shares + ones * total
    → given ≡ ones + shares / total
shared_out given total carried shares ones less e =
    let parts : given * total + carried ≡ (ones + shares / total) * total + shares % total = omega (arith, div-add-mod' shares total) in
    (same_from_place given carried (ones + shares / total) (shares % total) total less (mod_below shares total (omega arith)) parts).0

-- the sum of the weights so far, with one more weight
pub shares_more : (ws cs : List ℕ) (i w carried left shared total : ℕ) → i < length cs
    → w * total + left ≡ cond (nat_lt 0 (get_or cs i 0)) 1 0 * total + get_or cs i 0 * shared + carried
    → sum ws * total + carried ≡ sum (take i cs) * shared + occurring (take i cs) * total
    → sum (ws ++ w ∷ []) * total + left ≡ sum (take (i + 1) cs) * shared + occurring (take (i + 1) cs) * total
shares_more ws cs i w carried left shared total h given before =
    rw (sum_by_push (λ x. x) ws w, sum_by_more (λ x. x) cs i 0 h, sum_by_more (λ x. cond (nat_lt 0 x) 1 0) cs i 0 h) (omega arith)

-- the weights before each place, one place more
pub before_more : (ws cs : List ℕ) (i w left shared total : ℕ) → length ws ≡ i → left < total
    → sum (ws ++ w ∷ []) * total + left ≡ sum (take (i + 1) cs) * shared + occurring (take (i + 1) cs) * total
    → ((k : ℕ) → k ≤ i → sum (take k ws) ≡ occurring (take k cs) + sum (take k cs) * shared / total)
    → (k : ℕ) → k ≤ i + 1 → sum (take k (ws ++ w ∷ [])) ≡ occurring (take k cs) + sum (take k cs) * shared / total
before_more ws cs i w left shared total long less given before k h =
    let last = shared_out _ total left _ _ less given in
    grind (arith, take_all {A = ℕ}, take-append-le {A = ℕ}, length_push {X = ℕ})

-- the weights before each place, if no place is left
pub before_all : (ws cs : List ℕ) (i shared total : ℕ) → length ws ≡ i → length cs ≤ i → total ≡ sum cs
    → ((k : ℕ) → k ≤ i → sum (take k ws) ≡ occurring (take k cs) + sum (take k cs) * shared / total)
    → (k : ℕ) → sum (take k ws) ≡ occurring (take k cs) + sum (take k cs) * shared / sum cs
before_all ws cs i shared total long over is before k = grind (arith, take_all {A = ℕ})

-- all weights add up to 2 ^ precision
pub in_all : (precision : ℕ) (cs ws : List ℕ) (shared : ℕ) → length ws ≡ length cs → 0 < sum cs → shared + occurring cs ≡ 2 ^ precision
    → ((k : ℕ) → sum (take k ws) ≡ occurring (take k cs) + sum (take k cs) * shared / sum cs) → sum ws ≡ 2 ^ precision
in_all precision cs ws shared long some parts before =
    let here = before (length cs) in
    let share = mul-div_cancel_left shared some in
    grind (arith, take_all {A = ℕ})

-- a weight for one count more that is not 0
pub some_more : (ws cs : List ℕ) (i w : ℕ) → length ws ≡ i → (0 < get_or cs i 0 → 0 < w)
    → ((b : ℕ) → b < i → 0 < get_or cs b 0 → 0 < get_or ws b 0)
    → (b : ℕ) → b < i + 1 → 0 < get_or cs b 0 → 0 < get_or (ws ++ w ∷ []) b 0
some_more ws cs i w long some before b less h = grind (arith, common_steps)

-- no weight for one count more that is 0
pub none_more : (ws cs : List ℕ) (i w : ℕ) → length ws ≡ i → (get_or cs i 0 ≡ 0 → w ≡ 0)
    → ((b : ℕ) → b < i → get_or cs b 0 ≡ 0 → get_or ws b 0 ≡ 0)
    → (b : ℕ) → b < i + 1 → get_or cs b 0 ≡ 0 → get_or (ws ++ w ∷ []) b 0 ≡ 0
none_more ws cs i w long none before b less h = grind (arith, common_steps)

-- ---- the weights that are not 0 are accepted

sum-positive : (ws : List ℕ) → sum (filter (λ w. nat_lt 0 w) ws) ≡ sum ws
sum-positive [] = refl
sum-positive (w ∷ ws) = grind (arith, common_steps, sum-positive ws)

-- weights that fill the whole are accepted once those that are 0 are left out
pub positive_accepted : (precision : ℕ) (ws : List ℕ) → sum ws ≡ 2 ^ precision → All (λ w. w < 2 ^ 32) ws
    → IsAccepted 32 precision (filter (λ w. nat_lt 0 w) ws)
positive_accepted precision ws e fits = record {
  tiles = record {
    positive = All-weaker (λ w. nat_lt 0 w ≡ true) (λ w. 0 < w) (λ w h. ltb-true 0 w h) (filter (λ w. nat_lt 0 w) ws)
        (filter_passes (λ w. nat_lt 0 w) ws);
    total = sum-positive ws ∙ e;
  };
  fit = All-filter (λ w. nat_lt 0 w) (λ w. w < 2 ^ 32) ws fits;
}

-- ---- counts have one list of weights

-- lists whose numbers before each place have the same sum are the same
same_sums : (ws vs : List ℕ) → length ws ≡ length vs → ((place : ℕ) → sum (take place ws) ≡ sum (take place vs)) → ws ≡ vs
same_sums [] [] long same = refl
same_sums [] (v ∷ vs) long same = absurd (omega arith)
same_sums (w ∷ ws) [] long same = absurd (omega arith)
same_sums (w ∷ ws) (v ∷ vs) long same =
    let first : w ≡ v = omega (arith, same 1) in
    let rest : ws ≡ vs = same_sums ws vs (omega arith) (λ place.
    omega (arith, same (suc place), first, sum_by-cons (λ x. x) w (take place ws), sum_by-cons (λ x. x) v (take place vs))) in
    cc

-- counts have one list of weights
pub one_list : (precision : ℕ) (counts ws vs : List ℕ) → AreWeightsOf precision counts ws → AreWeightsOf precision counts vs → ws ≡ vs
one_list precision counts ws vs t u =
    same_sums ws vs (t.as_many ∙ sym u.as_many) (λ place. t.before place ∙ sym (u.before place))
