-- The steps of a coder, from those of its state and of its words.
use Rattle.std.proofs.Common.{◌≡◌, ℕ, ◌+◌, ◌/◌, ◌%◌, ◌^◌, ◌<◌, ◌≤◌, List, [], ◌∷◌, ◌++◌, Option, Some, ap, sym, ◌∙◌, subst, arith, inl, inr}
use Rattle.std.proofs.lemmas.Bool.{cases_lt}
use Rattle.std.proofs.lemmas.Nat.{mod_below, div-add-mod'}
use Rattle.constriction_model.specs.Rows.{Row, IsRowOf}
use Rattle.constriction_coders.specs.States.{put, taken}
use Rattle.constriction_coders.specs.Steps.{Content, content, IsWhole, Refills, IsOnTop, IsDecoded, NeedsWord}
use Rattle.constriction_coders.proofs.States.{put_quantile, taken_put, taken_some}

-- a state that lost a word takes it back
pub refills-back : (state : ℕ) (words all : List ℕ) → state < 2 ^ 64 → all ≡ words ++ state % 2 ^ 32 ∷ []
    → Refills (state / 2 ^ 32) all (content state words)
refills-back state words all h is = inr (omega arith, state % 2 ^ 32, omega arith, is, sym (div-add-mod' state (2 ^ 32)))

some-inj : {X : Type 0} (x y : X) → Some x ≡ Some y → x ≡ y
some-inj x y e = cc

-- a symbol has one entry
pub one-entry : (entry : Option (ℕ × ℕ)) (left weight other_left other_weight : ℕ) → entry ≡ Some (left, weight)
    → entry ≡ Some (other_left, other_weight) → (left ≡ other_left) × (weight ≡ other_weight)
one-entry entry left weight other_left other_weight one other =
    let same : ◌≡◌ {A = ℕ × ℕ} (left, weight) (other_left, other_weight) = some-inj _ _ (sym one ∙ other) in
    (ap (λ (x : ℕ × ℕ). x.0) same, ap (λ (x : ℕ × ℕ). x.1) same)

-- the row that was looked up is the row that needs a word
pub needs-row : {Symbol : Type 0} (precision left weight : ℕ) (c : Content) (quantile : ℕ) (rows : List (Row Symbol)) (own : Symbol)
    → quantile ≡ c.state % 2 ^ precision → IsRowOf rows quantile (record { symbol = own; left = left; weight = weight })
    → NeedsWord precision left weight c
    → (row : Row Symbol) × IsRowOf rows (c.state % 2 ^ precision) row × NeedsWord precision row.left row.weight c
needs-row precision left weight c quantile rows own quantile_is found needs =
    (record { symbol = own; left = left; weight = weight }, rw quantile_is at found, needs)

-- a symbol that is put on a state is on top
pub put-on-top : (precision left weight state next : ℕ) (words : List ℕ) (other : Content) → 0 < weight → left + weight ≤ 2 ^ precision
    → next ≡ put precision left weight state → Refills state words other
    → IsOnTop precision left weight (content next words) other
put-on-top precision left weight state next words other some within is refills =
    let quantile_is : next % 2 ^ precision ≡ left + state % weight =
    ap (λ n. n % 2 ^ precision) is ∙ put_quantile precision left weight state some within in
    let under_is : taken precision left weight next ≡ state =
    ap (λ n. taken precision left weight n) is ∙ taken_put precision left weight state some within in
    record {
      from = omega arith;
      to = omega (arith, mod_below state weight some);
      within = within;
      under = subst (λ n. Refills n words other) (sym under_is) refills;
    }

-- if the row of the quantile is on top, its symbol was decoded
pub decoded : {Symbol : Type 0} (precision left weight : ℕ) (Stands : Symbol → Symbol → Type 0) (rows : List (Row Symbol))
    (own answer : Symbol) (quantile : ℕ) (full rest : Content) → quantile ≡ full.state % 2 ^ precision
    → IsRowOf rows quantile (record { symbol = own; left = left; weight = weight }) → Stands own answer
    → IsOnTop precision left weight full rest → IsDecoded Stands rows precision answer full rest
decoded precision left weight Stands rows own answer quantile full rest quantile_is found stands top =
    record {
      row = record { symbol = own; left = left; weight = weight };
      found = rw quantile_is at found;
      stands = stands;
      top = top;
    }

-- if nothing is left of a state without its symbol, there is no word under it
pub whole-taken : (precision left weight state next : ℕ) (words : List ℕ) → precision ≤ 32 → 0 < weight
    → next ≡ taken precision left weight state → IsWhole state words → next ≡ 0 → words ≡ []
whole-taken precision left weight state next words fits some is whole none =
    elim (cases_lt state (2 ^ 32)) [
      | inl below ↦ whole below
      | inr above ↦ absurd (omega (arith, is, none, taken_some precision left weight state fits some above))
    ]
