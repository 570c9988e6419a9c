-- Rows that tile and answer alike on each quantile are the same rows.
use Rattle.std.specs.Prelude.{◌↔◌, ◌≡◌, ℕ, ◌+◌, ◌^◌, ◌<◌, ◌≤◌, List, [], ◌∷◌, length, map, sum, All}
use Rattle.std.proofs.Common.{suc, zero, get_or, refl, ap, sym, subst, ◌∙◌, arith}
use Rattle.std.proofs.lemmas.List.{length-map}
use Rattle.std.proofs.lemmas.List.Sums.{sum_by-cons}
use Rattle.constriction_model.specs.Rows.{Row, RowsTile, IsRowOf, rows_from}
use Rattle.constriction_model.specs.lemmas.Coding.{above}
use Rattle.constriction_model.specs.lemmas.Pairs.{row-further}

-- an empty list has no row
no-row : {Symbol : Type 0} (xs : List (Row Symbol)) (q : ℕ) (r : Row Symbol) → xs ≡ [] → IsRowOf xs q r → ⊥
no-row xs q r e is = omega (arith, is.among.1, ap length e)

-- the row of the first quantile is the first row
first-row : {Symbol : Type 0} (l : ℕ) (s : Symbol) (ss : List Symbol) (w : ℕ) (ws : List ℕ) (k : ℕ) (r : Row Symbol) → 0 < w
    → k < length (rows_from l (s ∷ ss) (w ∷ ws)) → get_or (rows_from l (s ∷ ss) (w ∷ ws)) k r ≡ r → r.left ≤ l
    → record { symbol = s; left = l; weight = w } ≡ r
first-row l s ss w ws zero r p h e from = e
first-row {Symbol = Symbol} l s ss w ws (suc k) r p h e from =
    let past = above (l + w) ss ws k r (omega arith) in
    let begins : (get_or (rows_from (l + w) ss ws) k r).left ≡ r.left = ap (λ (x : Row Symbol). x.left) e in
    absurd (omega arith)

-- the row of a later quantile is one of the others
later-row : {Symbol : Type 0} (l : ℕ) (s : Symbol) (ss : List Symbol) (w : ℕ) (ws : List ℕ) (q k : ℕ) (r : Row Symbol) → l + w ≤ q
    → k < length (rows_from l (s ∷ ss) (w ∷ ws)) → get_or (rows_from l (s ∷ ss) (w ∷ ws)) k r ≡ r → r.left ≤ q
    → q < r.left + r.weight → IsRowOf (rows_from (l + w) ss ws) q r
later-row {Symbol = Symbol} l s ss w ws q zero r past h e from to =
    let left : l ≡ r.left = ap (λ (x : Row Symbol). x.left) e in
    let weight : w ≡ r.weight = ap (λ (x : Row Symbol). x.weight) e in
    absurd (omega arith)
later-row l s ss w ws q (suc k) r past h e from to =
    record { among = (k, omega arith, e); from = from; to = to }

-- rows with the same beginning and end that answer alike are the same
same-rows : {Symbol : Type 0} (end l : ℕ) (ss ts : List Symbol) (ws vs : List ℕ) → length ss ≡ length ws → length ts ≡ length vs
    → All (λ w. 0 < w) ws → All (λ w. 0 < w) vs → l + sum ws ≡ end → l + sum vs ≡ end
    → ((q : ℕ) (r : Row Symbol) → l ≤ q → q < end → IsRowOf (rows_from l ss ws) q r → IsRowOf (rows_from l ts vs) q r)
    → rows_from l ss ws ≡ rows_from l ts vs
same-rows end l [] [] ws vs e f p o t u alike = refl
same-rows end l [] (y ∷ ts) ws [] e f p o t u alike = refl
same-rows end l [] (y ∷ ts) [] (v ∷ vs) e f p o t u alike =
    let positive : 0 < v = o 0 0 (omega arith) in
    absurd (omega (arith, sum_by-cons (λ x. x) v vs))
same-rows end l [] (y ∷ ts) (w ∷ ws) (v ∷ vs) e f p o t u alike = absurd (omega arith)
same-rows end l (x ∷ ss) ts [] vs e f p o t u alike = absurd (omega arith)
same-rows {Symbol = Symbol} end l (x ∷ ss) [] (w ∷ ws) vs e f p o t u alike =
    let positive : 0 < w = p 0 0 (omega arith) in
    let one = alike l (record { symbol = x; left = l; weight = w }) (omega arith) (omega (arith, sum_by-cons (λ x. x) w ws))
    (record { among = (0, omega arith, refl); from = omega arith; to = omega arith }) in
    absurd (no-row [] l (record { symbol = x; left = l; weight = w }) refl one)
same-rows end l (x ∷ ss) (y ∷ ts) (w ∷ ws) [] e f p o t u alike = absurd (omega arith)
same-rows {Symbol = Symbol} end l (x ∷ ss) (y ∷ ts) (w ∷ ws) (v ∷ vs) e f p o t u alike =
    let first : Row Symbol = record { symbol = x; left = l; weight = w } in
    let positive : 0 < w = p 0 0 (omega arith) in
    let also : 0 < v = o 0 0 (omega arith) in
    let total = sum_by-cons (λ x. x) w ws in
    let others = sum_by-cons (λ x. x) v vs in
    let one = alike l first (omega arith) (omega arith)
    (record { among = (0, omega arith, refl); from = omega arith; to = omega arith }) in
    let head : record { symbol = y; left = l; weight = v } ≡ first =
    first-row l y ts v vs one.among.0 first also one.among.1 one.among.2 (omega arith) in
    let weight : v ≡ w = ap (λ (z : Row Symbol). z.weight) head in
    let next : rows_from (l + w) ss ws ≡ rows_from (l + w) ts vs =
    same-rows end (l + w) ss ts ws vs (omega arith) (omega arith) (λ k d h. p (suc k) d (omega arith))
    (λ k d h. o (suc k) d (omega arith)) (omega arith) (omega arith)
    (λ q r from to found.
    let is = alike q r (omega arith) to (row-further first (rows_from (l + w) ss ws) q r found) in
    subst (λ (n : ℕ). IsRowOf (rows_from (l + n) ts vs) q r) weight
    (later-row l y ts v vs q is.among.0 r (omega arith) is.among.1 is.among.2 is.from is.to)) in
    ap (λ zs. first ∷ zs) next
    ∙ ap (λ zs. zs ∷ rows_from (l + w) ts vs) (sym head)
    ∙ ap (λ n. record { symbol = y; left = l; weight = v } ∷ rows_from (l + n) ts vs) (sym weight)

-- models of these rows answer alike on each quantile: it has the same row among both
abbrev AnswerAlike : {Symbol : Type 0} → ℕ → List (Row Symbol) → List (Row Symbol) → Type 0
AnswerAlike {Symbol} precision rows others =
    (q : ℕ) (r : Row Symbol) → q < 2 ^ precision → IsRowOf rows q r ↔ IsRowOf others q r

-- rows that tile and answer alike are the same
pub alike-rows : {Symbol : Type 0} (bits more precision : ℕ) (rows others : List (Row Symbol)) → RowsTile bits precision rows
    → RowsTile more precision others → AnswerAlike precision rows others → rows ≡ others
alike-rows {Symbol = Symbol} bits more precision rows others tile also alike =
    let ss = map (λ (r : Row Symbol). r.symbol) rows in
    let ts = map (λ (r : Row Symbol). r.symbol) others in
    let ws : List ℕ = map (λ (r : Row Symbol). r.weight) rows in
    let vs : List ℕ = map (λ (r : Row Symbol). r.weight) others in
    let long : length ss ≡ length ws = length-map rows (λ r. r.symbol) ∙ sym (length-map rows (λ r. r.weight)) in
    let wide : length ts ≡ length vs = length-map others (λ r. r.symbol) ∙ sym (length-map others (λ r. r.weight)) in
    let same : rows_from 0 ss ws ≡ rows_from 0 ts vs =
    same-rows (2 ^ precision) 0 ss ts ws vs long wide tile.accepted.tiles.positive also.accepted.tiles.positive
    (omega (arith, tile.accepted.tiles.total)) (omega (arith, also.accepted.tiles.total))
    (λ q r from to found.
    subst (λ (zs : List (Row Symbol)). IsRowOf zs q r) also.in_order
    ((alike q r to).0 (subst (λ (zs : List (Row Symbol)). IsRowOf zs q r) (sym tile.in_order) found))) in
    tile.in_order ∙ same ∙ sym also.in_order

-- two models answer alike where they have the same rows, and nowhere else
pub equal-answers : {Symbol M N : Type 0} (bits more precision : ℕ) (rows : M → List (Row Symbol)) (others : N → List (Row Symbol))
    → ((m : M) → RowsTile bits precision (rows m)) → ((n : N) → RowsTile more precision (others n))
    → (m : M) (n : N) → AnswerAlike precision (rows m) (others n) ↔ (rows m ≡ others n)
equal-answers {Symbol = Symbol} bits more precision rows others tile also m n = (
  alike-rows bits more precision (rows m) (others n) (tile m) (also n),
  λ e q r below. (
    subst (λ (zs : List (Row Symbol)). IsRowOf zs q r) e,
    subst (λ (zs : List (Row Symbol)). IsRowOf zs q r) (sym e),
  ),
)
