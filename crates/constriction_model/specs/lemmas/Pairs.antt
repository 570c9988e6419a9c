-- Symbols with offsets, and quantiles: the entry of a row's own symbol, and the pair of each quantile.
use Rattle.std.specs.Prelude.{◌≡◌, ℕ, ◌+◌, ◌-◌, ◌^◌, ◌<◌, ◌≤◌, Bool, true, false, List, [], ◌∷◌, length, map, sum, Contains, Option, Some, None, nat_eq}
use Rattle.std.proofs.Common.{suc, zero, get_or, refl, ap, sym, subst, ◌∙◌, arith, inl, inr, cond}
use Rattle.std.specs.Cmp.{IsEquivalence}
use Rattle.std.specs.Option.{option_or}
use Rattle.std.specs.List.{AllByRecursion, IsDistinct, range_with_len}
use Rattle.std.proofs.lemmas.Bool.{cases_lt, ne_eqb}
use Rattle.std.proofs.lemmas.List.{length-map}
use Rattle.std.proofs.lemmas.List.FromFn.{length-range_with_len}
use Rattle.std.proofs.lemmas.List.Sums.{sum_by-cons}
use Rattle.std.proofs.lemmas.Map.Keys.{IsDistinct-head, IsDistinct-tail}
use Rattle.constriction_model.specs.Rows.{Row, RowsTile, IsRowOf, rows_from, entry_of, contiguous_rows, symbols_of}
use Rattle.constriction_model.specs.lemmas.Rows.{indices, entry_of-cons, symbols-rows_from}
use Rattle.constriction_model.specs.lemmas.Coding.{entry-row, entry-below, one-row, row-within, rows-within}
use Rattle.constriction_model.specs.Entries.{SameEntries}
use Rattle.constriction_model.specs.Laws.{HasOneRow, IsQuantileAt, IsOneToOne}

-- the row of a quantile is its row among more rows too
pub row-further : {Symbol : Type 0} (x : Row Symbol) (xs : List (Row Symbol)) (q : ℕ) (r : Row Symbol) → IsRowOf xs q r
    → IsRowOf (x ∷ xs) q r
row-further x xs q r is = record { among = (suc is.among.0, omega (arith, is.among.1), is.among.2); from = is.from; to = is.to }

-- a quantile that the weights reach has a row
reached : {Symbol : Type 0} (l : ℕ) (ss : List Symbol) (ws : List ℕ) (q : ℕ) → length ss ≡ length ws → l ≤ q → q < l + sum ws
    → (r : Row Symbol) × IsRowOf (rows_from l ss ws) q r
reached l ss [] q e from to = absurd (omega arith)
reached l [] (w ∷ ws) q e from to = absurd (omega arith)
reached {Symbol = Symbol} l (s ∷ ss) (w ∷ ws) q e from to =
    elim (cases_lt q (l + w)) [
      | inl here ↦
          (record { symbol = s; left = l; weight = w }, record { among = (0, omega arith, refl); from = from; to = here })
      | inr past ↦
          let more = reached (l + w) ss ws q (omega arith) past (omega (arith, sum_by-cons (λ x. x) w ws)) in
          (more.0, row-further (record { symbol = s; left = l; weight = w }) (rows_from (l + w) ss ws) q more.0 more.1)
    ]

-- among rows that tile, each quantile has a row
pub has-row : {Symbol : Type 0} (bits precision : ℕ) (rows : List (Row Symbol)) (q : ℕ) → RowsTile bits precision rows
    → q < 2 ^ precision → (r : Row Symbol) × IsRowOf rows q r
has-row {Symbol = Symbol} bits precision rows q tile below =
    let ss = symbols_of rows in
    let ws : List ℕ = map (λ r. r.weight) rows in
    let same : length ss ≡ length ws = length-map rows (λ r. r.symbol) ∙ sym (length-map rows (λ r. r.weight)) in
    let one = reached 0 ss ws q same (omega arith) (omega (arith, tile.accepted.tiles.total)) in
    (one.0, subst (λ (rs : List (Row Symbol)). IsRowOf rs q one.0) (sym tile.in_order) one.1)

-- if the rows of each model tile, each quantile has one row
pub one-row-each : {Symbol M : Type 0} (bits precision : ℕ) (rows : M → List (Row Symbol)) → ((m : M) → RowsTile bits precision (rows m))
    → (m : M) (q : ℕ) → q < 2 ^ precision → HasOneRow precision (rows m) q
one-row-each bits precision rows tile m q below =
    let one = has-row bits precision (rows m) q (tile m) below in
    let within = row-within bits precision (rows m) q one.0 (tile m) one.1 in
    record {
      row = one.0;
      found = one.1;
      within = within;
      at_most = omega (arith, within.1);
      alone = λ other found. one-row bits precision (rows m) q other one.0 (tile m) found one.1;
    }

-- a symbol that differs from the symbols of all rows has no entry
no-entry : {Symbol : Type 0} (eq : Symbol → Symbol → Bool) (s : Symbol) (rows : List (Row Symbol))
    → ((x y : Symbol) → eq x y ≡ eq y x) → AllByRecursion (λ y. eq s y ≡ false) (symbols_of rows)
    → entry_of eq rows s ≡ None
no-entry eq s [] symm h = refl
no-entry eq s (r ∷ rs) symm h =
    let later : entry_of eq rs s ≡ None = no-entry eq s rs symm h.1 in
    let other : eq r.symbol s ≡ false = symm r.symbol s ∙ h.0 in
    entry_of-cons eq s r rs ∙ rw (later, other) refl

entry-at : {Symbol : Type 0} (eq : Symbol → Symbol → Bool) (rows : List (Row Symbol)) (k : ℕ) (r : Row Symbol)
    → ((x : Symbol) → eq x x ≡ true) → ((x y : Symbol) → eq x y ≡ eq y x) → IsDistinct eq (symbols_of rows)
    → k < length rows → get_or rows k r ≡ r → entry_of eq rows r.symbol ≡ Some (r.left, r.weight)
entry-at eq [] k r itself symm distinct h e = absurd (omega arith)
entry-at {Symbol = Symbol} eq (x ∷ xs) zero r itself symm distinct h e =
    let none : entry_of eq xs x.symbol ≡ None =
    no-entry eq x.symbol xs symm (IsDistinct-head eq x.symbol (symbols_of xs) distinct) in
    let own : entry_of eq (x ∷ xs) x.symbol ≡ Some (x.left, x.weight) =
    entry_of-cons eq x.symbol x xs ∙ rw (none, itself x.symbol) refl in
    subst (λ (z : Row Symbol). entry_of eq (x ∷ xs) z.symbol ≡ Some (z.left, z.weight)) e own
entry-at eq (x ∷ xs) (suc k) r itself symm distinct h e =
    let later : entry_of eq xs r.symbol ≡ Some (r.left, r.weight) =
    entry-at eq xs k r itself symm (IsDistinct-tail eq x.symbol (symbols_of xs) distinct) (omega arith) e in
    entry_of-cons eq r.symbol x xs ∙ rw later refl

-- if no two symbols are equal, the symbol of a row has the entry of that row
pub own-entry : {Symbol : Type 0} (eq : Symbol → Symbol → Bool) (rows : List (Row Symbol)) (r : Row Symbol)
    → ((x : Symbol) → eq x x ≡ true) → ((x y : Symbol) → eq x y ≡ eq y x) → IsDistinct eq (symbols_of rows)
    → Contains rows r → entry_of eq rows r.symbol ≡ Some (r.left, r.weight)
own-entry eq rows r itself symm distinct among = entry-at eq rows among.0 r itself symm distinct among.1 among.2

-- equal symbols have the same entry
same-entry : {Symbol : Type 0} (eq : Symbol → Symbol → Bool) (s t : Symbol) (rows : List (Row Symbol))
    → ((x : Symbol) → eq x s ≡ eq x t) → entry_of eq rows s ≡ entry_of eq rows t
same-entry eq s t [] alike = refl
same-entry eq s t (r ∷ rs) alike =
    let later : entry_of eq rs s ≡ entry_of eq rs t = same-entry eq s t rs alike in
    entry_of-cons eq s r rs
    ∙ ap (λ o. option_or o (cond (eq r.symbol s) (Some (r.left, r.weight)) None)) later
    ∙ ap (λ b. option_or (entry_of eq rs t) (cond b (Some (r.left, r.weight)) None)) (alike r.symbol)
    ∙ sym (entry_of-cons eq t r rs)

-- a number differs from each number of a range that begins past it
range-apart : (s a n : ℕ) → s < a → AllByRecursion (λ y. nat_eq s y ≡ false) (range_with_len a n)
range-apart s a zero h = tt
range-apart s a (suc n) h = (ne_eqb s a (λ e. omega arith), range-apart s (a + 1) n (omega arith))

range-distinct : (a n : ℕ) → IsDistinct nat_eq (range_with_len a n)
unfolding IsDistinct
range-distinct a zero = tt
range-distinct a (suc n) = (range-apart a (a + 1) n (omega arith), range-distinct (a + 1) n)

-- no two symbols of a contiguous model are equal
pub contiguous-distinct : (weights : List ℕ) → IsDistinct nat_eq (symbols_of (contiguous_rows weights))
contiguous-distinct ws =
    let is : symbols_of (contiguous_rows ws) ≡ indices (length ws) =
    symbols-rows_from 0 (indices (length ws)) ws (length-range_with_len 0 (length ws)) in
    subst (λ (ss : List ℕ). IsDistinct nat_eq ss) (sym is) (range-distinct 0 (length ws))

-- ---- one to one

module _ {Symbol : Type 0} (eq : Symbol → Symbol → Bool) (entry : Symbol → Option (ℕ × ℕ)) (bits precision : ℕ)
    (rows : List (Row Symbol)) (tile : RowsTile bits precision rows) (agree : (s : Symbol) → entry s ≡ entry_of eq rows s) where
  -- the row of a pair's quantile
  pub pair-row : (s : Symbol) (offset q : ℕ) → IsQuantileAt entry s offset q
      → (r : Row Symbol) × IsRowOf rows q r × (eq r.symbol s ≡ true) × (entry s ≡ Some (r.left, r.weight)) × (offset ≡ q - r.left)
  pair-row s offset q is =
      let has = entry-row eq rows s is.left is.weight (sym (agree s) ∙ is.known) in (
        has.row,
        record {
          among = has.among;
          from = omega (arith, has.left_is, is.sum);
          to = omega (arith, has.left_is, has.weight_is, is.sum, is.below);
        },
        has.same,
        rw (has.left_is, has.weight_is) is.known,
        omega (arith, has.left_is, is.sum),
      )

  pair-back : (s : Symbol) (offset q : ℕ) (r : Row Symbol) → IsQuantileAt entry s offset q → IsRowOf rows q r
      → (eq r.symbol s ≡ true) × (entry s ≡ Some (r.left, r.weight)) × (offset ≡ q - r.left)
  pair-back s offset q r is found =
      let p = pair-row s offset q is in
      let same : p.0 ≡ r = one-row bits precision rows q p.0 r tile p.1 found in
      subst (λ (z : Row Symbol). (eq z.symbol s ≡ true) × (entry s ≡ Some (z.left, z.weight)) × (offset ≡ q - z.left)) same (p.2, p.3, p.4)

  pair-below : (s : Symbol) (offset q : ℕ) → IsQuantileAt entry s offset q → q < 2 ^ precision
  pair-below s offset q is =
      let below = entry-below precision eq rows s is.left is.weight offset (sym (agree s) ∙ is.known)
      (rows-within bits precision rows tile) is.below in
      omega (arith, is.sum)

  -- entries that are those of the rows make quantiles one to one
  pub one-to-one : IsEquivalence eq → IsDistinct eq (symbols_of rows) → IsOneToOne eq entry precision rows
  one-to-one laws distinct = record {
    has_row = λ q below. has-row bits precision rows q tile below;
    there = λ q r found.
        let known : entry r.symbol ≡ Some (r.left, r.weight) =
        agree r.symbol ∙ own-entry eq rows r laws.refl laws.symm distinct found.among in (
          known,
          record {
            left = r.left;
            weight = r.weight;
            known = known;
            below = omega (arith, found.from, found.to);
            sum = omega (arith, found.from);
          },
        );
    in_range = pair-below;
    back = pair-back;
    one = λ s t m n q a b.
        let p = pair-row s m q a in
        let other = pair-back t n q p.0 b p.1 in
        (sym (laws.congr p.0.symbol s t p.2) ∙ other.0, p.4 ∙ sym other.2);
    same = λ s t e.
        let alike : (x : Symbol) → eq x s ≡ eq x t = λ x. laws.symm x s ∙ laws.congr s t x e ∙ laws.symm t x in
        agree s ∙ same-entry eq s t rows alike ∙ sym (agree t);
  }

-- the same of the rows of a decoder and the entries of an encoder
pub pairs-are-quantiles : {Symbol D E : Type 0} (eq : Symbol → Symbol → Bool) (bits precision : ℕ) (rows : D → List (Row Symbol))
    (encoder_rows : E → List (Row Symbol)) → ((m : D) → RowsTile bits precision (rows m)) → IsEquivalence eq
    → (d : D) (e : E) → IsDistinct eq (symbols_of (rows d)) → SameEntries eq (encoder_rows e) (rows d)
    → IsOneToOne eq (entry_of eq (encoder_rows e)) precision (rows d)
pairs-are-quantiles eq bits precision rows encoder_rows tile laws d e distinct agree =
    one-to-one eq (entry_of eq (encoder_rows e)) bits precision (rows d) (tile d) agree laws distinct
