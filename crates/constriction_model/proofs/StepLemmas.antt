-- Walking through rows, from either end.
use Rattle.std.specs.Prelude.{take, drop}
use Rattle.std.proofs.Common.{◌≡◌, ℕ, ◌+◌, ◌-◌, ◌<◌, ◌≤◌, List, [], ◌∷◌, ◌++◌, length, get_or, ap, ◌∙◌, arith}
use Rattle.std.proofs.lemmas.List.{length-drop, drop_all, drop_more, length-take-le, take_all, get_or-take, take_more}
use Rattle.std.proofs.lemmas.List.{drop-append-le, length-append, length-take}
use Rattle.constriction_model.specs.Rows.{Row}
use Rattle.constriction_model.specs.Tables.{rows_between}

module _ {Symbol : Type 0} (rows : List (Row Symbol)) where
  -- all rows are left before the first step
  pub all-between : (n : ℕ) → n ≡ length rows → rows_between 0 n rows ≡ rows
  all-between n e = take_all n rows (omega arith)

  -- there are as many rows as indices
  pub length-between : (i j : ℕ) → j ≤ length rows → length (rows_between i j rows) ≡ j - i
  length-between i j h = omega (arith, length-drop i (take j rows), length-take-le j rows h)

  -- the first of the rows that are left
  pub first-between : (i j : ℕ) (r : Row Symbol) → i < j → j ≤ length rows → get_or rows i r ≡ r
      → rows_between i j rows ≡ r ∷ rows_between (i + 1) j rows
  first-between i j r h k e =
      let long : length (take j rows) ≡ j = length-take-le j rows k in
      drop_more (take j rows) i r (omega arith)
      ∙ ap (λ x. x ∷ drop (i + 1) (take j rows)) (get_or-take j rows i r h ∙ e)

  -- the last of the rows that are left
  pub last-between : (i j : ℕ) (r : Row Symbol) → i < j → j ≤ length rows → get_or rows (j - 1) r ≡ r
      → rows_between i j rows ≡ rows_between i (j - 1) rows ++ r ∷ []
  last-between i j r h k e =
      let back : j ≡ j - 1 + 1 = omega arith in
      let long : length (take (j - 1) rows) ≡ j - 1 = length-take-le (j - 1) rows (omega arith) in
      ap (λ n. rows_between i n rows) back
      ∙ ap (drop i) (take_more rows (j - 1) r (omega arith))
      ∙ drop-append-le i (take (j - 1) rows) (get_or rows (j - 1) r ∷ []) (omega arith)
      ∙ ap (λ x. drop i (take (j - 1) rows) ++ x ∷ []) e

-- a step from either end leaves one row fewer
pub one-fewer : {A : Type 0} (before after : List A) (x : A) → before ≡ x ∷ after → length before ≡ length after + 1
one-fewer before after x e = rw e (omega arith)

pub one-fewer-last : {A : Type 0} (before after : List A) (x : A) → before ≡ after ++ x ∷ [] → length before ≡ length after + 1
one-fewer-last before after x e = rw e (length-append after (x ∷ []))

pub same-length : {A : Type 0} (xs ys : List A) → xs ≡ ys → length xs ≡ length ys
same-length xs ys e = ap length e

-- no row is left when the ends meet
pub none-between : {Symbol : Type 0} (rows : List (Row Symbol)) (i j : ℕ) → i ≡ j
    → (rows_between i j rows ≡ []) × (rows_between i j rows ≡ [])
none-between rows i j e =
    let none : rows_between i j rows ≡ [] = drop_all i (take j rows) (omega (arith, length-take j rows)) in
    (none, none)

-- a step that gives the first row leaves fewer
pub fewer-first : {A : Type 0} (before after : List A) (x : A) → before ≡ x ∷ after → length after < length before
fewer-first before after x e = omega (arith, one-fewer before after x e)

-- so does a step that gives the last row
pub fewer-last : {A : Type 0} (before after : List A) (x : A) → before ≡ after ++ x ∷ [] → length after < length before
fewer-last before after x e = omega (arith, one-fewer-last before after x e)

-- equal lists have no more items than each other
pub same-most : {A : Type 0} (xs ys : List A) → xs ≡ ys → length xs ≤ length ys
same-most xs ys e = omega (arith, same-length xs ys e)
