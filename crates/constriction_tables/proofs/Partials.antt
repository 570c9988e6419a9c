-- Tables that are being made.
use Rattle.std.specs.Prelude.{◌≡◌, ℕ, ◌+◌, ◌-◌, ◌^◌, ◌≤◌, ◌||◌, Bool, true, false, cond, nat_eq, List, [], ◌∷◌, ◌++◌, length, map, sum, take, reverse, replicate, find, Option, Some, None, is_some, slice_index_or}
use Rattle.std.specs.Cmp.{IsEquivalence}
use Rattle.std.specs.List.{IsDistinct, list_any}
use Rattle.std.specs.Option.{option_map, option_or}
use Rattle.std.proofs.Common.{suc, zero, refl, ap, sym, subst, ◌∙◌, arith}
use Rattle.std.proofs.Math.Nat.{pow-le-pow_right}
use Rattle.std.proofs.lemmas.List.{length-append, length-map, map-append, reverse-append, take_all}
use Rattle.std.proofs.lemmas.List.Sums.{sum_by-append}
use Rattle.constriction_coders.specs.declared.stack.prepared_entry.PreparedEntry.{PreparedEntry}
use Rattle.constriction_model.specs.Rows.{Row, RowsTile, entry_of, rows_of, symbols_of}
use Rattle.constriction_model.specs.lemmas.Rows.{entry_of-cons}
use Rattle.constriction_stored_rows.proofs.ReadLemmas.{distinct-push, none-distinct, rows_from-push}
use Rattle.constriction_tables.specs.Table.{HasEntries, IsTable, plain_entry, rows_in_table, same_number, spread}
use Rattle.constriction_tables.specs.lemmas.Tables.{length-spread, spread-push, table-of}
use Rattle.constriction_tables.specs.private.Partial.{Fit, HoldsTable}

-- ---- entries of symbols

map-cond : {A B : Type 0} (f : A → B) (t : Bool) (x : A) (o : Option A)
    → option_map f (cond t (Some x) o) ≡ cond t (Some (f x)) (option_map f o)
map-cond f true x o = refl
map-cond f false x o = refl

some-or : {A : Type 0} (t : Bool) (x : A) (o : Option A) → is_some (option_or o (cond t (Some x) None)) ≡ (t || is_some o)
some-or true x (Some y) = refl
some-or true x None = refl
some-or false x (Some y) = refl
some-or false x None = refl

-- one more row at the end takes the place of its symbol's entry
entry-push : {S : Type 0} (eq : S → S → Bool) (rows : List (Row S)) (r : Row S) (s : S)
    → entry_of eq (rows ++ r ∷ []) s ≡ cond (eq r.symbol s) (Some (r.left, r.weight)) (entry_of eq rows s)
entry-push eq rows r s =
    ap (λ xs. option_map (λ x. (x.left, x.weight)) (find (λ x. eq x.symbol s) xs)) (reverse-append rows (r ∷ []))
    ∙ map-cond (λ x. (x.left, x.weight)) (eq r.symbol s) r (find (λ x. eq x.symbol s) (reverse rows))

-- a symbol has an entry if and only if it is equal to one of the symbols
has-entry : {S : Type 0} (eq : S → S → Bool) → ((s t : S) → eq s t ≡ eq t s) → (rows : List (Row S)) (s : S)
    → is_some (entry_of eq rows s) ≡ list_any (eq s) (symbols_of rows)
has-entry eq symm [] s = refl
has-entry eq symm (r ∷ rows) s =
    ap is_some (entry_of-cons eq s r rows) ∙ some-or (eq r.symbol s) (r.left, r.weight) (entry_of eq rows s)
    ∙ ap (λ b. b || is_some (entry_of eq rows s)) (symm r.symbol s) ∙ ap (λ b. eq s r.symbol || b) (has-entry eq symm rows s)

some-plain : (entry : Option PreparedEntry) → is_some (plain_entry entry) ≡ is_some entry
some-plain (Some p) = refl
some-plain None = refl

-- an entry in a symbol's place says if a row has the symbol
pub listed-any : {S : Type 0} (number : S → ℕ) → IsEquivalence (same_number number) → (list : List (Option PreparedEntry))
    (rows : List (Row S)) → HasEntries number list rows → (s : S) (k : ℕ) (entry : Option PreparedEntry) → k ≡ number s
    → entry ≡ slice_index_or list k None → list_any (same_number number s) (symbols_of rows) ≡ is_some entry
listed-any {S} number laws list rows all s k entry at is =
    let listed : plain_entry entry ≡ entry_of (same_number number) rows s =
    ap plain_entry (is ∙ ap (λ n. slice_index_or list n None) at) ∙ all s in
    sym (has-entry (same_number number) laws.symm rows s) ∙ sym (ap is_some listed) ∙ some-plain entry

plain-cond : (t : Bool) (p : PreparedEntry) (f : Option PreparedEntry) (o : Option (ℕ × ℕ)) → plain_entry f ≡ o
    → plain_entry (cond t (Some p) f) ≡ cond t (Some (p.left, p.weight)) o
plain-cond true p f o h = refl
plain-cond false p f o h = h

-- the list after the entry of one more row was written
entries-more : {S : Type 0} (number : S → ℕ) (list more : List (Option PreparedEntry)) (rows : List (Row S)) (s : S) (k l w : ℕ)
    (p : PreparedEntry) → p.left ≡ l → p.weight ≡ w → k ≡ number s → HasEntries number list rows
    → ((i : ℕ) → slice_index_or more i None ≡ cond (nat_eq k i) (Some p) (slice_index_or list i None))
    → HasEntries number more (rows ++ record { symbol = s; left = l; weight = w } ∷ [])
entries-more {S} number list more rows s k l w p left weight at all written = λ t.
    let r : Row S = record { symbol = s; left = l; weight = w } in
    let same : nat_eq k (number t) ≡ nat_eq (number s) (number t) = ap (λ n. nat_eq n (number t)) at in
    let parts : ◌≡◌ {A = ℕ × ℕ} (p.left, p.weight) (l, w) = ap (λ n. (n, p.weight)) left ∙ ap (λ n. (l, n)) weight in
    ap plain_entry (written (number t))
    ∙ plain-cond (nat_eq k (number t)) p (slice_index_or list (number t) None) (entry_of (same_number number) rows t) (all t)
    ∙ ap (λ e. cond (nat_eq k (number t)) (Some e) (entry_of (same_number number) rows t)) parts
    ∙ ap (λ b. cond b (Some (l, w)) (entry_of (same_number number) rows t)) same
    ∙ sym (entry-push (same_number number) rows r t)

-- ---- rows that fit

-- if all rows but the last begin a list and the last ends it, both are known
last-apart : {A : Type 0} (xs ys : List A) (x y : A) → xs ++ x ∷ [] ≡ ys ++ y ∷ [] → (xs ≡ ys) × (x ≡ y)
last-apart {A} [] [] x y e = let is : ◌≡◌ {A = List A} (x ∷ []) (y ∷ []) = e in (refl, cc)
last-apart [] (z ∷ ys) x y e = absurd (let long = ap length e in omega (arith, length-append ys (y ∷ [])))
last-apart (z ∷ xs) [] x y e = absurd (let long = ap length e in omega (arith, length-append xs (x ∷ [])))
last-apart {A} (z ∷ xs) (v ∷ ys) x y e =
    let is : ◌≡◌ {A = List A} (z ∷ (xs ++ x ∷ [])) (v ∷ (ys ++ y ∷ [])) = e in
    let head : z ≡ v = cc in
    let tail : xs ++ x ∷ [] ≡ ys ++ y ∷ [] = cc in
    let rest = last-apart xs ys x y tail in
    (ap (λ u. u ∷ xs) head ∙ ap (λ vs. v ∷ vs) rest.0, rest.1)

-- if rows fit, those before the last do, and the last begins where they end
pub fit-front : {S : Type 0} (bits : ℕ) (rows : List (Row S)) (r : Row S) → Fit bits (rows ++ r ∷ [])
    → Fit bits rows × (r.left ≡ sum (map (λ x. x.weight) rows)) × (r.left + r.weight ≤ 2 ^ bits)
fit-front {S} bits rows r f =
    let ss : List S = symbols_of rows in
    let ws : List ℕ = map (λ x. x.weight) rows in
    let symbols : symbols_of (rows ++ r ∷ []) ≡ ss ++ r.symbol ∷ [] = map-append (λ (x : Row S). x.symbol) rows (r ∷ []) in
    let weights : map (λ x. x.weight) (rows ++ r ∷ []) ≡ ws ++ r.weight ∷ [] = map-append (λ (x : Row S). x.weight) rows (r ∷ []) in
    let many : length ss ≡ length ws = length-map rows (λ x. x.symbol) ∙ sym (length-map rows (λ x. x.weight)) in
    let made : rows ++ r ∷ [] ≡ rows_of ss ws ++ record { symbol = r.symbol; left = 0 + sum ws; weight = r.weight } ∷ [] =
    f.in_order ∙ ap (λ xs. rows_of xs (map (λ x. x.weight) (rows ++ r ∷ []))) symbols ∙ ap (rows_of (ss ++ r.symbol ∷ [])) weights
    ∙ rows_from-push 0 ss ws r.symbol r.weight many in
    let apart = last-apart rows (rows_of ss ws) r (record { symbol = r.symbol; left = 0 + sum ws; weight = r.weight }) made in
    let left : r.left ≡ 0 + sum ws = ap (λ (x : Row S). x.left) apart.1 in
    let total : sum (map (λ x. x.weight) (rows ++ r ∷ [])) ≡ sum ws + r.weight =
    ap sum weights ∙ omega (arith, sum_by-append (λ x. x) ws (r.weight ∷ [])) in
    (record { in_order = apart.0; within = omega (arith, total, f.within) }, omega (arith, left), omega (arith, total, f.within, left))

map-replicate : {A B : Type 0} (f : A → B) (n : ℕ) (x : A) → map f (replicate n x) ≡ replicate n (f x)
map-replicate f zero x = refl
map-replicate f (suc n) x = ap (λ ys. f x ∷ ys) (map-replicate f n x)

-- the words after those of one more row
words-more : {S E : Type 0} (row_in : E → Row S) (bits : ℕ) (words : List E) (rows : List (Row S)) (s : S) (l w : ℕ) (e : E)
    → (l + w ≤ 2 ^ bits → row_in e ≡ record { symbol = s; left = l; weight = w })
    → (Fit bits rows → map row_in words ≡ spread rows) → Fit bits (rows ++ record { symbol = s; left = l; weight = w } ∷ [])
    → map row_in (take (l + w) words ++ replicate (l + w - length words) e)
    ≡ spread (rows ++ record { symbol = s; left = l; weight = w } ∷ [])
words-more {S} row_in bits words rows s l w e packed stand fit =
    let r : Row S = record { symbol = s; left = l; weight = w } in
    let front = fit-front bits rows r fit in
    let so_far : map row_in words ≡ spread rows = stand front.0 in
    let long : length words ≡ l = sym (length-map words row_in) ∙ ap length so_far ∙ length-spread rows ∙ sym front.1 in
    let all : take (l + w) words ≡ words = take_all (l + w) words (omega arith) in
    let count : l + w - length words ≡ w = omega arith in
    map-append row_in (take (l + w) words) (replicate (l + w - length words) e)
    ∙ ap (λ xs. map row_in xs ++ map row_in (replicate (l + w - length words) e)) all
    ∙ ap (λ n. map row_in words ++ map row_in (replicate n e)) count
    ∙ ap (λ xs. xs ++ map row_in (replicate w e)) so_far
    ∙ ap (λ xs. spread rows ++ xs) (map-replicate row_in w e ∙ ap (replicate w) (packed front.2))
    ∙ sym (spread-push rows r)

-- what a table holds after one more row
pub table-more : {S E : Type 0} (number : S → ℕ) (row_in : E → Row S) (bits : ℕ) (words more : List E)
    (list longer : List (Option PreparedEntry)) (rows : List (Row S)) (s : S) (k l w : ℕ) (e : E) (p : PreparedEntry) → p.left ≡ l
    → p.weight ≡ w → k ≡ number s
    → ((i : ℕ) → slice_index_or longer i None ≡ cond (nat_eq k i) (Some p) (slice_index_or list i None))
    → (l + w ≤ 2 ^ bits → row_in e ≡ record { symbol = s; left = l; weight = w })
    → (long : ℕ) → long ≡ length words → more ≡ take (l + w) words ++ replicate (l + w - long) e
    → IsEquivalence (same_number number) → list_any (same_number number s) (symbols_of rows) ≡ false
    → HoldsTable number row_in bits words list rows
    → HoldsTable number row_in bits more longer (rows ++ record { symbol = s; left = l; weight = w } ∷ [])
table-more {S} number row_in bits words more list longer rows s k l w e p left weight at written packed long same is laws absent held =
    record {
      coded = entries-more number list longer rows s k l w p left weight at held.coded written;
      distinct =
          let pushed : symbols_of (rows ++ record { symbol = s; left = l; weight = w } ∷ []) ≡ symbols_of rows ++ s ∷ [] =
          map-append (λ (r : Row S). r.symbol) rows (record { symbol = s; left = l; weight = w } ∷ []) in
          subst (IsDistinct (same_number number)) (sym pushed)
          (distinct-push (same_number number) laws.symm (symbols_of rows) s held.distinct absent);
      stand = λ fit. ap (map row_in) (is ∙ ap (λ n. take (l + w) words ++ replicate (l + w - n) e) same)
          ∙ words-more row_in bits words rows s l w e packed held.stand fit;
    }

-- the rows of a table that are known to tile are the rows of its words
pub held-table : {S E : Type 0} (number : S → ℕ) (row_in : E → Row S) (bits precision : ℕ) (words : List E)
    (list : List (Option PreparedEntry)) (rows : List (Row S)) → precision ≤ bits → HoldsTable number row_in bits words list rows
    → RowsTile 32 precision rows
    → (rows_in_table (map row_in words) ≡ rows) × IsTable number 32 precision (map row_in words) × (length words ≡ 2 ^ precision)
held-table number row_in bits precision words list rows narrow held tile =
    let power : 2 ^ precision ≤ 2 ^ bits = pow-le-pow_right {n = 2} (omega arith) narrow in
    let fit : Fit bits rows = record { in_order = tile.in_order; within = omega (arith, tile.accepted.tiles.total, power) } in
    let table = table-of number 32 precision (map row_in words) rows tile (held.stand fit) in
    (table.0, table.1, omega (arith, length-map words row_in, table.2))

-- a table without words or entries has no rows
pub nothing-held : {S E : Type 0} (number : S → ℕ) (row_in : E → Row S) (bits : ℕ) (words : List E)
    (list : List (Option PreparedEntry)) → words ≡ [] → list ≡ [] → HoldsTable number row_in bits words list []
nothing-held {S} {E} number row_in bits words list no_words no_entries = record {
  coded = λ s. ap (λ xs. plain_entry (slice_index_or xs (number s) None)) no_entries;
  distinct = none-distinct (same_number number);
  stand = λ fit. ap (map row_in) no_words;
}
