-- Hash tables of entries.
use Rattle.std.specs.Prelude.{◌≡◌, ℕ, ◌+◌, ◌^◌, ◌<◌, ◌≤◌, ◌||◌, Bool, true, false, cond, List, [], ◌∷◌, ◌++◌, length, map, reverse, All, find, Option, Some, None, IfSome, is_some, Result, Ok}
use Rattle.std.specs.Option.{option_map, option_or}
use Rattle.std.specs.Cmp.{IsEquivalence}
use Rattle.std.specs.Iterator.{Yields}
use Rattle.std.specs.List.{AllZip, IsDistinct, AllByRecursion}
use Rattle.std.specs.Map.{lookup, keys_of}
use Rattle.std.specs.Set.{is_member, distinct_count}
use Rattle.std.proofs.Common.{refl, ap, sym, ◌∙◌, subst, arith}
use Rattle.std.proofs.lemmas.List.{reverse-append, length-map, map-append}
use Rattle.std.proofs.lemmas.List.Elements.{All-cons, All-nil, All-tail}
use Rattle.std.proofs.lemmas.Map.Keys.{IsDistinct-head, IsDistinct-tail}
use Rattle.std.proofs.lemmas.Map.Made.{length-from_keys, is_some-lookup}
use Rattle.constriction_stored_rows.specs.private.Filling.{HoldsEntries}
use Rattle.constriction_conversions.specs.Hashed.{rows_of_table}
use Rattle.constriction_model.specs.Entries.{SameEntries}
use Rattle.constriction_model.specs.Model.{row_of, LiesWithin, StandForRows}
use Rattle.constriction_model.specs.lemmas.Rows.{entry_of-cons}
use Rattle.constriction_model.specs.Rows.{Row, entry_of, symbols_of}
use Rattle.constriction_categorical.specs.private.Walked.{WalkedGood}
use Rattle.constriction_categorical.proofs.CollectLemmas.{walked-more}

-- an entry with quantiles, all below 2 ^ precision
abbrev pub EntryWithin : ℕ → ℕ × ℕ → Type 0
EntryWithin precision e = (0 < e.1) × (e.0 + e.1 ≤ 2 ^ precision)

or-none : {A : Type 0} (o : Option A) → option_or o None ≡ o
or-none (Some x) = refl
or-none None = refl

or-one : {A : Type 0} (t : Bool) (x : A) (o : Option A) → (t ≡ true → o ≡ None) → option_or o (cond t (Some x) None) ≡ cond t (Some x) o
or-one true x o h = ap (λ p. option_or p (Some x)) (h refl)
or-one false x o h = or-none o

map-cond : {A B : Type 0} (f : A → B) (t : Bool) (x : A) (o : Option A)
    → option_map f (cond t (Some x) o) ≡ cond t (Some (f x)) (option_map f o)
map-cond f true x o = refl
map-cond f false x o = refl

some-cond : {A : Type 0} (t : Bool) (x : A) (o : Option A) → is_some (option_or o (cond t (Some x) None)) ≡ (t || is_some o)
some-cond true x (Some y) = refl
some-cond true x None = refl
some-cond false x (Some y) = refl
some-cond false x None = refl

some-map : {A B : Type 0} (f : A → B) (o : Option A) → is_some (option_map f o) ≡ is_some o
some-map f (Some x) = refl
some-map f None = refl

if-or : {A : Type 0} (P : A → Type 0) (o : Option A) (t : Bool) (x : A) → IfSome o P → P x → IfSome (option_or o (cond t (Some x) None)) P
if-or P (Some y) t x h p = h
if-or P None true x h p = p
if-or P None false x h p = h

module _ {K : Type 0} (eq : K → K → Bool) (laws : IsEquivalence eq) where
  -- one more row at the end takes the place of its symbol's entry
  pub entry_of-push : (rows : List (Row K)) (r : Row K) (s : K)
      → entry_of eq (rows ++ r ∷ []) s ≡ cond (eq r.symbol s) (Some (r.left, r.weight)) (entry_of eq rows s)
  entry_of-push rows r s =
      ap (λ xs. option_map (λ x. (x.left, x.weight)) (find (λ x. eq x.symbol s) xs)) (reverse-append rows (r ∷ []))
      ∙ map-cond (λ x. (x.left, x.weight)) (eq r.symbol s) r (find (λ x. eq x.symbol s) (reverse rows))

  -- a symbol has an entry if and only if it is among the symbols
  pub has-entry : (rows : List (Row K)) (s : K) → is_some (entry_of eq rows s) ≡ is_member eq (symbols_of rows) s
  has-entry [] s = refl
  has-entry (r ∷ rows) s =
      ap is_some (entry_of-cons eq s r rows) ∙ some-cond (eq r.symbol s) (r.left, r.weight) (entry_of eq rows s)
      ∙ ap (λ b. b || is_some (entry_of eq rows s)) (laws.symm r.symbol s) ∙ ap (λ b. eq s r.symbol || b) (has-entry rows s)

  -- if the rows lie below 2 ^ precision, each entry does
  pub entry-within : (precision : ℕ) (rows : List (Row K)) (s : K) → All (LiesWithin precision) rows
      → IfSome (entry_of eq rows s) (EntryWithin precision)
  entry-within precision [] s a = tt
  entry-within precision (r ∷ rows) s a =
      subst (λ (o : Option (ℕ × ℕ)). IfSome o (EntryWithin precision)) (sym (entry_of-cons eq s r rows))
      (if-or (EntryWithin precision) (entry_of eq rows s) (eq r.symbol s) (r.left, r.weight)
      (entry-within precision rows s (All-tail (LiesWithin precision) r rows a)) (a 0 r (omega arith)))

  none-after : {X : Type 0} (k s : K) (es : List (K × X)) → AllByRecursion (λ y. eq k y ≡ false) (keys_of es) → eq s k ≡ true
      → lookup (eq s) es ≡ None
  none-after k s [] a h = refl
  none-after {X} k s (e ∷ es) a h =
      let apart : eq s e.0 ≡ false = laws.congr s k e.0 h ∙ a.0 in
      rw apart (none-after {X = X} k s es a.1 h)

  module _ {X : Type 0} (numbers : X → ℕ × ℕ) where
    -- the entry of a symbol in a table is what the table has there
    pub table-entry_of : (es : List (K × X)) (s : K) → IsDistinct eq (keys_of es)
        → entry_of eq (rows_of_table numbers es) s ≡ option_map numbers (lookup (eq s) es)
    table-entry_of [] s d = refl
    table-entry_of (e ∷ es) s d =
        let later : entry_of eq (rows_of_table numbers es) s ≡ option_map numbers (lookup (eq s) es) =
        table-entry_of es s (IsDistinct-tail eq e.0 (keys_of es) d) in
        entry_of-cons eq s (record { symbol = e.0; left = (numbers e.1).0; weight = (numbers e.1).1 }) (rows_of_table numbers es)
        ∙ ap (λ b. option_or (entry_of eq (rows_of_table numbers es) s) (cond b (Some (numbers e.1)) None)) (laws.symm e.0 s)
        ∙ or-one (eq s e.0) (numbers e.1) (entry_of eq (rows_of_table numbers es) s)
        (λ h. later ∙ ap (option_map numbers) (none-after {X = X} e.0 s es (IsDistinct-head eq e.0 (keys_of es) d) h))
        ∙ ap (λ o. cond (eq s e.0) (Some (numbers e.1)) o) later
        ∙ sym (map-cond numbers (eq s e.0) e.1 (lookup (eq s) es))

    -- what a look-up finds is the entry of the symbol
    pub table-answer : (es : List (K × X)) (s : K) → IsDistinct eq (keys_of es) → (o : Option X) → o ≡ lookup (eq s) es
        → option_map numbers o ≡ entry_of eq (rows_of_table numbers es) s
    table-answer es s d o e = ap (option_map numbers) e ∙ sym (table-entry_of es s d)

    -- a table that finds the entries of rows has these entries
    pub table-same : (es : List (K × X)) (rows : List (Row K)) → IsDistinct eq (keys_of es)
        → ((s : K) → option_map numbers (lookup (eq s) es) ≡ entry_of eq rows s) → SameEntries eq (rows_of_table numbers es) rows
    table-same es rows d h = λ s. table-entry_of es s d ∙ h s

    tail-within : (precision : ℕ) (e : K × X) (es : List (K × X)) (s : K) → IsDistinct eq (keys_of (e ∷ es)) → (t : Bool) → eq s e.0 ≡ t
        → IfSome (lookup (eq s) (e ∷ es)) (λ x. EntryWithin precision (numbers x))
        → IfSome (lookup (eq s) es) (λ x. EntryWithin precision (numbers x))
    tail-within precision e es s d true h p = rw (none-after {X = X} e.0 s es (IsDistinct-head eq e.0 (keys_of es) d) h) tt
    tail-within precision e es s d false h p = rw h at p

    -- if each entry that is found lies below 2 ^ precision, all rows of the table do
    pub table-rows_within : (precision : ℕ) (es : List (K × X)) → IsDistinct eq (keys_of es)
        → ((s : K) → IfSome (lookup (eq s) es) (λ x. EntryWithin precision (numbers x)))
        → All (LiesWithin precision) (rows_of_table numbers es)
    table-rows_within precision [] d h = All-nil (LiesWithin precision)
    table-rows_within precision (e ∷ es) d h =
        let here : EntryWithin precision (numbers e.1) = rw (laws.refl e.0) at (h e.0) in
        All-cons (LiesWithin precision) (record { symbol = e.0; left = (numbers e.1).0; weight = (numbers e.1).1 })
        (rows_of_table numbers es) here
        (table-rows_within precision es (IsDistinct-tail eq e.0 (keys_of es) d) (λ s. tail-within precision e es s d (eq s e.0) refl (h s)))

    -- a table of the entries of rows has as many entries as the rows have distinct symbols
    pub table-count : (es : List (K × X)) (rows : List (Row K)) → IsDistinct eq (keys_of es)
        → ((s : K) → option_map numbers (lookup (eq s) es) ≡ entry_of eq rows s)
        → length (rows_of_table numbers es) ≡ distinct_count eq (symbols_of rows)
    table-count es rows d h =
        length-map es (λ e. record { symbol = e.0; left = (numbers e.1).0; weight = (numbers e.1).1 })
        ∙ sym (length-map es (λ e. e.0)) ∙ length-from_keys laws (keys_of es) (symbols_of rows) d
        (λ q. sym (is_some-lookup (eq q) es) ∙ sym (some-map numbers (lookup (eq q) es)) ∙ ap is_some (h q) ∙ has-entry rows q)

    -- what a table finds lies below 2 ^ precision, if it has the entries of rows that do
    pub found-within : (precision : ℕ) (rows : List (Row K)) (f : K → Option X) → All (LiesWithin precision) rows
        → ((s : K) → option_map numbers (f s) ≡ entry_of eq rows s) → (s : K) → IfSome (f s) (λ x. EntryWithin precision (numbers x))
    found-within precision rows f a h s =
        some-back (f s)
        (subst (λ (o : Option (ℕ × ℕ)). IfSome o (EntryWithin precision)) (sym (h s)) (entry-within precision rows s a))
      where
        some-back : (o : Option X) → IfSome (option_map numbers o) (EntryWithin precision)
            → IfSome o (λ x. EntryWithin precision (numbers x))
        some-back (Some x) p = p
        some-back None p = tt

    -- one more entry
    pub hashed-push : (rows : List (Row K)) (f g : K → Option X) (k : K) (x : X)
        → ((s : K) → option_map numbers (f s) ≡ entry_of eq rows s) → ((s : K) → g s ≡ cond (eq k s) (Some x) (f s))
        → (s : K) → option_map numbers (g s)
        ≡ entry_of eq (rows ++ record { symbol = k; left = (numbers x).0; weight = (numbers x).1 } ∷ []) s
    hashed-push rows f g k x h update s =
        ap (option_map numbers) (update s) ∙ map-cond numbers (eq k s) x (f s)
        ∙ ap (λ p. cond (eq k s) (Some (numbers x)) p) (h s)
        ∙ sym (entry_of-push rows (record { symbol = k; left = (numbers x).0; weight = (numbers x).1 }) s)

    -- a table that has the entries of rows finds a symbol if and only if one of these rows has it
    pub hashed-member : (rows : List (Row K)) (f : K → Option X) (k : K) (b : Bool)
        → ((s : K) → option_map numbers (f s) ≡ entry_of eq rows s) → is_some (f k) ≡ b → is_member eq (symbols_of rows) k ≡ b
    hashed-member rows f k b h e =
        sym (has-entry rows k) ∙ ap is_some (sym (h k)) ∙ some-map numbers (f k) ∙ e

-- the rows of a table of clones
pub table-cloned : {K X : Type 0} (IsClone : K → K → Type 0) (numbers : X → ℕ × ℕ) (es fs : List (K × X))
    → AllZip (λ p q. IsClone p.0 q.0 × (q.1 ≡ p.1)) es fs
    → StandForRows IsClone (rows_of_table numbers fs) (rows_of_table numbers es)
table-cloned IsClone numbers [] [] h = tt
table-cloned IsClone numbers [] (f ∷ fs) h = h
table-cloned IsClone numbers (e ∷ es) [] h = h
table-cloned IsClone numbers (e ∷ es) (f ∷ fs) h = (
  (h.0.0, ap (λ x. (numbers x).0) h.0.1, ap (λ x. (numbers x).1) h.0.1),
  table-cloned IsClone numbers es fs h.1,
)

-- rows that stand for rows below 2 ^ precision lie below it too
pub within-made : {K : Type 0} (Stands : K → K → Type 0) (precision : ℕ) (made rows : List (Row K)) → StandForRows Stands made rows
    → All (LiesWithin precision) rows → All (LiesWithin precision) made
within-made Stands precision [] rows h a = All-nil (LiesWithin precision)
within-made Stands precision (m ∷ ms) [] h a = absurd h
within-made Stands precision (m ∷ ms) (r ∷ rs) h a =
    let lies = a 0 r (omega arith) in
    All-cons (LiesWithin precision) m ms (omega (arith, h.0.2, lies.0), omega (arith, h.0.1, h.0.2, lies.1))
    (within-made Stands precision ms rs h.1 (All-tail (LiesWithin precision) r rs a))

-- ---- the entries of the rows that a walk gives

module _ {K X Word Weight Refusal T : Type 0} (steps : T → Option (Result (K × Word × Weight) Refusal) → T → Type 0) (it : T)
    (eq : K → K → Bool) (numbers : (Word → ℕ) → (Weight → Word) → X → ℕ × ℕ) where
  -- the function has the entries of the rows that the walk gave so far
  pub record IsHashed (u : T) (f : K → Option X) : Type 0 where
    pub taken : List (K × Word × Weight)
    pub walked : Yields steps it (map Ok taken) u
    pub entries : (whole : Word → ℕ) (base : Weight → Word) → HoldsEntries eq (numbers whole base) f (map (row_of whole base) taken)

  -- before the first step no symbol has an entry
  pub hashed-none : (f : K → Option X) → ((s : K) → f s ≡ None) → IsHashed it f
  hashed-none f h = record { taken = []; walked = refl; entries = λ whole base s. ap (option_map (numbers whole base)) (h s) }

  -- one row more gives its symbol the entry
  pub hashed-step : IsEquivalence eq → (u v : T) (f g : K → Option X) (o : Result (K × Word × Weight) Refusal)
      (y : K × Word × Weight) (x : X)
      → ((whole : Word → ℕ) (base : Weight → Word) → numbers whole base x ≡ (whole y.1, whole (base y.2)))
      → IsHashed u f → steps u (Some o) v → o ≡ Ok y → ((s : K) → g s ≡ cond (eq y.0 s) (Some x) (f s)) → IsHashed v g
  hashed-step laws u v f g o y x n i step e update = record {
    taken = i.taken ++ y ∷ [];
    walked = walked-more steps it i.taken u v o y i.walked step e;
    entries = λ whole base s.
        let rows = map (row_of whole base) i.taken in
        hashed-push eq laws (numbers whole base) rows f g y.0 x (i.entries whole base) update s
        ∙ ap (λ (p : ℕ × ℕ). entry_of eq (rows ++ record { symbol = y.0; left = p.0; weight = p.1 } ∷ []) s) (n whole base)
        ∙ ap (λ (rs : List (Row K)). entry_of eq rs s) (sym (map-append (row_of whole base) i.taken (y ∷ [])));
  }

  -- at the end the entries are those of all rows
  pub hashed-end : (u v : T) (f : K → Option X) → IsHashed u f → steps u None v
      → WalkedGood steps it
      (λ xs. (whole : Word → ℕ) (base : Weight → Word) → HoldsEntries eq (numbers whole base) f (map (row_of whole base) xs))
  hashed-end u v f i end = (i.taken, (v, (u, i.walked, end)), i.entries)
