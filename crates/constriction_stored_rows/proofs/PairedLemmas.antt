-- Rows whose left cumulatives are stored beside their symbols.
use Rattle.std.specs.Prelude.{⊤}
use Rattle.std.specs.List.{AllZip, IsDistinct}
use Rattle.std.proofs.Common.{Bool, ◌≡◌, ℕ, ◌+◌, ◌-◌, ◌^◌, ◌<◌, ◌≤◌, List, [], ◌∷◌, ◌++◌, length, get_or, map, refl, ap, sym, subst, ◌∙◌, arith}
use Rattle.std.proofs.lemmas.List.{length-map, map-append, get_or-map}
use Rattle.constriction_model.specs.Acceptance.{AreAccepted}
use Rattle.constriction_stored_rows.specs.private.Filling.{HoldsRows, AreEntriesCloned}
use Rattle.constriction_model.specs.Model.{StandForRows}
use Rattle.constriction_model.specs.lemmas.Rows.{weights-rows_from, symbols-rows_from}
use Rattle.constriction_model.specs.Rows.{Row, rows_from, rows_of, symbols_of, RowsTile}
use Rattle.constriction_stored_rows.specs.Stored.{IsStored, weights_of}
use Rattle.constriction_stored_rows.specs.lemmas.Stored.{IsRowAt, stored-row, stored-of_rows}
use Rattle.constriction_stored_rows.specs.lemmas.SymbolRows.{symbols-many, symbol-rows_many, symbol-is_at, paired-long, paired-tiles}
use Rattle.constriction_model.specs.Probe.{IsRowIndexOf, IsLastAtMost, IsSearchable}
use Rattle.constriction_model.specs.private.Searching.{TellsRows}
use Rattle.constriction_stored_rows.specs.Stored.{rows_paired}
use Rattle.constriction_model.specs.Tables.{rows_between}
use Rattle.constriction_stored_rows.proofs.ProbeLemmas.{symbol-lefts}
use Rattle.constriction_model.proofs.StepLemmas.{all-between, length-between, first-between, last-between}
use Rattle.constriction_stored_rows.proofs.TileLemmas.{tiles-probed}

module _ {Symbol Word : Type 0} (whole : Word → ℕ) (bits precision : ℕ) (entries : List (Word × Symbol))
    (t : IsStored bits precision (map (λ x. whole x.0) entries)) where
  -- there are as many rows as entries
  pub paired-many : length (rows_paired whole precision entries) ≡ length entries
  paired-many =
      symbol-rows_many bits precision (map (λ x. x.1) entries) (map (λ x. whole x.0) entries) t (paired-long whole bits precision entries t)
      ∙ length-map entries (λ x. whole x.0)

  -- the lent entries are the entries
  module _ (lent : List (Word × Symbol)) (e : lent ≡ entries) where
    -- the words that are lent are the left cumulatives of the rows
    pub lent-lefts : map (λ x. whole x.0) lent ≡ map (λ r. r.left) (rows_paired whole precision entries)
    lent-lefts =
        ap (map (λ x. whole x.0)) e
        ∙ sym (symbol-lefts bits precision (map (λ x. x.1) entries) (map (λ x. whole x.0) entries) t
        (paired-long whole bits precision entries t))

    -- a probe of them finds the row of a quantile
    pub paired-probed : TellsRows (rows_paired whole precision entries) (λ _. ⊤) 0 (map (λ x. whole x.0) lent)
        × ((q : ℕ) → IsSearchable (map (λ x. whole x.0) lent) q)
        × ((q i : ℕ) → q < 2 ^ precision → IsLastAtMost (map (λ x. whole x.0) lent) q i
        → IsRowIndexOf (rows_paired whole precision entries) q (0 + i))
    paired-probed =
        tiles-probed bits precision (rows_paired whole precision entries) (paired-tiles whole bits precision entries t)
        (map (λ x. whole x.0) lent) lent-lefts

  symbol-here : (i : ℕ) (s : Symbol) (x : Word × Symbol) → i < length entries → x ≡ get_or entries i x → s ≡ x.1
      → s ≡ get_or (map (λ y. y.1) entries) i s
  symbol-here i s x h is se = se ∙ ap (λ y. y.1) is ∙ sym (get_or-map (λ y. y.1) entries i x s h)

  -- the row of an entry
  pub paired-at : (i l w : ℕ) (s : Symbol) (x : Word × Symbol) → i < length entries → x ≡ get_or entries i x → s ≡ x.1
      → l ≡ get_or (map (λ x. whole x.0) entries) i 0 → w ≡ get_or (weights_of precision (map (λ x. whole x.0) entries)) i 0
      → get_or (rows_paired whole precision entries) i (record { symbol = s; left = l; weight = w })
      ≡ record { symbol = s; left = l; weight = w }
  paired-at i l w s x h is se le we =
      symbol-is_at bits precision (map (λ x. x.1) entries) (map (λ x. whole x.0) entries) t (paired-long whole bits precision entries t)
      i l w s (omega (arith, h, length-map entries (λ y. whole y.0))) (symbol-here i s x h is se) le we

  -- if no two symbols of the entries are equal, no two symbols of the rows are
  pub paired-symbols_differ : (eq : Symbol → Symbol → Bool) → IsDistinct eq (map (λ x. x.1) entries)
      → IsDistinct eq (symbols_of (rows_paired whole precision entries))
  paired-symbols_differ eq d =
      let same = symbols-many bits precision (map (λ x. x.1) entries) (map (λ x. whole x.0) entries) t
      (paired-long whole bits precision entries t) in
      rw (symbols-rows_from 0 (map (λ x. x.1) entries) (weights_of precision (map (λ x. whole x.0) entries)) same) d

  -- what is known of an entry's row
  pub paired-row : (i : ℕ) → i < length entries
      → IsRowAt bits precision (map (λ x. whole x.0) entries) i (get_or (weights_of precision (map (λ x. whole x.0) entries)) i 0)
  paired-row i h = stored-row bits precision (map (λ x. whole x.0) entries) i t (omega (arith, h, length-map entries (λ x. whole x.0)))

  -- as many rows are left as lie between the two ends
  pub paired-left : (i j : ℕ) → j ≤ length entries → length (rows_between i j (rows_paired whole precision entries)) ≡ j - i
  paired-left i j h = length-between (rows_paired whole precision entries) i j (omega (arith, paired-many))

  -- the first row that is left, and the others
  pub paired-first : (i j l w : ℕ) (x : Word × Symbol) → i < j → j ≤ length entries → x ≡ get_or entries i x
      → l ≡ get_or (map (λ x. whole x.0) entries) i 0 → w ≡ get_or (weights_of precision (map (λ x. whole x.0) entries)) i 0
      → rows_between i j (rows_paired whole precision entries)
      ≡ record { symbol = x.1; left = l; weight = w } ∷ rows_between (i + 1) j (rows_paired whole precision entries)
  paired-first i j l w x h k is le we =
      first-between (rows_paired whole precision entries) i j _ h (omega (arith, paired-many))
      (paired-at i l w x.1 x (omega arith) is refl le we)

  -- the last row that is left, and the others
  pub paired-last : (i j l w : ℕ) (x : Word × Symbol) → i < j → j ≤ length entries → x ≡ get_or entries (j - 1) x
      → l ≡ get_or (map (λ x. whole x.0) entries) (j - 1) 0
      → w ≡ get_or (weights_of precision (map (λ x. whole x.0) entries)) (j - 1) 0
      → rows_between i j (rows_paired whole precision entries)
      ≡ rows_between i (j - 1) (rows_paired whole precision entries) ++ record { symbol = x.1; left = l; weight = w } ∷ []
  paired-last i j l w x h k is le we =
      last-between (rows_paired whole precision entries) i j _ h (omega (arith, paired-many))
      (paired-at (j - 1) l w x.1 x (omega arith) is refl le we)

-- entries that hold rows that tile
pub paired-of_rows : {Symbol Word : Type 0} (whole : Word → ℕ) (bits precision : ℕ) (rows : List (Row Symbol))
    (entries : List (Word × Symbol)) → RowsTile bits precision rows → HoldsRows whole entries rows
    → IsStored bits precision (map (λ x. whole x.0) entries) × (rows_paired whole precision entries ≡ rows)
paired-of_rows whole bits precision rows entries t h =
    let cdf = stored-of_rows bits precision rows t in
    (rw h.1 cdf.0, rw (h.0, h.1) cdf.1)

-- one more row is held by one more entry
pub held-more : {Word Symbol : Type 0} (whole : Word → ℕ) (entries : List (Word × Symbol)) (rows : List (Row Symbol)) (r : Row Symbol)
    (left : Word)
    → HoldsRows whole entries rows → whole left ≡ r.left → HoldsRows whole (entries ++ (left, r.symbol) ∷ []) (rows ++ r ∷ [])
held-more whole entries rows r left h e = (
  map-append (λ x. x.1) entries ((left, r.symbol) ∷ []) ∙ ap (λ ss. ss ++ r.symbol ∷ []) h.0 ∙ sym
      (map-append (λ x. x.symbol) rows (r ∷ [])),
  map-append (λ x. whole x.0) entries ((left, r.symbol) ∷ []) ∙ ap (λ ns. ns ++ whole left ∷ []) h.1
      ∙ ap (λ n. map (λ x. x.left) rows ++ n ∷ []) e ∙ sym (map-append (λ x. x.left) rows (r ∷ [])),
)

-- the rows of accepted symbols and weights
module _ {Symbol : Type 0} (eq : Symbol → Symbol → Bool) (bits precision : ℕ) (ss : List Symbol) (ws : List ℕ)
    (a : AreAccepted eq bits precision ss ws) where
  -- rows of accepted symbols and weights tile
  pub accepted-tile : RowsTile bits precision (rows_of ss ws)
  accepted-tile =
      let weights = weights-rows_from 0 ss ws a.as_many in
      let symbols = symbols-rows_from 0 ss ws a.as_many in
      record { accepted = rw weights a.tile; in_order = rw (weights, symbols) refl }

  -- their symbols are those given
  pub accepted-symbols : symbols_of (rows_of ss ws) ≡ ss
  accepted-symbols = symbols-rows_from 0 ss ws a.as_many

  -- the symbols of their entries differ
  pub paired-distinct : {Word : Type 0} (whole : Word → ℕ) (entries : List (Word × Symbol)) → HoldsRows whole entries (rows_of ss ws)
      → IsDistinct eq (map (λ x. x.1) entries)
  paired-distinct whole entries h = rw (h.0, accepted-symbols) a.distinct

-- clones of entries
module _ {Symbol Word : Type 0} (whole : Word → ℕ) (IsClone : Symbol → Symbol → Type 0) where
  -- entries keep their words when their symbols are cloned
  pub cloned-words : (entries cloned : List (Word × Symbol)) → AreEntriesCloned IsClone entries cloned
      → map (λ x. whole x.0) cloned ≡ map (λ x. whole x.0) entries
  cloned-words [] [] h = refl
  cloned-words [] (c ∷ cs) h = absurd h
  cloned-words (e ∷ es) [] h = absurd h
  cloned-words (e ∷ es) (c ∷ cs) h =
      ap (λ w. whole w ∷ map (λ x. whole x.0) cs) h.0.1 ∙ ap (λ ns. whole e.0 ∷ ns) (cloned-words es cs h.1)

  -- their symbols are clones
  pub cloned-symbols : (entries cloned : List (Word × Symbol)) → AreEntriesCloned IsClone entries cloned
      → AllZip (λ t s. IsClone s t) (map (λ x. x.1) cloned) (map (λ x. x.1) entries)
  cloned-symbols [] [] h = tt
  cloned-symbols [] (c ∷ cs) h = h
  cloned-symbols (e ∷ es) [] h = h
  cloned-symbols (e ∷ es) (c ∷ cs) h = (h.0.0, cloned-symbols es cs h.1)

  cloned-from : (l : ℕ) (ts ss : List Symbol) (ws : List ℕ) → AllZip (λ t s. IsClone s t) ts ss
      → StandForRows IsClone (rows_from l ts ws) (rows_from l ss ws)
  cloned-from l [] [] ws h = tt
  cloned-from l [] (s ∷ ss) ws h = absurd h
  cloned-from l (t ∷ ts) [] ws h = absurd h
  cloned-from l (t ∷ ts) (s ∷ ss) [] h = tt
  cloned-from l (t ∷ ts) (s ∷ ss) (w ∷ ws) h = ((h.0, refl, refl), cloned-from (l + w) ts ss ws h.1)

  -- their rows stand for the rows of the first ones
  pub cloned-rows : (precision : ℕ) (entries cloned : List (Word × Symbol)) → AreEntriesCloned IsClone entries cloned
      → StandForRows IsClone (rows_paired whole precision cloned) (rows_paired whole precision entries)
  cloned-rows precision entries cloned h =
      subst (λ (ls : List ℕ). StandForRows IsClone (rows_of (map (λ x. x.1) cloned) (weights_of precision ls))
      (rows_paired whole precision entries))
      (sym (cloned-words entries cloned h))
      (cloned-from 0 (map (λ x. x.1) cloned) (map (λ x. x.1) entries) (weights_of precision (map (λ x. whole x.0) entries))
      (cloned-symbols entries cloned h))

-- of lent entries, all rows are left at first, as many as the entries
pub paired-lent : {Symbol Word : Type 0} (whole : Word → ℕ) (bits precision : ℕ) (entries lent : List (Word × Symbol))
    → IsStored bits precision (map (λ x. whole x.0) entries) → lent ≡ entries
    → IsStored bits precision (map (λ x. whole x.0) lent)
    × (rows_between 0 (length lent) (rows_paired whole precision lent) ≡ rows_paired whole precision entries)
paired-lent whole bits precision entries lent t e =
    rw e (
      t,
      all-between (rows_paired whole precision entries) (length entries) (sym (paired-many whole bits precision entries t)),
    )
