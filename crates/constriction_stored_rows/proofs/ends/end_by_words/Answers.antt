use Rattle.std.proofs.Common.{◌≡◌, ℕ, suc, zero, List, get_or, ◌+◌, ◌-◌, ◌%◌, ◌^◌, ◌<◌, ◌≤◌, ◌⊎◌, Bool, true, false, length, map, nat_lt, ap, sym, refl, ◌∙◌, arith, inl, inr}
use Rattle.std.proofs.lemmas.Bool.{ltb-true, ltb-false}
use Rattle.std.proofs.lemmas.List.{length-map}
use Rattle.constriction_stored_rows.specs.lemmas.Stored.{read-whole}
use Rattle.constriction_stored_rows.specs.Stored.{AreEndWords, end_at}
use Rattle.constriction_stored_rows.proofs.EndLemmas.{entry_ending-within, end-last, end_words-two, end_words-next, end_words-last}
use Rattle.constriction_stored_rows.proofs.ends.end_by_words.Goals as goal

-- a comparison either holds or does not
either : (i n : ℕ) (b : Bool) → nat_lt i n ≡ b → ((i < n) × (nat_lt i n ≡ true)) ⊎ ((n ≤ i) × (nat_lt i n ≡ false))
either i n true e = inl (ltb-true i n e, e)
either i n false e = inr (ltb-false i n e, e)

-- with one or two rows, the end words are the ends
few : {Word : Type 0} (whole : Word → ℕ) (bits precision : ℕ) (lefts : List ℕ) (end_words : List Word)
    → AreEndWords bits precision lefts (map whole end_words) → (i : ℕ) (x : Word) → length lefts ≤ 2 → i < length lefts
    → i < length end_words → x ≡ get_or end_words i x → whole x ≡ end_at bits precision lefts i
few whole bits precision lefts end_words b zero x two h in_bounds is =
    sym (read-whole whole end_words 0 x in_bounds is) ∙ ap (λ ns. get_or ns 0 0) (b.ends two)
few whole bits precision lefts end_words b (suc zero) x two h in_bounds is =
    sym (read-whole whole end_words 1 x in_bounds is) ∙ ap (λ ns. get_or ns 1 0) (b.ends two)
    ∙ sym (end-last bits precision lefts 1 two)
few whole bits precision lefts end_words b (suc (suc i)) x two h in_bounds is = absurd (omega arith)

pub bounds-end_words-index : goal.bounds-end_words-index
bounds-end_words-index g c =
    let known = λ (x : g.row.Word.Denot × g.row.Symbol.Denot). g.Word.WholeNumber.whole x.0 in
    omega (
      arith,
      length-map c.args.entries.now known,
      end_words-two g.Word.WholeNumber.whole g.Word.WholeNumber.BITS g.row.PRECISION (map known c.args.entries.now) c.args.end_words.now
          c.requires.end_words,
    )

pub returns-then-entries-le2 : goal.returns-then-entries-le2
returns-then-entries-le2 g c =
    let known = λ (x : g.row.Word.Denot × g.row.Symbol.Denot). g.Word.WholeNumber.whole x.0 in
    let long = length-map c.args.entries.now known in
    let two = end_words-two g.Word.WholeNumber.whole g.Word.WholeNumber.BITS g.row.PRECISION (map known c.args.entries.now)
    c.args.end_words.now c.requires.end_words in
    few g.Word.WholeNumber.whole g.Word.WholeNumber.BITS g.row.PRECISION (map known c.args.entries.now) c.args.end_words.now
    c.requires.end_words c.args.index _ (omega (arith, long)) (omega (arith, long)) (omega (arith, long, two)) c.index-end_words-index.is

pub returns : goal.returns
returns g c =
    let whole = g.Word.WholeNumber.whole in
    let known = λ (x : g.row.Word.Denot × g.row.Symbol.Denot). whole x.0 in
    let entries = c.args.entries.now in
    let i = c.args.index in
    let long : length (map known entries) ≡ length entries = length-map entries known in
    let many : 2 < length (map known entries) = omega (arith, long, c.if-entries-le2.false) in
    let bits = g.Word.WholeNumber.BITS in
    let end = whole c.wrapping_minus.result in
    let x = c.index-end_words-next.result in
    let taken : (end + whole x) % 2 ^ bits ≡ whole c.index-entries-index.result.0 =
    c.wrapping_minus.ensures.difference ∙ sym (ap known c.index-entries-index.is) in
    elim (either i (length entries - 1) (nat_lt i (length entries - 1)) refl) [
      | inl less ↦
          let next : c.from-next.result ≡ 1 = rw less.1 at c.from-next.ensures in
          end_words-next whole bits g.row.PRECISION (map known entries) c.args.end_words.now c.requires.end_words i end x many
          (omega (arith, long, less.0)) (rw next at c.index-end_words-next.is) c.wrapping_minus.ensures.range
          (taken ∙ sym (read-whole known entries (i + 1) c.index-entries-index.result (omega (arith, less.0))
          (rw next at c.index-entries-index.is)))
      | inr last ↦
          let next : c.from-next.result ≡ 0 = rw last.1 at c.from-next.ensures in
          let same : i + c.from-next.result ≡ i = omega (arith, next) in
          end_words-last whole bits g.row.PRECISION (map known entries) c.args.end_words.now c.requires.end_words i end x many
          (omega (arith, long, last.0, c.requires.in_bounds)) (rw next at c.index-end_words-next.is) c.wrapping_minus.ensures.range
          (taken ∙ sym (read-whole known entries i c.index-entries-index.result c.requires.in_bounds (rw same at c.index-entries-index.is)))
    ]

pub offset_bounds-end_words-index : goal.offset_bounds-end_words-index
offset_bounds-end_words-index g c =
    let known = λ (x : g.row.Word.Denot × g.row.Symbol.Denot). g.Word.WholeNumber.whole x.0 in
    omega (
      arith,
      length-map c.args.entries.now known,
      end_words-two g.Word.WholeNumber.whole g.Word.WholeNumber.BITS g.row.PRECISION (map known c.args.entries.now) c.args.end_words.now
          c.requires.end_words,
    )

pub overflow_add-index : goal.overflow_add-index
overflow_add-index g c =
    let within = entry_ending-within c.args.index (length c.args.entries.now) c.from-next.result c.requires.in_bounds c.from-next.ensures in
    omega arith

pub offset_bounds-entries-index : goal.offset_bounds-entries-index
offset_bounds-entries-index g c =
    let within = entry_ending-within c.args.index (length c.args.entries.now) c.from-next.result c.requires.in_bounds c.from-next.ensures in
    omega arith

pub bounds-entries-index : goal.bounds-entries-index
bounds-entries-index g c =
    let within = entry_ending-within c.args.index (length c.args.entries.now) c.from-next.result c.requires.in_bounds c.from-next.ensures in
    within.1

pub bounds-entries-index-else-entries-le2 : goal.bounds-entries-index-else-entries-le2
bounds-entries-index-else-entries-le2 g c =
    let within = entry_ending-within c.args.index (length c.args.entries.now) c.from-next.result c.requires.in_bounds c.from-next.ensures in
    within.1

pub offset_bounds-end_words-next : goal.offset_bounds-end_words-next
offset_bounds-end_words-next g c =
    let known = λ (x : g.row.Word.Denot × g.row.Symbol.Denot). g.Word.WholeNumber.whole x.0 in
    let within = entry_ending-within c.args.index (length c.args.entries.now) c.from-next.result c.requires.in_bounds c.from-next.ensures in
    let two = end_words-two g.Word.WholeNumber.whole g.Word.WholeNumber.BITS g.row.PRECISION (map known c.args.entries.now)
    c.args.end_words.now c.requires.end_words in
    omega arith

pub bounds-end_words-next : goal.bounds-end_words-next
bounds-end_words-next g c =
    let known = λ (x : g.row.Word.Denot × g.row.Symbol.Denot). g.Word.WholeNumber.whole x.0 in
    let within = entry_ending-within c.args.index (length c.args.entries.now) c.from-next.result c.requires.in_bounds c.from-next.ensures in
    let two = end_words-two g.Word.WholeNumber.whole g.Word.WholeNumber.BITS g.row.PRECISION (map known c.args.entries.now)
    c.args.end_words.now c.requires.end_words in
    omega arith
