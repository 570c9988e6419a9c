use Rattle.std.proofs.Common.{◌≡◌, ◌-◌, ◌∙◌, length, map, sym, arith}
use Rattle.std.proofs.lemmas.List.{length-map, get_or-map}
use Rattle.constriction_stored_rows.proofs.EndLemmas.{end-next, end-last, end_words-few, end_words-many}
use Rattle.constriction_stored_rows.proofs.ends.end_words_of.Goals as goal

pub returns-then-rows-lt2 : goal.returns-then-rows-lt2
returns-then-rows-lt2 g c =
    let whole = g.Word.WholeNumber.whole in
    let known = λ (x : g.row.Word.Denot × g.row.Symbol.Denot). whole x.0 in
    let entries = c.args.entries.now in
    let lefts = map known entries in
    let long : length lefts ≡ length entries = length-map entries known in
    end_words-few g.Word.WholeNumber.BITS g.row.PRECISION lefts _ _ (omega (arith, long))
    (c.wrapping_pow2-total.ensures ∙ sym (end-last g.Word.WholeNumber.BITS g.row.PRECISION lefts 0 (omega (arith, long))))
    c.wrapping_pow2-total.ensures

pub returns-then-rows-eq2 : goal.returns-then-rows-eq2
returns-then-rows-eq2 g c =
    let whole = g.Word.WholeNumber.whole in
    let known = λ (x : g.row.Word.Denot × g.row.Symbol.Denot). whole x.0 in
    let entries = c.args.entries.now in
    let lefts = map known entries in
    let long : length lefts ≡ length entries = length-map entries known in
    end_words-few g.Word.WholeNumber.BITS g.row.PRECISION lefts _ _ (omega (arith, long))
    (sym (end-next g.Word.WholeNumber.BITS g.row.PRECISION lefts 0 (omega (arith, long))
    ∙ get_or-map known entries 1 c.index-entries-1.result 0 (omega arith)))
    c.wrapping_pow2-total.ensures

pub returns : goal.returns
returns g c =
    let whole = g.Word.WholeNumber.whole in
    let known = λ (x : g.row.Word.Denot × g.row.Symbol.Denot). whole x.0 in
    let entries = c.args.entries.now in
    let lefts = map known entries in
    let long : length lefts ≡ length entries = length-map entries known in
    let last : length lefts - 1 ≡ length entries - 1 = omega (arith, long) in
    end_words-many g.Word.WholeNumber.BITS g.row.PRECISION lefts _ _ (omega arith) c.wrapping_minus.ensures.range
    (rw (
      last,
      get_or-map known entries (length entries - 1) c.index-entries-rows.result 0 (omega arith),
      ← c.wrapping_pow2-total.ensures,
    ) c.wrapping_minus.ensures.difference)
    c.least.ensures
