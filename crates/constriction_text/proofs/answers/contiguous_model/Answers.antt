use Rattle.std.proofs.Common.{◌≡◌, Err, ap, map, rules, tests}
use Rattle.std.proofs.lemmas.Iterator.{YieldsList-from_slice, YieldsList-from_map_by}
use Rattle.std.proofs.lemmas.Iterator.Consumers.{YieldsList-at}
use Rattle.constriction_model.specs.Acceptance.{completed}
use Rattle.constriction_text.specs.private.NumberWords.{narrowed_to}
use Rattle.constriction_text.proofs.Accepting.{are_accepted-from, good_read, bad_read}
use Rattle.constriction_text.proofs.answers.contiguous_model.Goals as goal

pub returns-in-Ok : goal.returns-in-Ok
returns-in-Ok g c =
    let whole = g.Word.WholeNumber.whole in
    let bits = g.Word.WholeNumber.BITS in
    let precision = g.row.PRECISION in
    let weights = c.args.weights.now in
    let made = c.in-Ok.ensures.made.ok in
    let same : completed precision c.args.infer (map whole made.0) ≡ completed precision c.args.infer weights =
    ap (completed precision c.args.infer)
    (good_read _ _ _ whole bits precision c.args.infer weights made.0 made.1 made.2
    (λ it came. YieldsList-at came
    (YieldsList-from_map_by _ whole (narrowed_to bits)
    (YieldsList-at c.map-words.ensures.source (YieldsList-from_slice weights c.iter.ensures.rest))
    c.map-words.ensures.closure (λ x r q k. search (rules, tests))))) in
    record {
      accepted = are_accepted-from bits precision (completed precision c.args.infer weights) (rw same at made.2);
      rows = rw same at made.3;
      refused = tt;
    }

pub returns-in-Err-InvalidTable : goal.returns-in-Err-InvalidTable
returns-in-Err-InvalidTable g c =
    let whole = g.Word.WholeNumber.whole in
    let bits = g.Word.WholeNumber.BITS in
    let weights = c.args.weights.now in
    let given = c.in-Err-InvalidTable.ensures.made.invalid (ap Err c.in-Err-InvalidTable.field-0-is) in
    record {
      accepted = tt;
      rows = tt;
      refused =
          bad_read _ _ _ whole bits g.row.PRECISION c.args.infer weights g.Word.FormatWord.word_of
          g.met.Word.FormatWord.word_of_law given.0 given.1 given.2 given.3
          (λ it came. YieldsList-at came
          (YieldsList-from_map_by _ whole (narrowed_to bits)
          (YieldsList-at c.map-words.ensures.source (YieldsList-from_slice weights c.iter.ensures.rest))
          c.map-words.ensures.closure (λ x r q k. search (rules, tests))));
    }

pub returns-in-Err-OutOfMemory : goal.returns-in-Err-OutOfMemory
returns-in-Err-OutOfMemory g c = record { accepted = tt; rows = tt; refused = tt }
