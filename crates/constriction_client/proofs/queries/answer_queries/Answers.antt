use Rattle.std.proofs.Common.{map, refl, subst}
use Rattle.constriction_model.specs.Rows.{entry_of}
use Rattle.constriction_client.specs.Replies.{in_numbers, reply_to_query, StandsForReply, AreRepliesOf}
use Rattle.constriction_client.proofs.Replying.{all-known, one-more-known, replies_of_two, replies-of, scan-of-rows}
use Rattle.constriction_client.proofs.queries.answer_queries.Goals as goal

pub loop-query-preserved : goal.loop-query-preserved
loop-query-preserved g c =
    let whole = g.D.Probability.WholeNumber.whole in
    one-more-known (StandsForReply g.D.DecoderModel.stands_for)
    (reply_to_query g.row.PRECISION whole (g.D.EntropyModel.rows c.args.form.now)
    (entry_of g.E.EncoderModel.symbol_eq (g.E.EntropyModel.rows c.args.encoder.now)))
    (in_numbers whole g.D.Probability.WholeNumber.base) c.args.queries.now c.loop-query.query-index c.query-item.result
    c.loop-query.replies.items c.push.new.self.items c.in_ok-answer_query.field-0 c.loop-query-test.true c.query-item.is
    c.in_ok-push.ensures.items c.in_ok-answer_query.ensures c.loop-query.invariant

pub returns : goal.returns
returns g c =
    let whole = g.D.Probability.WholeNumber.whole in
    let rows = g.D.EntropyModel.rows c.args.form.now in
    let entry = entry_of g.E.EncoderModel.symbol_eq (g.E.EntropyModel.rows c.args.encoder.now) in
    let queries = c.args.queries.now in
    let given = map (in_numbers whole g.D.Probability.WholeNumber.base) c.loop-query.replies.items in
    let stand = all-known g.D.DecoderModel.stands_for g.row.PRECISION whole rows entry queries c.loop-query.query-index given
    c.loop-query-test.false c.loop-query.invariant in
    let are = replies-of g.D.DecoderModel.stands_for given (replies_of_two g.row.PRECISION whole rows entry queries) stand in
    record {
      ok = are;
      of_one = λ alike.
          subst (λ scanned. AreRepliesOf g.D.DecoderModel.stands_for scanned given)
          (scan-of-rows g.row.PRECISION whole g.E.EncoderModel.symbol_eq entry rows rows queries refl alike) are;
    }
