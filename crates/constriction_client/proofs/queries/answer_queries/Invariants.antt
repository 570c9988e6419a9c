use Rattle.std.proofs.Common.{map, take}
use Rattle.constriction_model.specs.Rows.{entry_of}
use Rattle.constriction_client.specs.Replies.{in_numbers}
use Rattle.constriction_client.proofs.Replying.{StandForReplies, replies_of_two}
use Rattle.constriction_client.proofs.queries.answer_queries.Given as goal

-- the replies so far
abbrev pub invariant-loop-query : goal.invariant-loop-query
invariant-loop-query g l =
    let whole = g.D.Probability.WholeNumber.whole in
    StandForReplies g.D.DecoderModel.stands_for (map (in_numbers whole g.D.Probability.WholeNumber.base) l.replies.items)
    (replies_of_two g.row.PRECISION whole (g.D.EntropyModel.rows l.form)
    (entry_of g.E.EncoderModel.symbol_eq (g.E.EntropyModel.rows l.encoder)) (take l.query-index l.queries))
