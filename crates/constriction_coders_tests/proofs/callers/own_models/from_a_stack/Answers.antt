use Rattle.std.proofs.Common.{subst}
use Rattle.std.specs.List.{zip}
use Rattle.std.specs.Vec.Iter.{into_iter_items}
use Rattle.constriction_coders.specs.Places.{entry_by}
use Rattle.constriction_coders.specs.StackMessages.{IsStackOf}
use Rattle.constriction_coders_tests.proofs.OwnModels.{vec-shows-back, beside-seconds, beside-firsts}
use Rattle.constriction_coders_tests.proofs.callers.own_models.from_a_stack.Goals as goal

pub returns-in-Ok-by_models : goal.returns-in-Ok-by_models
returns-in-Ok-by_models g c =
    let pairs = c.args.pairs.items in
    let answers = c.in-Ok-by_models.answers.items in
    let models = c.args.models.now in
    let words = c.in-Some.words.items in
    let stacked = subst (λ ps. IsStackOf (entry_by g.E.EncoderModel.symbol_eq g.E.EntropyModel.rows) g.row.PRECISION ps words)
    c.into_iter.ensures.rest (c.in-Some.ensures into_iter_items vec-shows-back) in
    let back = c.pairs_come_back.ensures.words pairs (zip answers models) words _ _ stacked c.in-Ok.ensures.ok
    c.in-Ok-by_models.ensures.run.1 (beside-seconds _ pairs answers models c.in-Ok-by_models.ensures.count c.requires) in
    beside-firsts _ pairs answers models c.in-Ok-by_models.ensures.count back.0
