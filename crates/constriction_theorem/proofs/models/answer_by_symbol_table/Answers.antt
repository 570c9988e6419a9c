use Rattle.constriction_theorem.proofs.Walking.{answers-of-table}
use Rattle.constriction_theorem.proofs.models.answer_by_symbol_table.Goals as goal

pub returns-clause-answers : goal.returns-clause-answers
returns-clause-answers g c =
    answers-of-table g.M.IterableEntropyModel.stands_for g.M.Symbol.Clone.is_clone _ _ c.in_ok-decoder.ensures.ok.0 _ c.args.steps.now _
    _ _ c.answer_by_form.result c.answer_by_form.ensures.answers
