use Rattle.std.proofs.Common.{◌≤◌, ℕ, length, map, ap, subst, sym, ◌∙◌}
use Rattle.std.specs.Prelude.{All}
use Rattle.std.proofs.lemmas.List.{take_all}
use Rattle.std.proofs.lemmas.List.Elements.{All-push}
use Rattle.constriction_categorical.specs.ModelRows.{contiguous_model_rows}
use Rattle.constriction_model.specs.Probe.{digits}
use Rattle.constriction_theorem.specs.Answers.{questions_for}
use Rattle.constriction_theorem.proofs.Questions.{asked_more}
use Rattle.constriction_theorem.proofs.counted.questions_of.Goals as goal

pub loop-query-preserved : goal.loop-query-preserved
loop-query-preserved g c =
    let rows = length (contiguous_model_rows c.args.model.now) in
    let count = questions_for g.row.PRECISION g.Probability.WholeNumber.whole rows in
    let Few : ℕ → Type 0 = λ asked. asked ≤ digits rows in
    record {
      are =
          asked_more count c.args.queries.now c.loop-query.query-index
          c.query-item.result c.questions_for_query.result c.loop-query.questions.items c.push.new.self.items c.loop-query-test.true
          (c.questions_for_query.ensures.asked ∙ ap count c.query-item.is) c.loop-query.invariant.are c.in_ok-push.ensures.items;
      few =
          subst (All Few) (sym c.in_ok-push.ensures.items)
          (All-push Few c.loop-query.questions.items c.questions_for_query.result c.loop-query.invariant.few
          c.questions_for_query.ensures.few);
    }

pub returns : goal.returns
returns g c = record {
  questions =
      c.loop-query.invariant.are
      ∙ ap (map (questions_for g.row.PRECISION g.Probability.WholeNumber.whole (length (contiguous_model_rows c.args.model.now))))
      (take_all c.loop-query.query-index c.args.queries.now c.loop-query-test.false);
  few = c.loop-query.invariant.few;
}
