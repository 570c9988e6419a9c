use Rattle.constriction_client.proofs.Chaining.{one-step-more, one-kind-more}
use Rattle.constriction_client.proofs.chain.convert_by.Goals as goal

pub loop-step-preserved : goal.loop-step-preserved
loop-step-preserved g c = record {
  rows =
      one-step-more g.Form.Converts.clone_of c.args.steps.now c.loop-step.step-index _ _ _ _ c.loop-step-test.true
      c.loop-step.invariant.rows c.in_ok-form.ensures.rows;
  kind =
      one-kind-more c.args.steps.now c.loop-step.step-index _ _ _ _ c.loop-step-test.true c.loop-step.invariant.kind
      c.in_ok-form.ensures.kind;
}
