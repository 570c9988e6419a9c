use Rattle.std.proofs.Common.{◌≡◌, fold, take}
use Rattle.constriction_client.specs.Chains.{is_lookup_after, ChainLeaves}
use Rattle.constriction_client.proofs.chain.convert_by.Given as goal

-- the rows and the kind are those that the steps so far leave of the first form
abbrev pub invariant-loop-step : goal.invariant-loop-step
invariant-loop-step g l = record {
  rows : ChainLeaves g.Form.Converts.clone_of (take l.step-index l.steps) (g.Form.Converts.rows_of_form l.fn.form)
      (g.Form.Converts.rows_of_form l.form);
  kind : g.Form.Converts.looks_up l.form ≡ fold is_lookup_after (g.Form.Converts.looks_up l.fn.form) (take l.step-index l.steps);
}
