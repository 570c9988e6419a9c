use Rattle.std.proofs.lemmas.Result.{IfOk-weaker}
use Rattle.constriction_client.specs.lemmas.Chains.{same-after}
use Rattle.constriction_client.proofs.chain.convert_chain.Goals as goal

pub returns-clause-exact : goal.returns-clause-exact
returns-clause-exact g c =
    IfOk-weaker c.convert_by.result _ _ (λ made left same. same-after g.Symbol.Clone.is_clone same c.args.steps.now _ _ left)
    c.convert_by.ensures.rows
