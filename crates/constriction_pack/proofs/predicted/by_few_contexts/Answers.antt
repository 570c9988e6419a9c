use Rattle.std.proofs.Common.{IfOk, subst}
use Rattle.std.specs.Prelude.{IfSome}
use Rattle.constriction_adaptive.specs.Mixer.{MixerState, mixer_after, mixer_rows}
use Rattle.constriction_pack.specs.Contents.{IsPredicted}
use Rattle.constriction_pack.proofs.predicted.by_few_contexts.Goals as goal

pub returns-clause-coded : goal.returns-clause-coded
returns-clause-coded c =
    subst (λ (s : MixerState). IfOk c.by_predictor.result
    (λ coded. IfSome coded (λ content. IsPredicted mixer_rows mixer_after s c.args.bytes.now
    content.items)))
    c.in_ok-mixer.ensures c.by_predictor.ensures.coded
