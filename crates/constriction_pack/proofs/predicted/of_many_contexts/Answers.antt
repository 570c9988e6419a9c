use Rattle.std.proofs.Common.{IfOk, subst, sym}
use Rattle.constriction_adaptive.specs.Mixer.{MixerState, mixer_after, mixer_rows}
use Rattle.constriction_pack.specs.Contents.{IsPredicted}
use Rattle.constriction_pack.proofs.predicted.of_many_contexts.Goals as goal

pub returns-clause-ok : goal.returns-clause-ok
returns-clause-ok c =
    subst (λ (s : MixerState). IfOk c.of_predicted.result
    (λ bytes. IsPredicted mixer_rows mixer_after s bytes.items c.args.content.now))
    c.in_ok-mixer.ensures c.of_predicted.ensures.ok

pub returns-clause-accepted : goal.returns-clause-accepted
returns-clause-accepted c = λ bytes content.
    c.of_predicted.ensures.accepted bytes
    (subst (λ (s : MixerState). IsPredicted mixer_rows mixer_after s bytes c.args.content.now)
    (sym c.in_ok-mixer.ensures) content)
