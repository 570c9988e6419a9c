use Rattle.std.proofs.Common.{IfOk, subst}
use Rattle.std.specs.Bool.{beq}
use Rattle.constriction_coders.specs.Places.{IsMessageFrom}
use Rattle.constriction_adaptive.specs.Numbers.{all_bits, AreReadFrom}
use Rattle.constriction_adaptive.specs.Mixer.{MixerState, mixer_after, mixer_rows}
use Rattle.constriction_adaptive.specs.Predicted.{predicted_entry}
use Rattle.constriction_adaptive_tests.proofs.mixed.encoded_by_a_mixer.Goals as goal

pub returns-clause-message : goal.returns-clause-message
returns-clause-message c =
    subst (λ (s : MixerState). IfOk c.encode_bytes.result
    (λ words. IsMessageFrom (predicted_entry mixer_rows beq) mixer_after 16 s (all_bits 8 c.args.bytes.now) words.items))
    c.in_ok-mixer.ensures c.encode_bytes.ensures.ok

pub returns-clause-read : goal.returns-clause-read
returns-clause-read c =
    subst (λ (s : MixerState). IfOk c.encode_bytes.result (λ words. AreReadFrom 8 mixer_rows mixer_after s c.args.bytes.now words.items))
    c.in_ok-mixer.ensures c.encode_bytes.ensures.read
