use Rattle.std.proofs.Common.{Err, ap, refl, arith}
use Rattle.std.proofs.Math.Pow.{pow_mono}
use Rattle.constriction_adaptive.proofs.stack.entries.predict_and_keep.Goals as goal

pub returns-in-Err : goal.returns-in-Err
returns-in-Err g c = record { ok = tt; learned = tt; impossible = λ is. cc; unlearned = refl }

pub store-requires-clause-within : goal.store-requires-clause-within
store-requires-clause-within g c = omega (arith, c.in-Ok-predict_and_learn.ensures.ok.within, pow_mono c.requires)

pub returns-in-Err-predict_and_learn : goal.returns-in-Err-predict_and_learn
returns-in-Err-predict_and_learn g c = record {
  ok = tt;
  learned = tt;
  impossible = λ is. c.in-Err-predict_and_learn.ensures.impossible (ap Err cc);
  unlearned = c.in-Err-predict_and_learn.ensures.unlearned;
}
