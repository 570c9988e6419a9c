use Rattle.std.proofs.Common.{subst, List, ℕ, arith}
use Rattle.constriction_coders.specs.AnsCoder.{held_by}
use Rattle.constriction_coders.specs.Steps.{content, IsOnTop}
use Rattle.constriction_coders.proofs.Steps.{decoded}
use Rattle.constriction_coders.proofs.stack.bits_back.take_symbol.Goals as goal

pub quantile_of-requires : goal.quantile_of-requires
quantile_of-requires g c =
    omega (arith, (g.met.Model.EntropyModel.precision_law c.args.model.now).fits, g.met.Model.Probability.ModelWord.width_law)

pub take_from_vec-requires : goal.take_from_vec-requires
take_from_vec-requires g c = record {
  fits = omega (arith, (g.met.Model.EntropyModel.precision_law c.args.model.now).fits, g.met.Model.Probability.ModelWord.width_law);
  some = c.in-Ok.ensures.some;
  within = c.in-Ok.ensures.within;
  from = rw c.quantile_of.ensures at c.in-Ok.ensures.from;
  to = rw c.quantile_of.ensures at c.in-Ok.ensures.to;
}

pub returns : goal.returns
returns g c =
    let own = c.in-Ok.ensures.row in
    let law = g.met.Model.EntropyModel.precision_law c.args.model.now in
    let taken = subst (λ (ws : List ℕ).
    IsOnTop g.row.PRECISION c.in-Ok.answer.1.0 c.in-Ok.answer.1.1 (content c.args.coder.now.state ws) (held_by c.take_from_vec.new.coder))
    c.reserve.ensures.items c.take_from_vec.ensures.under in
    record {
      decoded = decoded g.row.PRECISION c.in-Ok.answer.1.0 c.in-Ok.answer.1.1 g.Model.DecoderModel.stands_for
          (g.Model.EntropyModel.rows c.args.model.now) own.0 c.in-Ok.answer.0 c.quantile_of.result _ _ c.quantile_of.ensures own.2 own.1 taken;
      under = taken;
      precision = record { positive = law.positive; fits = omega (arith, law.fits, g.met.Model.Probability.ModelWord.width_law) };
      some = c.in-Ok.ensures.some;
      within = c.in-Ok.ensures.within;
      room = omega (arith, c.in-Ok-reserve.ensures.ok, c.take_from_vec.ensures.len, c.take_from_vec.ensures.capacity);
      same = tt;
    }
