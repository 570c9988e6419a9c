use Rattle.std.proofs.Common.{arith}
use Rattle.std.specs.Fn.{FnReturnsAt}
use Rattle.constriction_coders.proofs.BitsComingBack.{bits-come-back}
use Rattle.constriction_coders.proofs.laws.stack.bits_come_back.Goals as goal

pub returns : goal.returns
returns g c =
    bits-come-back
    (FnReturnsAt g.Posterior.Fn c.args.posterior.now) g.PosteriorModel.EntropyModel.rows
    g.PosteriorModel.EncoderModel.symbol_eq g.PosteriorModel.DecoderModel.stands_for
    (FnReturnsAt g.Likelihood.Fn c.args.likelihood.now) g.LikelihoodModel.EntropyModel.rows
    g.LikelihoodModel.EncoderModel.symbol_eq g.LikelihoodModel.DecoderModel.stands_for
    g.Prior.EncoderModel.symbol_eq g.Prior.DecoderModel.stands_for c.requires
    (g.Prior.EntropyModel.rows c.args.prior.now) _ _ _ g.row.POSTERIOR_PRECISION g.row.LIKELIHOOD_PRECISION g.row.PRIOR_PRECISION
    (λ m. omega (arith, (g.met.PosteriorModel.EntropyModel.precision_law m).fits, g.met.PosteriorModel.Probability.ModelWord.width_law))
    (g.met.Prior.DecoderModel.tile_law c.args.prior.now) g.met.PosteriorModel.DecoderModel.tile_law
    g.met.LikelihoodModel.DecoderModel.tile_law g.met.Prior.EncoderModel.equality_law
    g.met.PosteriorModel.EncoderModel.equality_law g.met.LikelihoodModel.EncoderModel.equality_law
