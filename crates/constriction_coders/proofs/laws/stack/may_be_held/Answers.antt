use Rattle.std.proofs.Common.{arith}
use Rattle.constriction_coders.proofs.laws.stack.may_be_held.Goals as goal

pub returns : goal.returns
returns g c = record { fits = omega arith; whole = c.args.coder.now.whole }
