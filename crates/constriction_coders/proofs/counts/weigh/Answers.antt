use Rattle.std.proofs.Common.{arith}
use Rattle.std.proofs.lemmas.Nat.{one_shl}
use Rattle.constriction_coders.proofs.CountsLemmas.{in_all, positive_accepted}
use Rattle.constriction_coders.proofs.counts.weigh.Goals as goal

pub returns-clause-total : goal.returns-clause-total
returns-clause-total g c =
    in_all g.row.PRECISION c.args.counts.now c.share_out.new.weights.items _ c.share_out.ensures.as_many (omega arith)
    (omega (arith, one_shl g.row.PRECISION 64 (omega arith))) c.share_out.ensures.before

pub returns-clause-accepted : goal.returns-clause-accepted
returns-clause-accepted g c =
    positive_accepted g.row.PRECISION c.share_out.new.weights.items
    (in_all g.row.PRECISION c.args.counts.now c.share_out.new.weights.items _ c.share_out.ensures.as_many (omega arith)
    (omega (arith, one_shl g.row.PRECISION 64 (omega arith))) c.share_out.ensures.before)
    c.share_out.ensures.fit
