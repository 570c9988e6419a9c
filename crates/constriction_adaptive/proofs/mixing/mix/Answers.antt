use Rattle.std.proofs.Common.{◌*◌, ◌≤◌, ◌<◌, get_or, rules, arith}
use Rattle.std.proofs.lemmas.Grind.{common_steps}
use Rattle.std.proofs.lemmas.Nat.{mul-le}
use Rattle.constriction_adaptive.proofs.ListLemmas.{sum_more}
use Rattle.constriction_adaptive.proofs.mixing.mix.Goals as goal

pub loop-i-preserved : goal.loop-i-preserved
loop-i-preserved c =
    let w = get_or c.args.weights.now c.loop-i.i 0 in
    let s = get_or c.args.strengths.now c.loop-i.i 0 in
    let most : w < 4294967296 = first_of (search rules, omega (arith, c.type_inv.weights c.loop-i.i), grind (arith, common_steps)) in
    let spoken : s < 65536 = first_of (search rules, omega (arith, c.type_inv.strengths c.loop-i.i), grind (arith, common_steps)) in
    let part : w * s ≤ 4294967296 * 65536 = mul-le w s 4294967296 65536 (omega arith) (omega arith) in
    record {
      said =
          sum_more (λ i. get_or c.args.weights.now i 0 * get_or c.args.strengths.now i 0) c.loop-i.i c.loop-i.said
          c.loop-i.invariant.said;
      neither = sum_more (λ i. get_or c.args.weights.now i 0 * 2048) c.loop-i.i c.loop-i.neither c.loop-i.invariant.neither;
      said_most = omega arith;
      neither_most = omega arith;
    }
