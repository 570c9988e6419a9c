use Rattle.std.proofs.Common.{arith, refl}
use Rattle.std.proofs.Math.Nat.{pow-le-pow_right}
use Rattle.constriction_stored_weights.proofs.tables.write_table.Goals as goal

pub push_weights-requires-clause-small : goal.push_weights-requires-clause-small
push_weights-requires-clause-small g c =
    let table = c.if-not-are_a_table.ensures.0 refl in
    let most = pow-le-pow_right {n = 2} (omega arith) c.requires in
    let total = table.total in
    omega arith
