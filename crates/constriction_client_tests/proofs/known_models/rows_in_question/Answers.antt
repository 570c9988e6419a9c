-- The first row and the last one are in question, and the probe has no more rows than the model.
use Rattle.std.proofs.Common.{◌≡◌, ℕ, ap, refl, arith, length}
use Rattle.constriction.specs.Rows.{Row}
use Rattle.constriction_client_tests.proofs.known_models.rows_in_question.Goals as goal

pub returns : goal.returns
returns c =
    let probe = c.quantile_probe-first in
    let four = ap length c.requires in
    let row : Row ℕ = record { symbol = 0; left = 0; weight = 0 } in
    let first = (probe.ensures.exactly 0 row (omega (arith, four))).0 tt in
    let last = (probe.ensures.exactly 3 row (omega (arith, four))).0 tt in
    let begins : probe.result.0 ≡ 0 = omega (arith, first.0) in
    let long : c.len.result ≡ 4 = omega (arith, c.len.ensures, first.0, last.1, probe.ensures.within, four) in
    rw (begins, long) refl
