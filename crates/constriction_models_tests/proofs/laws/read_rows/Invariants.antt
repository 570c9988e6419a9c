use Rattle.std.proofs.Common.{◌≡◌, map, Ok}
use Rattle.constriction_models_tests.proofs.laws.read_rows.Given as goal

-- the rows that were kept are the items that came so far
abbrev pub invariant-loop-item : goal.invariant-loop-item
invariant-loop-item g l = l.yielded ≡ map Ok l.rows.items
