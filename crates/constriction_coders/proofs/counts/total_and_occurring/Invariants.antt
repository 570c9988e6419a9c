use Rattle.std.proofs.Common.{◌≡◌, ◌*◌, ◌≤◌, take}
use Rattle.std.specs.Prelude.{sum}
use Rattle.constriction_coders.specs.Counts.{occurring}
use Rattle.constriction_coders.proofs.counts.total_and_occurring.Given as goal

abbrev pub invariant-loop-count : goal.invariant-loop-count
invariant-loop-count l = record {
  total : l.total ≡ sum (take l.count-index l.counts);
  bounded : l.total ≤ l.count-index * 18446744073709551615;
  occurring : l.occurring ≡ occurring (take l.count-index l.counts);
  few : l.occurring ≤ l.count-index;
  least : l.occurring ≤ l.total;
}
