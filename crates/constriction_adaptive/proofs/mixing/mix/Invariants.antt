use Rattle.std.proofs.Common.{◌≡◌, ◌*◌, ◌≤◌, get_or, map, sum}
use Rattle.std.specs.List.{range_with_len}
use Rattle.constriction_adaptive.proofs.mixing.mix.Given as goal

-- both sums so far
abbrev pub invariant-loop-i : goal.invariant-loop-i
invariant-loop-i l = record {
  said : l.said ≡ sum (map (λ i. get_or l.weights i 0 * get_or l.strengths i 0) (range_with_len 0 l.i));
  neither : l.neither ≡ sum (map (λ i. get_or l.weights i 0 * 2048) (range_with_len 0 l.i));
  said_most : l.said ≤ 281474976710656 * l.i;
  neither_most : l.neither ≤ 8796093022208 * l.i;
}
