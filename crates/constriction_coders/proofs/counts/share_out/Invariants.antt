use Rattle.std.proofs.Common.{◌≡◌, ◌+◌, ◌*◌, ◌/◌, ◌^◌, ◌<◌, ◌≤◌, ℕ, length, get_or, take}
use Rattle.std.specs.Prelude.{All, sum}
use Rattle.constriction_coders.specs.Counts.{occurring}
use Rattle.constriction_coders.proofs.counts.share_out.Given as goal

-- the weights so far have what is due to the counts so far, except for what is carried
abbrev pub invariant-loop-count : goal.invariant-loop-count
invariant-loop-count l = record {
  as_many : length l.weights.items ≡ l.count-index;
  fit : All (λ w. w < 2 ^ 32) l.weights.items;
  carry : l.carried < l.total;
  given : sum l.weights.items * l.total + l.carried
      ≡ sum (take l.count-index l.counts) * l.shared + occurring (take l.count-index l.counts) * l.total;
  before : (place : ℕ) → place ≤ l.count-index
      → sum (take place l.weights.items) ≡ occurring (take place l.counts) + sum (take place l.counts) * l.shared / l.total;
  some : (place : ℕ) → place < l.count-index → 0 < get_or l.counts place 0 → 0 < get_or l.weights.items place 0;
  none : (place : ℕ) → place < l.count-index → get_or l.counts place 0 ≡ 0 → get_or l.weights.items place 0 ≡ 0;
}
