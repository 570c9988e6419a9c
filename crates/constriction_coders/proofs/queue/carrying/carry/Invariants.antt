use Rattle.std.proofs.Common.{◌≡◌, ℕ, ◌-◌, ◌^◌, ◌<◌, ◌≤◌, length, get_or}
use Rattle.constriction_coders.proofs.queue.carrying.carry.Given as goal

-- the words from a place on were full, and are cleared; those before it are as they were
abbrev pub invariant-loop-place : goal.invariant-loop-place
invariant-loop-place l = record {
  front : (j : ℕ) → j < l.place → get_or l.words j 0 ≡ get_or l.initial.words j 0;
  full : (j : ℕ) → l.place ≤ j → j < length l.words → get_or l.initial.words j 0 ≡ 2 ^ 32 - 1;
  cleared : (j : ℕ) → l.place ≤ j → j < length l.words → get_or l.words j 0 ≡ 0;
}
