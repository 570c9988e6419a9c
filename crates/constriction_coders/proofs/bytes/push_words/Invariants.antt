use Rattle.std.proofs.Common.{◌≡◌, ◌+◌, ◌-◌, ◌*◌, ◌≤◌, ◌++◌, drop, length, vec_capacity}
use Rattle.constriction_coders.specs.Bytes.{bytes_of_words}
use Rattle.constriction_coders.proofs.bytes.push_words.Given as goal

-- there is room for the words that are left
abbrev pub invariant-loop-word : goal.invariant-loop-word
invariant-loop-word l = record {
  room : length l.bytes.items + 4 * (length l.words - l.word-index) ≤ vec_capacity l.bytes;
  so_far : l.bytes.items ++ bytes_of_words (drop l.word-index l.words) ≡ l.fn.bytes.items ++ bytes_of_words l.words;
}
