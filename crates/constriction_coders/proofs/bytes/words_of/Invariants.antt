use Rattle.std.proofs.Common.{◌≡◌, ◌*◌, ◌≤◌, length, take, vec_capacity}
use Rattle.constriction_coders.specs.Bytes.{bytes_of_words}
use Rattle.constriction_coders.proofs.bytes.words_of.Given as goal

-- the words of the first bytes
abbrev pub invariant-loop-at : goal.invariant-loop-at
invariant-loop-at l = record {
  counted : length l.words.items ≡ l.at;
  room : l.count ≤ vec_capacity l.words;
  so_far : bytes_of_words l.words.items ≡ take (4 * l.at) l.bytes;
}
