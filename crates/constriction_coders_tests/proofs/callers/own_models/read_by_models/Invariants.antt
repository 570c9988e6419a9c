use Rattle.std.proofs.Common.{◌≡◌, ◌≤◌, length, drop, false}
use Rattle.std.specs.Iterator.Adapters.{fuse_done, fuse_source}
use Rattle.std.specs.List.{zip}
use Rattle.std.specs.Slice.Iter.{iter_rest}
use Rattle.constriction.specs.Coding.{InTurn}
use Rattle.constriction_coders.specs.RangeDecoder.{held_by}
use Rattle.constriction_coders.specs.Intervals.{IsRead}
use Rattle.constriction_coders_tests.proofs.callers.own_models.read_by_models.Given as goal

-- the answers so far were symbols, each by the next model, and the walk holds the same decoder and the models that are left
abbrev pub invariant-loop-answer : goal.invariant-loop-answer
invariant-loop-answer g l = record {
  next : (goal.iterator-loop-answer g).can_next l.answer-iterator;
  ends : (goal.iterator-loop-answer g).is_finite l.answer-iterator;
  same_decoder : l.answer-iterator.coder.ghost_name ≡ l.initial.answer-iterator.coder.ghost_name;
  goes_on : fuse_done l.answer-iterator.models ≡ false;
  few : length l.answers.items ≤ length l.models;
  left : drop (length l.answers.items) l.models ≡ iter_rest (fuse_source l.answer-iterator.models);
  so_far : InTurn
      (λ other. IsRead g.D.DecoderModel.stands_for (g.D.EntropyModel.rows other.1) g.Source.ReadWords.read_gives g.row.PRECISION other.0)
      (zip l.answers.items l.models) (held_by l.fn.decoder) (held_by l.answer-iterator.coder.now);
}
