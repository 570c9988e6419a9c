use Rattle.std.proofs.Common.{◌≡◌}
use Rattle.constriction.specs.Coding.{InTurn}
use Rattle.constriction_coders.specs.AnsCoder.{held_by}
use Rattle.constriction_coders.specs.Steps.{IsDecoded}
use Rattle.constriction_coders_tests.proofs.callers.by_a_walk.Given as goal

-- the answers so far were symbols, and the walk holds the same coder and the same model
abbrev pub invariant-loop-answer : goal.invariant-loop-answer
invariant-loop-answer g l = record {
  same_coder : l.answer-iterator.coder.ghost_name ≡ l.initial.answer-iterator.coder.ghost_name;
  same_model : l.answer-iterator.model.now ≡ l.model;
  so_far : InTurn (IsDecoded g.D.DecoderModel.stands_for (g.D.EntropyModel.rows l.model) g.row.PRECISION) l.symbols.items
      (held_by l.fn.coder) (held_by l.answer-iterator.coder.now);
}
