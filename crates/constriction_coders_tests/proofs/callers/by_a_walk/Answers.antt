use Rattle.std.proofs.Common.{◌∙◌, ap, subst}
use Rattle.constriction.specs.lemmas.Turns.{turn-last}
use Rattle.constriction_coders.specs.AnsCoder.{held_by}
use Rattle.constriction_coders.specs.Steps.{IsDecoded}
use Rattle.constriction_coders_tests.proofs.callers.by_a_walk.Goals as goal

pub loop-answer-preserved : goal.loop-answer-preserved
loop-answer-preserved g c =
    let step = rw c.in_ok-symbol.was at c.in-Some.ensures.steps in
    let walk = c.loop-answer.answer-iterator in
    record {
      same_coder = step.0 ∙ c.loop-answer.invariant.same_coder;
      same_model = ap (λ m. m.now) step.1 ∙ c.loop-answer.invariant.same_model;
      so_far =
          rw c.in-Ok.ensures.items
          (turn-last (IsDecoded g.D.DecoderModel.stands_for (g.D.EntropyModel.rows c.args.model.now) g.row.PRECISION)
          c.loop-answer.symbols.items c.in_ok-symbol.symbol _ _ _ c.loop-answer.invariant.so_far
          (subst (λ m. IsDecoded g.D.DecoderModel.stands_for (g.D.EntropyModel.rows m) g.row.PRECISION c.in_ok-symbol.symbol
          (held_by walk.coder.now) (held_by c.next.new.self.coder.now))
          c.loop-answer.invariant.same_model step.2.1.ok));
    }
