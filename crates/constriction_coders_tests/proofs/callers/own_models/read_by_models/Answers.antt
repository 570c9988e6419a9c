use Rattle.std.proofs.Common.{◌≡◌, ◌∷◌, refl, ap, sym, ◌∙◌, subst, arith}
use Rattle.std.specs.Iterator.Adapters.{fuse_done, fuse_source}
use Rattle.std.specs.List.{zip}
use Rattle.std.specs.Slice.Iter.{iter_rest}
use Rattle.constriction.specs.lemmas.Turns.{turn-last}
use Rattle.constriction_coders.specs.RangeDecoder.{held_by}
use Rattle.constriction_coders.specs.Intervals.{IsRead}
use Rattle.constriction_coders_tests.proofs.OwnModels.{beside-more, beside-all}
use Rattle.constriction_coders_tests.proofs.callers.own_models.read_by_models.Goals as goal

pub loop-answer-init : goal.loop-answer-init
loop-answer-init g c =
    let walk = c.into_iter-answer-iterator.ensures.into_iter_gives in
    let made = c.decode_symbols-answer-items.ensures in
    let goes_on = ap (λ w. fuse_done w.models) walk ∙ made.begun in
    let none = c.new-answers.ensures.items in
    record {
      next =
          (subst (λ d. g.Source.ReadWords.can_read d.words) (sym (ap (λ w. w.coder.now) walk ∙ made.coder)) c.requires, λ _. tt);
      ends = rw goes_on tt;
      same_decoder = refl;
      goes_on = goes_on;
      few = rw none (omega arith);
      left = rw none (sym (ap (λ w. iter_rest (fuse_source w.models)) walk ∙ made.models.0));
      so_far = rw none (ap held_by (sym (ap (λ w. w.coder.now) walk ∙ made.coder)));
    }

pub loop-answer-preserved : goal.loop-answer-preserved
loop-answer-preserved g c =
    let h = c.loop-answer.invariant in
    let answers = c.loop-answer.answers.items in
    let models = c.args.models.now in
    let step = rw c.in_ok-symbol.was at c.in-Some.ensures.steps in
    let shows : iter_rest (fuse_source c.loop-answer.answer-iterator.models)
    ≡ step.1.0.now ∷ iter_rest (fuse_source c.next.new.self.models) = rw h.goes_on at step.1.1.0 in
    let more = beside-more answers c.in_ok-symbol.symbol models step.1.0.now (iter_rest (fuse_source c.next.new.self.models))
    (h.left ∙ shows) in
    record {
      next = c.in-Some.ensures.goes.keeps;
      ends = rw step.1.1.1 tt;
      same_decoder = step.0 ∙ h.same_decoder;
      goes_on = step.1.1.1;
      few = rw c.in-Ok.ensures.items more.2;
      left = rw c.in-Ok.ensures.items more.1;
      so_far =
          rw (c.in-Ok.ensures.items, more.0)
          (turn-last (λ other. IsRead g.D.DecoderModel.stands_for (g.D.EntropyModel.rows other.1) g.Source.ReadWords.read_gives
          g.row.PRECISION other.0) (zip answers models) (c.in_ok-symbol.symbol, step.1.0.now) _ _ _ h.so_far step.1.2.ok);
    }

pub returns-clause-count : goal.returns-clause-count
returns-clause-count g c =
    let h = c.loop-answer.invariant in
    let none = rw h.goes_on at c.in-None.ensures.steps.1.0.0 in
    beside-all c.loop-answer.answers.items c.args.models.now _ h.left none.0 h.few

pub returns-clause-run : goal.returns-clause-run
returns-clause-run g c = (held_by c.loop-answer.answer-iterator.coder.now, c.loop-answer.invariant.so_far)
