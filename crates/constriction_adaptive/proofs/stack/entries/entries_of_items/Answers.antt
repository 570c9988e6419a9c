use Rattle.std.proofs.Common.{[], ◌∷◌, ◌++◌, ◌∙◌, Err, map, ap}
use Rattle.constriction_model.specs.lemmas.Walks.{yields-more}
use Rattle.constriction_coders.specs.Places.{entry_at}
use Rattle.constriction_adaptive.specs.Predicted.{predicted_entry}
use Rattle.constriction_adaptive.proofs.Entries.{entries-next}
use Rattle.constriction_adaptive.proofs.stack.entries.entries_of_items.Goals as goal

pub turns-preserved : goal.turns-preserved
turns-preserved g c =
    let goes = c.in-Some.ensures.goes.on c.turns.invariant.ends in
    let h = c.turns.invariant.so_far in
    let kept = c.in-Ok.ensures.ok in
    let both = entries-next g.P.Predictor.next h.done c.in-Some.symbol (g.P.Predictor.state c.args.predictor.now) _ h.so_far.1
    (entry_at (predicted_entry g.P.Predictor.rows g.P.Model.EncoderModel.symbol_eq)) g.row.PRECISION
    (map g.K.StoredEntry.kept c.turns.entries.items) kept.0 _ h.so_far.0 kept.1 c.in-Ok.ensures.learned in
    record {
      next = goes.0;
      ends = goes.1;
      so_far = record {
        done = h.done ++ c.in-Some.symbol ∷ [];
        given =
            yields-more g.I.Iterator.next_gives c.args.symbols h.done c.turns.symbols c.in-Some.symbol c.next.new.self h.given
            c.in-Some.ensures.steps;
        so_far = (rw kept.2 both.0, both.1);
      };
    }

pub returns : goal.returns
returns g c =
    let h = c.turns.invariant.so_far in
    (h.done, (c.next.new.self, (c.turns.symbols, h.given, c.in_default.ensures.steps)), h.so_far.1, h.so_far.0)

pub returns-in-Err : goal.returns-in-Err
returns-in-Err g c =
    let h = c.turns.invariant.so_far in (
      h.done,
      c.in-Some.symbol,
      c.next.new.self,
      (c.turns.symbols, h.given, c.in-Some.ensures.steps),
      c.in-Err.ensures.unlearned ∙ h.so_far.1,
      λ is. rw c.in-Err.ensures.unlearned (c.in-Err.ensures.impossible (ap Err is)),
    )

pub turns-smaller : goal.turns-smaller
turns-smaller g c = (c.in-Some.ensures.goes.on c.turns.invariant.ends).2
