use Rattle.std.proofs.Common.{[], ◌∷◌, ◌++◌, Err, refl, ap}
use Rattle.constriction_model.specs.lemmas.Turns.{turn-last}
use Rattle.constriction_model.specs.lemmas.Walks.{yields-more}
use Rattle.constriction_coders.proofs.encode.Encode.encode_symbols.Goals as goal

pub turns-init : goal.turns-init
turns-init g c =
    let ends = c.requires c.into_iter-given.result c.into_iter-given.ensures.into_iter_gives in
    record { next = ends.0; ends = ends.1; so_far = record { done = []; given = refl; so_far = refl } }

pub turns-preserved : goal.turns-preserved
turns-preserved g c =
    let goes = c.in-Some.ensures.goes.on c.turns.invariant.ends in
    let h = c.turns.invariant.so_far in
    record {
      next = goes.0;
      ends = goes.1;
      so_far = record {
        done = h.done ++ c.in-Some.pair ∷ [];
        given =
            yields-more g.I.IntoIter.Iterator.next_gives c.into_iter-given.result h.done c.turns.given c.in-Some.pair c.next.new.self
            h.given
            c.in-Some.ensures.steps;
        so_far = turn-last _ h.done c.in-Some.pair _ _ _ h.so_far c.in-Ok.ensures.ok;
      };
    }

pub returns : goal.returns
returns g c =
    let h = c.turns.invariant.so_far in (
      c.into_iter-given.result,
      c.into_iter-given.ensures.into_iter_gives,
      (h.done, (c.next.new.self, (c.turns.given, h.given, c.in_default.ensures.steps)), h.so_far),
    )

pub returns-in-Err : goal.returns-in-Err
returns-in-Err g c =
    let h = c.turns.invariant.so_far in (
      c.into_iter-given.result,
      c.into_iter-given.ensures.into_iter_gives,
      (
        h.done,
        c.in-Some.pair,
        c.next.new.self,
        (c.turns.given, h.given, c.in-Some.ensures.steps),
        record {
          reached = c.turns.self;
          led = h.so_far;
          impossible = λ fault is. c.in-Err.ensures.impossible fault (ap Err is);
          step = c.in-Err.ensures.step;
          same = c.in-Err.ensures.same;
        },
      ),
    )

pub turns-smaller : goal.turns-smaller
turns-smaller g c = (c.in-Some.ensures.goes.on c.turns.invariant.ends).2
