use Rattle.std.proofs.Common.{◌≡◌, [], ◌∷◌, ◌++◌, List, ℕ, length, length-append, refl, ap, sym, subst, arith}
use Rattle.std.proofs.lemmas.Result.{err_from_is_err_and}
use Rattle.constriction_backends.specs.Source.{Reads}
use Rattle.constriction_backends.specs.lemmas.Source.{reads_more, reads_upcoming_all}
use Rattle.constriction_stored_weights.specs.StoredWeights.{weights_as_words}
use Rattle.constriction_stored_weights.proofs.StoredWeightsLemmas.{too-few}
use Rattle.constriction_stored_weights.proofs.weights.read_weights.Goals as goal

pub returns-in_err-count-clause-err : goal.returns-in_err-count-clause-err
returns-in_err-count-clause-err g c =
    let p = err_from_is_err_and c.from_residual.result c.from_residual.ensures.1 in
    rw (p.1, p.2) (record {
      words = [];
      begins = tt;
      reached = c.args.source.now;
      read = refl;
      answered = c.in_err-count.ensures.gives;
    })

pub returns-in_default-clause-err : goal.returns-in_default-clause-err
returns-in_default-clause-err g c =
    too-few g.Source.ReadWords.read_gives g.Source.ReadWords.tells_upcoming g.met.Source.ReadWords.reads_upcoming c.args.source.now _
    (record {
      words = [];
      begins = tt;
      reached = c.args.source.now;
      read = refl;
      answered = rw c.in_default.is at c.in_ok-count.ensures.gives;
    })

pub returns-in_default-2-clause-err : goal.returns-in_default-2-clause-err
returns-in_default-2-clause-err g c =
    too-few g.Source.ReadWords.read_gives g.Source.ReadWords.tells_upcoming g.met.Source.ReadWords.reads_upcoming c.args.source.now _
    (record {
      words = c.in-Some.count ∷ c.loop-done.weights.items;
      begins = omega (arith, c.loop-done.invariant.counted);
      reached = c.loop-done.source;
      read = c.loop-done.invariant.so_far;
      answered = rw c.in_default-2.is at c.in_ok-weight.ensures.gives;
    })

pub returns-in_err-weight-clause-err : goal.returns-in_err-weight-clause-err
returns-in_err-weight-clause-err g c =
    let p = err_from_is_err_and c.from_residual-in_err-weight.result c.from_residual-in_err-weight.ensures.1 in
    rw (p.1, p.2) (record {
      words = c.in-Some.count ∷ c.loop-done.weights.items;
      begins = omega (arith, c.loop-done.invariant.counted);
      reached = c.loop-done.source;
      read = c.loop-done.invariant.so_far;
      answered = c.in_err-weight.ensures.gives;
    })

pub loop-done-preserved : goal.loop-done-preserved
loop-done-preserved g c = record {
  goes_on = c.read-in-loop-done.ensures.goes_on;
  counted = omega (
    arith,
    ap length c.in-Ok.ensures.items,
    length-append c.loop-done.weights.items (c.in-Some-2.weight ∷ []),
    c.loop-done.invariant.counted,
  );
  room = c.in-Ok.ensures.room;
  so_far =
      subst (λ (ws : List ℕ). Reads g.Source.ReadWords.read_gives c.args.source.now (c.in-Some.count ∷ ws) c.read-in-loop-done.new.self)
      (sym c.in-Ok.ensures.items)
      (reads_more g.Source.ReadWords.read_gives c.args.source.now (c.in-Some.count ∷ c.loop-done.weights.items) c.loop-done.source
      c.in-Some-2.weight _ c.loop-done.invariant.so_far (rw c.in-Some-2.is at c.in_ok-weight.ensures.gives));
}

pub returns-clause-ok : goal.returns-clause-ok
returns-clause-ok g c =
    let many : c.in-Some.count ≡ length c.loop-done.weights.items = omega (arith, c.loop-done.invariant.counted) in
    let read = subst (λ n. Reads g.Source.ReadWords.read_gives c.args.source.now (n ∷ c.loop-done.weights.items) c.loop-done.source) many
    c.loop-done.invariant.so_far in
    record {
      read = read;
      known =
          reads_upcoming_all g.Source.ReadWords.read_gives g.Source.ReadWords.tells_upcoming g.met.Source.ReadWords.reads_upcoming
          c.args.source.now (weights_as_words c.loop-done.weights.items) c.loop-done.source read;
    }

pub returns-in-Err-clause-err : goal.returns-in-Err-clause-err
returns-in-Err-clause-err g c = (
  c.in-Some.count ∷ (c.loop-done.weights.items ++ c.in-Some-2.weight ∷ []),
  omega (
    arith,
    length-append c.loop-done.weights.items (c.in-Some-2.weight ∷ []),
    c.loop-done.invariant.counted,
    c.loop-done-test.true,
  ),
  reads_more g.Source.ReadWords.read_gives c.args.source.now (c.in-Some.count ∷ c.loop-done.weights.items) c.loop-done.source
      c.in-Some-2.weight _ c.loop-done.invariant.so_far (rw c.in-Some-2.is at c.in_ok-weight.ensures.gives),
)
