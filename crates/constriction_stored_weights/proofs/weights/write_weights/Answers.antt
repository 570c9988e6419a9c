use Rattle.std.proofs.Common.{◌≡◌, suc, [], ◌∷◌, List, ℕ, length, take, drop, get_or, refl, ap, sym, subst}
use Rattle.std.proofs.Math.Seq.{split_at}
use Rattle.std.proofs.lemmas.List.{take_more, take_all}
use Rattle.std.proofs.lemmas.Result.{err_from_is_err_and}
use Rattle.constriction_backends.specs.Sink.{Writes}
use Rattle.constriction_backends.specs.lemmas.Sink.{writes_more, writes_append_all}
use Rattle.constriction_stored_weights.specs.StoredWeights.{weights_as_words}
use Rattle.constriction_stored_weights.proofs.weights.write_weights.Goals as goal

pub returns-in_err-write-clause-err : goal.returns-in_err-write-clause-err
returns-in_err-write-clause-err g c =
    let p = err_from_is_err_and c.from_residual.result c.from_residual.ensures.1 in
    rw (p.1, p.2) (record {
      before = [];
      word = length c.args.weights.now;
      after = c.args.weights.now;
      split = refl;
      reached = c.args.sink.now;
      written = refl;
      refused = c.in_err-write.ensures.gives;
    })

pub returns-in_err-write-2-clause-err : goal.returns-in_err-write-2-clause-err
returns-in_err-write-2-clause-err g c =
    let p = err_from_is_err_and c.from_residual-in_err-write-2.result c.from_residual-in_err-write-2.ensures.1 in
    let i = c.loop-weight.weight-index in
    let weights = c.args.weights.now in
    rw (p.1, p.2) (record {
      before = length weights ∷ take i weights;
      word = get_or weights i 0;
      after = drop (suc i) weights;
      split = ap (λ ws. length weights ∷ ws) (split_at weights i 0 c.loop-weight-test.true);
      reached = c.loop-weight.sink;
      written = c.loop-weight.invariant.so_far;
      refused = c.in_err-write-2.ensures.gives;
    })

pub loop-weight-preserved : goal.loop-weight-preserved
loop-weight-preserved g c =
    let i = c.loop-weight.weight-index in
    let weights = c.args.weights.now in
    record {
      goes_on = c.write-in-loop-weight.ensures.goes_on;
      so_far =
          subst (λ (ws : List ℕ). Writes g.Sink.WriteWords.write_gives c.args.sink.now (length weights ∷ ws)
          c.write-in-loop-weight.new.self)
          (sym (take_more weights i 0 c.loop-weight-test.true))
          (writes_more g.Sink.WriteWords.write_gives c.args.sink.now (length weights ∷ take i weights) c.loop-weight.sink _ _
          c.loop-weight.invariant.so_far c.in_ok-write-2.ensures.gives);
    }

pub returns-clause-ok : goal.returns-clause-ok
returns-clause-ok g c =
    let weights = c.args.weights.now in
    let all : take c.loop-weight.weight-index weights ≡ weights = take_all _ _ c.loop-weight-test.false in
    let written = subst (λ (ws : List ℕ). Writes g.Sink.WriteWords.write_gives c.args.sink.now (length weights ∷ ws) c.loop-weight.sink)
    all c.loop-weight.invariant.so_far in
    record {
      written = written;
      known =
          writes_append_all g.Sink.WriteWords.write_gives g.Sink.WriteWords.tells_written g.met.Sink.WriteWords.writes_append
          c.args.sink.now (weights_as_words weights) c.loop-weight.sink written;
    }
