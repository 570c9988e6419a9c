use Rattle.std.proofs.Common.{◌≡◌, ◌≤◌, refl, ap, sym, inl, inr, arith, length, vec_capacity}
use Rattle.constriction_model.specs.Model.{RowMayBeRefused}
use Rattle.constriction_client.proofs.WordReading.{has-room, stays-full, also-full, read-none, read-more, reading-ends}
use Rattle.constriction_client.proofs.quantiles.read_symbols.Goals as goal

pub loop-done-init : goal.loop-done-init
loop-done-init g c = record {
  goes_on = c.requires.can_read;
  capacity = λ fits. refl;
  so_far = read-none _ _ _ _ _ _ _;
}

pub returns-in-Ok-None : goal.returns-in-Ok-None
returns-in-Ok-None g c = record {
  pairs =
      reading-ends _ _ _ _ _ g.met.R.ReadWords.reads_upcoming g.M.DecoderModel.may_refuse (vec_capacity c.loop-done.out) _ _ _ _
      c.loop-done.done _ _ _ _ c.loop-done.invariant.so_far
      (refl, refl, inr (c.loop-done-test.true, rw c.in-Ok-None.field-0-is at c.in-Ok-None.ensures.gives));
  capacity = c.loop-done.invariant.capacity;
  goes_on = c.read.ensures.goes_on;
}

pub returns-in-Err : goal.returns-in-Err
returns-in-Err g c = record {
  pairs =
      reading-ends _ _ _ _ _ g.met.R.ReadWords.reads_upcoming g.M.DecoderModel.may_refuse (vec_capacity c.loop-done.out) _ _ _ _
      c.loop-done.done _ _ _ _ c.loop-done.invariant.so_far
      (c.loop-done-test.true, refl, c.in-Err.ensures.gives);
  capacity = c.loop-done.invariant.capacity;
  goes_on = c.read.ensures.goes_on;
}

pub returns-in-Err-pair_of : goal.returns-in-Err-pair_of
returns-in-Err-pair_of g c = record {
  pairs =
      reading-ends _ _ _ _ _ g.met.R.ReadWords.reads_upcoming g.M.DecoderModel.may_refuse (vec_capacity c.loop-done.out) _ _ _ _
      c.loop-done.done _ _ _ _ c.loop-done.invariant.so_far (
        c.in-Ok-Some.word,
        c.loop-done-test.true,
        refl,
        rw c.in-Ok-Some.field-0-is at c.in-Ok-Some.ensures.gives,
        also-full g.M.DecoderModel.stands_for (g.M.EntropyModel.rows c.args.model.now) g.M.Probability.WholeNumber.whole g.row.PRECISION
            (RowMayBeRefused g.M.DecoderModel.may_refuse (g.M.EntropyModel.rows c.args.model.now))
            (vec_capacity c.loop-done.out ≤ length c.loop-done.out.items) c.in-Ok-Some.word _ c.in-Err-pair_of.ensures,
      );
  capacity = c.loop-done.invariant.capacity;
  goes_on = c.read.ensures.goes_on;
}

pub returns-in-Err-write : goal.returns-in-Err-write
returns-in-Err-write g c =
    let same = c.in-Err-write.ensures.gives.pushes in
    let full = c.in-Err-write.ensures.gives.refused in
    record {
      pairs =
          reading-ends _ _ _ _ _ g.met.R.ReadWords.reads_upcoming g.M.DecoderModel.may_refuse (vec_capacity c.write.new.self) _ _ _ _
          c.loop-done.done _ _ _ _
          (rw same c.loop-done.invariant.so_far) (
            c.in-Ok-Some.word,
            c.loop-done-test.true,
            refl,
            rw c.in-Ok-Some.field-0-is at c.in-Ok-Some.ensures.gives,
            (c.in-Ok.ensures.0, inr (omega (arith, full.0, full.1, ap length same))),
          );
      capacity = stays-full _ _ _ _ _ same full.1 c.loop-done.invariant.capacity;
      goes_on = c.read.ensures.goes_on;
    }

pub loop-done-preserved : goal.loop-done-preserved
loop-done-preserved g c = record {
  goes_on = c.read.ensures.goes_on;
  capacity = has-room _ _ _ _ _ _ c.in-Ok-write.ensures.gives.pushes c.in-Ok-write.ensures.gives.keeps c.loop-done.invariant.capacity;
  so_far =
      read-more _ _ _ _ _ _ _ _ _ _ c.in-Ok-Some.word c.in-Ok.pair _ _ c.loop-done.invariant.so_far
      (rw c.in-Ok-Some.field-0-is at c.in-Ok-Some.ensures.gives) c.in-Ok.ensures c.in-Ok-write.ensures.gives.pushes;
}

pub returns : goal.returns
returns g c = record {
  pairs =
      reading-ends _ _ _ _ _ g.met.R.ReadWords.reads_upcoming g.M.DecoderModel.may_refuse (vec_capacity c.loop-done.out) _ _ _
      c.args.count c.loop-done.done _ _ _ _ c.loop-done.invariant.so_far
      (let all : c.loop-done.done ≡ c.args.count = omega (arith, c.loop-done.auto.done-end, c.loop-done-test.false) in
      (sym all, refl, inl (all, refl)));
  capacity = c.loop-done.invariant.capacity;
  goes_on = c.loop-done.invariant.goes_on;
}
