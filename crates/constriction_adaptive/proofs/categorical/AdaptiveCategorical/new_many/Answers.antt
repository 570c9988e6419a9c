use Rattle.std.proofs.Common.{◌∙◌, arith}
use Rattle.constriction_stored_rows.specs.Stored.{lefts_in}
use Rattle.constriction_adaptive.specs.Categorical.{even_lefts}
use Rattle.constriction_adaptive.proofs.ListLemmas.{map_more}
use Rattle.constriction_adaptive.proofs.categorical.AdaptiveCategorical.new_many.Goals as goal

pub loop-preserved : goal.loop-preserved
loop-preserved g c = record {
  long = omega (arith, c.push_reserved.ensures.len, c.loop.invariant.long);
  room = c.push_reserved.ensures.capacity ∙ c.loop.invariant.room;
  even =
      map_more (λ m. lefts_in m.cdf.items) _ c.loop.made.items c.in-Ok-new.predictor c.loop.counter
      (even_lefts g.row.PRECISION c.args.symbols) c.push_reserved.ensures.items c.loop.invariant.even c.in-Ok-new.ensures.ok;
}
