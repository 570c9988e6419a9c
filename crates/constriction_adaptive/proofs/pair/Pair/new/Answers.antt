use Rattle.constriction_adaptive.proofs.PairLemmas.{tile-of-side}
use Rattle.either.specs.declared.Either.{Either}
use Rattle.either.specs.declared.Either.TheVariants.{Left}
use Rattle.constriction_adaptive.proofs.pair.Pair.new.Goals as goal

pub invariant_of-result : goal.invariant_of-result
invariant_of-result g c = record {
  each = c.requires;
  precise = c.rows_tile.ensures.precision;
  tile = tile-of-side {T = Either g.row.A-Symbol.Denot g.row.B-Symbol.Denot} Left 32 g.row.PRECISION _ c.rows_tile.ensures.tile;
}
