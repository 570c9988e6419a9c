use Rattle.std.proofs.Common.{◌<◌, ◌^◌, map, take}
use Rattle.std.specs.Prelude.{All}
use Rattle.std.specs.Bool.{beq}
use Rattle.constriction_coders.specs.Places.{entry_at}
use Rattle.constriction_coders.specs.Spans.{whole, IsNarrowed}
use Rattle.constriction_adaptive.specs.Numbers.{all_bits}
use Rattle.constriction_adaptive.specs.Predicted.{predicted_entry, AllTile, AreCoded}
use Rattle.constriction_adaptive.proofs.numbers.encode_numbers.Given as goal

-- the numbers so far were encoded and learned, and the rows of their states tile
abbrev pub invariant-loop-number : goal.invariant-loop-number
invariant-loop-number g l = record {
  so_far : AreCoded g.P.Predictor.next (λ s. IsNarrowed (entry_at (predicted_entry g.P.Predictor.rows beq) s) 16)
      (all_bits g.row.BITS (map g.Number.WholeNumber.whole (take l.number-index l.numbers)))
      (g.P.Predictor.state l.initial.predictor) whole (g.P.Predictor.state l.predictor) l.encoder;
  tile : AllTile g.P.Predictor.rows g.P.Predictor.next 16 (g.P.Predictor.state l.initial.predictor)
      (all_bits g.row.BITS (map g.Number.WholeNumber.whole (take l.number-index l.numbers)));
  small : All (λ n. n < 2 ^ g.row.BITS) (map g.Number.WholeNumber.whole (take l.number-index l.numbers));
}
