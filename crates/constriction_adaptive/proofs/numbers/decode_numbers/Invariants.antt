use Rattle.std.proofs.Common.{◌≡◌, ◌<◌, ◌^◌, length, map}
use Rattle.std.specs.Prelude.{All}
use Rattle.std.specs.Bool.{beq}
use Rattle.constriction_coders.specs.RangeDecoder.{held_by}
use Rattle.constriction_adaptive.specs.Numbers.{all_bits}
use Rattle.constriction_adaptive.specs.Predicted.{AreCoded, IsReadIn}
use Rattle.constriction_adaptive.proofs.numbers.decode_numbers.Given as goal

-- the numbers so far were decoded and learned
abbrev pub invariant-loop-done : goal.invariant-loop-done
invariant-loop-done g l = record {
  goes_on : g.Source.ReadWords.can_read l.decoder.words;
  counted : length l.numbers.items ≡ l.done;
  small : All (λ n. n < 2 ^ g.row.BITS) (map g.Number.WholeNumber.whole l.numbers.items);
  so_far : AreCoded g.P.Predictor.next (IsReadIn g.P.Predictor.rows (λ s t. t ≡ s) beq 16 g.Source.ReadWords.read_gives)
      (all_bits g.row.BITS (map g.Number.WholeNumber.whole l.numbers.items)) (g.P.Predictor.state l.initial.predictor)
      (held_by l.initial.decoder) (g.P.Predictor.state l.predictor) (held_by l.decoder);
}
