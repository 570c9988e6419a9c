use Rattle.std.proofs.Common.{◌≡◌, ◌<◌, ◌^◌}
use Rattle.std.specs.Bool.{beq}
use Rattle.constriction_coders.specs.RangeDecoder.{held_by}
use Rattle.constriction_adaptive.specs.Numbers.{bits_of}
use Rattle.constriction_adaptive.specs.Predicted.{AreCoded, IsReadIn}
use Rattle.constriction_adaptive.proofs.numbers.decode_number.Given as goal

-- the bits so far are those of the number, and were decoded and learned
abbrev pub invariant-loop-done : goal.invariant-loop-done
invariant-loop-done g l = record {
  goes_on : g.Source.ReadWords.can_read l.decoder.words;
  below : l.number < 2 ^ l.done;
  so_far : AreCoded g.P.Predictor.next (IsReadIn g.P.Predictor.rows (λ s t. t ≡ s) beq 16 g.Source.ReadWords.read_gives)
      (bits_of l.done l.number) (g.P.Predictor.state l.initial.predictor) (held_by l.initial.decoder)
      (g.P.Predictor.state l.predictor) (held_by l.decoder);
}
