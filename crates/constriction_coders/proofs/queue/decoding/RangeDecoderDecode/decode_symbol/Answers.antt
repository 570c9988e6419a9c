use Rattle.std.proofs.Common.{refl}
use Rattle.constriction_coders.proofs.Intervals.{read_part}
use Rattle.constriction_coders.proofs.Outcomes.{no-error, no-fault}
use Rattle.constriction_coders.proofs.queue.decoding.RangeDecoderDecode.decode_symbol.Goals as goal

pub returns-in-Ok-hold : goal.returns-in-Ok-hold
returns-in-Ok-hold g c =
    let row = c.in-Ok.ensures.row in
    let part = c.part_of-range.ensures in
    record {
      goes_on = c.hold.ensures.goes_on;
      ok =
          read_part g.D.DecoderModel.stands_for _ g.Source.ReadWords.read_gives g.row.PRECISION _ _ c.unit_of-unit.result
          c.unit_of-unit.ensures.value row.0 c.in-Ok.symbol c.in-Ok.entry.0 c.in-Ok.entry.1 _ _ row.2.among row.1 part.low part.high
          part.range part.offset _ _ c.in-Ok-hold.ensures.ok;
      step = record { inside = c.in-Ok-hold.ensures.inside; fault = tt; same = tt };
      same = λ fault is. absurd (no-error _ _ is);
    }

pub returns-in-Err : goal.returns-in-Err
returns-in-Err g c = record {
  goes_on = c.hold.ensures.goes_on;
  ok = tt;
  step = record { inside = tt; fault = c.in-Err.ensures.failed _ refl; same = c.in-Err.ensures.same };
  same = λ fault is. absurd (no-fault _ _ _ refl is);
}
