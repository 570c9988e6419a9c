use Rattle.std.proofs.Common.{◌≡◌, ◌-◌, ◌^◌, Err, ap, arith}
use Rattle.constriction_coders.specs.Intervals.{interval}
use Rattle.constriction_coders.proofs.Decoding.{begins-whole}
use Rattle.constriction_coders.proofs.queue.range_decoder.RangeDecoder.from_compressed.Goals as goal

pub returns-in-Err-clause-failed : goal.returns-in-Err-clause-failed
returns-in-Err-clause-failed g c = λ error is.
    let same : c.in-Err.error ≡ error = cc in
    (c.args.words, c.next_or_zero.new.source, c.in-Err.ensures.failed error (ap Err same))

pub returns-in-Err-next_or_zero-clause-failed : goal.returns-in-Err-next_or_zero-clause-failed
returns-in-Err-next_or_zero-clause-failed g c = λ error is.
    let same : c.in-Err-next_or_zero.error ≡ error = cc in
    (c.next_or_zero.new.source, c.next_or_zero-2.new.source, c.in-Err-next_or_zero.ensures.failed error (ap Err same))

pub returns-in-Ok-next_or_zero-clause-begins : goal.returns-in-Ok-next_or_zero-clause-begins
returns-in-Ok-next_or_zero-clause-begins g c = λ known tells.
    let high = c.in-Ok.ensures.ok in
    let low = c.in-Ok-next_or_zero.ensures.ok in
    begins-whole g.Source.ReadWords.read_gives g.Source.ReadWords.tells_upcoming g.met.Source.ReadWords.reads_upcoming c.args.words _ _
    c.next_or_zero-2.new.source (
      high.0,
      low.0,
      c.next_or_zero.new.source,
      high.1,
      low.1,
      ap (λ n. interval (2 ^ 64 - 1) n)
          (omega (arith, high.2, low.2, c.in-Ok.ensures.small, c.in-Ok-next_or_zero.ensures.small)),
    ) known tells
