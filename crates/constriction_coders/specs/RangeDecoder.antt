-- A range decoder as one value.
use Rattle.std.specs.Prelude.{ℕ}
use Rattle.std.specs.declared.fmt.Debug as shown
use Rattle.constriction_words.specs.declared.Queue.{Queue}
use Rattle.constriction_backends.specs.declared.ReadWords as source
use Rattle.constriction_coders.specs.declared.queue.range_decoder.RangeDecoder.{RangeDecoder}
use Rattle.constriction_coders.specs.Intervals.{Held, held_of}

module _ {S ReadError : Type 0} {reads : source.Ghosts S ℕ Queue ReadError} {shows : shown.Ghosts ReadError} where
  -- the interval of a decoder with the point in it, and its source
  abbrev pub held_by : RangeDecoder S ReadError reads shows → Held S
  held_by decoder = held_of decoder.range decoder.offset decoder.words
