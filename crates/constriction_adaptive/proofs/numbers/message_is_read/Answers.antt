use Rattle.constriction_adaptive.specs.Numbers.{all_bits}
use Rattle.constriction_adaptive.proofs.MessageReading.{message-back, message-read, tiles-of}
use Rattle.constriction_adaptive.proofs.numbers.message_is_read.Goals as goal

pub returns : goal.returns
returns g c =
    let rows = g.P.Predictor.rows in
    let next = g.P.Predictor.next in record {
      back = λ width first numbers answers words more small message fit.
          message-back rows next width first numbers words more small message fit answers;
      whatever_follows = λ width first numbers words more read message fit.
          message-read rows next width first numbers words more read.small message fit
          (tiles-of rows next (all_bits width numbers) first read.start read.end read.led);
    }
