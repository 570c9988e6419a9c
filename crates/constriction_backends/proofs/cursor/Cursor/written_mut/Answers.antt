use Rattle.std.proofs.Common.{◌≡◌, take, drop, ◌++◌}
use Rattle.constriction_backends.proofs.Parts.{part-begin}
use Rattle.constriction_backends.proofs.Over.{over_in_range}
use Rattle.constriction_backends.proofs.cursor.Cursor.written_mut.Goals as goal

pub returns : goal.returns
returns g c =
    let self = c.args.self.now in
    let words = g.Buf.SafeBuf.words_of self.buf in
    let value : c.part_mut.result.now ≡ take self.pos words = cc (c.part_mut.ensures.value, part-begin words self.pos) in (
      ((cc), λ w. search (over_in_range self (g.Buf.SafeBufMut.with_words self.buf (w ++ drop self.pos words)))),
      record { writes_back = tt; value = value },
    )
