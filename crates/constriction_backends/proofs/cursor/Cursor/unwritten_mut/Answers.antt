use Rattle.std.proofs.Common.{ap, ◌≡◌, length, drop, ℕ}
use Rattle.constriction_backends.proofs.Parts.{with_part-end, part-end}
use Rattle.constriction_backends.proofs.Over.{over_known}
use Rattle.constriction_backends.proofs.cursor.Cursor.unwritten_mut.Goals as goal

pub returns : goal.returns
returns g c =
    let self = c.args.self.now in
    let words = g.Buf.SafeBuf.words_of self.buf in
    let to : ℕ = length c.words-len.result.now in
    let end : to ≡ length words = ap length c.words-len.ensures in
    let value : c.part_mut.result.now ≡ drop self.pos words = cc (c.part_mut.ensures.value, part-end words self.pos to end) in (
      ((cc), λ w. search (over_known self, ap (g.Buf.SafeBufMut.with_words self.buf) (with_part-end words self.pos to w end))),
      record { writes_back = tt; value = value },
    )
