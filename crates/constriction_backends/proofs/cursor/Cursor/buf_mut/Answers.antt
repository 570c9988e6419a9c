use Rattle.std.proofs.Common.{refl}
use Rattle.constriction_backends.proofs.Over.{over_in_range}
use Rattle.constriction_backends.proofs.cursor.Cursor.buf_mut.Goals as goal

pub returns : goal.returns
returns g c = (
  (refl, λ w. search (over_in_range c.args.self.now (g.Buf.SafeBufMut.with_words c.args.self.now.buf w))),
  record { writes_back = tt; value = c.words_mut.ensures.value },
)
