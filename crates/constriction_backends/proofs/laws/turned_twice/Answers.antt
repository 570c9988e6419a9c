use Rattle.constriction_backends.proofs.CursorRunLaws.{turned_twice}
use Rattle.constriction_backends.proofs.laws.turned_twice.Goals as goal

pub returns : goal.returns
returns g c =
    let laws = g.met.Buf.SafeBufMut in
    turned_twice g.Buf.SafeBufMut.with_words laws.stand laws.keeps_length laws.unchanged laws.again
