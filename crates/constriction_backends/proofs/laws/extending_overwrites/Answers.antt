use Rattle.constriction_backends.proofs.CursorRunLaws.{extending_overwrites}
use Rattle.constriction_backends.proofs.laws.extending_overwrites.Goals as goal

pub returns : goal.returns
returns g c =
    let laws = g.met.Buf.SafeBufMut in
    extending_overwrites g.Buf.SafeBufMut.with_words laws.stand laws.keeps_length laws.unchanged laws.again g.row.WriteError.Denot
