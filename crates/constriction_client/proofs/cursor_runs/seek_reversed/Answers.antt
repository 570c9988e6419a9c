use Rattle.constriction_backends.specs.Cursor.{buf_of, pos_of}
use Rattle.constriction_client.proofs.Stepping.{seek_back}
use Rattle.constriction_client.proofs.cursor_runs.seek_reversed.Goals as goal

pub returns-clause-replied : goal.returns-clause-replied
returns-clause-replied g c =
    seek_back (g.Buf.SafeBuf.words_of (buf_of c.args.reversed.now.0)) (g.Buf.SafeBuf.words_of (buf_of c.seek.new.self.0))
    c.words-len.result.now (pos_of c.args.reversed.now.0) c.args.position (pos_of c.seek.new.self.0) (rw c.in-Ok.ensures.gives.1)
    (rw c.buf.ensures at c.words-len.ensures) c.in-Ok.ensures.moved c.if-position-len.false
