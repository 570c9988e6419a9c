use Rattle.std.proofs.Common.{refl, ap, ◌∙◌, ◌≡◌, length, reverse}
use Rattle.constriction_backends.proofs.Turning.{state-turned}
use Rattle.constriction_backends.proofs.reverse.turned.Goals as goal

pub returns : goal.returns
returns g c =
    let words = g.Buf.SafeBuf.words_of c.args.cursor.buf in
    let new = c.reverse.new.self in
    let lent : c.words_mut-words.result.now ≡ words = c.words_mut-words.ensures.value in
    let turned : new ≡ reverse words = c.reverse.ensures.after ∙ ap reverse lent in
    let same : length new ≡ length words = c.reverse.ensures.len ∙ ap length lent in
    let made = g.Buf.SafeBuf.words_of (g.Buf.SafeBufMut.with_words c.args.cursor.buf new) in
    let stands : made ≡ new = g.met.Buf.SafeBufMut.stand c.args.cursor.buf new same in
    record {
      buf = ap (g.Buf.SafeBufMut.with_words c.args.cursor.buf) turned;
      pos = rw same refl;
      state = state-turned made new words c.args.cursor.pos stands turned c.args.cursor.in_range;
    }
