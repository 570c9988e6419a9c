use Rattle.std.proofs.Common.{◌++◌, [], arith, sym, ◌∙◌}
use Rattle.std.proofs.lemmas.List.{append-nil}
use Rattle.constriction_coders.proofs.into_decoder.RangeEncoderIntoDecoder.into_decoder.Goals as goal

pub returns-clause-ok : goal.returns-clause-ok
returns-clause-ok g c =
    let words = c.in_ok-words.words.items in
    let known = append-nil words ∙ sym c.new_at_write_beginning.ensures.ahead in (
      words ++ [],
      c.sealed_words_tell.ensures c.args.self words [] c.in_ok-words.ensures.ok (λ k d h. absurd (omega (arith, h))),
      c.in-Ok.ensures.begins (words ++ []) known,
    )
