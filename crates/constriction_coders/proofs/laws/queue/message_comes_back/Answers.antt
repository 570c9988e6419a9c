use Rattle.std.proofs.Common.{◌≡◌, [], Err, refl, ap, arith, sym, ◌∙◌}
use Rattle.std.proofs.lemmas.List.{append-nil}
use Rattle.constriction_model.specs.lemmas.Turns.{are-equal}
use Rattle.constriction_words.specs.declared.CoderError.TheVariants.{Frontend}
use Rattle.constriction_coders.specs.declared.queue.range_decoder.DecoderFrontendError.TheVariants.{InvalidData}
use Rattle.constriction_coders.proofs.laws.queue.message_comes_back.Goals as goal

pub returns-in-Ok-message_from-clause-back : goal.returns-in-Ok-message_from-clause-back
returns-in-Ok-message_from-clause-back g c =
    let known = append-nil c.in-Ok.words.items ∙ sym c.new_at_write_beginning-source.ensures.ahead in
    c.in-Ok-message_from.ensures.back c.args.symbols.now c.in-Ok.words.items [] refl c.in-Ok.ensures.ok
    (λ k d h. absurd (omega (arith, h))) known

pub returns-in-Ok-message_from-clause-equal : goal.returns-in-Ok-message_from-clause-equal
returns-in-Ok-message_from-clause-equal g c = λ clones.
    are-equal g.D.DecoderModel.stands_for g.E.EncoderModel.symbol_eq g.met.E.EncoderModel.equality_law clones _ _
    (returns-in-Ok-message_from-clause-back g c)

pub returns-in-Err-message_from-clause-valid : goal.returns-in-Err-message_from-clause-valid
returns-in-Err-message_from-clause-valid g c = λ is.
    let known = append-nil c.in-Ok.words.items ∙ sym c.new_at_write_beginning-source.ensures.ahead in
    let same : c.in-Err-message_from.error ≡ Frontend InvalidData = cc in
    c.in-Err-message_from.ensures.valid (ap Err same) c.args.symbols.now c.in-Ok.words.items [] refl c.in-Ok.ensures.ok
    (λ k d h. absurd (omega (arith, h))) known
