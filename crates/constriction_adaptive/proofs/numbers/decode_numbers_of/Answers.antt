use Rattle.std.proofs.Common.{◌≡◌, ℕ, List, Err, ap, map, subst, sym, ◌∙◌}
use Rattle.std.proofs.lemmas.List.{length-map}
use Rattle.constriction_words.specs.declared.CoderError.TheVariants.{Frontend}
use Rattle.constriction_coders.specs.declared.queue.range_decoder.DecoderFrontendError.TheVariants.{InvalidData}
use Rattle.constriction_adaptive.specs.Numbers.{AreReadFrom}
use Rattle.constriction_adaptive.proofs.numbers.decode_numbers_of.Goals as goal

pub returns-in-Ok-clause-ok : goal.returns-in-Ok-clause-ok
returns-in-Ok-clause-ok g c = λ first begins. (
  (rw begins at c.in-Ok.ensures.ok) c.args.words.now (sym c.new_at_write_beginning-source.ensures.ahead),
  rw begins at c.in-Ok.ensures.learned,
)

pub returns-in-Ok-clause-back : goal.returns-in-Ok-clause-back
returns-in-Ok-clause-back g c = λ first numbers message more begins small long sent fit is.
    let answers = map g.Number.WholeNumber.whole c.in-Ok.numbers.items in
    let read = (returns-in-Ok-clause-ok g c first begins).0 in
    let all = subst (λ (ws : List ℕ). AreReadFrom g.row.BITS g.P.Predictor.rows g.P.Predictor.next first answers ws) is read in
    c.message_is_read.ensures.back g.row.BITS first numbers answers message more small sent fit all
    (length-map c.in-Ok.numbers.items g.Number.WholeNumber.whole ∙ c.in-Ok.ensures.count ∙ sym long)

pub returns-in-Err-Frontend-clause-valid : goal.returns-in-Err-Frontend-clause-valid
returns-in-Err-Frontend-clause-valid g c = λ is first numbers begins long read.
    let same : c.in-Err-Frontend.error ≡ InvalidData = cc in
    (rw begins at c.in-Err-Frontend.ensures.valid) (ap Err (c.in-Err-Frontend.field-0-is ∙ ap Frontend same)) numbers c.args.words.now long
    read (sym c.new_at_write_beginning-source.ensures.ahead)
