use Rattle.std.proofs.Common.{◌≡◌, ◌++◌, inl, inr}
use Rattle.constriction_words.specs.declared.CoderError.TheVariants.{Frontend}
use Rattle.constriction_coders.specs.RangeDecoder.{held_by}
use Rattle.constriction_coders.specs.Spans.{whole}
use Rattle.constriction_coders.specs.declared.queue.range_decoder.DecoderFrontendError.TheVariants.{InvalidData}
use Rattle.constriction_coders.proofs.Messages.{came-back, not-invalid}
use Rattle.constriction_coders.proofs.Sealing.{sealed-tell}
use Rattle.constriction_coders.proofs.Spanning.{whole-reached}
use Rattle.constriction_coders.proofs.laws.queue.message_from.Goals as goal

pub returns-in-Ok-decode_iid_vec-clause-back : goal.returns-in-Ok-decode_iid_vec-clause-back
returns-in-Ok-decode_iid_vec-clause-back g c = λ symbols words more long message fit known.
    came-back (λ ss. ss) _ _ _ _ _ c.range_symbols_come_back.ensures.symbols (held_by c.in-Ok.opened) c.args.count
    c.in-Ok-decode_iid_vec.answers.items _ c.in-Ok-decode_iid_vec.ensures.ok symbols (words ++ more) whole message.0 whole-reached long
    message.1 (sealed-tell message.0 words more message.2 fit) (c.in-Ok.ensures.begins (words ++ more) known)
    c.in-Ok-decode_iid_vec.ensures.count

pub returns-clause-valid : goal.returns-clause-valid
returns-clause-valid g c = λ is symbols words more long message fit known.
    let same : c.in-Err-decode_iid_vec.error ≡ Frontend InvalidData = cc in
    let invalid = rw same at c.in-Err-decode_iid_vec.ensures.err in
    elim invalid.why [
      | inl fewer ↦
          not-invalid (λ ss. ss) _ _ _ _ _ c.range_symbols_come_back.ensures.symbols (held_by c.in-Ok.opened) c.args.count
          invalid.done (held_by invalid.reached) invalid.led symbols (words ++ more) whole message.0 whole-reached long message.1
          (sealed-tell message.0 words more message.2 fit) (c.in-Ok.ensures.begins (words ++ more) known) fewer.0 fewer.1.fault.0
      | inr none ↦ cc (none.3, none.4)
    ]
