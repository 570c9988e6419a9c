use Rattle.std.proofs.Common.{◌≡◌, ◌∙◌, reverse, sym}
use Rattle.std.proofs.lemmas.List.{length-reverse}
use Rattle.constriction_model.specs.lemmas.Turns.{are-equal}
use Rattle.constriction_coders.specs.AnsCoder.{held_by}
use Rattle.constriction_coders.proofs.laws.stack.there_and_back.Goals as goal

pub returns-in-Err-clause-encoding : goal.returns-in-Err-clause-encoding
returns-in-Err-clause-encoding g c = λ error is.
    let same : c.in-Err.error ≡ error = cc in rw same at c.in-Err.ensures.err

pub returns-in-Ok-decode_iid_vec-clause-coded : goal.returns-in-Ok-decode_iid_vec-clause-coded
returns-in-Ok-decode_iid_vec-clause-coded g c = (
  held_by c.encode_iid_slice.new.self,
  c.encoded_in_turn.ensures _ c.args.symbols.now _ _ c.in-Ok.ensures.ok,
  c.in-Ok-decode_iid_vec.ensures.ok,
)

pub returns-in-Err-decode_iid_vec-clause-decoding : goal.returns-in-Err-decode_iid_vec-clause-decoding
returns-in-Err-decode_iid_vec-clause-decoding g c = λ error is.
    let same : c.in-Err-decode_iid_vec.error ≡ error = cc in (
      held_by c.encode_iid_slice.new.self,
      c.encoded_in_turn.ensures _ c.args.symbols.now _ _ c.in-Ok.ensures.ok,
      rw same at c.in-Err-decode_iid_vec.ensures.err,
    )

pub returns-in-Ok-decode_iid_vec-clause-back : goal.returns-in-Ok-decode_iid_vec-clause-back
returns-in-Ok-decode_iid_vec-clause-back g c =
    (c.symbols_come_back.ensures.all.symbols (reverse c.args.symbols.now) c.in-Ok-decode_iid_vec.answers.items _ _ _
    (c.encoded_in_turn.ensures _ c.args.symbols.now _ _ c.in-Ok.ensures.ok) c.in-Ok-decode_iid_vec.ensures.ok
    (c.in-Ok-decode_iid_vec.ensures.count ∙ sym (length-reverse c.args.symbols.now))).0

pub returns-in-Ok-decode_iid_vec-clause-same : goal.returns-in-Ok-decode_iid_vec-clause-same
returns-in-Ok-decode_iid_vec-clause-same g c =
    (c.symbols_come_back.ensures.all.symbols (reverse c.args.symbols.now) c.in-Ok-decode_iid_vec.answers.items _ _ _
    (c.encoded_in_turn.ensures _ c.args.symbols.now _ _ c.in-Ok.ensures.ok) c.in-Ok-decode_iid_vec.ensures.ok
    (c.in-Ok-decode_iid_vec.ensures.count ∙ sym (length-reverse c.args.symbols.now))).1

pub returns-in-Ok-decode_iid_vec-clause-equal : goal.returns-in-Ok-decode_iid_vec-clause-equal
returns-in-Ok-decode_iid_vec-clause-equal g c = λ clones.
    are-equal g.D.DecoderModel.stands_for g.E.EncoderModel.symbol_eq g.met.E.EncoderModel.equality_law clones _ _
    (returns-in-Ok-decode_iid_vec-clause-back g c)
