use Rattle.std.proofs.Common.{ap, sym, ◌∙◌, subst, reverse}
use Rattle.std.proofs.lemmas.List.{length-reverse}
use Rattle.constriction_model.specs.Coding.{InTurn}
use Rattle.constriction_coders.specs.AnsCoder.{held_by}
use Rattle.constriction_coders.specs.Steps.{Content, IsDecoded}
use Rattle.constriction_coders.proofs.laws.any.AnsCoderComesBack.come_back.Goals as goal

pub returns : goal.returns
returns g c = λ symbols answers first full opened last begun led opens decoded long.
    (c.symbols_come_back.ensures.all.symbols (reverse symbols) answers (held_by full) _ _
    (c.encoded_in_turn.ensures _ symbols _ _ led)
    (subst
    (λ (s : Content). InTurn (IsDecoded g.D.DecoderModel.stands_for (g.D.EntropyModel.rows c.args.decoder.now) g.row.PRECISION)
    answers s (held_by last))
    (ap held_by opens) decoded)
    (long ∙ sym (length-reverse symbols))).0
