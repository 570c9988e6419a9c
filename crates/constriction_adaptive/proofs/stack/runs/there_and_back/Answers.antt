use Rattle.std.proofs.Common.{ap, fold, sym, ◌∙◌, subst}
use Rattle.constriction_model.specs.Coding.{InTurn, StandsForEqual}
use Rattle.constriction_coders.specs.AnsCoder.{held_by}
use Rattle.constriction_coders.specs.Places.{placed}
use Rattle.constriction_adaptive.specs.Predicted.{IsTakenIn}
use Rattle.constriction_adaptive.proofs.Runs.{same-state}
use Rattle.constriction_adaptive.proofs.stack.runs.there_and_back.Goals as goal

pub returns-in-Ok-decode_adaptively : goal.returns-in-Ok-decode_adaptively
returns-in-Ok-decode_adaptively g c =
    let next = g.P.Predictor.next in
    let first = g.P.Predictor.state c.args.encoding.now in
    let symbols = c.args.symbols.now in
    let answers = c.in-Ok-decode_adaptively.answers.items in
    let Stands = g.P.Model.DecoderModel.stands_for in
    let eq = g.P.Model.EncoderModel.symbol_eq in
    let stacked = c.in-Ok.ensures.ok in
    let coded = c.in-Ok-decode_adaptively.ensures.ok in
    let both = (c.symbols_come_back.ensures first).symbols symbols answers _ _ _ stacked.led
    (subst (λ s. InTurn (IsTakenIn g.P.Predictor.rows Stands eq g.row.PRECISION) (placed next s answers)
    (held_by c.encode_adaptively.new.coder) (held_by c.decode_adaptively.new.coder)) c.requires coded.led)
    c.in-Ok-decode_adaptively.ensures.count in record {
      back = both.0;
      learned = stacked.learned;
      one_state =
          coded.learned ∙ ap (λ s. fold next s answers) c.requires
          ∙ same-state next (StandsForEqual Stands eq) g.met.P.Predictor.next_law first symbols answers both.0 ∙ sym stacked.learned;
      same = both.1;
      err = λ error is. cc;
    }
