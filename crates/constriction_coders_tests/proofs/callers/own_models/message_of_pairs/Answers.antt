use Rattle.std.proofs.Common.{ap, sym, ◌∙◌, subst}
use Rattle.constriction.specs.Coding.{InTurn}
use Rattle.constriction_coders.specs.Places.{entry_by}
use Rattle.constriction_coders.specs.Spans.{IsNarrowed}
use Rattle.constriction_coders_tests.proofs.OwnModels.{all-given}
use Rattle.constriction_coders_tests.proofs.callers.own_models.message_of_pairs.Goals as goal

pub returns-in-Ok-into_compressed : goal.returns-in-Ok-into_compressed
returns-in-Ok-into_compressed g c = λ rest shows.
    let took = c.encode_symbols.ensures in
    let all = rw c.in-Ok.is at took.2 in
    let given = all-given g.I.Iterator.next_gives rest shows all.0 took.0 all.1.1.0 all.1.0 all.1.1.1 all.1.1.2 in
    let whole_list = ap rest (sym took.1) ∙ given in (
      c.encode_symbols.new.self,
      rw c.new-coder.ensures at (subst (λ ps.
          InTurn (λ s. IsNarrowed (entry_by g.E.EncoderModel.symbol_eq g.E.EntropyModel.rows s) g.row.PRECISION) ps c.new-coder.result
          c.encode_symbols.new.self) (sym whole_list) all.2),
      c.in-Ok-into_compressed.ensures.ok,
    )
