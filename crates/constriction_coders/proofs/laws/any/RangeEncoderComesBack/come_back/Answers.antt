use Rattle.std.proofs.Common.{refl, subst}
use Rattle.constriction_model.specs.Coding.{InTurn}
use Rattle.constriction_model.specs.Rows.{entry_of}
use Rattle.constriction_coders.specs.RangeDecoder.{held_by}
use Rattle.constriction_coders.specs.Spans.{Span, IsNarrowed}
use Rattle.constriction_coders.proofs.Messages.{came-back}
use Rattle.constriction_coders.proofs.Spanning.{whole-reached}
use Rattle.constriction_coders.proofs.laws.any.RangeEncoderComesBack.come_back.Goals as goal

pub returns : goal.returns
returns g c = λ symbols answers first full opened last begun led opens decoded long.
    came-back (λ ss. ss) _ _ _ _ _ c.range_symbols_come_back.ensures.symbols (held_by opened) _ answers _ decoded symbols opens.0
    _ _ whole-reached refl
    (subst (λ (s : Span). InTurn (λ x. IsNarrowed (entry_of g.E.EncoderModel.symbol_eq (g.E.EntropyModel.rows c.args.encoder.now) x)
    g.row.PRECISION) symbols s full) begun led)
    opens.1 opens.2 long
