use Rattle.std.proofs.Common.{ap, sym, subst}
use Rattle.constriction_coders.specs.Places.{entry_by}
use Rattle.constriction_coders.proofs.Giving.{taken-with, turns-own}
use Rattle.constriction_coders.proofs.encode.Encode.encode_iid_symbols.Goals as goal

pub returns : goal.returns
returns g c =
    let took = c.encode_symbols.ensures in
    let model = c.args.model in
    let own = turns-own
    (λ pair. g.Self.Encode.is_encoded (entry_by g.E.EncoderModel.symbol_eq (λ m. g.E.EntropyModel.rows m.now) pair))
    (λ x. (x, model)) in (
      took.0.symbols,
      subst (λ it. g.I.IntoIterator.into_iter_gives c.args.symbols it) (sym (ap (λ s. s.symbols) took.1))
          c.into_iter-symbols.ensures.into_iter_gives,
      taken-with (λ s. s.symbols) (λ s. s.model) g.I.IntoIter.Iterator.next_gives model took.0 c.encode_symbols.result _ _ _ _
          (ap (λ s. s.model) took.1) (λ xs led. own xs _ _ led)
          (λ xs x e stops. record {
            reached = stops.reached;
            led = own xs _ _ stops.led;
            impossible = stops.impossible;
            step = stops.step;
            same = stops.same;
          }) took.2,
    )
