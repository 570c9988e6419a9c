use Rattle.std.proofs.Common.{◌∷◌, refl, subst, rules}
use Rattle.std.proofs.lemmas.List.Elements.{Contains-append_right}
use Rattle.constriction_model.specs.Coding.{InTurn}
use Rattle.constriction_model.specs.Rows.{entry_of}
use Rattle.constriction_coders.specs.Spans.{Span, IsNarrowed}
use Rattle.constriction_coders.proofs.Outcomes.{no-error, no-fault, equal-errors}
use Rattle.constriction_coders.proofs.laws.queue.message_of.Goals as goal

pub returns-in-Err : goal.returns-in-Err
returns-in-Err g c = record {
  ok = tt;
  impossible = λ is.
      let stops = c.in-Err.ensures.err in (
        stops.1,
        rw stops.3 (Contains-append_right stops.0 (stops.1 ∷ stops.2) stops.1 (0, search rules, refl)),
        stops.4.impossible _ (equal-errors _ _ is),
      );
}

pub returns-in-Ok-into_compressed : goal.returns-in-Ok-into_compressed
returns-in-Ok-into_compressed g c = record {
  ok = (
    c.encode_iid_slice.new.self,
    subst (λ (s : Span). InTurn (λ x. IsNarrowed (entry_of g.E.EncoderModel.symbol_eq (g.E.EntropyModel.rows c.args.encoder.now) x)
        g.row.PRECISION) c.args.symbols.now s c.encode_iid_slice.new.self) c.new-coder.ensures c.in-Ok.ensures.ok,
    c.in-Ok-into_compressed.ensures.ok,
  );
  impossible = λ is. absurd (no-error _ _ is);
}

pub returns-in-Err-into_compressed : goal.returns-in-Err-into_compressed
returns-in-Err-into_compressed g c = record { ok = tt; impossible = λ is. absurd (no-fault _ _ _ refl is) }
