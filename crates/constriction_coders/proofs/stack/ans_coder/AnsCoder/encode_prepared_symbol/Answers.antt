use Rattle.std.proofs.Common.{refl, sym, arith}
use Rattle.constriction_model.specs.lemmas.Coding.{entry-within}
use Rattle.constriction_coders.proofs.Outcomes.{no-error, no-fault}
use Rattle.constriction_coders.proofs.stack.ans_coder.AnsCoder.encode_prepared_symbol.Goals as goal

pub put_prepared_entry-requires : goal.put_prepared_entry-requires
put_prepared_entry-requires g c = record {
  precision =
      let law = g.met.M.EntropyModel.precision_law c.args.model.now in
      record { positive = law.positive; fits = omega (arith, law.fits, g.met.M.Probability.ModelWord.width_law) };
  within =
      entry-within g.row.PRECISION g.M.EncoderModel.symbol_eq (g.M.EntropyModel.rows c.args.model.now) c.args.symbol.now
      (c.in-Some.entry.left, c.in-Some.entry.weight) c.in-Some.ensures (g.met.M.EncoderModel.within_law c.args.model.now);
}

pub returns-in-Ok : goal.returns-in-Ok
returns-in-Ok g c = record {
  ok = record {
    left = c.in-Some.entry.left;
    weight = c.in-Some.entry.weight;
    known = sym c.in-Some.ensures;
    top = c.in-Ok.ensures.ok;
  };
  impossible = λ fault is. absurd (no-error _ _ is);
  wrote = c.in-Ok.ensures.wrote;
  same = tt;
}

pub returns-in-Err : goal.returns-in-Err
returns-in-Err g c = record {
  ok = tt;
  impossible = λ fault is. absurd (no-fault _ _ _ refl is);
  wrote = c.in-Err.ensures.wrote;
  same = c.in-Err.ensures.same;
}
