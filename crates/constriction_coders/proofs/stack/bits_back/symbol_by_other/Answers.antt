use Rattle.std.proofs.Common.{refl, arith}
use Rattle.std.proofs.lemmas.Fn.{says_at}
use Rattle.constriction_coders.proofs.Outcomes.{no-error, no-fault}
use Rattle.constriction_coders.proofs.stack.bits_back.symbol_by_other.Goals as goal

pub returns-in-Err : goal.returns-in-Err
returns-in-Err g c = record {
  found = tt;
  fits = tt;
  some = tt;
  within = tt;
  from = tt;
  to = tt;
  back = tt;
  back_precision = tt;
  back_some = tt;
  back_within = tt;
  impossible = λ fault is. absurd (no-fault _ _ _ refl is);
}

pub returns-in-Some : goal.returns-in-Some
returns-in-Some g c = record {
  found = (
    c.chosen-model.result,
    says_at g.Chosen.Fn c.chosen-model.ensures refl,
    rw c.quantile_of.ensures at c.in-Ok.ensures.row,
  );
  fits =
      omega (
        arith,
        (g.met.Model.EntropyModel.precision_law c.chosen-model.result).fits,
        g.met.Model.Probability.ModelWord.width_law,
      );
  some = c.in-Ok.ensures.some;
  within = c.in-Ok.ensures.within;
  from = rw c.quantile_of.ensures at c.in-Ok.ensures.from;
  to = rw c.quantile_of.ensures at c.in-Ok.ensures.to;
  back = (c.back-back_model.result, says_at g.Back.Fn c.back-back_model.ensures refl, c.in-Some.ensures.known);
  back_precision = c.entry_of_symbol.ensures.precision;
  back_some = c.in-Some.ensures.some;
  back_within = c.in-Some.ensures.within;
  impossible = λ fault is. absurd (no-error _ _ is);
}

pub returns : goal.returns
returns g c = record {
  found = tt;
  fits = tt;
  some = tt;
  within = tt;
  from = tt;
  to = tt;
  back = tt;
  back_precision = tt;
  back_some = tt;
  back_within = tt;
  impossible = λ fault is.
      let row = c.in-Ok.ensures.row in (
        c.in-Ok.answer.0,
        (
          c.chosen-model.result,
          says_at g.Chosen.Fn c.chosen-model.ensures refl,
          _,
          rw c.quantile_of.ensures at row.2,
          row.1,
        ),
        c.back-back_model.result,
        says_at g.Back.Fn c.back-back_model.ensures refl,
        c.in-None.ensures.none refl,
      );
}
