use Rattle.std.proofs.Common.{ap, inl, inr, refl, Err}
use Rattle.constriction_coders.proofs.Outcomes.{no-error, equal-errors}
use Rattle.constriction_coders.proofs.Steps.{decoded}
use Rattle.constriction_coders.proofs.stack.bits_back.encode.Goals as goal

pub exchange-requires : goal.exchange-requires
exchange-requires g c =
    let found = c.in-Ok.ensures in
    record {
      drawn_fits = found.fits;
      drawn_some = found.some;
      drawn_within = found.within;
      from = found.from;
      to = found.to;
      coded_precision = found.back_precision;
      coded_some = found.back_some;
      coded_within = found.back_within;
      paid_precision = c.entry_of_symbol.ensures.precision;
      paid_some = c.in-Some.ensures.some;
      paid_within = c.in-Some.ensures.within;
    }

pub returns-in-Err : goal.returns-in-Err
returns-in-Err g c = record {
  ok = tt;
  impossible = λ fault is.
      let other = c.in-Err.ensures.impossible fault (ap Err (equal-errors _ _ is)) in
      (other.0, other.1, other.2, other.3, inr other.4);
  same = refl;
}

pub returns-in_default : goal.returns-in_default
returns-in_default g c = record {
  ok = tt;
  impossible = λ fault is.
      let own = c.in-Ok.ensures.found in
      (c.in-Ok.found.0, (own.0, own.1, _, own.2.2, own.2.1), c.in-Ok.ensures.back.0, c.in-Ok.ensures.back.1, inl (c.in_default.ensures.none refl));
  same = refl;
}

pub returns-in-Ok-exchange : goal.returns-in-Ok-exchange
returns-in-Ok-exchange g c =
    let moved = c.in-Ok-exchange.ensures.ok in
    let own = c.in-Ok.ensures.found in
    record {
      ok = record {
        latent = c.in-Ok.found.0;
        drawn = moved.0;
        posterior = (
          own.0,
          own.1,
          decoded g.row.POSTERIOR_PRECISION c.in-Ok.found.1.0 c.in-Ok.found.1.1 g.PosteriorModel.DecoderModel.stands_for
              (g.PosteriorModel.EntropyModel.rows own.0) own.2.0 c.in-Ok.found.0 _ _ _ refl own.2.2 own.2.1 moved.2,
        );
        coded = moved.1;
        likelihood = (
          c.in-Ok.ensures.back.0,
          c.in-Ok.ensures.back.1,
          record {
            left = c.in-Ok.found.2.0;
            weight = c.in-Ok.found.2.1;
            known = c.in-Ok.ensures.back.2;
            top = moved.3;
          },
        );
        prior = record {
          left = c.in-Some.paid.0;
          weight = c.in-Some.paid.1;
          known = c.in-Some.ensures.known;
          top = moved.4;
        };
      };
      impossible = λ fault is. absurd (no-error _ _ is);
      same = tt;
    }
