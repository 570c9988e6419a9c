use Rattle.std.proofs.Common.{refl, ap, Err, arith}
use Rattle.constriction_coders.specs.AnsCoder.{held_by}
use Rattle.constriction_coders.proofs.ComingBack.{put-once}
use Rattle.constriction_coders.proofs.Outcomes.{equal-errors, no-error}
use Rattle.constriction_coders.proofs.Steps.{decoded}
use Rattle.constriction_coders.proofs.stack.bits_back.decode.Goals as goal

pub take_from_vec-requires : goal.take_from_vec-requires
take_from_vec-requires g c =
    let own = c.in-Ok-symbol_by_other.ensures in
    record { fits = own.fits; some = own.some; within = own.within; from = own.from; to = own.to }

pub put_reserved-requires : goal.put_reserved-requires
put_reserved-requires g c =
    let own = c.in-Ok-symbol_by_other.ensures in
    record {
      precision = own.back_precision;
      some = own.back_some;
      within = own.back_within;
      room = omega (arith, c.in-Ok.ensures.room, c.take_from_vec.ensures.len, c.take_from_vec.ensures.capacity);
    }

pub put_reserved-requires-in-Err-symbol_by_other : goal.put_reserved-requires-in-Err-symbol_by_other
put_reserved-requires-in-Err-symbol_by_other g c = record {
  precision = c.in-Ok.ensures.precision;
  some = c.in-Ok.ensures.some;
  within = c.in-Ok.ensures.within;
  room = c.in-Ok.ensures.room;
}

pub returns-in-Ok-symbol_by_other : goal.returns-in-Ok-symbol_by_other
returns-in-Ok-symbol_by_other g c =
    let own = c.in-Ok-symbol_by_other.ensures in
    record {
      ok = record {
        latent = c.in-Ok.taken.0;
        drawn = held_by c.take_from_vec.new.coder;
        posterior = (
          own.back.0,
          own.back.1,
          record {
            left = c.in-Ok-symbol_by_other.returned.0;
            weight = c.in-Ok-symbol_by_other.returned.1;
            known = own.back.2;
            top = c.put_reserved.ensures.over;
          },
        );
        coded = held_by c.take_symbol.new.coder;
        likelihood = (
          own.found.0,
          own.found.1,
          decoded g.row.LIKELIHOOD_PRECISION c.in-Ok-symbol_by_other.coded.0 c.in-Ok-symbol_by_other.coded.1
              g.LikelihoodModel.DecoderModel.stands_for (g.LikelihoodModel.EntropyModel.rows own.found.0) own.found.2.0
              c.in-Ok-symbol_by_other.symbol _ _ _ refl own.found.2.2 own.found.2.1 c.take_from_vec.ensures.under,
        );
        prior = c.in-Ok.ensures.decoded;
      };
      impossible = λ fault is. absurd (no-error _ _ is);
      same = tt;
    }

pub returns : goal.returns
returns g c = record {
  ok = tt;
  impossible = λ fault is.
      let other = c.in-Err-symbol_by_other.ensures.impossible fault (ap Err (equal-errors _ _ is)) in (
        c.in-Ok.taken.0,
        held_by c.take_symbol.new.coder,
        c.in-Ok.ensures.decoded,
        other.0,
        other.1,
        other.2,
        other.3,
        other.4,
      );
  same =
      put-once g.row.PRIOR_PRECISION c.in-Ok.taken.1.0 c.in-Ok.taken.1.1 (held_by c.put_reserved-in-Err-symbol_by_other.new.coder)
      (held_by c.args.coder.now) (held_by c.take_symbol.new.coder) c.in-Ok.ensures.precision.fits
      c.put_reserved-in-Err-symbol_by_other.ensures.held c.may_be_held.ensures c.put_reserved-in-Err-symbol_by_other.ensures.over
      c.in-Ok.ensures.under;
}
