use Rattle.std.proofs.Common.{inl, refl}
use Rattle.constriction_coders.specs.AnsCoder.{held_by}
use Rattle.constriction_coders.proofs.Steps.{decoded, needs-row}
use Rattle.constriction_coders.proofs.stack.coding.AnsCoderDecode.decode_symbol.Goals as goal

pub returns-in-Err-clause-step : goal.returns-in-Err-clause-step
returns-in-Err-clause-step g c =
    record { fault = rw c.quantile_of-quantile.ensures at c.in-Err.ensures.refused; read = inl refl; same = refl }

pub returns-in-Ok-take_entry-clause-ok : goal.returns-in-Ok-take_entry-clause-ok
returns-in-Ok-take_entry-clause-ok g c =
    let row = c.in-Ok.ensures.row in
    decoded g.row.PRECISION c.in-Ok.answer.1.0 c.in-Ok.answer.1.1 g.D.DecoderModel.stands_for (g.D.EntropyModel.rows c.args.model.now)
    row.0 c.in-Ok.answer.0 c.quantile_of-quantile.result _ _ c.quantile_of-quantile.ensures row.2 row.1 c.in-Ok-take_entry.ensures.ok

pub returns-in-Err-take_entry-clause-step : goal.returns-in-Err-take_entry-clause-step
returns-in-Err-take_entry-clause-step g c =
    let row = c.in-Ok.ensures.row in record {
      fault =
          needs-row g.row.PRECISION c.in-Ok.answer.1.0 c.in-Ok.answer.1.1 (held_by c.args.self.now) c.quantile_of-quantile.result
          (g.D.EntropyModel.rows c.args.model.now) row.0 c.quantile_of-quantile.ensures row.2 c.in-Err-take_entry.ensures.needs;
      read = c.in-Err-take_entry.ensures.read;
      same = c.in-Err-take_entry.ensures.same;
    }
