use Rattle.std.proofs.Common.{[], refl, rules}
use Rattle.std.proofs.lemmas.Result.{IfOk-from_err}
use Rattle.constriction_stored_rows.proofs.FillLemmas.{accepted≢refused}
use Rattle.constriction_stored_rows.proofs.ReadLemmas.{none-distinct, bad-taken, bad-many, good-taken}
use Rattle.constriction_stored_rows.proofs.reading.rows_read.Goals as goal

pub weights_taken-requires-clause-none : goal.weights_taken-requires-clause-none
weights_taken-requires-clause-none g c = record {
  symbols = [];
  given = refl;
  as_many = refl;
  distinct = none-distinct g.Stored.TakesRows.symbol_eq;
  held = c.requires.none;
  goes = c.requires.symbols_go;
  ends = c.requires.symbols_end;
}

pub returns-in_err-taken-clause-invalid : goal.returns-in_err-taken-clause-invalid
returns-in_err-taken-clause-invalid g c = λ e.
    bad-taken g.Weights.Iterator.next_gives g.Word.WholeNumber.whole c.args.infer_last (λ t. t.symbols)
    (λ t. g.Stored.TakesRows.holds t.stored) (c.in_err-taken.ensures.invalid (search rules))

pub returns-in-Some-clause-invalid : goal.returns-in-Some-clause-invalid
returns-in-Some-clause-invalid g c = λ _.
    bad-many g.Weights.Iterator.next_gives g.Word.WholeNumber.whole c.args.infer_last _ _ _ c.in_ok-taken.ensures.ok c.in-Some.field-0
    c.in-Some.ensures.steps

pub returns-clause-ok : goal.returns-clause-ok
returns-clause-ok g c =
    good-taken g.Weights.Iterator.next_gives g.Word.WholeNumber.whole c.args.infer_last _ _ _ c.in_ok-taken.ensures.ok
    c.in_default.ensures.steps

pub weights_taken-requires-clause-precision : goal.weights_taken-requires-clause-precision
weights_taken-requires-clause-precision g c = c.requires.precision

pub weights_taken-requires-clause-goes : goal.weights_taken-requires-clause-goes
weights_taken-requires-clause-goes g c = c.requires.weights_go

pub weights_taken-requires-clause-ends : goal.weights_taken-requires-clause-ends
weights_taken-requires-clause-ends g c = c.requires.weights_end

pub returns-in_err-taken-clause-ok : goal.returns-in_err-taken-clause-ok
returns-in_err-taken-clause-ok g c = IfOk-from_err c.from_residual.result _ c.from_residual.ensures.0

pub returns-in-Some-clause-ok : goal.returns-in-Some-clause-ok
returns-in-Some-clause-ok g c = tt

pub returns-clause-invalid : goal.returns-clause-invalid
returns-clause-invalid g c = λ e. absurd (accepted≢refused _ _ e)
