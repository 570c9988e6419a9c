use Rattle.std.proofs.Common.{◌≡◌, [], ◌++◌, Err, length, ap, sym, ◌∙◌, append-nil, refl}
use Rattle.constriction_stored_weights.specs.Tables.{BeginsWithTable}
use Rattle.constriction_stored_weights.specs.declared.errors.TableReadingError.TheVariants.{NotATable}
use Rattle.constriction_stored_weights.proofs.tables.table_comes_back.Goals as goal

-- the bytes are the text of the table
pub returns-in-Ok-read_table-clause-same : goal.returns-in-Ok-read_table-clause-same
returns-in-Ok-read_table-clause-same g c =
    let written = c.in-Ok.ensures.ok in
    let table : BeginsWithTable g.row.PRECISION (length c.args.weights.now) c.deref.result.now = record {
      weights = c.args.weights.now;
      text = written.0;
      rest = [];
      is_table = c.in-Ok.ensures.table;
      counted = refl;
      is_text = written.2;
      bytes_are = c.deref.ensures.value ∙ written.1 ∙ ap (λ xs. xs ++ written.0) c.new-bytes.ensures.items ∙ sym (append-nil written.0);
    } in
    sym (c.in-Ok-read_table.ensures.only table).0

pub returns-clause-read : goal.returns-clause-read
returns-clause-read g c = λ is.
    let written = c.in-Ok.ensures.ok in
    let same : c.in-Err-read_table.error ≡ NotATable = cc in
    c.in-Err-read_table.ensures.not_a_table (ap Err same) [] (record {
      weights = c.args.weights.now;
      text = written.0;
      rest = [];
      is_table = c.in-Ok.ensures.table;
      counted = refl;
      is_text = written.2;
      bytes_are =
          append-nil c.deref.result.now ∙ c.deref.ensures.value ∙ written.1 ∙ ap (λ xs. xs ++ written.0) c.new-bytes.ensures.items
          ∙ sym (append-nil written.0);
    })
