use Rattle.std.proofs.Common.{◌++◌, ap, sym, ◌∙◌, rules}
use Rattle.constriction_stored_weights.specs.Tables.{BeginsWithTable}
use Rattle.constriction_coders_tests.proofs.callers.tables.before_others.Goals as goal

-- the bytes begin with the table that was written
pub returns : goal.returns
returns c =
    let written = c.in-Ok.ensures.ok in
    let table : BeginsWithTable 12 256 c.deref.result.now = record {
      weights = c.args.weights.now;
      text = written.0;
      rest = c.args.others.now;
      is_table = c.in-Ok.ensures.table;
      counted = search rules;
      is_text = written.2;
      bytes_are =
          c.deref.ensures.value ∙ c.in-Ok-extend_from_slice.ensures.items
          ∙ ap (λ xs. xs ++ c.args.others.now) (written.1 ∙ ap (λ xs. xs ++ written.0) c.new-bytes.ensures.items);
    } in
    sym (c.in-Ok-read_table.ensures.only table).0
