use Rattle.std.proofs.Common.{◌≡◌, ◌++◌, length}
use Rattle.std.specs.String.{string_bytes}
use Rattle.constriction_text.specs.Text.{rows_text}
use Rattle.constriction_text.proofs.format_word.push_rows.Given as goal

-- the lines so far, and those of the rows that are left, are all
abbrev pub invariant-loop-row : goal.invariant-loop-row
invariant-loop-row g l = record {
  goes_on : g.M.SymbolTable.Iterator.can_next l.table;
  lines : string_bytes l.text ++ rows_text (g.M.IterableEntropyModel.rows_left l.table)
      ≡ string_bytes l.fn.text ++ rows_text (g.M.EntropyModel.rows l.fn.model);
}

abbrev pub decreases-loop-row : goal.decreases-loop-row
decreases-loop-row g l = length (g.M.IterableEntropyModel.rows_left l.table)
