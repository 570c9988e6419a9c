-- The table is the given one, followed by the row up to the next word.
use Rattle.std.specs.Prelude.{◌≡◌, ◌++◌, ◌-◌, ◌≤◌, replicate, vec_capacity, vec_len}
use Rattle.constriction_stored_rows.proofs.slots.fill.Given as goal

abbrev pub invariant-words : goal.invariant-words
invariant-words g l = record {
  filled : l.table.items ≡ l.fn.table.items ++ replicate (l.counter - vec_len l.fn.table) l.row;
  from : vec_len l.fn.table ≤ l.counter;
  long : vec_len l.table ≡ l.counter;
  room : vec_capacity l.table ≡ vec_capacity l.fn.table;
}
