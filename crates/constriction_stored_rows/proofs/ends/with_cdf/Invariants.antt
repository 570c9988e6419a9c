-- The left cumulatives of the rows so far follow the words.
use Rattle.std.specs.Prelude.{◌≡◌, ◌++◌, map, take}
use Rattle.constriction_stored_rows.proofs.ends.with_cdf.Given as goal

abbrev pub invariant-loop-entry : goal.invariant-loop-entry
invariant-loop-entry g l =
    map g.Kind.Word.WholeNumber.whole l.all.items
    ≡ map g.Kind.Word.WholeNumber.whole l.fn.words.items ++ map g.Kind.CdfEntry.cumulative (take l.entry-index l.entries)
