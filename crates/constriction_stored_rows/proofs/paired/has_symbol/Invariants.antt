-- no entry so far has an equal symbol
use Rattle.std.proofs.Common.{◌≡◌, map, drop}
use Rattle.std.specs.List.{list_any}
use Rattle.constriction_stored_rows.proofs.paired.has_symbol.Given as goal

abbrev pub invariant-loop-entry : goal.invariant-loop-entry
invariant-loop-entry g l =
    list_any (g.Symbol.PartialEq.eq l.symbol) (map (λ x. x.1) (drop l.entry-index l.entries))
    ≡ list_any (g.Symbol.PartialEq.eq l.symbol) (map (λ x. x.1) l.entries)
