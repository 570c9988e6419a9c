-- the symbols so far are in the set, and no two of them are equal
use Rattle.std.proofs.Common.{Bor}
use Rattle.std.specs.List.{list_any}
use Rattle.constriction_stored_rows.proofs.SeenLemmas.{AreSeen}
use Rattle.constriction_stored_rows.proofs.apart.are_apart.Given as goal

abbrev pub invariant-entries : goal.invariant-entries
invariant-entries g l =
    AreSeen {Key = Bor g.row.Symbol.Denot} g.Symbol.PartialEq.eq g.met.Symbol.Eq.laws (λ k. k.now) l.entries
    (λ q. list_any (λ (k : Bor g.row.Symbol.Denot). g.Symbol.PartialEq.eq q.now k.now) l.seen.keys) l.entry-index
