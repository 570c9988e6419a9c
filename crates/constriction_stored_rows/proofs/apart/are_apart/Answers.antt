use Rattle.std.proofs.Common.{◌≡◌, ◌∙◌, Bool, true, false, not, refl, ap, sym, Bor}
use Rattle.std.proofs.lemmas.Bool.{false≢true}
use Rattle.std.specs.List.{list_any}
use Rattle.constriction_stored_rows.proofs.SeenLemmas.{seen-none, seen-more, seen-twice, seen-all}
use Rattle.constriction_stored_rows.proofs.apart.are_apart.Goals as goal

was-in : (added is : Bool) → added ≡ not is → added ≡ false → is ≡ true
was-in added true e h = refl
was-in added false e h =
    let bad : false ≡ true = sym h ∙ e in
    cc

was-not : (added is : Bool) → added ≡ not is → added ≡ true → is ≡ false
was-not added false e h = refl
was-not added true e h =
    let bad : true ≡ false = sym h ∙ e in
    cc

pub entries-init : goal.entries-init
entries-init g c =
    seen-none {Key = Bor g.row.Symbol.Denot} g.Symbol.PartialEq.eq g.met.Symbol.Eq.laws (λ k. k.now) c.args.entries.now
    (λ q. list_any (λ (k : Bor g.row.Symbol.Denot). g.Symbol.PartialEq.eq q.now k.now) c.in_ok-seen.seen.keys)
    (λ q. ap (list_any (λ (k : Bor g.row.Symbol.Denot). g.Symbol.PartialEq.eq q.now k.now)) c.in_ok-seen.ensures.empty)

pub returns-then-not-branch : goal.returns-then-not-branch
returns-then-not-branch g c = (
  λ no. absurd (false≢true no),
  λ distinct. absurd (seen-twice {Key = Bor g.row.Symbol.Denot} g.Symbol.PartialEq.eq g.met.Symbol.Eq.laws (λ k. k.now) c.args.entries.now
      (λ q. list_any (λ (k : Bor g.row.Symbol.Denot). g.Symbol.PartialEq.eq q.now k.now) c.entries.seen.keys) c.entries.entry-index
      c.entry-item.result c.symbol_in.result c.entries.invariant c.entries-test.true c.entry-item.is c.symbol_in.ensures
      (was-in _ _ c.in_ok-insert.ensures.added c.if-not-branch.true) distinct),
)

pub entries-preserved : goal.entries-preserved
entries-preserved g c =
    seen-more {Key = Bor g.row.Symbol.Denot} g.Symbol.PartialEq.eq g.met.Symbol.Eq.laws (λ k. k.now) c.args.entries.now
    (λ q. list_any (λ (k : Bor g.row.Symbol.Denot). g.Symbol.PartialEq.eq q.now k.now) c.entries.seen.keys) c.entries.entry-index
    c.entry-item.result c.symbol_in.result c.entries.invariant c.entries-test.true c.entry-item.is c.symbol_in.ensures
    (λ q. list_any (λ (k : Bor g.row.Symbol.Denot). g.Symbol.PartialEq.eq q.now k.now) c.insert.new.self.keys)
    (was-not _ _ c.in_ok-insert.ensures.added c.if-not-branch.false) c.in_ok-insert.ensures.updates.0

pub returns : goal.returns
returns g c = (
  λ _. seen-all {Key = Bor g.row.Symbol.Denot} g.Symbol.PartialEq.eq g.met.Symbol.Eq.laws (λ k. k.now) c.args.entries.now
      (λ q. list_any (λ (k : Bor g.row.Symbol.Denot). g.Symbol.PartialEq.eq q.now k.now) c.entries.seen.keys) c.entries.entry-index
      c.entries.invariant c.entries-test.false,
  λ _. refl,
)
