use Rattle.std.proofs.Common.{◌≡◌, ℕ, ◌+◌, ◌<◌, ◌||◌, Bool, true, false, List, length, get_or, map, drop, ap, sym, ◌∙◌}
use Rattle.std.proofs.lemmas.List.{at_drop_more, at_drop_all}
use Rattle.std.specs.List.{list_any}
use Rattle.constriction_stored_rows.proofs.paired.has_symbol.Goals as goal

-- whether an entry from an index on has such a symbol, if the entry at the index has one, and if it has not
module _ {Word Symbol : Type 0} (test : Symbol → Bool) (entries : List (Word × Symbol)) (i : ℕ) (e : Word × Symbol) where
  here-or_later : i < length entries → e ≡ get_or entries i e
      → list_any test (map (λ x. x.1) (drop i entries)) ≡ (test e.1 || list_any test (map (λ x. x.1) (drop (i + 1) entries)))
  here-or_later h is =
      at_drop_more (λ ys. list_any test (map (λ x. x.1) ys)) entries i e h
      ∙ ap (λ (x : Word × Symbol). test x.1 || list_any test (map (λ y. y.1) (drop (i + 1) entries))) (sym is)

  one-more : (here : Bool) → i < length entries → e ≡ get_or entries i e → test e.1 ≡ here
      → list_any test (map (λ x. x.1) (drop i entries)) ≡ list_any test (map (λ x. x.1) entries)
      → (here || list_any test (map (λ x. x.1) (drop (i + 1) entries))) ≡ list_any test (map (λ x. x.1) entries)
  one-more here h is found so_far =
      sym (ap (λ b. b || list_any test (map (λ x. x.1) (drop (i + 1) entries))) found) ∙ sym (here-or_later h is) ∙ so_far

pub loop-entry-preserved : goal.loop-entry-preserved
loop-entry-preserved g c =
    one-more (g.Symbol.PartialEq.eq c.args.symbol.now) c.args.entries.now c.loop-entry.entry-index c.entry-item.result false
    c.loop-entry-test.true c.entry-item.is (rw c.eq.ensures at c.if-eq.false) c.loop-entry.invariant

pub returns-then-eq : goal.returns-then-eq
returns-then-eq g c =
    one-more (g.Symbol.PartialEq.eq c.args.symbol.now) c.args.entries.now c.loop-entry.entry-index c.entry-item.result true
    c.loop-entry-test.true c.entry-item.is (rw c.eq.ensures at c.if-eq.true) c.loop-entry.invariant

pub returns : goal.returns
returns g c =
    let test = g.Symbol.PartialEq.eq c.args.symbol.now in
    sym (at_drop_all (λ ys. list_any test (map (λ x. x.1) ys)) c.args.entries.now c.loop-entry.entry-index c.loop-entry-test.false)
    ∙ c.loop-entry.invariant
