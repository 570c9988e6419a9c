use Rattle.std.proofs.Common.{◌∙◌, refl, sym, arith}
use Rattle.std.proofs.lemmas.Bool.{false≢true}
use Rattle.constriction_stored_rows.proofs.OrderLemmas.{order-none, order-more, order-broken, order-all}
use Rattle.constriction_stored_rows.proofs.apart.are_in_order.Goals as goal

pub entries-init : goal.entries-init
entries-init g c = record { some = omega arith; so_far = order-none g.Symbol.Ord.cmp c.args.entries.now }

pub overflow_sub-next : goal.overflow_sub-next
overflow_sub-next g c = omega (arith, c.entries.invariant.some)

pub returns-then-not-is_lt : goal.returns-then-not-is_lt
returns-then-not-is_lt g c = (
  λ no. absurd (false≢true no),
  λ sorted. absurd (order-broken g.Symbol.Ord.cmp c.args.entries.now c.entries.next c.index-entries-next.result
      c.index-entries-next-in-entries.result c.entries.invariant.some c.entries-test.true
      (rw c.cmp.ensures at (sym c.is_lt.ensures ∙ c.if-not-is_lt.true)) sorted),
)

pub entries-preserved : goal.entries-preserved
entries-preserved g c = record {
  some = omega arith;
  so_far =
      order-more g.Symbol.Ord.cmp c.args.entries.now c.entries.next c.index-entries-next.result c.index-entries-next-in-entries.result
      c.entries.invariant.some c.entries-test.true c.entries.invariant.so_far
      (rw c.cmp.ensures at (sym c.is_lt.ensures ∙ c.if-not-is_lt.false));
}

pub returns : goal.returns
returns g c = (
  λ _. order-all g.Symbol.Ord.cmp c.args.entries.now g.met.Symbol.Ord.total c.entries.next c.entries.invariant.so_far c.entries-test.false,
  λ _. refl,
)

pub entries-smaller : goal.entries-smaller
entries-smaller g c = omega (arith, c.entries-test.true)
