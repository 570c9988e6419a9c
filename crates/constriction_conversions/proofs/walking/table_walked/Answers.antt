use Rattle.std.proofs.Common.{ap, refl}
use Rattle.std.specs.HashMap.{get}
use Rattle.std.specs.Map.{lookup}
use Rattle.constriction_conversions.proofs.HashLemmas.{hashed-none, hashed-step, hashed-end}
use Rattle.constriction_conversions.proofs.walking.table_walked.Goals as goal

pub rows-init : goal.rows-init
rows-init g c =
    let eq = g.Symbol.PartialEq.eq in (
      c.requires.goes,
      c.requires.ends,
      c.in_ok-table.ensures.unique,
      hashed-none g.Walk.Iterator.next_gives c.args.walk eq (λ whole base e. (whole e.left, whole (base e.weight)))
          (get eq c.in_ok-table.table) (λ s. ap (lookup (eq s)) c.in_ok-table.ensures.empty),
    )

pub rows-preserved : goal.rows-preserved
rows-preserved g c =
    let eq = g.Symbol.PartialEq.eq in
    let next = c.in-Some.ensures.goes.on c.rows.invariant.1 in (
      next.0,
      next.1,
      c.in_ok-insert.ensures.unique,
      hashed-step g.Walk.Iterator.next_gives c.args.walk eq (λ whole base e. (whole e.left, whole (base e.weight))) g.met.Symbol.Eq.laws
          c.rows.walk c.next.new.self (get eq c.rows.table) (get eq c.insert.new.self) c.in-Some.row
          (c.in_ok-symbol.symbol, c.in_ok-symbol.left, c.in_ok-symbol.weight)
          (record { left = c.in_ok-symbol.left; weight = c.in_ok-symbol.weight }) (λ _ _. refl) c.rows.invariant.3
          c.in-Some.ensures.steps c.in_ok-symbol.was c.in_ok-insert.ensures.updates.0,
    )

pub returns-clause-found : goal.returns-clause-found
returns-clause-found g c =
    let eq = g.Symbol.PartialEq.eq in
    hashed-end g.Walk.Iterator.next_gives c.args.walk eq (λ whole base e. (whole e.left, whole (base e.weight)))
    c.rows.walk c.next.new.self (get eq c.rows.table) c.rows.invariant.3 c.in_default.ensures.steps
