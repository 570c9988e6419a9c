use Rattle.std.proofs.Common.{false, true, refl}
use Rattle.constriction_categorical.proofs.CollectLemmas.{collected-none, collected-uncompared, collected-end}
use Rattle.constriction_categorical.proofs.walking.entries_grown.Goals as goal

pub rows-init : goal.rows-init
rows-init g c = (
  c.requires.goes,
  c.requires.ends,
  collected-none g.Walk.Iterator.next_gives c.args.walk (λ _ _. false) (λ _ _. refl) c.args.entries.items c.requires.empty,
)

pub rows-preserved : goal.rows-preserved
rows-preserved g c =
    let next = c.in-Some.ensures.goes.on c.rows.invariant.1 in (
      next.0,
      next.1,
      collected-uncompared g.Walk.Iterator.next_gives c.args.walk c.rows.walk c.next.new.self c.rows.entries.items
          c.push_item.new.items.items
          c.in-Some.row (c.in_ok-symbol.symbol, c.in_ok-symbol.left, c.in_ok-symbol._weight) c.rows.invariant.2 c.in-Some.ensures.steps
          c.in_ok-symbol.was (c.in_ok-push_item.ensures.pushed (refl {a = true})),
    )

pub returns : goal.returns
returns g c =
    let all = collected-end g.Walk.Iterator.next_gives c.args.walk (λ _ _. false) (λ _ _. refl) c.rows.walk c.next.new.self
    c.rows.entries.items
    c.rows.invariant.2 c.in_default.ensures.steps in
    (all.0, all.1, all.2.0)
