use Rattle.std.proofs.Common.{false, refl, ap, arith, length}
use Rattle.std.specs.Iterator.{size}
use Rattle.constriction_categorical.proofs.CollectLemmas.{collected-none, collected-uncompared, collected-end, room-left}
use Rattle.constriction_categorical.proofs.walking.entries_reserved.Goals as goal

pub rows-init : goal.rows-init
rows-init g c =
    let none = ap length c.requires.empty in
    let most = c.requires.room.1 in (
      c.requires.goes,
      c.requires.room.0,
      omega arith,
      collected-none g.Walk.Iterator.next_gives c.args.walk (λ _ _. false) (λ _ _. refl) c.args.entries.items c.requires.empty,
    )

pub rows-preserved : goal.rows-preserved
rows-preserved g c =
    let next = c.in-Some.ensures.goes.on c.rows.invariant.1 in
    let room = room-left c.rows.entries.items c.push_reserved.new.self.items (c.in_ok-symbol.left, c.in_ok-symbol.symbol)
    (size (g.Walk.Iterator.remaining c.rows.walk)) (size (g.Walk.Iterator.remaining c.next.new.self)) c.rows.entries.cap
    c.push_reserved.ensures.items c.rows.invariant.2 next.2 in
    let same = c.push_reserved.ensures.capacity in (
      next.0,
      next.1,
      rw same room,
      collected-uncompared g.Walk.Iterator.next_gives c.args.walk c.rows.walk c.next.new.self c.rows.entries.items
          c.push_reserved.new.self.items c.in-Some.row (c.in_ok-symbol.symbol, c.in_ok-symbol.left, c.in_ok-symbol._weight)
          c.rows.invariant.3 c.in-Some.ensures.steps c.in_ok-symbol.was c.push_reserved.ensures.items,
    )

pub returns : goal.returns
returns g c =
    let all = collected-end g.Walk.Iterator.next_gives c.args.walk (λ _ _. false) (λ _ _. refl) c.rows.walk c.next.new.self
    c.rows.entries.items
    c.rows.invariant.3 c.in_default.ensures.steps in
    (all.0, all.1, all.2.0)
