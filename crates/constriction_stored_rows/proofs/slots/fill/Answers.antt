use Rattle.std.proofs.Common.{◌≡◌, ◌-◌, ◌++◌, replicate, vec_len, ap, sym, refl, ◌∙◌, arith}
use Rattle.constriction_stored_rows.proofs.SlotFilling.{filled-none, filled-next}
use Rattle.constriction_stored_rows.proofs.slots.fill.Goals as goal

pub words-preserved : goal.words-preserved
words-preserved g c =
    let inv = c.words.invariant in
    record {
      filled =
          rw c.push_reserved.ensures.items
          (filled-next c.args.table.items c.words.table.items c.args.row (vec_len c.args.table) c.words.counter inv.from inv.filled);
      from = omega (arith, inv.from);
      long = omega (arith, inv.long, c.push_reserved.ensures.len);
      room = rw c.push_reserved.ensures.capacity inv.room;
    }

pub words-init : goal.words-init
words-init g c = record {
  filled = filled-none c.args.table.items c.args.row (vec_len c.args.table) c.len-counter.result c.len-counter.ensures;
  from = omega (arith, c.len-counter.ensures);
  long = sym c.len-counter.ensures;
  room = refl;
}

pub words-smaller : goal.words-smaller
words-smaller g c = omega (arith, c.words-test.true)

pub returns-clause-items : goal.returns-clause-items
returns-clause-items g c =
    let end : c.words.counter ≡ c.args.words =
    omega (arith, c.words-test.false, c.words.auto.counter-end, c.len-counter.ensures, c.requires.more) in
    c.words.invariant.filled ∙ ap (λ n. c.args.table.items ++ replicate (n - vec_len c.args.table) c.args.row) end

pub returns-clause-capacity : goal.returns-clause-capacity
returns-clause-capacity g c = c.words.invariant.room
