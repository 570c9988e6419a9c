use Rattle.std.proofs.Common.{arith}
use Rattle.constriction_coders.specs.AnsCoder.{held_by}
use Rattle.constriction_coders.proofs.Steps.{put-on-top}
use Rattle.constriction_coders.proofs.stack.ans_coder.AnsCoder.put_prepared_entry.Goals as goal

pub returns-in-Ok-clause-ok : goal.returns-in-Ok-clause-ok
returns-in-Ok-clause-ok g c =
    let entry = c.args.entry.now in
    put-on-top g.row.PRECISION entry.left entry.weight c.in-Ok.kept c.put_on-self.result
    (g.Backend.StackSource.words_of c.with_room.new.words)
    (held_by c.args.self.now)
    entry.some c.requires.within c.put_on-self.ensures c.in-Ok.ensures.ok

pub invariant_of-self : goal.invariant_of-self
invariant_of-self g c = record {
  whole = λ below. c.in-Ok.ensures.whole c.args.entry.now.left c.requires.within (omega (arith, below, c.put_on-self.ensures));
}
