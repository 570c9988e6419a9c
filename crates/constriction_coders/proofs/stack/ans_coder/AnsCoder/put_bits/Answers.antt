use Rattle.std.proofs.Common.{arith}
use Rattle.constriction_coders.specs.AnsCoder.{held_by}
use Rattle.constriction_coders.proofs.PlainBits.{put_shifted}
use Rattle.constriction_coders.proofs.States.{put_below}
use Rattle.constriction_coders.proofs.Steps.{put-on-top}
use Rattle.constriction_coders.proofs.stack.ans_coder.AnsCoder.put_bits.Goals as goal

pub overflow_add-self : goal.overflow_add-self
overflow_add-self g c =
    omega (
      arith,
      put_shifted c.args.count c.args.bits c.in-Ok.kept c.requires.count.fits c.in-Ok.ensures.room,
      put_below c.args.count c.args.bits 1 c.in-Ok.kept (omega arith) (omega (arith, c.requires.fits)) c.requires.count.fits
          c.in-Ok.ensures.room,
    )

pub invariant_of-self : goal.invariant_of-self
invariant_of-self g c = record {
  whole = λ below.
      c.in-Ok.ensures.whole c.args.bits (omega (arith, c.requires.fits))
      (omega (arith, below, put_shifted c.args.count c.args.bits c.in-Ok.kept c.requires.count.fits c.in-Ok.ensures.room));
}

pub returns-in-Ok-clause-ok : goal.returns-in-Ok-clause-ok
returns-in-Ok-clause-ok g c =
    put-on-top c.args.count c.args.bits 1 c.in-Ok.kept _ (g.Backend.StackSource.words_of c.with_room.new.words)
    (held_by c.args.self.now) (omega arith) (omega (arith, c.requires.fits))
    (put_shifted c.args.count c.args.bits c.in-Ok.kept c.requires.count.fits c.in-Ok.ensures.room) c.in-Ok.ensures.ok
