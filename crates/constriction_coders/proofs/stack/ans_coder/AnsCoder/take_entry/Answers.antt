use Rattle.std.proofs.Common.{subst}
use Rattle.constriction_coders.specs.Steps.{content, Refills}
use Rattle.constriction_coders.proofs.Steps.{whole-taken}
use Rattle.constriction_coders.proofs.stack.ans_coder.AnsCoder.take_entry.Goals as goal

pub refilled-requires : goal.refilled-requires
refilled-requires g c = record {
  some =
      whole-taken g.row.PRECISION c.args.left c.args.weight c.args.self.now.state c.without_entry-state.result _
      c.requires.fits c.requires.some c.without_entry-state.ensures.value c.args.self.now.whole;
}

pub returns-in-Ok-clause-ok : goal.returns-in-Ok-clause-ok
returns-in-Ok-clause-ok g c = record {
  from = c.requires.from;
  to = c.requires.to;
  within = c.requires.within;
  under =
      subst (λ n. Refills n (g.Backend.StackSource.words_of c.args.self.now.words)
      (content c.in-Ok.state (g.Backend.StackSource.words_of c.refilled.new.words))) c.without_entry-state.ensures.value
      c.in-Ok.ensures.ok;
}
