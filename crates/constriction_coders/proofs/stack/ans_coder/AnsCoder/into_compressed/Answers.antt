use Rattle.constriction_coders.proofs.Closing.{wrote-one, wrote-two, stops-first, stops-second, positive}
use Rattle.constriction_coders.proofs.stack.ans_coder.AnsCoder.into_compressed.Goals as goal

pub returns-in-Err-clause-wrote : goal.returns-in-Err-clause-wrote
returns-in-Err-clause-wrote g c =
    stops-first g.Backend.WriteWords.write_gives c.args.self.state c.args.self.words (positive c.args.self.state c.if-state-eq0.false)
    c.push.new.self c.in-Err.error c.in-Err.ensures.gives

pub returns-then-state-clause-wrote : goal.returns-then-state-clause-wrote
returns-then-state-clause-wrote g c =
    wrote-one g.Backend.WriteWords.write_gives c.args.self.state c.args.self.words (positive c.args.self.state c.if-state-eq0.false)
    c.push.new.self c.if-state.true c.in-Ok.ensures.gives

pub returns-in-Ok-push-clause-wrote : goal.returns-in-Ok-push-clause-wrote
returns-in-Ok-push-clause-wrote g c =
    wrote-two g.Backend.WriteWords.write_gives c.args.self.state c.args.self.words (positive c.args.self.state c.if-state-eq0.false)
    c.push.new.self c.push-2.new.self c.if-state.false c.in-Ok.ensures.gives c.in-Ok-push.ensures.gives

pub returns-in-Err-push-clause-wrote : goal.returns-in-Err-push-clause-wrote
returns-in-Err-push-clause-wrote g c =
    stops-second g.Backend.WriteWords.write_gives c.args.self.state c.args.self.words (positive c.args.self.state c.if-state-eq0.false)
    c.push.new.self c.push-2.new.self c.in-Err-push.error c.if-state.false c.in-Ok.ensures.gives c.in-Err-push.ensures.gives
