use Rattle.std.proofs.Common.{ap, ◌∙◌, arith, ◌/◌, ◌^◌}
use Rattle.constriction_coders.specs.Numbers.{number_of}
use Rattle.constriction_coders.proofs.NumberLemmas.{number-push}
use Rattle.constriction_coders.proofs.queue.carrying.widened.Goals as goal

pub returns-clause-value : goal.returns-clause-value
returns-clause-value c =
    let number = ap number_of c.push_reserved.ensures.items ∙ number-push c.args.words.now.items (c.args.lower / 2 ^ 32) in
    omega (arith, number)
