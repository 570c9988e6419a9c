use Rattle.std.proofs.Common.{eqb}
use Rattle.constriction_text.proofs.Separating.{cut_at, cut_nowhere}
use Rattle.constriction_text.proofs.line.cut.Goals as goal

pub returns-in-Some-clause-parts : goal.returns-in-Some-clause-parts
returns-in-Some-clause-parts c = cut_at (λ byte. eqb byte c.args.separator) c.args.bytes.now c.in-Some.at c.in-Some.ensures

pub returns-in-None-clause-parts : goal.returns-in-None-clause-parts
returns-in-None-clause-parts c = cut_nowhere (λ byte. eqb byte c.args.separator) c.args.bytes.now c.in-None.ensures
