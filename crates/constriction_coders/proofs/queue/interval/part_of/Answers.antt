use Rattle.constriction_coders.proofs.Intervals.{part_to, part_inside}
use Rattle.constriction_coders.proofs.queue.interval.part_of.Goals as goal

pub returns-clause-inside : goal.returns-clause-inside
returns-clause-inside g c =
    part_inside c.args.offset c.args.unit c.args.quantile c.args.left c.args.weight c.requires.from c.requires.to c.requires.first
    c.requires.last

pub returns-clause-high : goal.returns-clause-high
returns-clause-high g c =
    part_to c.args.offset c.args.unit c.args.quantile c.args.left c.args.weight c.requires.from c.requires.to c.requires.first
    c.requires.last
