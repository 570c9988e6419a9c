use Rattle.constriction_coders.proofs.Intervals.{read_bit}
use Rattle.constriction_coders.proofs.queue.range_decoder.RangeDecoder.decode_bit.Goals as goal

pub returns-in-Ok-clause-ok : goal.returns-in-Ok-clause-ok
returns-in-Ok-clause-ok g c =
    let side = c.in-Some.ensures in
    read_bit g.Source.ReadWords.read_gives g.row.PRECISION c.args.self.now.range c.args.self.now.offset c.args.weight
    c.unit_of-unit.result c.unit_of-unit.ensures.value c.in-Some.bit c.in-Some.range c.in-Some.offset side.first side.second side.inside
    c.args.self.now.words _ c.in-Ok.ensures.ok
