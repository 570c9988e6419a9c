use Rattle.std.proofs.Common.{◌<◌, length, arith}
use Rattle.std.proofs.lemmas.List.{length-map, get_or-map}
use Rattle.constriction_stored_rows.proofs.cdf_probe.CdfProbeProbe.at_most.Goals as goal

pub bounds-self-index : goal.bounds-self-index
bounds-self-index g c =
    let long = length-map c.args.self.now.entries.now g.Kind.CdfEntry.cumulative in
    omega arith

pub returns-clause-answer : goal.returns-clause-answer
returns-clause-answer g c =
    let entries = c.args.self.now.entries.now in
    let here : c.args.index < length entries = omega (arith, c.requires.in_bounds, length-map entries g.Kind.CdfEntry.cumulative) in
    rw (get_or-map g.Kind.CdfEntry.cumulative entries c.args.index c.index-self-index.result 0 here, ← c.cumulative_of.ensures)
    c.is_at_most.ensures
