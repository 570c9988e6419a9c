use Rattle.std.proofs.Common.{arith}
use Rattle.constriction_model.specs.lemmas.UniformRows.{bin-positive, rest-positive}
use Rattle.constriction_model.proofs.uniform.symbol_table.UniformSymbolTable.new.Goals as goal

pub to_weight-requires : goal.to_weight-requires
to_weight-requires g c =
    let m = c.args.model in
    rw m.bin (bin-positive g.row.PRECISION _ m.within)

pub to_weight-requires-2 : goal.to_weight-requires-2
to_weight-requires-2 g c =
    let m = c.args.model in
    rw m.rest (rest-positive g.row.PRECISION _ m.within)

pub invariant_of-result : goal.invariant_of-result
invariant_of-result g c = record {
  in_order = omega arith;
  in_bounds = omega (arith, c.to_number-to.ensures);
  bin = c.to_weight.ensures;
  rest = c.to_weight-2.ensures;
}
