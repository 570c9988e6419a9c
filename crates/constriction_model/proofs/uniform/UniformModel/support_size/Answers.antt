use Rattle.std.proofs.Common.{◌+◌, arith}
use Rattle.constriction_model.specs.lemmas.Walks.{row-count}
use Rattle.constriction_model.proofs.uniform.UniformModel.support_size.Goals as goal

pub returns : goal.returns
returns g c =
    omega (
      arith,
      c.to_number.ensures,
      row-count g.row.PRECISION (g.Probability.WholeNumber.whole c.args.self.now.last_symbol + 1) (omega arith),
    )
