use Rattle.constriction.specs.Model.{row_of}
use Rattle.constriction_models_tests.proofs.generic_callers.end_of_row.Goals as goal

pub returns : goal.returns
returns g c =
    let answer = c.in_ok-_symbol in (
      row_of g.Word.WholeNumber.whole g.Word.WholeNumber.base (answer.ensures.row.0, answer.left, answer.weight),
      answer.ensures.row.2,
      rw (c.get.ensures.value, g.met.Word.BitArray.base_law answer.weight) at c.wrapping_add.ensures,
    )
