use Rattle.std.proofs.Common.{◌≡◌, ◌≤◌, length, take}
use Rattle.std.specs.Prelude.{All}
use Rattle.constriction_model.specs.Probe.{digits}
use Rattle.constriction_categorical.specs.ModelRows.{contiguous_model_rows}
use Rattle.constriction_theorem.specs.Answers.{questions_asked}
use Rattle.constriction_theorem.proofs.counted.questions_of.Given as goal

-- the counts so far
abbrev pub invariant-loop-query : goal.invariant-loop-query
invariant-loop-query g l =
    let rows = length (contiguous_model_rows l.model) in
    record {
      are : l.questions.items
          ≡ questions_asked g.row.PRECISION g.Probability.WholeNumber.whole (take l.query-index l.queries) rows;
      few : All (λ asked. asked ≤ digits rows) l.questions.items;
    }
