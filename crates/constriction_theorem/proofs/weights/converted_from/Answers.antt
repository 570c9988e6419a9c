use Rattle.std.proofs.Common.{◌∙◌, ap}
use Rattle.std.specs.Prelude.{nat_eq}
use Rattle.constriction_model.specs.Rows.{entry_of}
use Rattle.constriction_theorem.proofs.weights.converted_from.Goals as goal

pub returns-clause-rows : goal.returns-clause-rows
returns-clause-rows g c = c.in_ok-form.ensures.rows ∙ c.in_ok-decoder.ensures.rows

pub returns-clause-entries : goal.returns-clause-entries
returns-clause-entries g c = λ s.
    c.in_ok-hashed.ensures.entries s
    ∙ ap (λ rows. entry_of nat_eq rows s) (c.in_ok-form.ensures.rows ∙ c.in_ok-decoder.ensures.rows)
