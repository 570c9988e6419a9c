use Rattle.std.proofs.Common.{◌-◌, ◌^◌, ◌∷◌, [], ◌∙◌, map, ap}
use Rattle.std.specs.Prelude.{sum}
use Rattle.std.proofs.lemmas.List.{map-append}
use Rattle.constriction_model.specs.Acceptance.{completed}
use Rattle.constriction_theorem.proofs.dividing.all_but_last.Goals as goal

pub returns-then-infer_last_probability : goal.returns-then-infer_last_probability
returns-then-infer_last_probability g c =
    let weights = map g.Word.WholeNumber.whole c.args.weights.now in
    (2 ^ g.row.PRECISION - sum weights, ap (λ b. completed g.row.PRECISION b weights) c.if-infer_last_probability.true)

pub returns-in-Some : goal.returns-in-Some
returns-in-Some g c =
    let whole = g.Word.WholeNumber.whole in (
      whole c.in-Some.field-0-0.now,
      ap (λ b. completed g.row.PRECISION b (map whole c.args.weights.now)) c.if-infer_last_probability.false
          ∙ ap (map whole) c.in-Some.ensures.cases.0 ∙ map-append whole c.in-Some.before.now (c.in-Some.field-0-0.now ∷ []),
    )
