use Rattle.std.proofs.Common.{◌≡◌, ◌*◌, ◌<◌, ◌∙◌, ap, sym, arith, inl, inr}
use Rattle.std.proofs.lemmas.Bool.{cases_lt, false≢true}
use Rattle.constriction_model.specs.lemmas.UniformRows.{bin-positive, rest-positive, left-fits}
use Rattle.constriction_model.proofs.uniform.UniformModel.row_words_of.Goals.{then-is_below, else-is_below}
use Rattle.constriction_model.proofs.uniform.UniformModel.row_words_of.Goals as goal

pub times-left-requires : goal.times-left-requires
times-left-requires g c =
    let m = c.args.self.now in
    rw m.bin (left-fits g.row.PRECISION _ m.within _ _ m.precise.fits c.requires)

pub returns-clause-left : goal.returns-clause-left
returns-clause-left g c =
    c.times-left.ensures ∙ ap (λ n. g.Probability.WholeNumber.whole c.args.symbol * n) c.args.self.now.bin

pub to_weight-requires : goal.to_weight-requires
to_weight-requires g c =
    let m = c.args.self.now in
    let whole = g.Probability.WholeNumber.whole in
    let bin : 0 < whole m.probability_per_bin = omega (arith, m.bin, bin-positive g.row.PRECISION _ m.within) in
    let last : 0 < whole m.last_probability = omega (arith, m.rest, rest-positive g.row.PRECISION _ m.within) in
    elim c.if-is_below.branch [
      | then-is_below w ↦ omega (arith, ap whole w.weight-is)
      | else-is_below w ↦ omega (arith, ap whole w.weight-is)
    ]

pub returns-clause-weight : goal.returns-clause-weight
returns-clause-weight g c =
    let m = c.args.self.now in
    let whole = g.Probability.WholeNumber.whole in
    elim c.if-is_below.branch [
      | then-is_below w ↦
          inl (c.is_below.ensures.0 w.if-is_below.true, ap whole (c.to_weight.ensures ∙ w.weight-is) ∙ m.bin)
      | else-is_below w ↦
          let last : whole c.args.symbol ≡ whole m.last_symbol =
          elim (cases_lt (whole c.args.symbol) (whole m.last_symbol)) [
            | inl less ↦ absurd (false≢true (sym w.if-is_below.false ∙ c.is_below.ensures.1 less))
            | inr not ↦ omega (arith, not, c.requires)
          ] in
          inr (last, ap whole (c.to_weight.ensures ∙ w.weight-is) ∙ m.rest)
    ]
