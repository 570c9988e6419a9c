use Rattle.std.proofs.Common.{◌≡◌, ◌*◌, true, false, ◌∙◌, ap, arith, inl, inr}
use Rattle.std.proofs.lemmas.Bool.{cases_lt}
use Rattle.constriction_model.specs.lemmas.UniformRows.{left-fits}
use Rattle.constriction_model.proofs.uniform.symbol_table.UniformSymbolTable.row_words_of.Goals.{then-is_below, else-is_below}
use Rattle.constriction_model.proofs.uniform.symbol_table.UniformSymbolTable.row_words_of.Goals as goal

pub times-left-requires : goal.times-left-requires
times-left-requires g c =
    let m = c.args.self.now.model in
    rw m.bin (left-fits g.row.PRECISION _ m.within _ _ m.precise.fits c.requires)

pub returns-clause-left : goal.returns-clause-left
returns-clause-left g c =
    c.times-left.ensures ∙ ap (λ n. g.Probability.WholeNumber.whole c.args.symbol * n) c.args.self.now.model.bin

pub returns-clause-weight : goal.returns-clause-weight
returns-clause-weight g c =
    let t = c.args.self.now in
    let whole = g.Probability.WholeNumber.whole in
    let base = g.Probability.WholeNumber.base in
    elim c.if-is_below.branch [
      | then-is_below w ↦ inl (c.is_below.ensures.0 w.if-is_below.true, ap (λ x. whole (base x)) w.weight-is ∙ ap whole t.bin ∙ t.model.bin)
      | else-is_below w ↦
          elim (cases_lt (whole c.args.symbol) (whole t.model.last_symbol)) [
            | inl less ↦
                let yes : c.is_below.result ≡ true = c.is_below.ensures.1 less in
                let no : c.is_below.result ≡ false = w.if-is_below.false in
                cc (yes, no)
            | inr most ↦ inr (omega (arith, most, c.requires), ap (λ x. whole (base x)) w.weight-is ∙ ap whole t.rest ∙ t.model.rest)
          ]
    ]
