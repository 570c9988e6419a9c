use Rattle.std.proofs.Common.{ap, ◌∙◌, length, rules, arith}
use Rattle.constriction_text.proofs.RowTexts.{lines-more}
use Rattle.constriction_text.proofs.format_word.push_rows.Goals as goal

pub loop-row-preserved : goal.loop-row-preserved
loop-row-preserved g c =
    let law = g.met.M.IterableEntropyModel.steps_law c.loop-row.table _ c.next.new.self c.in-Some.ensures.steps in
    let step = rw c.in_ok-symbol.was at law in
    record {
      goes_on = search rules;
      lines =
          lines-more _ _ _ _ _ _ _ _ _ step.2 (c.requires _ _ step.1) c.number.ensures
          (c.number-in-Some.ensures ∙ ap g.M.Probability.WholeNumber.whole c.from_weight-weight.ensures) c.in_ok-push_row.ensures
          c.loop-row.invariant.lines;
    }

pub loop-row-smaller : goal.loop-row-smaller
loop-row-smaller g c =
    let law = g.met.M.IterableEntropyModel.steps_law c.loop-row.table _ c.next.new.self c.in-Some.ensures.steps in
    let step = rw c.in_ok-symbol.was at law in
    omega (arith, ap length step.2)
