use Rattle.std.proofs.Common.{sym, ◌∙◌}
use Rattle.constriction_client.specs.lemmas.Chains.{entries-after}
use Rattle.constriction_client.proofs.Replying.{scan-of-rows}
use Rattle.constriction_theorem.proofs.Walking.{leaves-of-itself}
use Rattle.constriction_theorem.proofs.forms.answer_by_form.Goals as goal

pub returns-clause-answers : goal.returns-clause-answers
returns-clause-answers g c =
    let leaves = leaves-of-itself g.Symbol.Clone.is_clone c.args.steps.now _ _ c.in_ok-converted.ensures.rows in
    record {
      kind = c.in_ok-converted.ensures.kind;
      walked = leaves.0;
      walk = leaves.1;
      rows = leaves.2;
      replies =
          c.in_ok-replies.ensures.of_one (λ s. c.requires.alike s ∙ sym (entries-after g.Symbol.Clone.is_clone g.E.EncoderModel.symbol_eq
          g.met.E.EncoderModel.equality_law c.requires.equal c.args.steps.now _ _ c.in_ok-converted.ensures.rows s));
      exact = λ walks same. (
        c.in_ok-converted.ensures.exact same,
        c.in_ok-replies.ensures.ok.exact same
            ∙ scan-of-rows g.row.PRECISION g.Probability.WholeNumber.whole g.E.EncoderModel.symbol_eq _ _ _ c.args.queries.now
            (c.in_ok-converted.ensures.exact same) c.requires.alike,
      );
    }
