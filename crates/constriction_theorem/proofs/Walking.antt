-- A chain converts rows that were read from a symbol table. Their symbols stand for those of the model.
use Rattle.std.proofs.Common.{◌≡◌, ℕ, Bool, false, List, [], ◌∷◌, Result, Ok, Err, refl, ap, subst, sym, ◌∙◌}
use Rattle.std.specs.Prelude.{IfOk}
use Rattle.constriction_model.specs.Model.{StandForRows}
use Rattle.constriction_model.specs.Rows.{Row}
use Rattle.constriction_model.specs.lemmas.Stand.{same-rows}
use Rattle.constriction_client.specs.Chains.{ChainLeaves}
use Rattle.constriction_client.specs.declared.chain.ChainStep.{ChainStep}
use Rattle.constriction_client.specs.declared.queries.Reply.{Reply}
use Rattle.constriction_theorem.specs.Answers.{AnswersAfter}

-- rows stand for themselves
stand-themselves : {Symbol : Type 0} (rows : List (Row Symbol)) → StandForRows (λ s t. t ≡ s) rows rows
stand-themselves [] = tt
stand-themselves (r ∷ rs) = ((refl, refl, refl), stand-themselves rs)

-- rows that steps leave of a form's rows are rows that they leave of a walk that gives the symbols themselves
pub leaves-of-itself : {Symbol : Type 0} (IsClone : Symbol → Symbol → Type 0) (steps : List ChainStep) (rows made : List (Row Symbol))
    → ChainLeaves IsClone steps rows made
    → (walked : List (Row Symbol)) × StandForRows (λ s t. t ≡ s) walked rows × ChainLeaves IsClone steps walked made
leaves-of-itself IsClone steps rows made h = (rows, stand-themselves rows, h)

module _ {Symbol : Type 0} (Stands IsClone : Symbol → Symbol → Type 0) (read rows : List (Row Symbol))
    (stand : StandForRows Stands read rows) (scan : List (Row Symbol) → List (Reply Symbol ℕ ℕ)) (steps : List ChainStep)
    {Given Error : Type 0} (is_lookup : Given → Bool) (rows_of : Given → List (Row Symbol))
    (replies : Given → List (Reply Symbol ℕ ℕ)) where
  -- rows that the steps leave of what was read are rows that they leave of a walk through the model's rows
  pub answers-of-table : (r : Result Given Error)
      → IfOk r (λ x. AnswersAfter (λ s t. t ≡ s) IsClone scan steps false read (is_lookup x) (rows_of x) (replies x))
      → IfOk r (λ x. AnswersAfter Stands IsClone scan steps false rows (is_lookup x) (rows_of x) (replies x))
  answers-of-table (Ok x) h =
      let same = same-rows (λ s t. t ≡ s) (λ s t e. e) h.walked read h.walk in
      record {
        kind = h.kind;
        walked = h.walked;
        walk = subst (λ (rs : List (Row Symbol)). StandForRows Stands rs rows) (sym same) stand;
        rows = h.rows;
        replies = h.replies;
        exact = λ alike clones.
            let both = h.exact (λ s t e. e) clones in
            let first = same-rows Stands alike read rows stand in
            (both.0 ∙ first, both.1 ∙ ap scan first);
      }
  answers-of-table (Err e) h = tt
