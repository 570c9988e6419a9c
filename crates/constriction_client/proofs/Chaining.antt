-- The rows and the kind of form that a chain leaves, step by step.
use Rattle.std.proofs.Common.{◌≡◌, ℕ, ◌+◌, ◌<◌, List, [], ◌∷◌, length, get_or, take, ap, sym, subst, ◌∙◌}
use Rattle.std.specs.Prelude.{Bool, fold}
use Rattle.std.proofs.lemmas.List.{take_more}
use Rattle.std.proofs.lemmas.List.Sums.{fold-append}
use Rattle.constriction_model.specs.Rows.{Row}
use Rattle.constriction_client.specs.declared.chain.ChainStep.{ChainStep}
use Rattle.constriction_client.specs.lemmas.Chains.{leaves-more}
use Rattle.constriction_client.specs.Chains.{is_lookup_after, StepLeaves, ChainLeaves}

module _ {Symbol : Type 0} (IsClone : Symbol → Symbol → Type 0) (steps : List ChainStep) where
  -- one more step leaves what a chain of one more step leaves
  pub one-step-more : (i : ℕ) (d : ChainStep) (rows between made : List (Row Symbol)) → i < length steps
      → ChainLeaves IsClone (take i steps) rows between → StepLeaves IsClone (get_or steps i d) between made
      → ChainLeaves IsClone (take (i + 1) steps) rows made
  one-step-more i d rows between made within so_far one =
      subst (λ (ss : List ChainStep). ChainLeaves IsClone ss rows made) (sym (take_more steps i d within))
      (leaves-more IsClone (take i steps) (get_or steps i d) rows between made so_far one)

-- the kind after one more step is what the step makes of the kind before
pub one-kind-more : (steps : List ChainStep) (i : ℕ) (d : ChainStep) (before now next : Bool) → i < length steps
    → now ≡ fold is_lookup_after before (take i steps) → next ≡ is_lookup_after now (get_or steps i d)
    → next ≡ fold is_lookup_after before (take (i + 1) steps)
one-kind-more steps i d before now next within so_far one =
    one ∙ ap (λ b. is_lookup_after b (get_or steps i d)) so_far
    ∙ sym (fold-append is_lookup_after before (take i steps) (get_or steps i d ∷ []))
    ∙ ap (λ (ss : List ChainStep). fold is_lookup_after before ss) (sym (take_more steps i d within))
