-- The rows that a chain of conversions leaves are the rows of before if each clone is its symbol, and have their entries if each clone is
-- equal to its symbol.
use Rattle.std.specs.Prelude.{◌≡◌, Bool, List, [], ◌∷◌, ◌++◌}
use Rattle.std.specs.Cmp.{IsEquivalence}
use Rattle.std.proofs.Common.{refl, ap, ◌∙◌, subst}
use Rattle.constriction_model.specs.Entries.{SameEntries}
use Rattle.constriction_model.specs.Model.{ClonesAreSame, ClonesAreEqual}
use Rattle.constriction_model.specs.Rows.{Row, entry_of}
use Rattle.constriction_model.specs.lemmas.Stand.{same-rows, entries-made}
use Rattle.constriction_client.specs.declared.chain.ChainStep.{ChainStep}
use Rattle.constriction_client.specs.declared.chain.ChainStep.TheVariants.{ToSearch, ToLookup, IntoSearch, Rebuild}
use Rattle.constriction_client.specs.Chains.{StepLeaves, ChainLeaves}

module _ {Symbol : Type 0} (IsClone : Symbol → Symbol → Type 0) where
  -- one step more
  pub leaves-more : (steps : List ChainStep) (step : ChainStep) (rows between made : List (Row Symbol))
      → ChainLeaves IsClone steps rows between → StepLeaves IsClone step between made → ChainLeaves IsClone (steps ++ step ∷ []) rows made
  leaves-more [] step rows between made h one =
      (made, subst (λ (rs : List (Row Symbol)). StepLeaves IsClone step rs made) h one, refl)
  leaves-more (s ∷ ss) step rows between made h one = (h.0, h.1, leaves-more ss step h.0 between made h.2 one)

  module _ (same : ClonesAreSame IsClone) where
    same-step : (step : ChainStep) (rows made : List (Row Symbol)) → StepLeaves IsClone step rows made → made ≡ rows
    same-step ToSearch rows made h = same-rows IsClone same made rows h
    same-step ToLookup rows made h = same-rows IsClone same made rows h
    same-step IntoSearch rows made h = h
    same-step Rebuild rows made h = same-rows IsClone same made rows h

    -- if clones are the same values, a chain keeps the rows
    pub same-after : (steps : List ChainStep) (rows made : List (Row Symbol)) → ChainLeaves IsClone steps rows made → made ≡ rows
    same-after [] rows made h = h
    same-after (s ∷ ss) rows made h = same-after ss h.0 made h.2 ∙ same-step s rows h.0 h.1

  module _ (eq : Symbol → Symbol → Bool) (laws : IsEquivalence eq) (equal : ClonesAreEqual eq IsClone) where
    entries-step : (step : ChainStep) (rows made : List (Row Symbol)) → StepLeaves IsClone step rows made → SameEntries eq made rows
    entries-step ToSearch rows made h = entries-made eq laws IsClone equal made rows h
    entries-step ToLookup rows made h = entries-made eq laws IsClone equal made rows h
    entries-step IntoSearch rows made h = λ s. ap (λ (rs : List (Row Symbol)). entry_of eq rs s) h
    entries-step Rebuild rows made h = entries-made eq laws IsClone equal made rows h

    -- if clones are equal, a chain keeps the entries
    pub entries-after : (steps : List ChainStep) (rows made : List (Row Symbol)) → ChainLeaves IsClone steps rows made
        → SameEntries eq made rows
    entries-after [] rows made h = λ s. ap (λ (rs : List (Row Symbol)). entry_of eq rs s) h
    entries-after (s ∷ ss) rows made h = λ q. entries-after ss h.0 made h.2 q ∙ entries-step s rows h.0 h.1 q
