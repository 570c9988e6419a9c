-- Bits-back coding: a symbol is put on a stack by way of a latent symbol, which is decoded from what the coder holds.
use Rattle.std.specs.Prelude.{◌≡◌, ◌≢◌, ℕ, ◌%◌, ◌^◌, Bool, IsTrue, List, None, length}
use Rattle.std.specs.List.{AllZip}
use Rattle.constriction_model.specs.Coding.{StandsForEqual, InTurn}
use Rattle.constriction_model.specs.Model.{ClonesAreEqual}
use Rattle.constriction_model.specs.Rows.{Row, IsRowOf, entry_of}
use Rattle.constriction_coders.specs.Laws.{IsInvertible}
use Rattle.constriction_coders.specs.Steps.{Content, MayBeHeld, IsEncoded, IsDecoded}

-- `full` has the symbol on `rest` by way of a latent one: `drawn` is `rest` without the latent symbol, by its posterior; `coded` has the
-- symbol on top of that, by its likelihood; and `full` has the latent symbol on top of all, by its prior.
pub record IsCodedByLatent {Symbol Latent : Type 0} (Posterior : Symbol → Latent → Content → Content → Type 0)
    (Likelihood : Latent → Symbol → Content → Content → Type 0) (Prior : Latent → Content → Content → Type 0) (symbol : Symbol)
    (full rest : Content) : Type 0 where
  pub latent : Latent
  pub drawn : Content
  pub posterior : Posterior symbol latent rest drawn
  pub coded : Content
  pub likelihood : Likelihood latent symbol coded drawn
  pub prior : Prior latent full coded

-- `Chooses other model` says that another symbol chooses this model.
module _ {Other Symbol Model : Type 0} (Chooses : Other → Model → Type 0) (rows : Model → List (Row Symbol)) (precision : ℕ) where
  -- the symbol is encoded by a model that the other one chooses
  abbrev pub IsEncodedByChosen : (eq : Symbol → Symbol → Bool) → Other → Symbol → Content → Content → Type 0
  IsEncodedByChosen eq other symbol full rest =
      (model : Model) × Chooses other model × IsEncoded (entry_of eq (rows model) symbol) precision full rest

  -- the symbol is decoded by such a model
  abbrev pub IsDecodedByChosen : (Stands : Symbol → Symbol → Type 0) → Other → Symbol → Content → Content → Type 0
  IsDecodedByChosen Stands other symbol full rest =
      (model : Model) × Chooses other model × IsDecoded Stands (rows model) precision symbol full rest

  -- the state chooses the symbol among those of such a model
  abbrev pub IsChosenByState : (Stands : Symbol → Symbol → Type 0) → Other → Symbol → Content → Type 0
  IsChosenByState Stands other symbol full =
      (model : Model) × Chooses other model × (row : Row Symbol) × IsRowOf (rows model) (full.state % 2 ^ precision) row
      × Stands row.symbol symbol

module _ {Symbol Latent PosteriorModel LikelihoodModel : Type 0}
    (Posterior : Symbol → PosteriorModel → Type 0) (posterior_rows : PosteriorModel → List (Row Latent))
    (posterior_eq : Latent → Latent → Bool) (PosteriorStands : Latent → Latent → Type 0)
    (Likelihood : Latent → LikelihoodModel → Type 0) (likelihood_rows : LikelihoodModel → List (Row Symbol))
    (likelihood_eq : Symbol → Symbol → Bool) (LikelihoodStands : Symbol → Symbol → Type 0)
    (prior_eq : Latent → Latent → Bool) (PriorStands : Latent → Latent → Type 0) where
  -- The models fit together: equal symbols choose posteriors of the same rows, and equal latent symbols likelihoods of the same rows;
  -- latent symbols that are equal by the prior are equal by the posteriors; and what stands for a symbol is equal to it.
  pub record FitTogether : Type 0 where
    pub posteriors : (s t : Symbol) (m n : PosteriorModel) → IsTrue (likelihood_eq s t) → Posterior s m → Posterior t n
        → posterior_rows m ≡ posterior_rows n
    pub likelihoods : (l k : Latent) (m n : LikelihoodModel) → IsTrue (prior_eq l k) → Likelihood l m → Likelihood k n
        → likelihood_rows m ≡ likelihood_rows n
    pub latents : (l k : Latent) → IsTrue (prior_eq l k) → IsTrue (posterior_eq l k)
    pub invertible : (s : Symbol) (m : PosteriorModel) → Posterior s m → IsInvertible posterior_eq PosteriorStands (posterior_rows m)
    pub latent_clones : ClonesAreEqual prior_eq PriorStands
    pub clones : ClonesAreEqual likelihood_eq LikelihoodStands

  -- a precision for each model
  module _ (prior : List (Row Latent)) (posterior_precision likelihood_precision prior_precision : ℕ) where
    -- the symbol is encoded, and the latent one decoded before and encoded after it
    abbrev pub IsEncodedByLatent : Symbol → (full rest : Content) → Type 0
    IsEncodedByLatent =
        IsCodedByLatent (IsDecodedByChosen Posterior posterior_rows posterior_precision PosteriorStands)
        (IsEncodedByChosen Likelihood likelihood_rows likelihood_precision likelihood_eq)
        (λ s. IsEncoded (entry_of prior_eq prior s) prior_precision)

    -- the symbol is decoded, and the latent one decoded before and encoded after it
    abbrev pub IsDecodedByLatent : Symbol → (full rest : Content) → Type 0
    IsDecodedByLatent =
        IsCodedByLatent (IsEncodedByChosen Posterior posterior_rows posterior_precision posterior_eq)
        (IsDecodedByChosen Likelihood likelihood_rows likelihood_precision LikelihoodStands)
        (IsDecoded PriorStands prior prior_precision)

    -- what follows for symbols that were encoded so
    pub record BitsComeBack : Type 0 where
      -- what is decoded after a symbol was encoded stands for an equal one, and the coder holds what it held before
      pub symbol : (symbol answer : Symbol) (old full new : Content) → MayBeHeld old → MayBeHeld new → IsEncodedByLatent symbol full old
          → IsDecodedByLatent answer full new → StandsForEqual LikelihoodStands likelihood_eq symbol answer × (new ≡ old)
      -- so do several symbols, the one that was encoded last first
      pub symbols : (symbols answers : List Symbol) (full old new : Content)
          → InTurn (λ s above under. IsEncodedByLatent s above under × MayBeHeld under) symbols full old
          → InTurn (λ s above under. IsDecodedByLatent s above under × MayBeHeld under) answers full new
          → length answers ≡ length symbols → AllZip (StandsForEqual LikelihoodStands likelihood_eq) symbols answers × (new ≡ old)
      -- the posterior of what is decoded after a symbol was encoded has an entry for the latent symbol
      pub known : (symbol answer : Symbol) (latent : Latent) (full old coded : Content) (chosen : PosteriorModel)
          → IsEncodedByLatent symbol full old → IsDecoded PriorStands prior prior_precision latent full coded
          → IsChosenByState Likelihood likelihood_rows likelihood_precision LikelihoodStands latent answer coded → Posterior answer chosen
          → entry_of posterior_eq (posterior_rows chosen) latent ≢ None
