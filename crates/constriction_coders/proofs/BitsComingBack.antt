-- A symbol that was encoded by way of a latent one comes back, and so does what the coder held.
use Rattle.std.proofs.Common.{◌≡◌, ℕ, ◌%◌, ◌^◌, ◌≤◌, refl, sym, ◌∙◌, ap, subst, Bool, true, List, [], ◌∷◌, length, Option, None, arith}
use Rattle.std.specs.Cmp.{IsEquivalence}
use Rattle.std.specs.List.{AllZip}
use Rattle.constriction_model.specs.Coding.{StandsForEqual, InTurn}
use Rattle.constriction_model.specs.Model.{ClonesAreEqual}
use Rattle.constriction_model.specs.lemmas.Coding.{entry-back}
use Rattle.constriction_model.specs.lemmas.Pairs.{one-to-one}
use Rattle.constriction_model.specs.Rows.{Row, RowsTile, IsRowOf, entry_of}
use Rattle.constriction_coders.specs.BitsBack.{FitTogether, IsChosenByState, IsEncodedByLatent, IsDecodedByLatent, BitsComeBack}
use Rattle.constriction_coders.specs.Steps.{Content, MayBeHeld, IsEncoded, IsDecoded}
use Rattle.constriction_coders.proofs.ComingBack.{encode-once, symbol-back}
use Rattle.constriction_coders.proofs.GoingBack.{is-encoded}

-- what stands for a symbol is equal to each symbol that this one equals
equal-to : {Symbol : Type 0} (Stands : Symbol → Symbol → Type 0) (eq : Symbol → Symbol → Bool) → IsEquivalence eq
    → ClonesAreEqual eq Stands → (symbol answer : Symbol) → StandsForEqual Stands eq symbol answer → eq symbol answer ≡ true
equal-to Stands eq laws clones symbol answer h = sym (laws.congr h.0 symbol answer h.1) ∙ clones h.0 answer h.2

module _ {Symbol Latent PosteriorModel LikelihoodModel : Type 0}
    (Posterior : Symbol → PosteriorModel → Type 0) (posterior_rows : PosteriorModel → List (Row Latent))
    (posterior_eq : Latent → Latent → Bool) (PosteriorStands : Latent → Latent → Type 0)
    (Likelihood : Latent → LikelihoodModel → Type 0) (likelihood_rows : LikelihoodModel → List (Row Symbol))
    (likelihood_eq : Symbol → Symbol → Bool) (LikelihoodStands : Symbol → Symbol → Type 0)
    (prior_eq : Latent → Latent → Bool) (PriorStands : Latent → Latent → Type 0)
    (fit : FitTogether Posterior posterior_rows posterior_eq PosteriorStands Likelihood likelihood_rows likelihood_eq LikelihoodStands
    prior_eq PriorStands) (prior : List (Row Latent)) (posterior_bits likelihood_bits prior_bits : ℕ)
    (posterior_precision likelihood_precision prior_precision : ℕ) (fits : (m : PosteriorModel) → posterior_precision ≤ 32)
    (prior_tile : RowsTile prior_bits prior_precision prior)
    (posterior_tile : (m : PosteriorModel) → RowsTile posterior_bits posterior_precision (posterior_rows m))
    (likelihood_tile : (m : LikelihoodModel) → RowsTile likelihood_bits likelihood_precision (likelihood_rows m))
    (prior_laws : IsEquivalence prior_eq) (posterior_laws : IsEquivalence posterior_eq) (laws : IsEquivalence likelihood_eq)
  where
    abbrev Back : Type 0
    Back = BitsComeBack Posterior posterior_rows posterior_eq PosteriorStands Likelihood likelihood_rows likelihood_eq LikelihoodStands
        prior_eq PriorStands prior posterior_precision likelihood_precision prior_precision

    abbrev Encodes : Symbol → Content → Content → Type 0
    Encodes = IsEncodedByLatent Posterior posterior_rows posterior_eq PosteriorStands Likelihood likelihood_rows likelihood_eq
        LikelihoodStands prior_eq PriorStands prior posterior_precision likelihood_precision prior_precision

    abbrev Decodes : Symbol → Content → Content → Type 0
    Decodes = IsDecodedByLatent Posterior posterior_rows posterior_eq PosteriorStands Likelihood likelihood_rows likelihood_eq
        LikelihoodStands prior_eq PriorStands prior posterior_precision likelihood_precision prior_precision

    module _ (symbol : Symbol) (full old : Content) (e : Encodes symbol full old) where
      abbrev entry : Latent → Option (ℕ × ℕ)
      entry = entry_of posterior_eq (posterior_rows e.posterior.0)

      -- the latent symbol comes back
      latent-back : (latent : Latent) (coded : Content) → IsDecoded PriorStands prior prior_precision latent full coded
          → (prior_eq e.latent latent ≡ true) × (coded ≡ e.coded)
      latent-back latent coded d =
          let paid = symbol-back PriorStands prior_eq (entry_of prior_eq prior) prior prior_bits prior_precision prior_tile (λ s. refl)
          e.latent latent full e.coded coded e.prior d in
          (equal-to PriorStands prior_eq prior_laws fit.latent_clones e.latent latent paid.0, paid.1)

      -- so it chooses the likelihood again
      likelihood-back : (latent : Latent) (given : LikelihoodModel) → prior_eq e.latent latent ≡ true → Likelihood latent given
          → likelihood_rows given ≡ likelihood_rows e.likelihood.0
      likelihood-back latent given same chooses = sym (fit.likelihoods e.latent latent e.likelihood.0 given same e.likelihood.1 chooses)

      -- and an equal symbol the posterior
      posterior-back : (answer : Symbol) (chosen : PosteriorModel) → likelihood_eq symbol answer ≡ true → Posterior answer chosen
          → posterior_rows chosen ≡ posterior_rows e.posterior.0
      posterior-back answer chosen same chooses = sym (fit.posteriors symbol answer e.posterior.0 chosen same e.posterior.1 chooses)

      -- by which the latent symbol was encoded on what was left when it was decoded
      drawn : (latent : Latent) → prior_eq e.latent latent ≡ true → IsEncoded (entry latent) posterior_precision old e.drawn
      drawn latent same =
          let invertible = fit.invertible symbol e.posterior.0 e.posterior.1 in
          let one = one-to-one posterior_eq entry posterior_bits posterior_precision (posterior_rows e.posterior.0)
          (posterior_tile e.posterior.0) (λ s. refl) posterior_laws invertible.distinct in
          let own = is-encoded PosteriorStands posterior_eq entry _ posterior_precision one invertible.clones e.latent old e.drawn
          e.posterior.2 in record {
            left = own.left;
            weight = own.weight;
            known = sym (one.same e.latent latent (fit.latents e.latent latent same)) ∙ own.known;
            top = own.top;
          }

    symbol-back-by-latent : (symbol answer : Symbol) (old full new : Content) → MayBeHeld old → MayBeHeld new → Encodes symbol full old
        → Decodes answer full new → StandsForEqual LikelihoodStands likelihood_eq symbol answer × (new ≡ old)
    symbol-back-by-latent symbol answer old full new held holds e d = (coded.0, again)
      where
        paid : (prior_eq e.latent d.latent ≡ true) × (d.coded ≡ e.coded)
        paid = latent-back symbol full old e d.latent d.coded d.prior

        decoded : IsDecoded LikelihoodStands (likelihood_rows e.likelihood.0) likelihood_precision answer e.coded d.drawn
        decoded =
            subst (λ (rs : List (Row Symbol)). IsDecoded LikelihoodStands rs likelihood_precision answer e.coded d.drawn)
            (likelihood-back symbol full old e d.latent d.likelihood.0 paid.0 d.likelihood.1)
            (subst (λ (c : Content). IsDecoded LikelihoodStands (likelihood_rows d.likelihood.0) likelihood_precision answer c d.drawn)
            paid.1 d.likelihood.2)

        coded : StandsForEqual LikelihoodStands likelihood_eq symbol answer × (d.drawn ≡ e.drawn)
        coded = symbol-back LikelihoodStands likelihood_eq (entry_of likelihood_eq (likelihood_rows e.likelihood.0))
            (likelihood_rows e.likelihood.0) likelihood_bits likelihood_precision (likelihood_tile e.likelihood.0) (λ s. refl) symbol
            answer e.coded e.drawn d.drawn e.likelihood.2 decoded

        same_posterior : posterior_rows d.posterior.0 ≡ posterior_rows e.posterior.0
        same_posterior =
            posterior-back symbol full old e answer d.posterior.0
            (equal-to LikelihoodStands likelihood_eq laws fit.clones symbol answer coded.0) d.posterior.1

        returned : IsEncoded (entry symbol full old e d.latent) posterior_precision new e.drawn
        returned =
            subst (λ (rs : List (Row Latent)). IsEncoded (entry_of posterior_eq rs d.latent) posterior_precision new e.drawn) same_posterior
            (subst (λ (c : Content). IsEncoded (entry_of posterior_eq (posterior_rows d.posterior.0) d.latent) posterior_precision new c)
            coded.1 d.posterior.2)

        again : new ≡ old
        again = encode-once (entry symbol full old e) posterior_precision (fits e.posterior.0) d.latent new old e.drawn holds held returned
            (drawn symbol full old e d.latent paid.0)

    symbols-back-by-latent : (symbols answers : List Symbol) (full old new : Content)
        → InTurn (λ s above under. Encodes s above under × MayBeHeld under) symbols full old
        → InTurn (λ s above under. Decodes s above under × MayBeHeld under) answers full new
        → length answers ≡ length symbols → AllZip (StandsForEqual LikelihoodStands likelihood_eq) symbols answers × (new ≡ old)
    symbols-back-by-latent [] [] full old new e d n = (tt, sym d ∙ e)
    symbols-back-by-latent [] (t ∷ ts) full old new e d n = absurd (omega arith)
    symbols-back-by-latent (s ∷ ss) [] full old new e d n = absurd (omega arith)
    symbols-back-by-latent (s ∷ ss) (t ∷ ts) full old new e d n =
        let first = symbol-back-by-latent s t e.0 full d.0 e.1.1 d.1.1 e.1.0 d.1.0 in
        let others = symbols-back-by-latent ss ts e.0 old new e.2
        (subst (λ (c : Content). InTurn (λ s above under. Decodes s above under × MayBeHeld under) ts c new) first.1 d.2) (omega arith) in
        ((first.0, others.0), others.1)

    -- the posterior that was chosen has an entry for the latent symbol
    latent-known : (symbol answer : Symbol) (latent : Latent) (full old coded : Content) (chosen : PosteriorModel) → Encodes symbol full old
        → IsDecoded PriorStands prior prior_precision latent full coded
        → IsChosenByState Likelihood likelihood_rows likelihood_precision LikelihoodStands latent answer coded → Posterior answer chosen
        → entry_of posterior_eq (posterior_rows chosen) latent ≡ None → ⊥
    latent-known symbol answer latent full old coded chosen e d given chooses none =
        let paid = latent-back symbol full old e latent coded d in
        let quantile : coded.state % 2 ^ likelihood_precision ≡ e.coded.state % 2 ^ likelihood_precision =
        ap (λ (c : Content). c.state % 2 ^ likelihood_precision) paid.1 in
        let row : IsRowOf (likelihood_rows e.likelihood.0) (e.coded.state % 2 ^ likelihood_precision) given.2 =
        rw (likelihood-back symbol full old e latent given.0 paid.0 given.1, quantile) at given.3 in
        let own = e.likelihood.2 in
        let equal = entry-back likelihood_bits likelihood_precision likelihood_eq (likelihood_rows e.likelihood.0) symbol own.left
        own.weight _ given.2 (likelihood_tile e.likelihood.0) own.known own.top.from own.top.to row in
        let same = equal-to LikelihoodStands likelihood_eq laws fit.clones symbol answer (given.2.symbol, equal.0, given.4) in
        let known = (drawn symbol full old e latent paid.0).known in
        let posterior = posterior-back symbol full old e answer chosen same chooses in
        absurd (let lacks = rw posterior at none in cc)

    -- a latent and its bits come back
    pub bits-come-back : Back
    bits-come-back = record { symbol = symbol-back-by-latent; symbols = symbols-back-by-latent; known = latent-known }
