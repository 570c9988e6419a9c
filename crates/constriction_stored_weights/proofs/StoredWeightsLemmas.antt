-- Stored weights: words are those of one list of weights, and why none are read.
use Rattle.std.proofs.Common.{◌≡◌, ℕ, List, [], ◌∷◌, ◌++◌, append-nil, Option, None, Result, Ok, length, refl, ap, sym, ◌∙◌, subst, arith, length-append}
use Rattle.constriction.specs.declared.CoderError.{CoderError}
use Rattle.constriction.specs.declared.CoderError.TheVariants.{Frontend, Backend}
use Rattle.constriction_backends.specs.Source.{ReadsUpcoming}
use Rattle.constriction_backends.specs.lemmas.Source.{reads_upcoming_all}
use Rattle.constriction_stored_weights.specs.StoredWeights.{weights_as_words, BeginsWeights, EndsInWeights, ReadsWeights, StopsReadingWeights}
use Rattle.constriction_stored_weights.specs.declared.errors.ReadingError.{ReadingError}
use Rattle.constriction_stored_weights.specs.declared.errors.ReadingError.TheVariants.{TooFewWords, NotAccepted, OutOfMemory}

-- words that are stored weights, and begin with stored weights, are these
pub same-weights : (weights others rest : List ℕ) → weights_as_words weights ≡ weights_as_words others ++ rest → others ≡ weights
same-weights weights others [] e = let tails : weights ≡ others ++ [] = cc in sym (tails ∙ append-nil others)
same-weights weights others (w ∷ rest) e =
    let tails : weights ≡ others ++ w ∷ rest = cc in
    let many : length weights ≡ length others = cc in
    absurd (omega (arith, many, ap length tails, length-append others (w ∷ rest)))

module _ {S E : Type 0} (gives : S → Result (Option ℕ) E → S → Type 0) (tells : S → List ℕ → Type 0) where
  -- if a source ends within weights, and tells its upcoming words, these are a beginning of weights
  pub too-few : ((s : S) (r : Result (Option ℕ) E) (t : S) → gives s r t → (ws : List ℕ) → tells s ws → ReadsUpcoming tells ws r t)
      → (s t : S) → EndsInWeights gives s (Ok None) t
      → EndsInWeights gives s (Ok None) t × ((words : List ℕ) → tells s words → BeginsWeights words)
  too-few law s t ends = (
    ends,
    λ words known.
        let read = reads_upcoming_all gives tells law s ends.words ends.reached ends.read words known in
        let none = (law ends.reached (Ok None) t ends.answered read.0 read.2).0 in
        subst BeginsWeights (sym (read.1 ∙ ap (λ ws. ends.words ++ ws) none ∙ append-nil ends.words)) ends.begins,
  )

  -- what stops a reading of weights of which none are refused stops any other
  pub stops-any : (IsRefused : List ℕ → Type 0) (s : S) (error : CoderError ReadingError E) (t : S)
      → StopsReadingWeights gives tells (λ _. ⊥) s error t → StopsReadingWeights gives tells IsRefused s error t
  stops-any IsRefused s (Frontend TooFewWords) t h = h
  stops-any IsRefused s (Frontend NotAccepted) t h = absurd h.2
  stops-any IsRefused s (Frontend OutOfMemory) t h = h
  stops-any IsRefused s (Backend error) t h = h

  -- if the weights were read, no model was made because they were refused, or memory was
  pub no-model : (IsRefused : List ℕ → Type 0) (s : S) (weights : List ℕ) (t : S) → ReadsWeights gives tells s weights t
      → (fault : ReadingError) → (fault ≡ NotAccepted → IsRefused weights) → (fault ≡ TooFewWords → ⊥)
      → StopsReadingWeights gives tells IsRefused s (Frontend fault) t
  no-model IsRefused s weights t read TooFewWords refused whole = absurd (whole refl)
  no-model IsRefused s weights t read NotAccepted refused whole = (weights, read, refused refl)
  no-model IsRefused s weights t read OutOfMemory refused whole = (weights_as_words weights, omega arith, read.read)
