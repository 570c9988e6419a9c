-- Reads that take the first word meet the law of sources: the impl cites it.
use Rattle.std.specs.Prelude.{◌≡◌, ℕ, List, Option, Some, None, Result, Ok, Err}
use Rattle.std.proofs.Common.{sym, ◌∙◌}
use Rattle.constriction_backends.specs.Source.{ReadsUpcoming}
use Rattle.constriction_coders.specs.EncodedWords.{TakesFirst}

-- what takes the first of its words reads its upcoming words
pub TakesFirst-upcoming : {S E : Type 0} (upcoming : S → List ℕ) (s : S) (r : Result (Option ℕ) E) (t : S)
    → TakesFirst (upcoming s) r (upcoming t) → (words : List ℕ) → words ≡ upcoming s
    → ReadsUpcoming (λ u ws. ws ≡ upcoming u) words r t
TakesFirst-upcoming upcoming s (Ok None) t h words e = (e ∙ h.0, sym h.1)
TakesFirst-upcoming upcoming s (Ok (Some word)) t h words e = (upcoming t, e ∙ h, λ _. upcoming t)
TakesFirst-upcoming upcoming s (Err x) t h words e = absurd h
