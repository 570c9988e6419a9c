-- Reads in a row that each answered a word, and the upcoming words that they leave. A caller's proof may cite these.
use Rattle.std.specs.Prelude.{◌≡◌, List, [], ◌∷◌, ◌++◌, Option, Some, Result, Ok}
use Rattle.std.proofs.Common.{refl, ap, sym, ◌∙◌, subst}
use Rattle.constriction_sources.specs.Source.{ReadsUpcoming, Reads}

module _ {S W E : Type 0} (gives : S → Result (Option W) E → S → Type 0) where
  -- one more read after others
  pub reads_more : (s : S) (ws : List W) (j : S) (w : W) (t : S) → Reads gives s ws j → gives j (Ok (Some w)) t
      → Reads gives s (ws ++ w ∷ []) t
  reads_more s [] j w t e h = (t, subst (λ (x : S). gives x (Ok (Some w)) t) (sym e) h, refl)
  reads_more s (x ∷ xs) j w t p h = (p.0, p.1, reads_more p.0 xs j w t p.2 h)

  -- the words that were read are the first upcoming words, and the others are left
  pub reads_upcoming_all : (tells : S → List W → Type 0)
      → ((s : S) (r : Result (Option W) E) (t : S) → gives s r t → (ws : List W) → tells s ws → ReadsUpcoming tells ws r t)
      → (s : S) (ws : List W) (t : S) → Reads gives s ws t → (words : List W) → tells s words
      → (rest : List W) × (words ≡ ws ++ rest) × tells t rest
  reads_upcoming_all tells law s [] t e words known = (words, refl, subst (λ (x : S). tells x words) e known)
  reads_upcoming_all tells law s (w ∷ ws) t p words known =
      let first = law s (Ok (Some w)) p.0 p.1 words known in
      let others = reads_upcoming_all tells law p.0 ws t p.2 first.0 first.2 in
      (others.0, first.1 ∙ ap (λ xs. w ∷ xs) others.1, others.2)
