-- If the first and the third symbol are the same, the symbols are not distinct.
use Rattle.std.proofs.Common.{◌≡◌, List, [], ◌∷◌, sym, subst, ◌∙◌, refl, eq-eqb, lit<, true≢false}
use Rattle.std.specs.Prelude.{ℕ, Result, IfOk, IsErr, Ok, Err, nat_eq, false}
use Rattle.std.specs.List.{IsDistinct}
use Rattle.std.proofs.lemmas.Map.Keys.{apart_from_distinct}
use Rattle.std.proofs.lemmas.Result.{IfOk-weaker}
use Rattle.constriction.specs.Model.{StandForRows}
use Rattle.constriction.specs.Rows.{Row, symbols_of}
use Rattle.constriction.specs.lemmas.Stand.{same-rows}
use Rattle.constriction_models_tests.proofs.own_model.decoder_of.Goals as goal

err-unless : {A E : Type 0} {P : A → Type 0} (r : Result A E) → IfOk r P → ((x : A) → P x → ⊥) → IsErr r
err-unless (Ok x) h refuted = absurd (refuted x h)
err-unless (Err e) h refuted = refl

not-repeated : (a b c : ℕ) → a ≡ c → IsDistinct nat_eq (a ∷ b ∷ c ∷ []) → ⊥
not-repeated a b c e d =
    let apart : nat_eq a c ≡ false = apart_from_distinct nat_eq (a ∷ b ∷ c ∷ []) 0 2 a d (lit< tt) (lit< tt) in
    true≢false (sym (eq-eqb a c e) ∙ apart)

-- the rows of what was made, whose symbols are the letters themselves
its-rows : {D E : Type 0} (rows : D → List (Row ℕ)) (letters : List (Row ℕ)) (r : Result D E)
    → IfOk r (λ d. StandForRows (λ s t. t ≡ s) (rows d) letters × IsDistinct nat_eq (symbols_of (rows d)))
    → IfOk r (λ d. (rows d ≡ letters) × IsDistinct nat_eq (symbols_of letters))
its-rows rows letters (Ok d) h =
    let same : rows d ≡ letters = same-rows (λ s t. t ≡ s) (λ x y e. e) (rows d) letters h.0 in
    (same, subst (λ (rs : List (Row ℕ)). IsDistinct nat_eq (symbols_of rs)) same h.1)
its-rows rows letters (Err e) h = tt

pub returns-clause-ok : goal.returns-clause-ok
returns-clause-ok c =
    let made = c.to_generic_decoder_model in IfOk-weaker made.result _ _ (λ d parts. parts.0) (its-rows _ _ made.result made.ensures.ok)

pub returns-clause-repeated : goal.returns-clause-repeated
returns-clause-repeated c = λ e.
    err-unless c.to_generic_decoder_model.result (its-rows _ _ c.to_generic_decoder_model.result c.to_generic_decoder_model.ensures.ok)
    (λ d h. not-repeated _ _ _ e h.1)
