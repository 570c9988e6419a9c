-- The first and the third symbol are the same, so the symbols are not distinct.
use Rattle.std.proofs.Common.{◌≡◌, [], ◌∷◌, refl, lit<, true≢false}
use Rattle.std.proofs.lemmas.Map.Keys.{apart_from_distinct}
use Rattle.std.specs.Prelude.{Result, Ok, Err, IfOk, IsErr, nat_eq, false}
use Rattle.constriction_client_tests.proofs.known_models.of_a_repeat.Goals as goal

err-unless : {A E P : Type 0} (r : Result A E) → IfOk r (λ _. P) → (P → ⊥) → IsErr r
err-unless (Ok x) h refuted = absurd (refuted h)
err-unless (Err e) h refuted = refl

pub returns : goal.returns
returns c =
    err-unless c.decoder_of.result c.decoder_of.ensures.accepted (λ accepted.
    let apart : nat_eq 97 97 ≡ false =
    apart_from_distinct nat_eq (97 ∷ 120 ∷ 97 ∷ 121 ∷ []) 0 2 97 accepted.distinct (lit< tt) (lit< tt) in
    true≢false apart)
