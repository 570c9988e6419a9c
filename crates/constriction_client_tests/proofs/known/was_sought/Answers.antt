use Rattle.std.proofs.Common.{◌≡◌, ℕ, List, [], ◌∷◌, ◌++◌, take, drop, ap, sym, ◌∙◌, take-append-drop}
use Rattle.constriction_client_tests.proofs.known.was_sought.Goals as goal

-- the words of a cursor that stands behind 10
words_are : (words : List ℕ) (p : ℕ) → take p words ≡ 10 ∷ [] → drop p words ≡ 20 ∷ 30 ∷ [] → words ≡ 10 ∷ 20 ∷ 30 ∷ []
words_are words p e f =
    sym (take-append-drop p words) ∙ ap (λ xs. xs ++ drop p words) e ∙ ap (λ xs. 10 ∷ xs) f

pub returns-in-Ok : goal.returns-in-Ok
returns-in-Ok c = λ _.
    let moved = rw c.in-Ok.is at c.seek.ensures.gives in
    rw (moved.1, moved.2) (ap (λ ws. record { before = []; after = ws })
    (words_are _ _ (ap (λ s. s.before) c.requires) (ap (λ s. s.after) c.requires)))
