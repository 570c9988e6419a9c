use Rattle.std.proofs.Common.{◌∙◌}
use Rattle.constriction.specs.lemmas.Stand.{same-rows}
use Rattle.constriction_client_tests.proofs.known_models.letter_looked_up_in_a_clone.Goals as goal

pub letter_looked_up-requires : goal.letter_looked_up-requires
letter_looked_up-requires c = same-rows _ (λ x y h. h) _ _ c.in_ok-clone.ensures ∙ c.requires
