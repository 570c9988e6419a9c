use Rattle.std.proofs.Common.{◌∙◌}
use Rattle.constriction.specs.lemmas.Stand.{same-rows}
use Rattle.constriction_client_tests.proofs.known_theorem.tabled.Goals as goal

pub returns : goal.returns
returns c = same-rows _ (λ x y h. h) _ _ c.in_ok-tabled.ensures.ok.0 ∙ c.new.ensures
