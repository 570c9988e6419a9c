use Rattle.std.proofs.Common.{ap, ◌∙◌}
use Rattle.std.proofs.lemmas.Result.{MatchResult-weaker}
use Rattle.std.specs.Prelude.{nat_eq}
use Rattle.constriction.specs.Rows.{entry_of}
use Rattle.constriction.specs.lemmas.Stand.{same-rows}
use Rattle.constriction_client_tests.proofs.known_models.cloned.Goals as goal

pub returns : goal.returns
returns c =
    MatchResult-weaker c.clone.result c.clone.ensures.cases
    (λ m stand s. ap (λ rows. entry_of nat_eq rows s) (same-rows _ (λ x y h. h) _ _ stand) ∙ c.requires s) (λ e refused. tt)
