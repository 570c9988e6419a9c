use Rattle.constriction_model.specs.lemmas.Stand.{same-rows}
use Rattle.constriction_theorem.proofs.made.decoder_of.Goals as goal

pub returns-clause-rows : goal.returns-clause-rows
returns-clause-rows g c = same-rows _ (λ x y h. h) _ _ c.in_ok-decoder.ensures.ok.0
