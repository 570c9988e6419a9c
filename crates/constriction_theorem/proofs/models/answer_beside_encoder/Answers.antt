use Rattle.constriction_theorem.proofs.models.answer_beside_encoder.Goals as goal

pub returns-clause-ok : goal.returns-clause-ok
returns-clause-ok g c = c.in_ok-replies.ensures.of_one c.in_ok-encoder.ensures.entries
