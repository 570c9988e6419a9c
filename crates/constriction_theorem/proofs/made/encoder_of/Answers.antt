use Rattle.constriction_theorem.proofs.Making.{entries-of-made}
use Rattle.constriction_theorem.proofs.made.encoder_of.Goals as goal

pub returns-clause-entries : goal.returns-clause-entries
returns-clause-entries g c =
    entries-of-made g.M.Symbol.PartialEq.eq g.met.M.Symbol.Eq.laws g.M.IterableEntropyModel.stands_for c.requires _ _
    c.to_generic_encoder_model.result c.to_generic_encoder_model.ensures.ok
