use Rattle.std.proofs.Common.{Err, ap}
use Rattle.constriction.specs.Acceptance.{AreAccepted}
use Rattle.constriction_stored_weights.proofs.StoredWeightsLemmas.{no-model, stops-any}
use Rattle.constriction_stored_weights.proofs.models.read_model.Goals as goal

pub returns-in-Err-clause-err : goal.returns-in-Err-clause-err
returns-in-Err-clause-err g c =
    stops-any g.Source.ReadWords.read_gives g.Source.ReadWords.tells_upcoming _ c.args.source.now c.in-Err.error _ c.in-Err.ensures.err

pub returns-in-Err-stored_model_of-clause-err : goal.returns-in-Err-stored_model_of-clause-err
returns-in-Err-stored_model_of-clause-err g c =
    no-model g.Source.ReadWords.read_gives g.Source.ReadWords.tells_upcoming
    (λ weights. ¬ (AreAccepted g.Symbol.PartialEq.eq 32 g.row.PRECISION c.args.symbols.items weights)) c.args.source.now
    c.in-Ok.weights.items _ c.in-Ok.ensures.ok c.in-Err-stored_model_of.error
    (λ is. c.in-Err-stored_model_of.ensures.not_accepted (ap Err is)) (λ is. c.in-Err-stored_model_of.ensures.whole (ap Err is))
