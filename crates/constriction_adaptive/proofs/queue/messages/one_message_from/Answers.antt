use Rattle.constriction_coders.specs.Places.{entry_at}
use Rattle.constriction_coders.proofs.Once.{message-once}
use Rattle.constriction_adaptive.specs.Predicted.{predicted_entry}
use Rattle.constriction_adaptive.proofs.queue.messages.one_message_from.Goals as goal

pub returns : goal.returns
returns g c = message-once (entry_at (predicted_entry g.P.Predictor.rows g.P.Model.EncoderModel.symbol_eq)) g.row.PRECISION
