use Rattle.std.proofs.Common.{refl}
use Rattle.constriction_client.proofs.chain.with_table.Goals as goal

pub returns : goal.returns
returns g c = record { rows = c.in_ok-into_lookup_decoder_model.ensures.ok; kind = refl; refused = tt }
