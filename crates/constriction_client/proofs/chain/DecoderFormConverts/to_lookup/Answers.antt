use Rattle.std.proofs.lemmas.Result.{IfOk-weaker}
use Rattle.constriction_client.proofs.chain.DecoderFormConverts.to_lookup.Goals as goal

pub returns-clause-rows : goal.returns-clause-rows
returns-clause-rows g c = IfOk-weaker c.with_table.result _ _ (λ m is. rw is c.in_ok-searched.ensures.rows) c.with_table.ensures.rows
