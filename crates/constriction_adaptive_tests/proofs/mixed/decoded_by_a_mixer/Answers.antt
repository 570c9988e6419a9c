use Rattle.std.proofs.lemmas.Result.{IfOk-weaker}
use Rattle.constriction_adaptive_tests.proofs.mixed.decoded_by_a_mixer.Goals as goal

pub returns-clause-read : goal.returns-clause-read
returns-clause-read c = IfOk-weaker c.decode_bytes_of.result _ _ (λ bytes read. (read _ c.in-Ok.ensures).0) c.decode_bytes_of.ensures.ok

pub returns-clause-valid : goal.returns-clause-valid
returns-clause-valid c = λ is bytes count read. c.decode_bytes_of.ensures.valid is _ bytes c.in-Ok.ensures count read
