use Rattle.std.proofs.lemmas.Result.{IfOk-weaker}
use Rattle.constriction_client_tests.proofs.KnownRuns.{known-run}
use Rattle.constriction_client_tests.proofs.known.calls.Goals as goal

pub returns-clause-replies : goal.returns-clause-replies
returns-clause-replies c =
    IfOk-weaker c.run_cursor.result _ _ (λ found ran. (known-run _ found.items _ c.requires ran).0) c.run_cursor.ensures.ok

pub returns-clause-left : goal.returns-clause-left
returns-clause-left c =
    IfOk-weaker c.run_cursor.result _ _ (λ found ran. (known-run _ found.items _ c.requires ran).1) c.run_cursor.ensures.ok
