use Rattle.std.proofs.Common.{sym, ◌∙◌, ap}
use Rattle.std.proofs.lemmas.Result.{IfOk-weaker}
use Rattle.constriction_backends.proofs.CursorRunLaws.{reversal-twice}
use Rattle.constriction_backends.specs.CursorState.{reversal}
use Rattle.constriction_client_tests.proofs.KnownRuns.{known-run}
use Rattle.constriction_client_tests.proofs.known.turned_calls.Goals as goal

pub returns-clause-replies : goal.returns-clause-replies
returns-clause-replies c =
    IfOk-weaker c.run_reversed.result _ _ (λ found ran. (known-run _ found.items _ (ap reversal c.requires) ran).0)
    c.run_reversed.ensures.ok

pub returns-clause-left : goal.returns-clause-left
returns-clause-left c =
    IfOk-weaker c.run_reversed.result _ _
    (λ found ran. sym (reversal-twice _) ∙ ap reversal (known-run _ found.items _ (ap reversal c.requires) ran).1) c.run_reversed.ensures.ok
