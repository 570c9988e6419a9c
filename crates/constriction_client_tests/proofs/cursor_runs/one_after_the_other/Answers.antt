use Rattle.constriction_client_tests.proofs.cursor_runs.one_after_the_other.Goals as goal

pub returns : goal.returns
returns g c = λ is.
    c.runs_are_alike.ensures c.args.calls.now _ _ _ _ _ _ is c.in_ok-replies.ensures.ok c.in_ok-others.ensures.ok
