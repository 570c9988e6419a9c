use Rattle.constriction_coders.proofs.laws.stack.back_and_there.Goals as goal

pub returns-in-Ok-encode_symbol-clause-same : goal.returns-in-Ok-encode_symbol-clause-same
returns-in-Ok-encode_symbol-clause-same g c =
    c.decoded_goes_back.ensures.back c.in-Ok.symbol _ _ _ c.may_be_held.ensures c.may_be_held-in-Ok-encode_symbol.ensures c.in-Ok.ensures.ok
    c.in-Ok-encode_symbol.ensures.ok
