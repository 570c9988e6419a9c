use Rattle.constriction_coders_tests.proofs.callers.in_order.Goals as goal

pub returns-in-Ok-decode_iid_vec : goal.returns-in-Ok-decode_iid_vec
returns-in-Ok-decode_iid_vec g c =
    (c.symbols_come_back.ensures.all.symbols c.args.symbols.now c.in-Ok-decode_iid_vec.answers.items _ _ _ c.in-Ok.ensures.ok
    c.in-Ok-decode_iid_vec.ensures.ok c.in-Ok-decode_iid_vec.ensures.count).0
