use Rattle.constriction_coders_tests.proofs.callers.any_coder.by_any_coder.Goals as goal

pub returns-in-Ok-decode_iid_vec : goal.returns-in-Ok-decode_iid_vec
returns-in-Ok-decode_iid_vec g c =
    c.come_back.ensures c.args.symbols.now c.in-Ok-decode_iid_vec.answers.items c.args.coder c.encode_iid_slice.new.self
    c.in-Ok-into_decoder.opened c.decode_iid_vec.new.self c.requires.begun c.in-Ok.ensures.ok
    c.in-Ok-into_decoder.ensures.ok c.in-Ok-decode_iid_vec.ensures.ok c.in-Ok-decode_iid_vec.ensures.count
