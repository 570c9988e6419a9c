use Rattle.std.proofs.Common.{◌∙◌}
use Rattle.constriction_coders_tests.proofs.callers.prepared.side_by_side.Goals as goal

pub returns-in-Ok-decode_two-clause-first : goal.returns-in-Ok-decode_two-clause-first
returns-in-Ok-decode_two-clause-first g c =
    (c.symbols_come_back.ensures.all.symbols c.args.first.now c.decode_two.new.first _ _ _ c.in-Ok.ensures.ok
    c.in-Ok-decode_two.ensures.first_ok (c.in-Ok-decode_two.ensures.first_length ∙ c.requires.first)).0

pub returns-in-Ok-decode_two-clause-second : goal.returns-in-Ok-decode_two-clause-second
returns-in-Ok-decode_two-clause-second g c =
    (c.symbols_come_back.ensures.all.symbols c.args.second.now c.decode_two.new.second _ _ _
    c.in-Ok-encode_iid_slice_reverse.ensures.ok c.in-Ok-decode_two.ensures.second_ok
    (c.in-Ok-decode_two.ensures.second_length ∙ c.requires.second)).0
