use Rattle.std.proofs.Common.{◌∙◌}
use Rattle.constriction_coders_tests.proofs.callers.prepared.into_a_slice.Goals as goal

pub returns-in-Ok-decode_into : goal.returns-in-Ok-decode_into
returns-in-Ok-decode_into g c =
    (c.symbols_come_back.ensures.all.symbols c.args.symbols.now c.decode_into.new.symbols _ _ _ c.in-Ok.ensures.ok
    c.in-Ok-decode_into.ensures.ok (c.in-Ok-decode_into.ensures.length ∙ c.requires)).0
