use Rattle.std.proofs.Common.{◌∙◌}
use Rattle.std.proofs.lemmas.Bool.{eqb-true}
use Rattle.constriction_coders_tests.proofs.Words.{three-taken}
use Rattle.constriction_coders_tests.proofs.callers.words.on_a_stack.Goals as goal

pub returns-clause-numbers : goal.returns-clause-numbers
returns-clause-numbers c =
    let back = (three-taken _ _ _ _ _ _ _ _ _ _ _ _ _ _ _ _ _ _ _ _ _ c.symbols_come_back.ensures c.symbols_come_back-2.ensures
    c.symbols_come_back-3.ensures _ _ _ _ _ _ _ c.in-Ok.ensures.ok c.in-Ok-encode_symbol.ensures.ok c.in-Ok-encode_symbol-2.ensures.ok
    c.in-Ok-decode_symbol.ensures.ok c.in-Ok-decode_symbol-2.ensures.ok c.in-Ok-decode_symbol-3.ensures.ok).0 in (
      back.0.2 ∙ eqb-true back.0.0 c.args.numbers.0 back.0.1,
      back.1.2 ∙ eqb-true back.1.0 c.args.numbers.1 back.1.1,
      back.2.2 ∙ eqb-true back.2.0 c.args.numbers.2 back.2.1,
    )

pub returns-clause-coder : goal.returns-clause-coder
returns-clause-coder c =
    (three-taken _ _ _ _ _ _ _ _ _ _ _ _ _ _ _ _ _ _ _ _ _ c.symbols_come_back.ensures c.symbols_come_back-2.ensures
    c.symbols_come_back-3.ensures _ _ _ _ _ _ _ c.in-Ok.ensures.ok c.in-Ok-encode_symbol.ensures.ok c.in-Ok-encode_symbol-2.ensures.ok
    c.in-Ok-decode_symbol.ensures.ok c.in-Ok-decode_symbol-2.ensures.ok c.in-Ok-decode_symbol-3.ensures.ok).1
