use Rattle.std.proofs.Common.{◌∙◌, Err, ap}
use Rattle.std.proofs.lemmas.Bool.{eqb-true}
use Rattle.constriction_coders_tests.proofs.callers.stack.by_a_latent_number.Goals as goal

pub returns-in-Ok-decode-clause-symbol : goal.returns-in-Ok-decode-clause-symbol
returns-in-Ok-decode-clause-symbol c =
    let back = c.bits_come_back.ensures.symbol c.args.symbol c.in-Ok-decode.answer _ _ _ c.may_be_held.ensures
    c.may_be_held-in-Ok-decode.ensures c.in-Ok.ensures.ok c.in-Ok-decode.ensures.ok in
    back.0.2 ∙ eqb-true back.0.0 c.args.symbol back.0.1

pub returns-in-Ok-decode-clause-coder : goal.returns-in-Ok-decode-clause-coder
returns-in-Ok-decode-clause-coder c =
    (c.bits_come_back.ensures.symbol c.args.symbol c.in-Ok-decode.answer _ _ _ c.may_be_held.ensures c.may_be_held-in-Ok-decode.ensures
    c.in-Ok.ensures.ok c.in-Ok-decode.ensures.ok).1

pub unreachable-requires : goal.unreachable-requires
unreachable-requires c =
    let lacks = c.in-Err-Frontend.ensures.impossible c.in-Err-Frontend.field-0-0 (ap Err c.in-Err-Frontend.field-0-is) in
    c.bits_come_back.ensures.known c.args.symbol lacks.3 lacks.0 _ _ lacks.1 lacks.5 c.in-Ok.ensures.ok lacks.2 lacks.4 lacks.6 lacks.7
