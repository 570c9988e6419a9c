use Rattle.std.proofs.Common.{Err, ap, arith, rules, ◌∙◌}
use Rattle.constriction_words.specs.declared.CoderError.TheVariants.{Frontend}
use Rattle.constriction_adaptive.proofs.Bits.{bytes-fit}
use Rattle.constriction_adaptive.proofs.bytes.encode_bytes.Goals as goal

pub unreachable-requires : goal.unreachable-requires
unreachable-requires g c =
    c.in-Err-Frontend-ImpossibleSymbol.ensures.large
    (ap Err (c.in-Err-Frontend-ImpossibleSymbol.field-0-is ∙ ap Frontend c.in-Err-Frontend-ImpossibleSymbol.field-0-0-is))
    (bytes-fit c.args.bytes.now (λ i. first_of (omega arith, search rules)))
