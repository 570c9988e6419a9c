use Rattle.std.proofs.Common.{Err, ℕ, List, ap, arith, rules, subst}
use Rattle.std.proofs.lemmas.List.{map-id}
use Rattle.constriction_adaptive.specs.Numbers.{all_bits}
use Rattle.constriction_adaptive.specs.Predicted.{FirstAreLearned}
use Rattle.constriction_adaptive.proofs.Bits.{bytes-fit}
use Rattle.constriction_adaptive.proofs.bytes.bytes_come_back.Goals as goal

pub unreachable-requires : goal.unreachable-requires
unreachable-requires g c =
    c.in-Err-ImpossibleSymbol.ensures.large (ap Err c.in-Err-ImpossibleSymbol.field-0-is)
    (bytes-fit c.args.bytes.now (λ i. first_of (omega arith, search rules)))

pub returns-in-Err-OutOfMemory-clause-err : goal.returns-in-Err-OutOfMemory-clause-err
returns-in-Err-OutOfMemory-clause-err g c =
    subst (λ (ns : List ℕ). FirstAreLearned g.P.Predictor.next (all_bits 8 ns) (g.P.Predictor.state c.args.encoding.now)
    (g.P.Predictor.state c.numbers_come_back.new.encoding)) (map-id c.args.bytes.now) c.in-Err-OutOfMemory.ensures.err
