use Rattle.std.proofs.Common.{◌*◌, ◌%◌, refl, arith}
use Rattle.constriction_coders.specs.Spans.{span_of}
use Rattle.constriction_coders.proofs.Narrowing.{widened-wide, widened-small, part-reached, part-within}
use Rattle.constriction_coders.proofs.Outcomes.{no-error}
use Rattle.constriction_coders.proofs.queue.range_encoder.RangeEncoderEncode.encode_symbol.Goals as goal

pub unit_of-unit-requires : goal.unit_of-unit-requires
unit_of-unit-requires g c = record { fits = c.entry_of_symbol.ensures.precision.fits; wide = c.self.invariant.wide }

pub overflow_mul-by : goal.overflow_mul-by
overflow_mul-by g c =
    omega (arith, c.self.invariant.fits, part-within _ _ _ _ _ c.unit_of-unit.ensures.within c.in-Some.ensures.within)

pub overflow_mul-range : goal.overflow_mul-range
overflow_mul-range g c =
    omega (arith, c.self.invariant.fits, part-within _ _ _ _ _ c.unit_of-unit.ensures.within c.in-Some.ensures.within)

pub raised-self-inside-requires : goal.raised-self-inside-requires
raised-self-inside-requires g c =
    omega (arith, c.self.invariant.within, part-within _ _ _ _ _ c.unit_of-unit.ensures.within c.in-Some.ensures.within)

pub raised-lower-requires : goal.raised-lower-requires
raised-lower-requires g c =
    let part = part-within _ _ _ _ _ c.unit_of-unit.ensures.within c.in-Some.ensures.within in
    rw c.in-Ok.ensures.items (omega (arith, c.self.invariant.within, part))

pub invariant_of-self : goal.invariant_of-self
invariant_of-self g c =
    let precision = c.entry_of_symbol.ensures.precision in
    let words = c.self.inside.words.items in
    part-reached g.row.PRECISION c.in-Some.left c.in-Some.weight precision.positive precision.fits
    c.in-Some.ensures.some c.in-Some.ensures.within (span_of words c.self.inside.lower c.self.inside.range) c.self.invariant _
    (widened-wide g.row.PRECISION c.in-Some.left c.in-Some.weight words c.raised-self-inside.new.words.items c.self.inside.lower
    c.self.inside.range c.unit_of-unit.result c.raised-self-inside.result _ c.unit_of-unit.ensures.value
    c.raised-self-inside.ensures.value refl c.raised-self-inside.ensures.length c.if-range.true)

pub invariant_of-self-2 : goal.invariant_of-self-2
invariant_of-self-2 g c =
    let precision = c.entry_of_symbol.ensures.precision in
    let words = c.self.inside.words.items in
    let same = c.in-Ok.ensures.items in
    let low = rw same at c.raised-lower.ensures.value in
    let long = rw same at c.raised-lower.ensures.length in
    part-reached g.row.PRECISION c.in-Some.left c.in-Some.weight precision.positive precision.fits
    c.in-Some.ensures.some c.in-Some.ensures.within (span_of words c.self.inside.lower c.self.inside.range) c.self.invariant _
    (widened-small g.row.PRECISION c.in-Some.left c.in-Some.weight words c.raised-lower.new.words.items c.self.inside.lower
    c.self.inside.range c.unit_of-unit.result c.raised-lower.result (c.unit_of-unit.result * c.in-Some.weight) c.unit_of-unit.ensures.value
    low refl long c.widened-self-inside.new.words.items c.widened-self-inside.result
    (c.unit_of-unit.result * c.in-Some.weight * 4294967296 % 18446744073709551616) c.if-range.false c.widened-self-inside.ensures.value
    c.widened-self-inside.ensures.length (omega (arith, c.if-range.false)))

pub returns-then-range-clause-impossible : goal.returns-then-range-clause-impossible
returns-then-range-clause-impossible g c = λ fault is. absurd (no-error _ _ is)

pub returns-clause-impossible : goal.returns-clause-impossible
returns-clause-impossible g c = λ fault is. absurd (no-error _ _ is)
