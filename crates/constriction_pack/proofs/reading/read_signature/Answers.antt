use Rattle.std.proofs.Common.{◌∙◌, arith, sym}
use Rattle.constriction_pack.specs.Formats.{signature}
use Rattle.constriction_pack.proofs.FormatLemmas.{length_signature}
use Rattle.constriction_pack.proofs.ListLemmas.{read_front, read_once}
use Rattle.constriction_pack.proofs.reading.read_signature.Goals as goal

pub returns-in-None-clause-accepted : goal.returns-in-None-clause-accepted
returns-in-None-clause-accepted g c = λ format rest known _.
    let first = c.in_ok-read_up_to.ensures in
    let long = length_signature format in
    let read = read_once _ _ c.clear.ensures.items first.ok in
    let same = read_front _ _ (signature format) rest _ known read (omega (arith, long, first.most))
    (λ less. first.end (omega (arith, long, less))) in
    let found = c.in-None.ensures.none format (c.deref.ensures.value ∙ same) in cc

pub returns-in-Some-clause-ok : goal.returns-in-Some-clause-ok
returns-in-Some-clause-ok g c =
    let read = read_once _ _ c.clear.ensures.items c.in_ok-read_up_to.ensures.ok in
    rw (sym c.deref.ensures.value ∙ c.in-Some.ensures.some) at read
