use Rattle.std.proofs.Common.{◌≡◌, [], Some, None, length, refl, ap, ◌∙◌, arith, length-append}
use Rattle.constriction_pack.proofs.FileLemmas.{at_end, read_stands}
use Rattle.constriction_pack.proofs.FrameLemmas.{content_short}
use Rattle.constriction_pack.proofs.unpacking.read_next.Goals as goal

pub returns-then-len-most-clause-accepted : goal.returns-then-len-most-clause-accepted
returns-then-len-most-clause-accepted g c = λ bytes frames framed known _.
    let ok = c.in_ok-block.ensures.ok in
    let left = read_stands c.args.before bytes frames c.in_ok-block.block.items ok.0
    c.in_ok-block.after _ _ framed known ok.1 ok.2 in
    (refl, omega (arith, ap length left.2, length-append c.in_ok-block.block.items left.0))

pub returns-in_err-read_end-in-None-clause-accepted : goal.returns-in_err-read_end-in-None-clause-accepted
returns-in_err-read_end-in-None-clause-accepted g c = λ bytes frames framed known.
    let ok = rw c.in-None.is at c.in_ok-block.ensures.ok in
    let left = read_stands c.args.before bytes frames c.in_ok-block.block.items ok.0 None _ _
    framed known ok.1 ok.2 in
    let none : left.1 ≡ [] = at_end left.4 in
    let known_left = left.3 ∙ ap Some none in
    grind (arith, c.read_end.ensures.accepted known_left)

pub returns-then-len-most-clause-long : goal.returns-then-len-most-clause-long
returns-then-len-most-clause-long g c = λ _.
    let frame = c.in_ok-block.ensures.ok.1 in
    omega (arith, content_short frame.kind c.in_ok-block.block.items frame.content frame.of_kind)
