use Rattle.std.proofs.Common.{◌≡◌, ◌∙◌, IsTrue, length, ap, arith, rules}
use Rattle.constriction_pack.specs.Frames.{tag_of}
use Rattle.constriction_pack.proofs.FileLemmas.{content_stands}
use Rattle.constriction_pack.proofs.FrameLemmas.{length_frame_of}
use Rattle.constriction_pack.proofs.unpacking.read_block.Goals as goal

pub content_of-content-requires : goal.content_of-content-requires
content_of-content-requires g c =
    let read = c.in_ok-kind.ensures.ok in
    omega (
      arith,
      length_frame_of c.args.before (tag_of c.in_ok-kind.kind c.in_ok-kind.is_last) read.0,
      ap length read.2,
      ap length c.deref.ensures.value,
    )

pub returns-then-not-admits-clause-accepted : goal.returns-then-not-admits-clause-accepted
returns-then-not-admits-clause-accepted g c = λ bytes frames framed known _.
    let read = c.in_ok-kind.ensures.ok in
    let there = content_stands c.args.before bytes frames _ _ c.in_ok-kind.kind c.in_ok-kind.is_last
    read.0 _ framed known read.4 read.2 in
    let content : c.content_of-content.result.now ≡ read.0 = c.content_of-content.ensures _ _ read.0
    (c.deref.ensures.value ∙ read.2) in
    let admitted : IsTrue c.admits.result = (c.admits.ensures there.0 (rw content there.1)).1
    (rw content there.2) in
    search (rules, admitted)

pub returns-in_err-block-clause-accepted : goal.returns-in_err-block-clause-accepted
returns-in_err-block-clause-accepted g c = λ bytes frames framed known.
    let read = c.in_ok-kind.ensures.ok in
    let there = content_stands c.args.before bytes frames _ _ c.in_ok-kind.kind c.in_ok-kind.is_last
    read.0 _ framed known read.4 read.2 in
    let content : c.content_of-content.result.now ≡ read.0 = c.content_of-content.ensures _ _ read.0
    (c.deref.ensures.value ∙ read.2) in
    search (rules, c.in_err-block.ensures.accepted there.0 (rw content there.1))
