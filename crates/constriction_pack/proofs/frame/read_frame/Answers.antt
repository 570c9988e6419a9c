use Rattle.std.proofs.Common.{◌≡◌, ◌∙◌, length, ap, sym, arith, rules}
use Rattle.std.specs.Int.{to_le_bytes, w64}
use Rattle.constriction_pack.specs.Frames.{tag_of}
use Rattle.constriction_pack.proofs.FrameLemmas.{count_once, frame_hash, frame_made, frame_stands}
use Rattle.constriction_pack.proofs.FrameLemmas.{header_stands, length_frame_of}
use Rattle.constriction_pack.proofs.ListLemmas.{read_once, read_twice}
use Rattle.constriction_pack.proofs.frame.read_frame.Goals as goal

pub returns-then-len-lt-HEADER-clause-accepted : goal.returns-then-len-lt-HEADER-clause-accepted
returns-then-len-lt-HEADER-clause-accepted g c = λ kind is_last content rest few known _.
    let first = c.in_ok-read_up_to.ensures in
    let head = header_stands _ (tag_of kind is_last) content rest _ _ _ known
    (read_once _ _ c.clear.ensures.items first.ok) first.most first.end in
    omega (arith, ap length head)

pub returns-in_err-kind-clause-accepted : goal.returns-in_err-kind-clause-accepted
returns-in_err-kind-clause-accepted g c = λ kind is_last content rest few known.
    let first = c.in_ok-read_up_to.ensures in
    let head = header_stands _ (tag_of kind is_last) content rest _ _ _ known
    (read_once _ _ c.clear.ensures.items first.ok) first.most first.end in
    let found = c.in_err-kind.ensures.accepted kind is_last (length content) few
    (c.deref.ensures.value ∙ head) in cc

pub returns-then-len-length-clause-accepted : goal.returns-then-len-length-clause-accepted
returns-then-len-length-clause-accepted g c = λ kind is_last content rest few known _.
    let first = c.in_ok-read_up_to.ensures in
    let second = c.in_ok-read_up_to-2.ensures in
    let tag = tag_of kind is_last in
    let head = header_stands _ tag content rest _ _ _ known
    (read_once _ _ c.clear.ensures.items first.ok) first.most first.end in
    let count : c.in_ok-kind.count ≡ length content =
    (count_once _ _ _ _ (sym c.in_ok-kind.ensures.ok ∙ (c.deref.ensures.value ∙ head))).1 in
    let all = frame_stands _ tag content rest _ _ _ known
    (read_twice _ _ _ c.clear.ensures.items first.ok second.ok) (omega (arith, count, second.most))
    (λ less. second.end (omega (arith, count, less))) in
    omega (arith, count, ap length all, length_frame_of c.args.before tag content)

pub returns-then-ne-clause-accepted : goal.returns-then-ne-clause-accepted
returns-then-ne-clause-accepted g c = λ kind is_last content rest few known _.
    let first = c.in_ok-read_up_to.ensures in
    let second = c.in_ok-read_up_to-2.ensures in
    let tag = tag_of kind is_last in
    let head = header_stands _ tag content rest _ _ _ known
    (read_once _ _ c.clear.ensures.items first.ok) first.most first.end in
    let count : c.in_ok-kind.count ≡ length content =
    (count_once _ _ _ _ (sym c.in_ok-kind.ensures.ok ∙ (c.deref.ensures.value ∙ head))).1 in
    let all = frame_stands _ tag content rest _ _ _ known
    (read_twice _ _ _ c.clear.ensures.items first.ok second.ok) (omega (arith, count, second.most))
    (λ less. second.end (omega (arith, count, less))) in
    let sum = frame_hash c.args.before tag content _ c.split_at.result.0.now
    c.split_at.result.1.now (c.deref-2.ensures.value ∙ all) c.split_at.ensures.by_index.0
    (omega (arith, c.split_at.ensures.back_len, ap length c.deref-2.ensures.value, second.most)) in
    let same : c.split_at.result.1.now ≡ c.as_slice.result.now = sum ∙ sym (c.as_slice.ensures
    ∙ c.to_le_bytes.ensures ∙ ap (to_le_bytes w64) c.hash_of-after.ensures) in
    search (rules, same)

pub returns-clause-ok : goal.returns-clause-ok
returns-clause-ok g c =
    let second = c.in_ok-read_up_to-2.ensures in
    let whole = read_twice _ _ _ c.clear.ensures.items c.in_ok-read_up_to.ensures.ok second.ok in
    let same : c.split_at.result.1.now ≡ c.as_slice.result.now = search rules in
    let tag = tag_of c.in_ok-kind.kind c.in_ok-kind.is_last in
    let made = frame_made c.args.before tag c.in_ok-kind.count c.read_up_to.new.input.items
    second.ok.0 c.read_up_to-2.new.input.items c.split_at.result.0.now c.split_at.result.1.now
    (sym c.deref.ensures.value ∙ c.in_ok-kind.ensures.ok) second.ok.2 (omega (arith, second.most))
    (sym c.deref-2.ensures.value ∙ c.split_at.ensures.by_index.0)
    (omega (arith, c.split_at.ensures.back_len, ap length c.deref-2.ensures.value, second.most))
    (same ∙ c.as_slice.ensures ∙ c.to_le_bytes.ensures
    ∙ ap (to_le_bytes w64) c.hash_of-after.ensures) in (
      made.0,
      omega (arith, made.1, c.in_ok-kind.ensures.short),
      made.2,
      c.hash_of-after.ensures ∙ made.3,
      whole,
    )
