use Rattle.std.proofs.Common.{◌≡◌, ◌++◌, refl, ap, sym, ◌∙◌, append_assoc, arith}
use Rattle.std.proofs.Common.{length-append, rules}
use Rattle.std.specs.Int.{to_le_bytes, w64}
use Rattle.std.proofs.KnownBytes.{Appends-trans}
use Rattle.constriction_pack.specs.Frames.{hash_after, hash_after_frame, tag_of}
use Rattle.constriction_pack.proofs.FrameLemmas.{frame_is, hash_is, part_of}
use Rattle.constriction_pack.proofs.ListLemmas.{OnErr-from}
use Rattle.constriction_pack.proofs.frame.write_frame.Goals as goal

pub returns-in_err-write_whole-clause-part : goal.returns-in_err-write_whole-clause-part
returns-in_err-write_whole-clause-part g c =
    let content = c.args.content.now in
    let hash = hash_after (hash_after c.args.before c.header-header.result) content in
    let rest = content ++ to_le_bytes w64 hash in
    let p = c.in_err-write_whole.ensures.err in
    let all = frame_is c.args.before _ content _ (to_le_bytes w64 hash) c.header-header.ensures
    refl in
    OnErr-from _ _ (part_of _ _ _ p.0 (p.1 ++ rest) p.2
    (sym (append_assoc p.0 p.1 rest) ∙ ap (λ xs. xs ++ rest) p.3 ∙ sym all)
    (omega (arith, p.4, length-append p.1 rest)))

pub returns-in_err-write_whole-2-clause-part : goal.returns-in_err-write_whole-2-clause-part
returns-in_err-write_whole-2-clause-part g c =
    let header = c.header-header.result in
    let content = c.args.content.now in
    let hash = hash_after (hash_after c.args.before header) content in
    let check = to_le_bytes w64 hash in
    let p = c.in_err-write_whole-2.ensures.err in
    let all = frame_is c.args.before _ content _ check c.header-header.ensures refl in
    OnErr-from _ _ (part_of _ _ _ (header ++ p.0) (p.1 ++ check)
    (Appends-trans _ _ _ header p.0 c.in_ok-write_whole.ensures.ok p.2)
    (append_assoc header p.0 (p.1 ++ check)
    ∙ ap (λ xs. header ++ xs) (sym (append_assoc p.0 p.1 check) ∙ ap (λ xs. xs ++ check) p.3)
    ∙ sym all)
    (omega (arith, p.4, length-append p.1 check)))

pub returns-in_err-write_whole-3-clause-part : goal.returns-in_err-write_whole-3-clause-part
returns-in_err-write_whole-3-clause-part g c =
    let header = c.header-header.result in
    let content = c.args.content.now in
    let front = header ++ content in
    let p = c.in_err-write_whole-3.ensures.err in
    let all = frame_is c.args.before _ content _ c.to_le_bytes.result c.header-header.ensures
    (c.to_le_bytes.ensures ∙ ap (to_le_bytes w64)
    (c.hash_of-after.ensures ∙ ap (λ h. hash_after h content) c.hash_of.ensures)) in
    let written = Appends-trans _ _ _ header content c.in_ok-write_whole.ensures.ok
    c.in_ok-write_whole-2.ensures.ok in
    OnErr-from _ _ (part_of _ _ _ (front ++ p.0) p.1 (Appends-trans _ _ _ front p.0 written p.2)
    (append_assoc front p.0 p.1 ∙ ap (λ xs. front ++ xs) p.3
    ∙ append_assoc header content c.to_le_bytes.result ∙ sym all) p.4)

pub returns-then-is_last-clause-ok : goal.returns-then-is_last-clause-ok
returns-then-is_last-clause-ok g c =
    let header = c.header-header.result in
    let content = c.args.content.now in
    let check = c.to_le_bytes.result in
    let all = frame_is c.args.before _ content _ check c.header-header.ensures
    (c.to_le_bytes.ensures ∙ ap (to_le_bytes w64)
    (c.hash_of-after.ensures ∙ ap (λ h. hash_after h content) c.hash_of.ensures)) in
    rw all (Appends-trans _ _ _ header (content ++ check) c.in_ok-write_whole.ensures.ok
    (Appends-trans _ _ _ content check c.in_ok-write_whole-2.ensures.ok
    c.in_ok-write_whole-3.ensures.ok))

pub returns-clause-ok : goal.returns-clause-ok
returns-clause-ok g c =
    let header = c.header-header.result in
    let content = c.args.content.now in
    let check = c.to_le_bytes.result in
    let all = frame_is c.args.before _ content _ check c.header-header.ensures
    (c.to_le_bytes.ensures ∙ ap (to_le_bytes w64)
    (c.hash_of-after.ensures ∙ ap (λ h. hash_after h content) c.hash_of.ensures)) in
    rw all (Appends-trans _ _ _ header (content ++ check) c.in_ok-write_whole.ensures.ok
    (Appends-trans _ _ _ content check c.in_ok-write_whole-2.ensures.ok
    c.in_ok-write_whole-3.ensures.ok))

pub returns-clause-leads : goal.returns-clause-leads
returns-clause-leads g c =
    let content = c.args.content.now in
    let tag = tag_of c.args.kind c.args.is_last in
    let hash : c.hash_of-after.result ≡ hash_after_frame c.args.before tag content =
    c.hash_of-after.ensures ∙ ap (λ h. hash_after h content) c.hash_of.ensures
    ∙ hash_is c.args.before tag content c.header-header.result c.header-header.ensures in
    search (rules, hash)
