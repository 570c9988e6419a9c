use Rattle.std.proofs.Common.{refl, ap, arith, length}
use Rattle.constriction_pack.specs.Contents.{IsContent}
use Rattle.constriction_pack.specs.Formats.{IsAdmitted}
use Rattle.constriction_pack.specs.Frames.{frame_of, tag_of}
use Rattle.constriction_pack.specs.declared.format.Format.TheVariants.{Cpk3}
use Rattle.constriction_pack.specs.declared.kind.Kind.TheVariants.{Stored}
use Rattle.constriction_pack.proofs.FileLemmas.{none_written, part_written}
use Rattle.constriction_pack.proofs.FrameLemmas.{length_frame_of}
use Rattle.constriction_pack.proofs.ListLemmas.{OnErr-from}
use Rattle.constriction_pack.proofs.packing.write_block.Goals as goal

pub returns-in_ok-after-in-Some-clause-ok : goal.returns-in_ok-after-in-Some-clause-ok
returns-in_ok-after-in-Some-clause-ok g c =
    let coded : IsContent c.in-Some.kind c.args.block.now c.in-Some.content.items =
    rw c.in-Some.is at c.in_ok-kind.ensures.coded in
    let admitted : IsAdmitted Cpk3 c.in-Some.kind c.args.block.now c.in-Some.content.items =
    rw c.in-Some.is at c.in_ok-kind.ensures.admitted in
    let shorter = rw c.in-Some.is at c.in_ok-kind.ensures.shorter in
    let tag = tag_of c.in-Some.kind c.args.is_last in (
      frame_of c.args.before tag c.deref.result.now,
      record {
        kind = c.in-Some.kind;
        is_last = c.args.is_last;
        content = c.deref.result.now;
        short = omega (arith, shorter, c.requires, ap length c.deref.ensures.value);
        of_kind = rw c.deref.ensures.value coded;
        admitted = rw c.deref.ensures.value admitted;
        laid_out = refl;
        leads = c.in_ok-after-in-Some.ensures.leads;
      },
      c.in_ok-after-in-Some.ensures.ok,
      omega (
        arith,
        shorter,
        length_frame_of c.args.before tag c.deref.result.now,
        ap length c.deref.ensures.value,
      ),
    )

pub returns-in_ok-after-in-None-clause-ok : goal.returns-in_ok-after-in-None-clause-ok
returns-in_ok-after-in-None-clause-ok g c =
    let tag = tag_of Stored c.args.is_last in (
      frame_of c.args.before tag c.args.block.now,
      record {
        kind = Stored;
        is_last = c.args.is_last;
        content = c.args.block.now;
        short = c.requires;
        of_kind = (c.requires, refl);
        admitted = tt;
        laid_out = refl;
        leads = c.in_ok-after-in-None.ensures.leads;
      },
      c.in_ok-after-in-None.ensures.ok,
      omega (arith, length_frame_of c.args.before tag c.args.block.now),
    )

pub returns-in_err-kind-clause-part : goal.returns-in_err-kind-clause-part
returns-in_err-kind-clause-part g c = OnErr-from _ _ (none_written _ c.args.before)

pub returns-in_err-after-in-Some-clause-part : goal.returns-in_err-after-in-Some-clause-part
returns-in_err-after-in-Some-clause-part g c =
    OnErr-from _ _ (part_written _ _ c.args.before _ _ c.in_err-after-in-Some.ensures.part)

pub returns-in_err-after-in-None-clause-part : goal.returns-in_err-after-in-None-clause-part
returns-in_err-after-in-None-clause-part g c =
    OnErr-from _ _ (part_written _ _ c.args.before _ _ c.in_err-after-in-None.ensures.part)
