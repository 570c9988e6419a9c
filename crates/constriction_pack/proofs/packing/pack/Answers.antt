use Rattle.std.proofs.Common.{[], refl}
use Rattle.std.proofs.KnownBytes.{Appends-nil}
use Rattle.constriction_pack.specs.declared.format.Format.TheVariants.{Cpk3}
use Rattle.constriction_pack.proofs.FileLemmas.{nothing_framed, signature_written, under_way_done}
use Rattle.constriction_pack.proofs.FileLemmas.{under_way_more, unended}
use Rattle.constriction_pack.proofs.ListLemmas.{OnErr-from}
use Rattle.constriction_pack.proofs.packing.pack.Goals as goal

pub returns-in-None-clause-ok : goal.returns-in-None-clause-ok
returns-in-None-clause-ok g c =
    let one = rw c.in-None.is at c.in_ok-after.ensures.ok in
    let end = c.in_ok-after.ensures.end c.in-None.is in
    let file = under_way_done _ _ _ one.0 one.1 one.2 c.loop.invariant one.3 one.4 one.5 one.6 one.7
    end.0 in
    (file.0, file.1, file.2, end.1, file.3, file.4, file.5, file.6)

pub loop-preserved : goal.loop-preserved
loop-preserved g c =
    let one = rw c.in-Some.is at c.in_ok-after.ensures.ok in
    under_way_more _ _ one.0 one.1 one.2 c.loop.invariant one.3 one.4 one.5 one.6 one.7
    (one.8 refl) c.in_ok-after.ensures.kept

pub returns-in_err-write_whole-clause-part : goal.returns-in_err-write_whole-clause-part
returns-in_err-write_whole-clause-part g c =
    OnErr-from _ _
    (signature_written Cpk3 _ _ (rw c.signature.ensures at c.in_err-write_whole.ensures.err))

pub returns-in_err-after-clause-part : goal.returns-in_err-after-clause-part
returns-in_err-after-clause-part g c =
    let p = c.in_err-after.ensures.part in OnErr-from _ _ (unended _ p.0 c.loop.invariant p.1 p.2)

pub returns-clause-part : goal.returns-clause-part
returns-clause-part g c = unended _ [] c.loop.invariant (Appends-nil _)
    (nothing_framed c.loop.before)
