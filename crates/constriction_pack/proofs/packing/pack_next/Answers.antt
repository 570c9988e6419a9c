use Rattle.constriction_pack.proofs.FileLemmas.{none_written}
use Rattle.constriction_pack.proofs.ListLemmas.{OnErr-from}
use Rattle.constriction_pack.proofs.packing.pack_next.Goals as goal

pub returns-in_err-read_up_to-clause-part : goal.returns-in_err-read_up_to-clause-part
returns-in_err-read_up_to-clause-part g c = OnErr-from _ _ (none_written _ c.args.before)
