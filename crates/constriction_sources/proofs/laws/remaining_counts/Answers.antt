use Rattle.constriction_sources.proofs.Counting.{remaining_counted}
use Rattle.constriction_sources.proofs.laws.remaining_counts.Goals as goal

pub returns : goal.returns
returns g c = remaining_counted _ _ _ g.met.Source.BoundedReadWords.counts_reads
