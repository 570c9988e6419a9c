use Rattle.std.specs.Iterator.Adapters.{fuse_done, fuse_source}
use Rattle.constriction_sources.specs.lemmas.Items.{word-end-is-for-good}
use Rattle.constriction_sources.proofs.laws.iterators.word_end_is_for_good.Goals as goal

pub returns : goal.returns
returns g c = word-end-is-for-good g.Iter.Iterator.next_gives (λ s. fuse_done s.inner) (λ s. fuse_source s.inner)
