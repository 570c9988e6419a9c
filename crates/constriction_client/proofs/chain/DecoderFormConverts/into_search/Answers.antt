use Rattle.std.proofs.Common.{refl}
use Rattle.constriction_client.proofs.chain.DecoderFormConverts.into_search.Goals as goal

pub returns-in-Search : goal.returns-in-Search
returns-in-Search g c = record { rows = rw c.in-Search.is refl; kind = refl }

pub returns-in-Lookup : goal.returns-in-Lookup
returns-in-Lookup g c = record { rows = rw c.in-Lookup.is c.into_non_contiguous_categorical.ensures; kind = refl }
