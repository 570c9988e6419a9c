use Rattle.std.proofs.Common.{refl}
use Rattle.constriction_client.proofs.chain.DecoderFormConverts.rebuild.Goals as goal

pub symbols_and_weights-requires-clause-distinct : goal.symbols_and_weights-requires-clause-distinct
symbols_and_weights-requires-clause-distinct g c = c.requires.2 c.args.self.now

pub symbols_and_weights-requires-clause-clones : goal.symbols_and_weights-requires-clause-clones
symbols_and_weights-requires-clause-clones g c = c.requires.1

pub returns-in_ok-searching_of-in-Search : goal.returns-in_ok-searching_of-in-Search
returns-in_ok-searching_of-in-Search g c = record {
  rows = rw c.in_ok-searching_of-in-Search.ensures.rows c.in_ok-symbols.ensures.rows;
  kind = rw c.in-Search.is refl;
  refused = tt;
}

pub returns-in_ok-tabled_of-in-Lookup : goal.returns-in_ok-tabled_of-in-Lookup
returns-in_ok-tabled_of-in-Lookup g c = record {
  rows = rw c.in_ok-tabled_of-in-Lookup.ensures.rows c.in_ok-symbols.ensures.rows;
  kind = rw c.in-Lookup.is refl;
  refused = tt;
}
