use Rattle.constriction_coders.specs.AnsCoder.{held_by}
use Rattle.constriction_coders.specs.Places.{entry_by}
use Rattle.constriction_coders_tests.proofs.Shown.{taken-in-turn}
use Rattle.constriction_coders_tests.proofs.callers.own_models.words_of_pairs.Goals as goal

pub returns-in-Ok-into_compressed : goal.returns-in-Ok-into_compressed
returns-in-Ok-into_compressed g c = λ rest shows.
    let took = c.encode_symbols_reverse.ensures in
    let full = held_by c.encode_symbols_reverse.new.self in
    let taken = rw c.in-Ok.is at
    (taken-in-turn g.I.DoubleEndedIterator.next_back_gives (entry_by g.E.EncoderModel.symbol_eq g.E.EntropyModel.rows) g.row.PRECISION
    c.args.pairs took.0 took.1 full (held_by c.new-coder.result) c.encode_symbols_reverse.result _ took.2) in
    record {
      full = full;
      led = rw c.new-coder.ensures.empty at (taken rest shows);
      compressed = c.in-Ok-into_compressed.ensures.ok;
    }
