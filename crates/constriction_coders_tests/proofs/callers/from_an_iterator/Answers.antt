use Rattle.constriction.specs.Rows.{entry_of}
use Rattle.constriction_coders_tests.proofs.Shown.{taken-in-turn}
use Rattle.constriction_coders_tests.proofs.callers.from_an_iterator.Goals as goal

pub returns : goal.returns
returns g c =
    let took = c.encode_iid_symbols_reverse.ensures in
    taken-in-turn g.I.DoubleEndedIterator.next_back_gives
    (entry_of g.E.EncoderModel.symbol_eq (g.E.EntropyModel.rows c.args.model.now)) g.row.PRECISION c.args.symbols took.0 took.1 _ _
    c.encode_iid_symbols_reverse.result _ took.2
