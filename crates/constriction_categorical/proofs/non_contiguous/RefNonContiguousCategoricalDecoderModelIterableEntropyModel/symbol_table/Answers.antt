use Rattle.std.proofs.Common.{arith}
use Rattle.constriction_stored_rows.proofs.PairedLemmas.{paired-lent}
use Rattle.constriction_model.proofs.StepLemmas.{same-most}
use Rattle.constriction_categorical.proofs.non_contiguous.RefNonContiguousCategoricalDecoderModelIterableEntropyModel.symbol_table.Goals as goal

pub returns : goal.returns
returns g c =
    let all = (paired-lent g.Probability.WholeNumber.whole _ g.row.PRECISION _ _ c.args.self.now.stored c.words-entries.ensures).1 in
    record { all = all; callable = tt; ends = (tt, same-most _ _ all) }

pub invariant_of-result : goal.invariant_of-result
invariant_of-result g c = record {
  precise = c.args.self.now.precise;
  stored = (paired-lent g.Probability.WholeNumber.whole _ g.row.PRECISION _ _ c.args.self.now.stored c.words-entries.ensures).0;
  in_order = omega arith;
  in_bounds = omega arith;
}
