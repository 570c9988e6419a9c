use Rattle.std.proofs.Common.{take}
use Rattle.constriction_model.specs.Rows.{entry_of}
use Rattle.constriction_client.specs.Quantiles.{WritesItems}
use Rattle.constriction_client.proofs.quantiles.write_quantiles.Given as goal

-- the quantiles of the items so far were written
abbrev pub invariant-loop-item : goal.invariant-loop-item
invariant-loop-item g l = record {
  goes_on : g.W.WriteWords.can_write l.sink;
  so_far : WritesItems (entry_of g.E.EncoderModel.symbol_eq (g.E.EntropyModel.rows l.encoder)) g.E.Probability.WholeNumber.whole
      g.W.WriteWords.write_gives g.W.WriteWords.tells_written (take l.item-index l.items) l.initial.sink l.sink;
}
