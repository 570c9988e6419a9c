use Rattle.constriction_model.specs.Rows.{entry_of}
use Rattle.constriction_client.proofs.ItemWriting.{wrote-more, wrote-all, stopped-at-fault, stopped-at-refusal}
use Rattle.constriction_client.proofs.quantiles.write_quantiles.Goals as goal

pub returns-in-Err : goal.returns-in-Err
returns-in-Err g c = record {
  ok = tt;
  err =
      stopped-at-fault (entry_of g.E.EncoderModel.symbol_eq (g.E.EntropyModel.rows c.args.encoder.now)) g.E.Probability.WholeNumber.whole
      g.W.WriteWords.write_gives g.W.WriteWords.tells_written g.met.W.WriteWords.writes_append
      c.args.items.now c.loop-item.item-index c.item-item.result _ _ _
      c.loop-item-test.true c.item-item.is c.loop-item.invariant.so_far c.in-Err.ensures.err;
  goes_on = c.loop-item.invariant.goes_on;
}

pub returns-in-Err-write : goal.returns-in-Err-write
returns-in-Err-write g c = record {
  ok = tt;
  err =
      stopped-at-refusal (entry_of g.E.EncoderModel.symbol_eq (g.E.EntropyModel.rows c.args.encoder.now)) g.E.Probability.WholeNumber.whole
      g.W.WriteWords.write_gives g.W.WriteWords.tells_written g.met.W.WriteWords.writes_append
      c.args.items.now c.loop-item.item-index c.item-item.result c.in-Ok.word _ _ _ _
      c.loop-item-test.true c.item-item.is c.loop-item.invariant.so_far c.in-Ok.ensures.ok c.in-Err-write.ensures.gives;
  goes_on = c.write.ensures.goes_on;
}

pub loop-item-preserved : goal.loop-item-preserved
loop-item-preserved g c = record {
  goes_on = c.write.ensures.goes_on;
  so_far =
      wrote-more (entry_of g.E.EncoderModel.symbol_eq (g.E.EntropyModel.rows c.args.encoder.now)) g.E.Probability.WholeNumber.whole
      g.W.WriteWords.write_gives g.W.WriteWords.tells_written g.met.W.WriteWords.writes_append
      c.args.items.now c.loop-item.item-index c.item-item.result c.in-Ok.word _ _ _
      c.loop-item-test.true c.item-item.is c.loop-item.invariant.so_far c.in-Ok.ensures.ok c.in-Ok-write.ensures.gives;
}

pub returns : goal.returns
returns g c = record {
  ok =
      wrote-all (entry_of g.E.EncoderModel.symbol_eq (g.E.EntropyModel.rows c.args.encoder.now)) g.E.Probability.WholeNumber.whole
      g.W.WriteWords.write_gives g.W.WriteWords.tells_written g.met.W.WriteWords.writes_append
      c.args.items.now c.loop-item.item-index _ _ c.loop-item-test.false c.loop-item.invariant.so_far;
  err = tt;
  goes_on = c.loop-item.invariant.goes_on;
}
