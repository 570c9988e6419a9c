use Rattle.std.proofs.Common.{◌∙◌, ap, vec_capacity}
use Rattle.constriction_words.specs.declared.coder_error.CoderError.TheVariants.{Frontend}
use Rattle.constriction_client.proofs.ComingBack.{all-read, some-read, never-too-large}
use Rattle.constriction_client.proofs.laws.round_trips.read_back.Goals as goal

pub unreachable-requires : goal.unreachable-requires
unreachable-requires g c =
    never-too-large g.D.DecoderModel.stands_for (g.D.EntropyModel.rows c.args.decoder.now) g.D.Probability.WholeNumber.whole
    g.row.PRECISION g.D.DecoderModel.may_refuse (vec_capacity c.read_symbols.new.out) g.R.ReadWords c.args.count
    c.args.source.now c.read_symbols.new.source c.read_symbols.new.out.items c.in-Err-Frontend-QuantileTooLarge.field-0
    (rw c.new-pairs.ensures.items at c.in-Err-Frontend-QuantileTooLarge.ensures.pairs)
    (c.in-Err-Frontend-QuantileTooLarge.field-0-is ∙ ap Frontend c.in-Err-Frontend-QuantileTooLarge.field-0-0-is)
    c.requires.come

pub returns-in-Ok : goal.returns-in-Ok
returns-in-Ok g c = record {
  ok =
      all-read g.D.DecoderModel.stands_for (g.D.EntropyModel.rows c.args.decoder.now) g.D.Probability.WholeNumber.whole
      g.row.PRECISION g.D.DecoderModel.may_refuse (vec_capacity c.read_symbols.new.out) g.R.ReadWords c.args.count
      c.args.source.now c.read_symbols.new.source c.read_symbols.new.out.items c.in-Ok.field-0
      (rw c.new-pairs.ensures.items at c.in-Ok.ensures.pairs);
  err = tt;
}

pub returns-in-Err-Frontend-OutOfMemory : goal.returns-in-Err-Frontend-OutOfMemory
returns-in-Err-Frontend-OutOfMemory g c = record {
  ok = tt;
  err =
      some-read g.D.DecoderModel.stands_for (g.D.EntropyModel.rows c.args.decoder.now) g.D.Probability.WholeNumber.whole
      g.row.PRECISION g.D.DecoderModel.may_refuse (vec_capacity c.read_symbols.new.out) g.R.ReadWords c.args.count
      c.args.source.now c.read_symbols.new.source c.read_symbols.new.out.items c.in-Err-Frontend-OutOfMemory.field-0
      (rw c.new-pairs.ensures.items at c.in-Err-Frontend-OutOfMemory.ensures.pairs)
      (c.in-Err-Frontend-OutOfMemory.field-0-is ∙ ap Frontend c.in-Err-Frontend-OutOfMemory.field-0-0-is);
}
