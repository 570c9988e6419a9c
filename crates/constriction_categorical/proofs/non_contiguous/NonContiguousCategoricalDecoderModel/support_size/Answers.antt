use Rattle.std.proofs.Common.{length, ap, arith}
use Rattle.constriction_stored_rows.proofs.PairedLemmas.{paired-many}
use Rattle.constriction_categorical.proofs.non_contiguous.NonContiguousCategoricalDecoderModel.support_size.Goals as goal

pub returns : goal.returns
returns g c =
    omega (
      arith,
      ap length c.words.ensures,
      paired-many g.Probability.WholeNumber.whole _ g.row.PRECISION (g.Cdf.SafeBuf.words_of c.args.self.now.cdf) c.args.self.now.stored,
    )
