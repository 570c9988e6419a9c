use Rattle.std.proofs.Common.{rules}
use Rattle.constriction_stored_rows.proofs.FillLemmas.{lefts-taken}
use Rattle.constriction_stored_rows.proofs.filling.VecTakesWeights.take_weight.Goals as goal

pub returns-clause-took : goal.returns-clause-took
returns-clause-took g c = λ _ first weights took is.
    lefts-taken g.Word.WholeNumber.whole c.args.self.now.items _ c.args.left weights _ (search rules) took is
