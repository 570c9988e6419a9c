use Rattle.constriction_coders.proofs.Closing.{not-compressed}
use Rattle.constriction_coders.proofs.ComingBack.{encode-once}
use Rattle.constriction_coders.proofs.Placing.{place-comes-back}
use Rattle.constriction_coders.proofs.Stacking.{words-of-symbols-once}
use Rattle.constriction_coders.proofs.laws.stack.encoded_once.Goals as goal

pub returns-clause-once : goal.returns-clause-once
returns-clause-once g c = λ entry. record {
  symbol = encode-once entry g.row.PRECISION c.requires;
  words = words-of-symbols-once entry g.row.PRECISION c.requires;
  end = λ symbols words others stacked. not-compressed stacked.full words others stacked.compressed;
}

pub returns-clause-place : goal.returns-clause-place
returns-clause-place g c = λ entry. place-comes-back entry g.row.PRECISION
