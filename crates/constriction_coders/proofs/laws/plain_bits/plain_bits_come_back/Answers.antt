use Rattle.std.proofs.Common.{◌≡◌, arith, subst}
use Rattle.constriction_coders.specs.lemmas.Stack.{refills-once}
use Rattle.constriction_coders.specs.States.{taken}
use Rattle.constriction_coders.specs.Steps.{Refills}
use Rattle.constriction_coders.proofs.laws.plain_bits.plain_bits_come_back.Goals as goal

pub returns : goal.returns
returns c = λ count bits answer full rest under put took.
    let same : answer ≡ bits = omega (arith, put.from, put.to, took.from, took.to) in (
      same,
      refills-once (taken count bits 1 full.state) full.words under rest
          (subst (λ n. Refills (taken count n 1 full.state) full.words under) same took.under) put.under,
    )
