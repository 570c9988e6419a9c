use Rattle.std.proofs.Common.{◌≡◌, Err, ap}
use Rattle.constriction_words.specs.declared.CoderError.TheVariants.{Frontend}
use Rattle.constriction_coders.specs.lemmas.Stack.{compressed-once}
use Rattle.constriction_coders.proofs.Closing.{not-compressed}
use Rattle.constriction_coders.proofs.laws.stack.compressed_comes_back.Goals as goal

pub returns-in-Err-from_compressed-clause-accepted : goal.returns-in-Err-from_compressed-clause-accepted
returns-in-Err-from_compressed-clause-accepted g c = λ left is.
    let same : c.in-Err-from_compressed.error ≡ Frontend left = cc in
    not-compressed _ _ _ c.in-Ok.ensures.ok (c.in-Err-from_compressed.ensures.refused left (ap Err same))

pub returns-in-Ok-from_compressed-clause-same : goal.returns-in-Ok-from_compressed-clause-same
returns-in-Ok-from_compressed-clause-same g c = compressed-once _ _ _ c.in-Ok-from_compressed.ensures.ok c.in-Ok.ensures.ok
