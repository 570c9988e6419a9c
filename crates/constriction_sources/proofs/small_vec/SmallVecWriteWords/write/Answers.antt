use Rattle.std.proofs.Common.{arith}
use Rattle.std.proofs.lemmas.Grind.{common_steps}
use Rattle.constriction_sources.proofs.small_vec.SmallVecWriteWords.write.Goals as goal

pub returns-in_err-push-clause-gives : goal.returns-in_err-push-clause-gives
returns-in_err-push-clause-gives g c = record {
  pushes = grind (arith, common_steps);
  succeeds = grind (arith, common_steps);
  keeps = grind (arith, common_steps);
  refused = grind (arith, common_steps);
  grows = grind (arith, common_steps);
  at_least = grind (arith, common_steps);
}

pub returns-clause-gives : goal.returns-clause-gives
returns-clause-gives g c = record {
  pushes = grind (arith, common_steps);
  succeeds = grind (arith, common_steps);
  keeps = grind (arith, common_steps);
  refused = grind (arith, common_steps);
  grows = grind (arith, common_steps);
  at_least = grind (arith, common_steps);
}
