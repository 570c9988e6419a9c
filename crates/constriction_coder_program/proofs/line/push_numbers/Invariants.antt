use Rattle.std.proofs.Common.{◌+◌, length}
use Rattle.std.specs.Option.{option_map_or}
use Rattle.constriction_coder_program.proofs.line.push_numbers.Given as goal

abbrev pub decreases-loop-rest : goal.decreases-loop-rest
decreases-loop-rest l = option_map_or (λ words. length words.now + 1) l.rest 0
