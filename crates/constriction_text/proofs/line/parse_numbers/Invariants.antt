use Rattle.std.proofs.Common.{◌≡◌, ◌+◌, length}
use Rattle.std.specs.Option.{option_copied, option_map_or}
use Rattle.constriction_text.specs.Words.{parts_of}
use Rattle.constriction_text.specs.private.Reading.{read_numbers}
use Rattle.constriction_text.proofs.Numbers.{after}
use Rattle.constriction_text.proofs.line.parse_numbers.Given as goal

-- the numbers so far, and those of the rest, are those of all
abbrev pub invariant-loop-rest : goal.invariant-loop-rest
invariant-loop-rest l =
    after l.numbers.items (read_numbers (parts_of 32 (option_copied l.rest))) ≡ read_numbers (parts_of 32 (option_copied l.fn.text))

abbrev pub decreases-loop-rest : goal.decreases-loop-rest
decreases-loop-rest l = option_map_or (λ words. length words.now + 1) l.rest 0
