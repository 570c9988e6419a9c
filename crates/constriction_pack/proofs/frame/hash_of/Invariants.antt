use Rattle.std.proofs.Common.{◌≡◌, drop}
use Rattle.constriction_pack.specs.Frames.{hash_after}
use Rattle.constriction_pack.proofs.frame.hash_of.Given as goal

abbrev pub invariant-loop-byte : goal.invariant-loop-byte
invariant-loop-byte l = hash_after l.hash (drop l.byte-index l.bytes)
    ≡ hash_after l.initial.hash l.bytes
