use Rattle.std.proofs.Common.{◌≡◌, ◌+◌, ◌≤◌, [], take, length, refl, ◌∙◌, append-nil, arith, rules}
use Rattle.std.proofs.KnownBytes.{Consumes-kept, Consumes-trans}
use Rattle.constriction_io.proofs.reading.read_up_to.Goals as goal

pub returns-in-Err-clause-err : goal.returns-in-Err-clause-err
returns-in-Err-clause-err g c =
    let so_far = c.loop-chunk.invariant in (
      so_far.read.0,
      [],
      rw (append-nil so_far.read.0)
          (Consumes-kept _ _ _ so_far.read.0 so_far.read.1 c.in-Err.ensures.bytes),
      so_far.read.2,
      search rules,
      omega (arith, so_far.most),
      λ _. refl,
    )

pub returns-then-is_err-clause-err : goal.returns-then-is_err-clause-err
returns-then-is_err-clause-err g c =
    let so_far = c.loop-chunk.invariant in
    let last = take c.in-Ok.count c.read_turn.new.chunk in
    let same : c.extend_from_slice.new.self.items ≡ c.loop-chunk.input.items = search rules in
    let room : length c.loop-chunk.input.items + length last ≤ c.args.most = search rules in (
      so_far.read.0,
      last,
      Consumes-trans _ _ _ so_far.read.0 last so_far.read.1 c.in-Ok.ensures.bytes.0,
      same ∙ so_far.read.2,
      rw same (search rules),
      rw same room,
      λ other. absurd (other refl),
    )
