use Rattle.std.proofs.Common.{◌++◌, [], length, ap, append-nil, arith, length-append}
use Rattle.std.proofs.KnownBytes.{Appends-trans}
use Rattle.std.proofs.lemmas.Result.{err_from_is_err_and}
use Rattle.constriction_pack.proofs.FileLemmas.{read_cut, read_done, read_more, resumed}
use Rattle.constriction_pack.proofs.unpacking.unpack.Goals as goal

pub returns-in_err-block-clause-limit : goal.returns-in_err-block-clause-limit
returns-in_err-block-clause-limit g c =
    let so_far = c.loop.invariant in
    let error = err_from_is_err_and c.from_residual-in_err-block.result
    c.from_residual-in_err-block.ensures.1 in (
      so_far.bytes,
      so_far.written,
      omega (arith, so_far.counted),
      rw (error.1, error.2)
          (λ long. omega (arith, so_far.counted, c.in_err-block.ensures.long long)),
    )

pub returns-in_err-block-clause-accepted : goal.returns-in_err-block-clause-accepted
returns-in_err-block-clause-accepted g c = λ bytes packed known file.
    let so_far = c.loop.invariant in
    let rest = resumed bytes packed [] so_far known (rw (append-nil packed) file) in
    let error = err_from_is_err_and c.from_residual-in_err-block.result
    c.from_residual-in_err-block.ensures.1 in
    rw (error.1, error.2) (λ refusal.
    let long = c.in_err-block.ensures.accepted rest.0 rest.1
    (rw (append-nil rest.1) at rest.4) rest.3 refusal in (
      long.0,
      omega (
        arith,
        long.1,
        so_far.counted,
        ap length rest.2,
        length-append so_far.bytes rest.0,
      ),
    ))

pub returns-in_err-block-clause-cut : goal.returns-in_err-block-clause-cut
returns-in_err-block-clause-cut g c = λ bytes packed lost known file.
    let so_far = c.loop.invariant in
    let rest = resumed bytes packed lost so_far known file in
    let error = err_from_is_err_and c.from_residual-in_err-block.result
    c.from_residual-in_err-block.ensures.1 in
    rw (error.1, error.2) (λ refusal. (so_far.bytes, rest.0, so_far.written, rest.2))

pub returns-in_err-write_whole-clause-limit : goal.returns-in_err-write_whole-clause-limit
returns-in_err-write_whole-clause-limit g c =
    let so_far = c.loop.invariant in
    let part = c.in_err-write_whole.ensures.err in
    let error = err_from_is_err_and c.from_residual-in_err-write_whole.result
    c.from_residual-in_err-write_whole.ensures.1 in (
      so_far.bytes ++ part.0,
      Appends-trans _ _ _ so_far.bytes part.0 so_far.written part.2,
      omega (
        arith,
        so_far.counted,
        c.in_ok-block.ensures.most,
        length-append so_far.bytes part.0,
        length-append part.0 part.1,
        ap length part.3,
        ap length c.deref.ensures.value,
      ),
      rw (error.1, error.2) (λ long. cc),
    )

pub loop-preserved : goal.loop-preserved
loop-preserved g c =
    let one = rw c.in-Some.is at c.in_ok-block.ensures.ok in
    let written = rw c.deref.ensures.value at c.in_ok-write_whole.ensures.ok in
    read_more _ _ c.in_ok-block.block.items one.0 c.loop.invariant one.1 one.2 written
    (omega (arith, c.in_ok-block.ensures.most))

pub returns-in-None-clause-ok : goal.returns-in-None-clause-ok
returns-in-None-clause-ok g c =
    let one = rw c.in-None.is at c.in_ok-block.ensures.ok in
    let end = c.in_ok-block.ensures.end c.in-None.is in
    let written = rw c.deref.ensures.value at c.in_ok-write_whole.ensures.ok in
    let file = read_done _ _ c.in_ok-block.block.items one.0 c.loop.invariant one.1 one.2 written in
    (file.0, file.1, file.2, end, file.3, file.4)

pub returns-in-None-clause-limit : goal.returns-in-None-clause-limit
returns-in-None-clause-limit g c =
    let so_far = c.loop.invariant in
    let written = rw c.deref.ensures.value at c.in_ok-write_whole.ensures.ok in (
      so_far.bytes ++ c.in_ok-block.block.items,
      Appends-trans _ _ _ so_far.bytes c.in_ok-block.block.items so_far.written written,
      omega (
        arith,
        so_far.counted,
        c.in_ok-block.ensures.most,
        length-append so_far.bytes c.in_ok-block.block.items,
      ),
      tt,
    )

pub returns-in-None-clause-cut : goal.returns-in-None-clause-cut
returns-in-None-clause-cut g c = λ bytes packed lost known file.
    let one = rw c.in-None.is at c.in_ok-block.ensures.ok in
    let end = c.in_ok-block.ensures.end c.in-None.is in
    read_cut _ c.in_ok-block.block.items one.0 bytes packed lost c.loop.invariant one.1 one.2 end
    known file
