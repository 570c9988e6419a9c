use Rattle.std.proofs.Common.{◌++◌, take, drop, ap, ◌∙◌, append_assoc, take-append-drop}
use Rattle.std.proofs.KnownBytes.{Appends-trans}
use Rattle.std.proofs.lemmas.List.{take_rest}
use Rattle.constriction_io.proofs.writing.write_whole.Goals as goal

pub loop-rest-preserved : goal.loop-rest-preserved
loop-rest-preserved g c =
    let so_far = c.loop-rest.invariant in
    let rest = c.loop-rest.rest.now in
    let n = c.in-Ok.count in (
      so_far.0 ++ take n rest,
      Appends-trans _ _ _ so_far.0 (take n rest) so_far.1 c.in-Ok.ensures.bytes,
      ap (λ xs. (so_far.0 ++ take n rest) ++ xs) (take_rest rest n)
          ∙ append_assoc so_far.0 (take n rest) (drop n rest)
          ∙ ap (λ xs. so_far.0 ++ xs) (take-append-drop n rest) ∙ so_far.2,
    )
