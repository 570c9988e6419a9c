use Rattle.std.proofs.Common.{◌++◌, ◌∷◌, [], ◌/◌, ◌%◌, ◌^◌, ◌<◌, ℕ, List, sym, subst, arith}
use Rattle.std.specs.Prelude.{All}
use Rattle.constriction_coders.specs.Spans.{Span, LeadTo}
use Rattle.constriction_coders.proofs.Sealing.{lower-tells}
use Rattle.constriction_coders.proofs.queue.range_encoder.RangeEncoder.decoder.Goals as goal

pub returns : goal.returns
returns c =
    let words = c.self.inside.words.items in
    let lower = c.self.inside.lower in
    let all = words ++ lower / 2 ^ 32 ∷ lower % 2 ^ 32 ∷ [] in
    let fit = subst (λ (ws : List ℕ). All (λ w. w < 2 ^ 32) ws) c.as_slice.ensures.value c.new-words.ensures.fit in (
      all,
      subst (λ (s : Span). LeadTo s all) c.self.view_is
          (lower-tells words lower c.self.inside.range fit (omega arith) c.self.invariant.wide),
      c.in-Ok.ensures.begins all (rw c.as_slice.ensures.value at (sym c.new-words.ensures.words)),
    )
