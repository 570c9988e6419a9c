use Rattle.std.proofs.Common.{◌≡◌, ◌+◌, ◌*◌, length, refl, ◌∙◌, inr, arith}
use Rattle.std.proofs.lemmas.List.{length-reverse}
use Rattle.constriction_coders.proofs.stack.ans_coder.AnsCoder.num_valid_bits.Goals as goal

pub returns : goal.returns
returns g c =
    let source = c.args.self.now.words in
    let words = g.Backend.StackSource.words_of source in
    let many : g.Backend.BoundedReadWords.items_left source ≡ length words =
    g.met.Backend.BoundedReadWords.counts_upcoming source c.requires _ (g.met.Backend.StackSource.words_come source)
    ∙ length-reverse words in (
      32 * length words + c.ilog2-own.result,
      inr (c.ilog2-own.result, c.ilog2-own.ensures.power_le, c.ilog2-own.ensures.next_power_gt, refl),
      omega (arith, many, c.remaining.ensures, c.saturating_mul.ensures, c.saturating_add.ensures),
    )
