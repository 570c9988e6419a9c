use Rattle.std.proofs.Common.{rules}
use Rattle.constriction_theorem.proofs.Uniform.{one-more-same, same-to-the-end}
use Rattle.constriction_theorem.proofs.dividing.all_have_number.Goals as goal

pub loop-word-preserved : goal.loop-word-preserved
loop-word-preserved g c =
    one-more-same g.Word.WholeNumber.whole c.args.number c.args.words.now c.loop-word.word-index c.word-item.result c.loop-word-test.true
    c.word-item.is c.loop-word.invariant (c.if-not-has_number.ensures.0 (search rules))

pub returns : goal.returns
returns g c =
    let all = same-to-the-end g.Word.WholeNumber.whole c.args.number c.args.words.now c.loop-word.word-index c.loop-word-test.false
    c.loop-word.invariant in
    (λ t. all, λ h. search rules)
