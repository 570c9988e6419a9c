use Rattle.std.proofs.Common.{◌≡◌, ◌≢◌, ℕ, ◌+◌, ◌-◌, ◌<◌, length, get_or, set, length-set, get_or-set_same, get_or-set_other, ap, ◌∙◌}
use Rattle.std.proofs.Common.{arith}
use Rattle.constriction_coders.specs.Numbers.{number_first}
use Rattle.constriction_coders.proofs.NumberLemmas.{carried, all-full}
use Rattle.constriction_coders.proofs.queue.carrying.carry.Goals as goal

pub returns-then-words-place-lt4294967295 : goal.returns-then-words-place-lt4294967295
returns-then-words-place-lt4294967295 c =
    let old = c.args.words.now in
    let words = c.loop-place.words in
    let place = c.loop-place.place - 1 in
    let word = get_or words place 0 + 1 in
    let there : place < length words = omega (arith, c.loop-place-test.true) in
    let long : length (set words place word) ≡ length words = length-set words place word in
    let raised : get_or (set words place word) place 0 ≡ get_or old place 0 + 1 =
    get_or-set_same words place word 0 there
    ∙ ap (λ n. n + 1) (c.loop-place.invariant.front place (omega (arith, c.loop-place-test.true))) in
    let others = λ (j : ℕ) (h : j ≢ place). get_or-set_other words place j word 0 h in
    ap (λ n. number_first n (set words place word)) long
    ∙ carried old (set words place word) place
    (λ j h. others j (λ e. omega (arith, e, h)) ∙ c.loop-place.invariant.front j (omega (arith, h))) (length words) raised
    (λ j h l. c.loop-place.invariant.full j (omega (arith, h)) l)
    (λ j h l. others j (λ e. omega (arith, e, h)) ∙ c.loop-place.invariant.cleared j (omega (arith, h)) l)
    (length words) there (omega arith)
    ∙ ap (λ n. number_first n old + 1) c.loop-place.auto.words

pub returns : goal.returns
returns c =
    let all =
    all-full c.args.words.now (length c.args.words.now)
    (λ j h. c.loop-place.invariant.full j (omega (arith, c.loop-place-test.false)) (omega (arith, h))) in
    absurd (omega (arith, all, c.requires))
