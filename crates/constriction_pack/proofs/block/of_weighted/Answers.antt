use Rattle.std.proofs.Common.{◌≡◌, ◌%◌, ◌∷◌, ◌++◌, [], length, get_or, drop, ap, ◌∙◌, arith, rules}
use Rattle.std.proofs.lemmas.Grind.{common_steps}
use Rattle.constriction_coders.specs.Bytes.{bytes_of_words}
use Rattle.constriction_coders.specs.lemmas.Bytes.{bytes_once, length-bytes_of_words}
use Rattle.constriction_pack.specs.Contents.{bytes_of_weights}
use Rattle.constriction_pack.proofs.FrameLemmas.{coded_stands}
use Rattle.constriction_pack.proofs.block.of_weighted.Goals as goal

pub returns-in-Err-CutWord-clause-accepted : goal.returns-in-Err-CutWord-clause-accepted
returns-in-Err-CutWord-clause-accepted c = λ bytes weighted.
    let content = c.args.content.now in
    let laid : content ≡ bytes_of_words (c.little_endian-count.result ∷ [])
    ++ (get_or content 4 0 ∷ drop 5 content) = grind (arith, common_steps) in
    let begins : drop 5 content ≡ bytes_of_weights c.in_ok-weights.weights.items
    ++ c.split_at.result.1.now = grind (arith, common_steps) in
    let stands = coded_stands bytes content (drop 5 content) c.split_at.result.1.now
    c.in_ok-weights.weights.items _ _ weighted laid begins
    c.in_ok-weights.ensures.count c.in_ok-weights.ensures.positive in
    let whole : length c.split_at.result.1.now % 4 ≡ 0 =
    omega (arith, ap length stands.2, length-bytes_of_words stands.0) in
    grind (arith, whole)

pub returns-in_err-bytes-clause-accepted : goal.returns-in_err-bytes-clause-accepted
returns-in_err-bytes-clause-accepted c = λ bytes weighted.
    let content = c.args.content.now in
    let laid : content ≡ bytes_of_words (c.little_endian-count.result ∷ [])
    ++ (get_or content 4 0 ∷ drop 5 content) = grind (arith, common_steps) in
    let begins : drop 5 content ≡ bytes_of_weights c.in_ok-weights.weights.items
    ++ c.split_at.result.1.now = grind (arith, common_steps) in
    let stands = coded_stands bytes content (drop 5 content) c.split_at.result.1.now
    c.in_ok-weights.weights.items _ _ weighted laid begins
    c.in_ok-weights.ensures.count c.in_ok-weights.ensures.positive in
    let words : c.in-Ok.words.items ≡ stands.0 = bytes_once c.in-Ok.words.items stands.0
    (c.in-Ok.ensures.ok ∙ stands.2) in
    search (rules, c.in_err-bytes.ensures.accepted bytes stands.1 (rw words stands.3))
