use Rattle.std.proofs.Common.{◌≡◌, ◌-◌, ◌/◌, ◌∷◌, ◌++◌, [], length, length-drop, length-take}
use Rattle.std.proofs.Common.{drop, take, sym, ◌∙◌, arith}
use Rattle.std.proofs.lemmas.Grind.{common_steps}
use Rattle.constriction_coders.specs.Bytes.{bytes_of_words}
use Rattle.constriction_pack.proofs.ListLemmas.{number_once}
use Rattle.constriction_pack.proofs.predicted.has_enough_words.Goals as goal

pub returns : goal.returns
returns c = λ block rest is.
    let content = c.args.content.now in
    let behind = drop 4 content in
    let laid : content ≡ bytes_of_words (c.little_endian-count.result ∷ []) ++ behind =
    grind (arith, common_steps) in
    let count : c.little_endian-count.result ≡ length block =
    number_once _ _ behind rest (sym laid ∙ is) in
    let words = take (length content - 4) behind in
    let long : length words ≡ length content - 4 = simp (length-take, length-drop) (omega arith) in
    let least = c.fewest_words.ensures (length words / 4) in
    grind (arith, count, long, least.0, least.1)
