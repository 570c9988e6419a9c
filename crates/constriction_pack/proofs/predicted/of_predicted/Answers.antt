use Rattle.std.proofs.Common.{◌≡◌, ◌%◌, ◌-◌, ◌∷◌, ◌++◌, ℕ, List, [], length, length-drop, drop}
use Rattle.std.proofs.Common.{take, ap, sym, ◌∙◌, arith, subst}
use Rattle.std.proofs.lemmas.Grind.{common_steps}
use Rattle.std.proofs.lemmas.List.{take_all}
use Rattle.constriction_adaptive.specs.Numbers.{AreReadFrom}
use Rattle.constriction_coders.specs.Bytes.{bytes_of_words}
use Rattle.constriction_coders.specs.lemmas.Bytes.{bytes_once, length-bytes_of_words}
use Rattle.constriction_pack.proofs.ListLemmas.{number_once}
use Rattle.constriction_pack.proofs.predicted.of_predicted.Goals as goal

-- all that follows four bytes
whole : (content : List ℕ) → take (length content - 4) (drop 4 content) ≡ drop 4 content
whole content = take_all (length content - 4) (drop 4 content)
    (omega (arith, length-drop 4 content))

pub returns-in-Err-CutWord-clause-accepted : goal.returns-in-Err-CutWord-clause-accepted
returns-in-Err-CutWord-clause-accepted g c = λ bytes p.
    let content = c.args.content.now in
    let laid : content ≡ bytes_of_words (c.little_endian-count.result ∷ []) ++ drop 4 content =
    grind (arith, common_steps) in
    let same : drop 4 content ≡ bytes_of_words p.words = ap (drop 4) (sym laid ∙ p.laid_out) in
    let whole : length (drop 4 content) % 4 ≡ 0 =
    omega (arith, ap length same, length-bytes_of_words p.words) in
    grind (arith, whole)

pub returns-in-Ok-decode_bytes-clause-ok : goal.returns-in-Ok-decode_bytes-clause-ok
returns-in-Ok-decode_bytes-clause-ok g c =
    let content = c.args.content.now in
    let words = c.in-Ok.words.items in
    let known = sym c.new_at_write_beginning-source.ensures.ahead in
    let laid : content ≡ bytes_of_words (c.little_endian-count.result ∷ []) ++ drop 4 content =
    grind (arith, common_steps) in
    let coded : bytes_of_words words ≡ drop 4 content = c.in-Ok.ensures.ok ∙ whole content in
    let count = c.in-Ok-decode_bytes.ensures.count in record {
      some = omega (arith, count, c.if-count-eq0.false);
      short = omega (arith, count, c.if-count-gt-MOST_BYTES.false);
      words = words;
      read = c.in-Ok-decode_bytes.ensures.ok words known;
      laid_out = laid ∙ ap (λ bs. bytes_of_words (c.little_endian-count.result ∷ []) ++ bs) (sym coded)
          ∙ ap (λ n. bytes_of_words (n ∷ []) ++ bytes_of_words words) (sym count);
    }

pub returns-in-Err-Frontend-InvalidData-clause-accepted : goal.returns-in-Err-Frontend-InvalidData-clause-accepted
returns-in-Err-Frontend-InvalidData-clause-accepted g c = λ bytes p.
    let content = c.args.content.now in
    let words = c.in-Ok.words.items in
    let known = sym c.new_at_write_beginning-source.ensures.ahead in
    let laid : content ≡ bytes_of_words (c.little_endian-count.result ∷ []) ++ drop 4 content =
    grind (arith, common_steps) in
    let e = sym laid ∙ p.laid_out in
    let count : length bytes ≡ c.little_endian-count.result =
    sym (number_once c.little_endian-count.result (length bytes) _ _ e) in
    let same : words ≡ p.words = bytes_once words p.words
    (c.in-Ok.ensures.ok ∙ whole content ∙ ap (drop 4) e) in
    let read : AreReadFrom 8 g.P.Predictor.rows g.P.Predictor.next
    (g.P.Predictor.state c.args.predictor.now) bytes words =
    subst (λ (ws : List ℕ). AreReadFrom 8 g.P.Predictor.rows g.P.Predictor.next
    (g.P.Predictor.state c.args.predictor.now) bytes ws)
    (sym same) p.read in
    absurd (c.in-Err-Frontend-InvalidData.ensures.valid (cc) bytes words count read known)
