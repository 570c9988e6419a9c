use Rattle.std.proofs.Common.{◌≡◌, ◌+◌, ◌*◌, ◌∷◌, ◌++◌, ℕ, List, [], length, ap, ◌∙◌, arith}
use Rattle.std.proofs.Common.{length-append}
use Rattle.constriction_coders.specs.Bytes.{bytes_of_words}
use Rattle.constriction_coders.specs.lemmas.Bytes.{length-bytes_of_words}
use Rattle.constriction_pack.proofs.predicted.by_predictor.Goals as goal

-- a content has four bytes more than its words
long : (count : ℕ) (words content : List ℕ)
    → content ≡ bytes_of_words (count ∷ []) ++ bytes_of_words words
    → length content ≡ 4 * length words + 4
long count words content is =
    omega (
      arith,
      ap length is,
      length-append (bytes_of_words (count ∷ [])) (bytes_of_words words),
      length-bytes_of_words (count ∷ []),
      length-bytes_of_words words,
    )

pub returns-clause-coded : goal.returns-clause-coded
returns-clause-coded g c = record {
  some = c.requires.some;
  short = c.requires.short;
  words = c.in_ok-words.words.items;
  read = c.in_ok-words.ensures.read;
  laid_out = c.in_ok-push_words-2.ensures.ok
      ∙ ap (λ ws. c.push_words.new.bytes.items ++ bytes_of_words ws) c.deref.ensures.value
      ∙ ap (λ bs. bs ++ bytes_of_words c.in_ok-words.words.items)
      (c.in_ok-push_words.ensures.ok
      ∙ ap (λ bs. bs ++ bytes_of_words (length c.args.bytes.now ∷ [])) c.new-content.ensures.items);
}

pub returns-clause-enough : goal.returns-clause-enough
unfolding returns-clause-coded
returns-clause-enough g c =
    let words = c.in_ok-words.words.items in
    let count = (c.fewest_words.ensures (length words)).0
    (omega (arith, c.len-else-len-below.ensures, c.if-len-fewest_words.false)) in
    omega (arith, count, long _ words _ (returns-clause-coded g c).laid_out)

pub returns-clause-shorter : goal.returns-clause-shorter
unfolding returns-clause-coded
returns-clause-shorter g c =
    omega (
      arith,
      long _ c.in_ok-words.words.items _ (returns-clause-coded g c).laid_out,
      c.len.ensures,
      c.if-len-below.false,
    )
