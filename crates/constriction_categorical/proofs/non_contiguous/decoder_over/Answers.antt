use Rattle.constriction_categorical.proofs.non_contiguous.decoder_over.Goals as goal

pub invariant_of-result : goal.invariant_of-result
invariant_of-result g c = record {
  precise = c.requires.precision;
  stored = c.requires.stored;
  aided = rw c.deref.ensures.value at c.end_words_of-end_words.ensures;
  distinct = c.requires.distinct;
}
