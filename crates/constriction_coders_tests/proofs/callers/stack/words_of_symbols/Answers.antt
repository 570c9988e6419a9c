use Rattle.constriction_coders.specs.AnsCoder.{held_by}
use Rattle.constriction_coders_tests.proofs.callers.stack.words_of_symbols.Goals as goal

pub returns-in-Ok-into_compressed : goal.returns-in-Ok-into_compressed
returns-in-Ok-into_compressed g c = record {
  full = held_by c.encode_iid_slice_reverse.new.self;
  led = rw c.new-coder.ensures.empty at c.in-Ok.ensures.ok;
  compressed = c.in-Ok-into_compressed.ensures.ok;
}
