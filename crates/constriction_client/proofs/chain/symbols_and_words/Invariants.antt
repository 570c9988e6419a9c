use Rattle.constriction_client.proofs.Rebuilding.{Parted}
use Rattle.constriction_client.proofs.chain.symbols_and_words.Given as goal

-- the symbols and the words are those of the items so far, none of which is a refusal
abbrev pub invariant-loop-row : goal.invariant-loop-row
invariant-loop-row g l = Parted g.Word.WholeNumber.base l.yielded l.symbols.items l.words.items
