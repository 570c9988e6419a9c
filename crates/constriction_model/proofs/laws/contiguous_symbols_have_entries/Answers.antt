use Rattle.constriction_model.proofs.SymbolLemmas.{has-entry, no-entry, symbol-at}
use Rattle.constriction_model.proofs.laws.contiguous_symbols_have_entries.Goals as goal

pub returns-clause-known : goal.returns-clause-known
returns-clause-known c = has-entry

pub returns-clause-unknown : goal.returns-clause-unknown
returns-clause-unknown c = no-entry

pub returns-clause-row : goal.returns-clause-row
returns-clause-row c = symbol-at
