use Rattle.constriction_text.proofs.Exactly.{line_found, line_none}
use Rattle.constriction_text.proofs.line.parse.Goals as goal

pub returns-clause-found : goal.returns-clause-found
returns-clause-found c = line_found c.args.line.now c.parse_line.result c.parse_line.ensures

pub returns-clause-none : goal.returns-clause-none
returns-clause-none c = line_none c.args.line.now c.parse_line.result c.parse_line.ensures
