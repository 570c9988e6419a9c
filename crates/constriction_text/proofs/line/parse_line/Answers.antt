use Rattle.std.proofs.Common.{sym, ◌∙◌}
use Rattle.constriction_text.proofs.LineReading.{one_word, no_format, with_format}
use Rattle.constriction_text.proofs.line.parse_line.Goals as goal

pub returns-in_default : goal.returns-in_default
returns-in_default c = one_word c.args.line.now c.cut.result.0.now (rw c.in_default.is at c.cut.ensures.parts)

pub returns-in-Some-parse_format : goal.returns-in-Some-parse_format
returns-in-Some-parse_format c =
    with_format c.args.line.now c.cut.result.0.now c.in-Some.text.now c.cut-2.result.0.now _ c.in-Some-parse_format.format
    c.parse_command.result
    (rw c.in-Some.is at c.cut.ensures.parts) c.cut-2.ensures.parts (sym c.in-Some-parse_format.is ∙ c.parse_format.ensures)
    c.parse_command.ensures

pub returns-in-None : goal.returns-in-None
returns-in-None c =
    no_format c.args.line.now c.cut.result.0.now c.in-Some.text.now c.cut-2.result.0.now _ (rw c.in-Some.is at c.cut.ensures.parts)
    c.cut-2.ensures.parts (sym c.in-None.is ∙ c.parse_format.ensures)
