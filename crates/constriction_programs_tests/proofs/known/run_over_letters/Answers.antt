use Rattle.std.proofs.Common.{codes}
use Rattle.constriction_programs_tests.proofs.Spelled.{letters_answered, written}
use Rattle.constriction_programs_tests.proofs.known.run_over_letters.Goals as goal

pub returns : goal.returns
returns c =
    written (codes "x\ny") c.run.new.reader.now c.args.written.now.items c.run.new.writer.items _ c.run.result letters_answered
    c.an_input_has_one_text.ensures.alone (rw c.as_slice-input.ensures at c.run.ensures.ok)
