use Rattle.constriction_backends.proofs.CursorRunLaws.{cursor_seeks_back}
use Rattle.constriction_backends.proofs.laws.seek_back_in_a_cursor.Goals as goal

pub returns : goal.returns
returns g c = cursor_seeks_back
