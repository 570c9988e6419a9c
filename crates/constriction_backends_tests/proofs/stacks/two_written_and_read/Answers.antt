use Rattle.std.proofs.Common.{[], ◌∷◌, ◌++◌, Ok, Some, ap, ◌∙◌}
use Rattle.constriction_backends_tests.proofs.stacks.two_written_and_read.Goals as goal

pub returns : goal.returns
returns g c =
    let law = c.written_is_read.ensures in
    let words = g.Backend.StackSource.words_of c.args.backend.now in
    let one = law.written _ _ c.args.first c.in-Ok.ensures.gives in
    let two = law.written _ _ c.args.second c.in-Ok-write.ensures.gives ∙ ap (λ ws. ws ++ c.args.second ∷ []) one in
    let last = law.read _ _ c.args.second (Ok c.in-Ok-read.last) (words ++ c.args.first ∷ []) two c.in-Ok-read.ensures.gives in
    let next = law.read _ _ c.args.first (Ok c.in-Ok-read-2.next) words last.1 c.in-Ok-read-2.ensures.gives in
    (ap (λ o. (o, c.in-Ok-read-2.next)) last.0 ∙ ap (λ o. (Some c.args.second, o)) next.0, next.1)
