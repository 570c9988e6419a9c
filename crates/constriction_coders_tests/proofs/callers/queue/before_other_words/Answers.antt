use Rattle.std.proofs.Common.{refl, sym, ◌∙◌, arith}
use Rattle.std.proofs.lemmas.Grind.{get_or_default_zero}
use Rattle.constriction_coders_tests.proofs.callers.queue.before_other_words.Goals as goal

pub returns-in-Ok-message_from : goal.returns-in-Ok-message_from
returns-in-Ok-message_from g c =
    c.in-Ok-message_from.ensures.back c.args.symbols.now c.in-Ok.words.items c.args.others.now refl c.in-Ok.ensures.ok
    (λ k d h. omega (arith, c.type_inv.others k, get_or_default_zero c.args.others.now k d h))
    (sym (c.new_at_write_beginning-source.ensures.ahead ∙ c.in-Ok-extend_from_slice.ensures.items))
