use Rattle.std.proofs.Common.{◌∙◌, ℕ, List, Err, sym, ap, subst}
use Rattle.constriction_coders.specs.AnsCoder.{held_by}
use Rattle.constriction_coders.specs.Compressed.{IsCompressed}
use Rattle.constriction_coders_tests.proofs.callers.stack.symbols_of_words.Goals as goal

pub returns-in-Err-Frontend-clause-accepted : goal.returns-in-Err-Frontend-clause-accepted
returns-in-Err-Frontend-clause-accepted g c = λ _ symbols many stacked.
    let all = c.new_at_write_end.ensures.behind in
    (c.encoded_once.ensures.once _).end symbols c.args.words.now _ stacked
    (sym all ∙ c.in-Err-Frontend.ensures.refused c.in-Err-Frontend.field-0-0 (ap Err c.in-Err-Frontend.field-0-is))

pub returns-then-not-is_empty-clause-accepted : goal.returns-then-not-is_empty-clause-accepted
returns-then-not-is_empty-clause-accepted g c = λ _ symbols many stacked.
    let all = c.new_at_write_end.ensures.behind in
    let back = c.symbols_come_back.ensures.all.words symbols c.in-Ok-decode_iid_vec.answers.items c.args.words.now _ _ stacked
    (subst (λ (ws : List ℕ). IsCompressed (held_by c.in-Ok.coder) ws) all c.in-Ok.ensures.ok) c.in-Ok-decode_iid_vec.ensures.ok
    (c.in-Ok-decode_iid_vec.ensures.count ∙ sym many) in
    let empty = c.is_empty.ensures.1 back.1 in cc

pub returns-clause-back : goal.returns-clause-back
returns-clause-back g c = λ symbols many stacked.
    let all = c.new_at_write_end.ensures.behind in
    (c.symbols_come_back.ensures.all.words symbols c.in-Ok-decode_iid_vec.answers.items c.args.words.now _ _ stacked
    (subst (λ (ws : List ℕ). IsCompressed (held_by c.in-Ok.coder) ws) all c.in-Ok.ensures.ok) c.in-Ok-decode_iid_vec.ensures.ok
    (c.in-Ok-decode_iid_vec.ensures.count ∙ sym many)).0
