use Rattle.std.proofs.Common.{◌≡◌, ◌+◌, ◌-◌, ◌/◌, false, true, refl, arith, inl, inr}
use Rattle.std.proofs.lemmas.Bool.{cases_lt}
use Rattle.constriction_model.proofs.Halving.{halved_step, asked_yes, asked_no}
use Rattle.constriction_model.proofs.search.half_of_more.Goals as goal

pub overflow_add-first : goal.overflow_add-first
overflow_add-first g c = omega (arith, c.requires.searching.narrowed.within, c.requires.searching.word)

pub at_most-requires-clause-in_bounds : goal.at_most-requires-clause-in_bounds
at_most-requires-clause-in_bounds g c = omega (arith, c.requires.searching.narrowed.within)

pub at_most-requires-clause-room : goal.at_most-requires-clause-room
at_most-requires-clause-room g c = omega (arith, c.requires.searching.room, (halved_step c.args.size _ refl c.requires.more).digit)

pub overflow_add-result : goal.overflow_add-result
overflow_add-result g c = omega (arith, c.requires.searching.narrowed.within, c.requires.searching.word)

pub returns-then-at_most-clause-narrows : goal.returns-then-at_most-clause-narrows
returns-then-at_most-clause-narrows g c =
    asked_yes g.R.Probe _ _ _ _ _ _ _ c.requires.searching (halved_step c.args.size _ refl c.requires.more) (omega arith)
    c.if-at_most.ensures.same c.if-at_most.ensures.counted (c.if-at_most.ensures.answer.0 refl)

pub returns-else-at_most-clause-narrows : goal.returns-else-at_most-clause-narrows
returns-else-at_most-clause-narrows g c =
    let at_is : c.args.first + c.args.size / 2 ≡ c.args.first + (c.args.size - (c.args.size - c.args.size / 2)) = omega arith in
    asked_no g.R.Probe _ _ _ _ _ _ _ c.requires.searching (halved_step c.args.size _ refl c.requires.more) at_is c.if-at_most.ensures.same
    c.if-at_most.ensures.counted (elim (cases_lt (g.R.Probe.number c.args.q) _) [
      | inl greater ↦ greater
      | inr no_greater ↦ (let bad : false ≡ true = c.if-at_most.ensures.answer.1 no_greater in cc)
    ])
