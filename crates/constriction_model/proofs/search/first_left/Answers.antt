use Rattle.std.proofs.Common.{◌≡◌, false, true, refl, inl, inr}
use Rattle.std.proofs.lemmas.Bool.{cases_lt}
use Rattle.constriction_model.proofs.Halving.{asked_no}
use Rattle.constriction_model.proofs.search.first_left.Goals as goal

pub returns-else-at_most : goal.returns-else-at_most
returns-else-at_most g c =
    asked_no g.R.Probe _ _ _ _ _ _ _ c.requires.searching c.requires.halved refl c.if-at_most.ensures.same c.if-at_most.ensures.counted
    (elim (cases_lt (g.R.Probe.number c.args.q) _) [
      | inl greater ↦ greater
      | inr no_greater ↦ (let bad : false ≡ true = c.if-at_most.ensures.answer.1 no_greater in cc)
    ])
