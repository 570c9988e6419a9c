use Rattle.constriction_model.proofs.Halving.{goes_on, in_turn}
use Rattle.constriction_model.proofs.search.halve_four_times.Goals as goal

pub halve-quarter_first-requires : goal.halve-quarter_first-requires
halve-quarter_first-requires g c =
    record { searching = goes_on g.R.Probe _ _ _ _ _ _ _ c.requires.searching c.halve-half_first.ensures.narrows }

pub halve-eighth_first-requires : goal.halve-eighth_first-requires
halve-eighth_first-requires g c = record {
  searching = goes_on g.R.Probe _ _ _ _ _ _ _
      (goes_on g.R.Probe _ _ _ _ _ _ _ c.requires.searching c.halve-half_first.ensures.narrows)
      c.halve-quarter_first.ensures.narrows;
}

pub halve-requires : goal.halve-requires
halve-requires g c = record {
  searching = goes_on g.R.Probe _ _ _ _ _ _ _
      (goes_on g.R.Probe _ _ _ _ _ _ _
      (goes_on g.R.Probe _ _ _ _ _ _ _ c.requires.searching c.halve-half_first.ensures.narrows)
      c.halve-quarter_first.ensures.narrows)
      c.halve-eighth_first.ensures.narrows;
}

pub returns-clause-narrows : goal.returns-clause-narrows
returns-clause-narrows g c =
    in_turn g.R.Probe _ _ _ _ _ _ _ _ _
    (in_turn g.R.Probe _ _ _ _ _ _ _ _ _
    (in_turn g.R.Probe _ _ _ _ _ _ _ _ _ c.halve-half_first.ensures.narrows c.halve-quarter_first.ensures.narrows)
    c.halve-eighth_first.ensures.narrows)
    c.halve.ensures.narrows
