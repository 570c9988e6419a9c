-- Models that are known beforehand, as the rows of each.
use Rattle.std.specs.Prelude.{List, [], ◌∷◌}
use Rattle.constriction_model.specs.Rows.{Row}

module _ {Symbol : Type 0} where
  -- the rows of the first model
  abbrev pub first_rows : List (List (Row Symbol)) → List (Row Symbol)
  first_rows [] = []
  first_rows (rows ∷ others) = rows

  -- the models after the first one; the last one stays
  abbrev pub after_first : List (List (Row Symbol)) → List (List (Row Symbol))
  after_first [] = []
  after_first (rows ∷ []) = rows ∷ []
  after_first (rows ∷ next ∷ others) = next ∷ others
