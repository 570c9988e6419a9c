-- A computed list of cumulatives, for a test alone.
use Rattle.std.specs.Prelude.{ℕ, ◌*◌, List, map}
use Rattle.constriction.specs.lemmas.Rows.{indices}

-- the first `size` even numbers
unfoldable pub evens : ℕ → List ℕ
evens size = map (λ i. 2 * i) (indices size)
