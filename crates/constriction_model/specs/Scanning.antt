-- Rows that are found by a scan: the first one that holds a quantile.
use Rattle.std.specs.Prelude.{ℕ, ◌+◌, Bool, ◌&&◌, nat_le, nat_lt}
use Rattle.constriction_model.specs.Rows.{Row}

-- whether a row holds a quantile
abbrev pub holds : {Symbol : Type 0} → ℕ → Row Symbol → Bool
holds q row = nat_le row.left q && nat_lt q (row.left + row.weight)
