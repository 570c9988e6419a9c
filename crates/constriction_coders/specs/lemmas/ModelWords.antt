-- Rows over the words of a model tile over the words of a coder too, which are no narrower.
use Rattle.std.proofs.Common.{ℕ, ◌≤◌, List, arith}
use Rattle.std.proofs.Math.Pow.{pow_mono}
use Rattle.constriction_model.specs.Rows.{Row, RowsTile}

-- rows that tile over words of some bits tile over words of as many bits, or more
pub tiles-wider : {Symbol : Type 0} (bits wide precision : ℕ) (rows : List (Row Symbol)) → bits ≤ wide → RowsTile bits precision rows
    → RowsTile wide precision rows
tiles-wider bits wide precision rows within tile =
    let fit = tile.accepted.fit in record {
      accepted = record {
        tiles = tile.accepted.tiles;
        fit = λ k d h. omega (arith, fit k d h, pow_mono {i = bits} {j = wide} within);
      };
      in_order = tile.in_order;
    }
