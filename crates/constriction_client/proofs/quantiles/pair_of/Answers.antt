use Rattle.std.proofs.Common.{◌≡◌, ℕ, ◌<◌, ◌≤◌, Bool, true, false, inl, inr, arith}
use Rattle.std.proofs.lemmas.Bool.{cases_lt}
use Rattle.constriction_client.proofs.quantiles.pair_of.Goals as goal

-- if a test of a < b fails, b is at most a
not-less : (a b : ℕ) (test : Bool) → test ≡ false → (a < b → test ≡ true) → b ≤ a
not-less a b test failed is = elim (cases_lt a b) [ inl less ↦ let holds = is less in absurd (cc) | inr more ↦ more ]

pub returns-then-not-is_quantile : goal.returns-then-not-is_quantile
returns-then-not-is_quantile g c = not-less _ _ c.is_quantile.result c.if-not-is_quantile.true c.is_quantile.ensures.1

pub minus-requires : goal.minus-requires
minus-requires g c = c.in-Ok.ensures.row.2.from

pub returns-in-Ok : goal.returns-in-Ok
returns-in-Ok g c = (
  c.is_quantile.ensures.0 c.if-not-is_quantile.false,
  record {
    row = _;
    found = c.in-Ok.ensures.row.2;
    symbol = c.in-Ok.ensures.row.1;
    offset = omega (arith, c.minus.ensures, c.in-Ok.ensures.row.2.from);
  },
)

pub returns-in-Err : goal.returns-in-Err
returns-in-Err g c = (c.is_quantile.ensures.0 c.if-not-is_quantile.false, c.in-Err.ensures.refused)
