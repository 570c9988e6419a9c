-- A number that comes back as it was leads to the same context: the impl cites it.
use Rattle.std.specs.Prelude.{◌≡◌, ℕ}
use Rattle.std.proofs.Common.{ap}
use Rattle.constriction_adaptive.specs.LastSymbols.{Recent, after_recent}

-- a symbol that stands for another one is kept as that
pub recent-same : (Same : ℕ → ℕ → Type 0) → ((symbol answer : ℕ) → Same symbol answer → answer ≡ symbol) → (s : Recent) (symbol answer : ℕ)
    → Same symbol answer → after_recent s answer ≡ after_recent s symbol
recent-same Same same s symbol answer e = ap (after_recent s) (same symbol answer e)
