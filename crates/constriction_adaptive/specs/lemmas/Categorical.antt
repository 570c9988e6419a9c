-- A number that comes back for a symbol is the symbol: the impls cite it.
use Rattle.std.specs.Prelude.{◌≡◌, ℕ, nat_eq}
use Rattle.std.proofs.Common.{ap, ◌∙◌}
use Rattle.std.proofs.lemmas.Bool.{eqb-true}
use Rattle.constriction_model.specs.Coding.{StandsForEqual}

-- a number that stands for another one is that
pub number-same : (symbol answer : ℕ) → StandsForEqual (λ s t. t ≡ s) nat_eq symbol answer → answer ≡ symbol
number-same symbol answer e = e.2 ∙ eqb-true e.0 symbol e.1

-- so it leads to the same state
pub after-same : {State : Type 0} (next : State → ℕ → State) (s : State) (symbol answer : ℕ)
    → StandsForEqual (λ s t. t ≡ s) nat_eq symbol answer → next s answer ≡ next s symbol
after-same next s symbol answer e = ap (next s) (number-same symbol answer e)
