-- A symbol table of a caller's own, over another one that it holds.
use Rattle.std.specs.Prelude.{ℕ, List, Option, Some, None, Result, Ok, Err}
use Rattle.constriction.specs.Rows.{Row}
use Rattle.constriction.specs.Tables.{YieldsRow}

-- a step of the held symbol table is a step of the one that holds it: both have the same rows left
pub held-step : {T U Symbol Word Weight Refusal : Type 0} (t : T) (r : Option (Result (Symbol × Word × Weight) Refusal)) (u : T)
    (held : T → U) (Stands : Symbol → Symbol → Type 0) (MayRefuse : Symbol → Type 0) (whole : Word → ℕ) (base : Weight → Word)
    (rows_left : U → List (Row Symbol)) → YieldsRow Stands MayRefuse whole base rows_left (held t) r (held u)
    → YieldsRow Stands MayRefuse whole base (λ s. rows_left (held s)) t r u
held-step t None u held Stands MayRefuse whole base rows_left step = step
held-step t (Some (Ok x)) u held Stands MayRefuse whole base rows_left step = step
held-step t (Some (Err e)) u held Stands MayRefuse whole base rows_left step = step
