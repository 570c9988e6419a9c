-- A list with other words in a part of it.
use Rattle.std.specs.Prelude.{ℕ, List, ◌++◌, take, drop}

-- the list old with new in place of its words from one index up to another
abbrev pub with_part : {A : Type 0} → List A → ℕ → ℕ → List A → List A
with_part old from to new = take from old ++ (new ++ drop to old)
