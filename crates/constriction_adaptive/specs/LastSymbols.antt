-- Some of the symbols that came last, as the digits of a number.
use Rattle.std.specs.Prelude.{ℕ, ◌+◌, ◌-◌, ◌*◌, ◌%◌, ◌^◌, ◌<◌, min}

-- How many symbols there are, of how many digits without the oldest one the numbers are, and the number of those that came last: the last
-- one is its lowest digit.
pub record Recent : Type 0 where
  pub symbols : ℕ
  pub older : ℕ
  pub number : ℕ

-- the same, from its parts
abbrev pub recent : (symbols older number : ℕ) → Recent
recent symbols older number = record { symbols = symbols; older = older; number = number }

-- the numbers of all digits are below the product
pub record IsRecent (s : Recent) : Type 0 where
  pub some : 0 < s.symbols
  pub digits : 0 < s.older
  pub below : s.number < s.symbols * s.older
  pub few : s.symbols * s.older < 2 ^ 64

-- nothing came: each of the last symbols counts as 0
abbrev pub none_recent : (symbols order : ℕ) → Recent
none_recent symbols order = recent symbols (symbols ^ (order - 1)) 0

-- a symbol came: the oldest one is forgotten, and one past the greatest counts as that
abbrev pub after_recent : Recent → ℕ → Recent
after_recent s symbol = recent s.symbols s.older (s.number % s.older * s.symbols + min symbol (s.symbols - 1))
