-- A cdf of the symbols 0, 1, .. that moves towards each symbol that came. It is known by its left cumulatives.
use Rattle.std.specs.Prelude.{ℕ, ◌+◌, ◌-◌, ◌*◌, ◌/◌, ◌^◌, List, length, map, replicate, slice_index, if◌then◌else◌, nat_le}
use Rattle.std.specs.List.{range_with_len}

-- the left cumulatives of symbols that are all as likely, but for the last one, which also has what is left over
abbrev pub even_lefts : (precision symbols : ℕ) → List ℕ
even_lefts precision symbols = map (λ i. i * (2 ^ precision / symbols)) (range_with_len 0 symbols)

-- those of so many predictors
unfoldable pub even_many : (count precision symbols : ℕ) → List (List ℕ)
even_many count precision symbols = replicate count (even_lefts precision symbols)

-- Where the left cumulative of the symbol i moves after a symbol: by a 2 ^ rate-th of its way, rounded down, to where it is if each symbol
-- has one quantile, and the one that came the `others` too.
abbrev pub left_after : (rate others symbol i left : ℕ) → ℕ
left_after rate others symbol i left =
    if nat_le i symbol then left - (left - i) / 2 ^ rate else left + (others + i - left) / 2 ^ rate

-- all left cumulatives after a symbol
abbrev pub lefts_after : (precision rate : ℕ) (lefts : List ℕ) (symbol : ℕ) → List ℕ
lefts_after precision rate lefts symbol =
    map (λ i. left_after rate (2 ^ precision - length lefts) symbol i (slice_index lefts i)) (range_with_len 0 (length lefts))
