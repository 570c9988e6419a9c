-- Numbers as words.
use Rattle.std.specs.Prelude.{ℕ, ◌^◌, nat_lt, if◌then◌else◌}

-- the number, or 0 if it is no word of `bits` bits
abbrev pub narrowed_to : ℕ → ℕ → ℕ
narrowed_to bits number = if nat_lt number (2 ^ bits) then number else 0
