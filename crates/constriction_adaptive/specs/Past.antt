-- The bytes before a bit, and the byte that they foretell.
use Rattle.std.specs.Prelude.{◌+◌, ◌*◌, ◌%◌, ◌^◌, ℕ, List, length, Bool, true, false, if◌then◌else◌, nat_eq, nat_lt, min, replicate, slice_index, slice_set}
use Rattle.constriction_adaptive.specs.Bit.{bit_number}
use Rattle.constriction_adaptive.specs.Mixing.{last_bytes, scattered}

pub record PastState : Type 0 where
  -- by a hash of the last bytes, the byte that came after them last, and how many bytes are hashed
  pub followers : List ℕ
  pub reach : ℕ
  -- the last eight bytes as a number
  pub history : ℕ
  -- 1, or the first half of this byte after a 1; and the bits of this half after a 1
  pub half : ℕ
  pub path : ℕ
  -- the place of the byte that is foretold, and how many in a row were right, at most 15
  pub at : ℕ
  pub told : ℕ

abbrev pub foretold : PastState → ℕ
foretold past = slice_index past.followers past.at

-- what the context of what is foretold sees
abbrev pub followed : PastState → ℕ
followed past = past.told * 256 + foretold past

-- the path with one bit more
abbrev pub longer : Bool → PastState → ℕ
longer bit past = 2 * past.path + bit_number bit

-- one byte more was foretold, or not
abbrev pub told_after : Bool → ℕ → ℕ
told_after false told = 0
told_after true told = min 15 (told + 1)

-- the last eight bytes with one byte more
abbrev pub with_byte : (byte history : ℕ) → ℕ
with_byte byte history = history % 2 ^ 56 * 256 + byte

-- a byte is whole
abbrev pub after_byte : ℕ → PastState → PastState
after_byte byte past = record {
  followers = slice_set past.followers past.at byte;
  reach = past.reach;
  history = with_byte byte past.history;
  half = 1;
  path = 1;
  at = scattered (length past.followers) (last_bytes past.reach (with_byte byte past.history));
  told = told_after (nat_eq (foretold past) byte) past.told;
}

-- half a byte is whole
abbrev pub after_half : ℕ → PastState → PastState
after_half bits past =
    if nat_lt past.half 16 then record past { half = bits; path = 1 } else after_byte (past.half % 16 * 16 + bits % 16) past

-- what is known after one bit more
abbrev pub past_after : Bool → PastState → PastState
past_after bit past =
    if nat_lt (longer bit past) 16 then record past { path = longer bit past } else after_half (longer bit past) past

-- so many followers before any byte came
unfoldable pub no_followers : ℕ → List ℕ
no_followers count = replicate count 0

-- nothing came
abbrev pub past_begun : (followers reach : ℕ) → PastState
past_begun followers reach = record {
  followers = no_followers followers;
  reach = reach;
  history = 0;
  half = 1;
  path = 1;
  at = scattered followers (last_bytes reach 0);
  told = 0;
}
