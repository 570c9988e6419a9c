-- Contexts of the bits of bytes. In each the weight of a 0 out of 2 ^ 16 moves towards the bits that came.
use Rattle.std.specs.Prelude.{ℕ, ◌+◌, ◌-◌, ◌*◌, ◌/◌, ◌%◌, ◌^◌, List, Bool, true, false, if◌then◌else◌, nat_eq, nat_lt, slice_index, slice_set, replicate}
use Rattle.constriction_model.specs.Rows.{Row}
use Rattle.constriction_adaptive.specs.Bit.{at_least_one, bit_number, bit_rows}

-- a weight of 0 moves by a 32nd of the way towards the bit
abbrev pub moved : Bool → ℕ → ℕ
moved false weight = weight + (65535 - weight) / 32
moved true weight = weight - weight / 32

-- the bits of a byte so far, after a 1 that comes before them all, with one bit more
abbrev pub grown : ℕ → Bool → ℕ
grown node bit = 2 * node + bit_number bit

-- the bits of the byte so far after one bit more: none, if the byte is whole
abbrev pub node_after : ℕ → Bool → ℕ
node_after node bit = if nat_lt (grown node bit) 256 then grown node bit else 1

-- the bytes before as a number, of which `modulus` says how many are kept, after one bit more: a byte that is whole is one of them
abbrev pub history_after : (modulus history node : ℕ) → Bool → ℕ
history_after modulus history node bit =
    if nat_lt (grown node bit) 256 then history else (history * 256 + (grown node bit - 256)) % modulus

-- What a predictor knows: the weights in the slots of all contexts, and in which context the next bit is: which bytes came before, and
-- which bits of the byte.
pub record Contexts : Type 0 where
  pub weights : List ℕ
  pub history : ℕ
  pub node : ℕ

-- the slot of a context among so many: its own, if they are as many as contexts of one byte; else the highest 22 bits of a product
abbrev pub slot_of : (slots history node : ℕ) → ℕ
slot_of slots history node =
    if nat_eq slots 65536 then history * 256 + node else (history * 256 + node) * 11400714819323198485 % 2 ^ 64 / 2 ^ 42

-- the rows of the next bit
abbrev pub rows_in : (slots : ℕ) → Contexts → List (Row Bool)
rows_in slots c = bit_rows (at_least_one (slice_index c.weights (slot_of slots c.history c.node)))

-- what is known after one bit more
abbrev pub contexts_after : (slots modulus : ℕ) → Contexts → Bool → Contexts
contexts_after slots modulus c bit = record {
  weights =
      slice_set c.weights (slot_of slots c.history c.node) (moved bit (slice_index c.weights (slot_of slots c.history c.node)));
  history = history_after modulus c.history c.node bit;
  node = node_after c.node bit;
}

-- the weights in so many slots in which nothing was learned: both bits are as likely
unfoldable pub even_weights : ℕ → List ℕ
even_weights slots = replicate slots 32768

-- nothing was learned, in so many slots
abbrev pub untouched : ℕ → Contexts
untouched slots = record { weights = even_weights slots; history = 0; node = 1 }
