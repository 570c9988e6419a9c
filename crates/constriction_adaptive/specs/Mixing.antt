-- Logistic mixing of predictions in whole numbers. The weight of a bit is how much of 2 ^ 16 stands for 0.
use Rattle.std.specs.Prelude.{◌+◌, ◌-◌, ◌*◌, ◌/◌, ◌%◌, ◌^◌, ℕ, List, [], ◌∷◌, map, length, Bool, true, false, if◌then◌else◌, nat_lt, min, slice_index, slice_set, sum}
use Rattle.std.specs.List.{range_with_len}
use Rattle.std.specs.Int.{w32, leading_zeros}

-- the place of the highest bit
abbrev pub highest : ℕ → ℕ
highest x = 31 - leading_zeros w32 x

-- 128 times the logarithm of base 2, linear between powers of 2
abbrev pub logarithm : ℕ → ℕ
logarithm x = 128 * highest x + 128 * x / 2 ^ highest x - 128

-- how strongly a slot speaks for 0: the logarithm of its odds, and 2048, which speaks for neither bit
abbrev pub strength : ℕ → ℕ
strength slot = 2048 + logarithm (2 * (slot / 16) + 1) - logarithm (8191 - 2 * (slot / 16))

-- the weight of a bit that the other bit beats by odds of 2 ^ (lead / 128), linear between powers of 2
abbrev pub tail : ℕ → ℕ
tail lead = 8388608 / ((128 + lead % 128) * 2 ^ (lead / 128) + 128)

-- the weight of 0, for which this strength speaks
abbrev pub squash : ℕ → ℕ
squash strength = if nat_lt strength 2048 then tail (2048 - strength) else 65536 - tail (strength - 2048)

-- a slot moves towards the bit by an eighth of the way, at first by half of it
abbrev pub pace : ℕ → ℕ
pace slot = if nat_lt slot 32768 then 8 else (if nat_lt 32768 slot then 8 else 2)

-- the slot after a bit
abbrev pub slot_after : Bool → ℕ → ℕ
slot_after false slot = slot + (65535 - slot) / pace slot
slot_after true slot = slot - slot / pace slot

-- an input counts more if it spoke for the bit that came, and less if it spoke against it, from 0 to 4 times
abbrev pub weight_after : Bool → (error strength weight : ℕ) → ℕ
weight_after false error strength weight = min 262144 (weight + strength * error / 131072 - error / 64)
weight_after true error strength weight = min 262144 (weight + error / 64 - strength * error / 131072)

-- one of `count` places for a number below 2 ^ 64
abbrev pub scattered : (count key : ℕ) → ℕ
scattered count key = key * 11400714819323198485 % 2 ^ 64 / 2 ^ 32 * count / 2 ^ 32

-- the last bytes of what came, at the top of 64 bits
abbrev pub last_bytes : (bytes history : ℕ) → ℕ
last_bytes bytes history = history * 2 ^ (64 - 8 * bytes) % 2 ^ 64

-- what a context sees: so many of the last bytes, or for none what was followed
abbrev pub seen : (history followed bytes : ℕ) → ℕ
seen history followed bytes = if nat_lt 0 bytes then last_bytes bytes history else followed * 256

-- the first of the 16 slots of a context for the bits of half a byte
abbrev pub place : (groups history half followed bytes : ℕ) → ℕ
place groups history half followed bytes = 16 * scattered groups ((seen history followed bytes + (half * 8 + bytes)) % 2 ^ 64)

-- the slot at each place moves
abbrev pub slots_moved : Bool → (path : ℕ) (places slots : List ℕ) → List ℕ
slots_moved bit path [] slots = slots
slots_moved bit path (p ∷ ps) slots =
    slots_moved bit path ps (slice_set slots (p + path) (slot_after bit (slice_index slots (p + path))))

-- how far the weight of 0 was from the bit that came
abbrev pub error_of : Bool → ℕ → ℕ
error_of false weight = 65536 - weight
error_of true weight = weight

-- each input counts more or less after a bit
abbrev pub weights_after : Bool → (error : ℕ) → (strengths weights : List ℕ) → List ℕ
weights_after bit error strengths weights =
    map (λ i. weight_after bit error (slice_index strengths i) (slice_index weights i)) (range_with_len 0 (length weights))

-- values summed, each as often as its weight says
abbrev pub weighed : (weights : List ℕ) → (ℕ → ℕ) → ℕ
weighed weights value = sum (map (λ i. slice_index weights i * value i) (range_with_len 0 (length weights)))

-- how strongly the inputs speak for 0 together, with weights of 2 ^ 16 for once, from 0 to 4095
abbrev pub mixed : (weights strengths : List ℕ) → ℕ
mixed weights strengths = min 4095 ((134217728 + weighed weights (slice_index strengths) - weighed weights (λ _. 2048)) / 65536)
