-- The symbols of contiguous rows are the numbers below their count.
use Rattle.std.proofs.Common.{◌≡◌, ℕ, ◌+◌, ◌<◌, ◌≤◌, List, length, get_or, take, Some, None, ap, ◌∙◌, arith, inr, nat_eq}
use Rattle.std.specs.Prelude.{◌≢◌, sum}
use Rattle.std.proofs.lemmas.List.FromFn.{length-range_with_len, get_or-range_with_len}
use Rattle.constriction_model.specs.lemmas.Rows.{contiguous-at, contiguous-past, indices, length-rows, rows_from-at}
use Rattle.constriction_model.specs.Rows.{Row, contiguous_rows, entry_of}

-- a number below their count has an entry
pub has-entry : (weights : List ℕ) (s : ℕ) → s < length (contiguous_rows weights)
    → entry_of nat_eq (contiguous_rows weights) s ≢ None
has-entry weights s h none =
    let start : 0 + s ≡ s = omega arith in
    let entry : entry_of nat_eq (contiguous_rows weights) s ≡ Some (0 + sum (take s weights), get_or weights s 0) =
    rw start at (contiguous-at 0 0 weights s (omega (arith, length-rows weights))) in
    cc

-- no other number has one
pub no-entry : (weights : List ℕ) (s : ℕ) → length (contiguous_rows weights) ≤ s
    → entry_of nat_eq (contiguous_rows weights) s ≡ None
no-entry weights s h = contiguous-past 0 0 weights s (inr (omega (arith, length-rows weights)))

-- the symbol of a row is its index
pub symbol-at : (weights : List ℕ) (k : ℕ) (d : Row ℕ) → k < length (contiguous_rows weights)
    → (get_or (contiguous_rows weights) k d).symbol ≡ k
symbol-at weights k d h =
    let here : k < length weights = omega (arith, length-rows weights) in
    ap (λ (r : Row ℕ). r.symbol)
    (rows_from-at 0 (indices (length weights)) weights k d (length-range_with_len 0 (length weights)) here)
    ∙ get_or-range_with_len 0 (length weights) k d.symbol here ∙ (let start : 0 + k ≡ k = omega arith in start)
