-- Blocks have one content.
use Rattle.std.proofs.Common.{◌≡◌, ℕ, List, length, ap, ◌∙◌}
use Rattle.std.proofs.lemmas.List.{length_push}
use Rattle.std.proofs.lemmas.List.FromFn.{length-range_with_len}
use Rattle.constriction.specs.lemmas.Rows.{length-rows_from}
use Rattle.constriction.specs.Rows.{Row, contiguous_rows}
use Rattle.constriction.specs.lemmas.Turns.{turn-last}
use Rattle.constriction_coders.specs.lemmas.Stack.{numbers-once}
use Rattle.constriction_pack.specs.Contents.{IsCoded}

-- one byte more
pub ruleset one_more = (turn-last, length_push)

-- there are as many rows as weights
pub row_count : (rows : List (Row ℕ)) (weights : List ℕ) → rows ≡ contiguous_rows weights
    → length rows ≡ length weights
row_count rows weights is =
    ap length is ∙ length-rows_from 0 _ weights (length-range_with_len 0 (length weights))

-- words are those of one list of so many bytes
pub coded_once : (weights bytes others words : List ℕ) → IsCoded bytes weights words
    → IsCoded others weights words → length bytes ≡ length others → bytes ≡ others
coded_once weights bytes others words p q e =
    numbers-once 16 weights bytes others words p.accepted p.stack q.stack e
