-- The even numbers as cumulatives.
use Rattle.std.proofs.Common.{◌≡◌, ℕ, ◌+◌, ◌*◌, ◌<◌, length, get_or, ap, ◌∙◌, arith}
use Rattle.std.proofs.lemmas.List.{length-map, get_or-map}
use Rattle.std.proofs.lemmas.List.FromFn.{length-range_with_len, get_or-range_with_len}
use Rattle.constriction_models_tests.specs.Evens.{evens}
use Rattle.constriction.specs.Probe.{IsSearchable}
use Rattle.constriction.specs.lemmas.Rows.{indices}

-- there are as many even numbers as asked for
pub length_evens : (size : ℕ) → length (evens size) ≡ size
unfolding evens
length_evens size = length-map (indices size) (λ i. 2 * i) ∙ length-range_with_len 0 size

-- the even number at an index is twice the index
pub evens_at : (size i : ℕ) → i < size → get_or (evens size) i 0 ≡ 2 * i
unfolding evens
evens_at size i h =
    let here : i < length (indices size) = omega (arith, length-range_with_len 0 size) in
    get_or-map (λ i. 2 * i) (indices size) i 0 0 here ∙ ap (λ n. 2 * n) (get_or-range_with_len 0 size i 0 h ∙ omega arith)

-- a list of them can be searched
pub evens_searchable : (size q : ℕ) → 0 < size → IsSearchable (evens size) q
evens_searchable size q some = record {
  some = omega (arith, length_evens size);
  increases =
      λ i h. omega (
        arith,
        length_evens size,
        evens_at size i (omega (arith, length_evens size)),
        evens_at size (i + 1)
            (omega (arith, length_evens size)),
      );
  begins = omega (arith, evens_at size 0 some);
}
