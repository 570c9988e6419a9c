-- The definitions give the published words.
use Rattle.std.proofs.Common.{ℕ, suc, zero, ◌+◌, ◌*◌, ◌^◌, ◌<◌, ◌≤◌, Some, get_or, refl, ap, arith, inl, inr}
use Rattle.constriction_coders.specs.Published.{published_entries, published_words}
use Rattle.constriction_coders.specs.Spans.{Span, span, whole, part_in, IsNarrowed, IsMessageOf}

wide : (left weight : ℕ) (s : Span) → left + weight ≤ 2 ^ 24 → 2 ^ 32 ≤ (part_in 24 left weight s).size
    → IsNarrowed (Some (left, weight)) 24 s (part_in 24 left weight s)
wide left weight s fits h = record { left = left; weight = weight; known = refl; within = fits; next = inl (h, refl) }

small : (left weight : ℕ) (s : Span) → left + weight ≤ 2 ^ 24 → (part_in 24 left weight s).size < 2 ^ 32
    → IsNarrowed (Some (left, weight)) 24 s
    (span ((part_in 24 left weight s).low * 2 ^ 32) ((part_in 24 left weight s).size * 2 ^ 32) (s.written + 1))
small left weight s fits h = record { left = left; weight = weight; known = refl; within = fits; next = inr (h, refl) }

fit : (k d : ℕ) → k < 2 → get_or published_words k d < 2 ^ 32
fit zero d h = omega arith
fit (suc zero) d h = omega arith
fit (suc (suc k)) d h = absurd (omega (arith, h))

-- the published words are the message of the published entries
pub published : IsMessageOf (λ e. Some e) 24 published_entries published_words
published = (
  span 8725950630511536324594368512 11369832408896503808 1,
  (
    span 1924102467652766775 351359935771779000 0,
    wide 1749961 319560 whole (omega arith) (omega arith),
    (
      span 2026953246118665315 4825131602181123 0,
      wide 4911060 230397 (span 1924102467652766775 351359935771779000 0) (omega arith) (omega arith),
      (
        span 2031666392218763750 10675146265090 0,
        wide 16387837 37118 (span 2026953246118665315 4825131602181123 0) (omega arith) (omega arith),
        (
          span 2031668620815574886 87593951232 0,
          wide 3502497 137664 (span 2031666392218763750 10675146265090 0) (omega arith) (omega arith),
          (
            span 8725950630511536324594368512 11369832408896503808 1,
            small 15510116 507038 (span 2031668620815574886 87593951232 0) (omega arith) (omega arith),
            refl,
          ),
        ),
      ),
    ),
  ),
  inr (
    (λ all. absurd (omega (arith, ap (λ (s : Span). s.size) all))),
    record {
      fit = fit;
      point = 2031668701793890522;
      from = omega arith;
      to = omega arith;
      least = omega arith;
      is = inl (omega arith, refl, refl);
    },
  ),
)
