use Rattle.std.proofs.Common.{◌≡◌, ◌∙◌, ◌*◌, ◌/◌, ◌%◌, ◌^◌, ◌≤◌, [], ◌∷◌, ◌++◌, ◌<◌, ℕ, Fits, w32, get_or, length, ap, sym, subst, arith, below_more}
use Rattle.std.proofs.lemmas.List.{get_or_append_left, get_or_push}
use Rattle.std.proofs.lemmas.Nat.{one_shl}
use Rattle.std.proofs.Math.Nat.{pow-le-pow_right}
use Rattle.constriction_adaptive.proofs.LeftsLemmas.{shares-within}
use Rattle.constriction_adaptive.proofs.CategoricalLemmas.{even-cdf}
use Rattle.constriction_adaptive.proofs.categorical.even_cdf.Goals as goal

pub overflow_mul-i : goal.overflow_mul-i
overflow_mul-i g c =
    let all = one_shl g.row.PRECISION 64 (omega arith) in
    let share : 2 ^ g.row.PRECISION / c.args.symbols ≡ 1 * 2 ^ g.row.PRECISION % 2 ^ 64 / c.args.symbols =
    ap (λ n. n / c.args.symbols) (sym all) in
    let wide : 2 ^ g.row.PRECISION ≤ 2 ^ 32 = pow-le-pow_right {n = 2} (omega arith) c.requires.precision.fits in
    let part = shares-within (2 ^ g.row.PRECISION) c.args.symbols c.loop-i.i (omega arith) (omega arith) (omega arith) in
    subst (λ s. Fits w32 (c.loop-i.i * s)) share (omega (arith, part.0, part.1, wide))

pub loop-i-preserved : goal.loop-i-preserved
loop-i-preserved g c =
    let i = c.loop-i.i in
    let cdf = c.loop-i.cdf.items in
    let weight : ℕ = 1 * 2 ^ g.row.PRECISION % 2 ^ 64 / c.args.symbols in
    record {
      long = omega (arith, c.push_reserved.ensures.len, c.loop-i.invariant.long);
      room = c.push_reserved.ensures.capacity ∙ c.loop-i.invariant.room;
      lefts = rw c.push_reserved.ensures.items
          (below_more (λ k. get_or (cdf ++ i * weight ∷ []) k 0 ≡ k * weight) i
          (λ k h. let b : k < length cdf = omega (arith, c.loop-i.invariant.long, h) in
          get_or_append_left cdf (i * weight ∷ []) 0 k b ∙ c.loop-i.invariant.lefts k h)
          (get_or_push cdf (i * weight) 0 i c.loop-i.invariant.long));
    }

pub returns : goal.returns
returns g c =
    let all = one_shl g.row.PRECISION 64 (omega arith) in
    let made = even-cdf g.row.PRECISION c.args.symbols _ c.loop-i.cdf.items c.push_reserved-2.new.self.items c.requires.precision.fits
    (omega arith) (omega arith) (omega arith) (ap (λ n. n / c.args.symbols) all) (omega arith)
    (λ k h. c.loop-i.invariant.lefts k (omega arith))
    (c.push_reserved-2.ensures.items ∙ ap (λ n. c.loop-i.cdf.items ++ (n % 2 ^ 32) ∷ []) all) in
    record { cdf = made.0; lefts = made.1 }
