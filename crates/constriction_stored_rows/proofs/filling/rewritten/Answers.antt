use Rattle.std.proofs.Common.{◌≡◌, ◌+◌, ◌^◌, ◌<◌, ◌≤◌, ◌∷◌, [], ◌++◌, ◌∙◌, ap, refl, map, arith, length, take}
use Rattle.std.specs.Prelude.{sum}
use Rattle.std.proofs.Math.Nat.{pow-le-pow_right}
use Rattle.std.proofs.lemmas.List.{length-map, map_push, take_all}
use Rattle.std.proofs.lemmas.List.Sums.{sum_by_more, sum_by_more_le}
use Rattle.constriction_stored_rows.specs.Stored.{lefts_from}
use Rattle.constriction_stored_rows.specs.lemmas.Stored.{read-whole}
use Rattle.constriction_stored_rows.proofs.RefillLemmas.{one_pushed, one_more_left}
use Rattle.constriction_stored_rows.proofs.filling.rewritten.Goals as goal

pub plus-left-requires : goal.plus-left-requires
plus-left-requires g c =
    let whole = g.Word.WholeNumber.whole in
    let ws = map whole c.args.weights.now in
    let here : c.loop-weight.weight-index < length ws = omega (arith, length-map c.args.weights.now whole) in
    let read = read-whole whole c.args.weights.now c.loop-weight.weight-index c.weight-item.result (omega arith) c.weight-item.is in
    let wide : 2 ^ g.row.PRECISION ≤ 2 ^ g.Word.WholeNumber.BITS = pow-le-pow_right {n = 2} (omega arith) c.requires.precision.fits in
    omega (
      arith,
      c.loop-weight.invariant.left,
      read,
      sum_by_more_le (λ x. x) ws c.loop-weight.weight-index 0 here,
      c.requires.some_left,
      wide,
    )

pub loop-weight-preserved : goal.loop-weight-preserved
loop-weight-preserved g c =
    let whole = g.Word.WholeNumber.whole in
    let ws = map whole c.args.weights.now in
    let i = c.loop-weight.weight-index in
    let here : i < length ws = omega (arith, length-map c.args.weights.now whole) in
    let read = read-whole whole c.args.weights.now i c.weight-item.result (omega arith) c.weight-item.is in
    let more = sum_by_more (λ x. x) ws i 0 here in
    let left : whole c.plus-left.result ≡ sum (take (i + 1) ws) =
    omega (arith, c.plus-left.ensures, c.loop-weight.invariant.left, read, more) in
    let pushed = c.push_reserved-in-loop-weight.ensures.items in
    record {
      words = one_more_left whole c.loop-weight.cdf.items c.push_reserved-in-loop-weight.new.self.items ws i c.plus-left.result pushed
          c.loop-weight.invariant.words here left;
      left = left;
      long = omega (arith, c.push_reserved-in-loop-weight.ensures.len, c.loop-weight.invariant.long);
      room = omega (arith, c.push_reserved-in-loop-weight.ensures.capacity, c.loop-weight.invariant.room);
    }

pub loop-weight-init : goal.loop-weight-init
loop-weight-init g c =
    let whole = g.Word.WholeNumber.whole in
    let pushed =
    one_pushed c.clear.new.self.items c.push_reserved.new.self.items c.least-left.result c.clear.ensures.items
    c.push_reserved.ensures.items in
    record {
      words = ap (map whole) pushed ∙ ap (λ n. n ∷ []) c.least-left.ensures;
      left = c.least-left.ensures;
      long = ap length pushed;
      room = refl;
    }

pub push_reserved-requires-in-loop-weight : goal.push_reserved-requires-in-loop-weight
push_reserved-requires-in-loop-weight g c =
    omega (arith, c.loop-weight.cdf.ok.0)

pub push_reserved-requires-2 : goal.push_reserved-requires-2
push_reserved-requires-2 g c =
    omega (arith, c.loop-weight.cdf.ok.0)

pub returns : goal.returns
returns g c =
    let whole = g.Word.WholeNumber.whole in
    let ws = map whole c.args.weights.now in
    let all : take c.loop-weight.weight-index ws ≡ ws =
    take_all c.loop-weight.weight-index ws (omega (arith, length-map c.args.weights.now whole)) in
    ap (map whole) c.push_reserved-2.ensures.items ∙ map_push whole c.loop-weight.cdf.items c.wrapping_pow2.result
    ∙ ap (λ ns. ns ++ whole c.wrapping_pow2.result ∷ []) (c.loop-weight.invariant.words ∙ ap (λ xs. lefts_from 0 xs ++ sum xs ∷ []) all)
    ∙ ap (λ n. (lefts_from 0 ws ++ sum ws ∷ []) ++ n ∷ []) c.wrapping_pow2.ensures
