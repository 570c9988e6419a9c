use Rattle.std.proofs.Common.{◌<◌, ◌∙◌, sym, arith, length-drop}
use Rattle.std.proofs.lemmas.List.{length_push, take_rest}
use Rattle.std.proofs.lemmas.List.Elements.{All-push}
use Rattle.constriction_pack.proofs.WeightLemmas.{weights_left, weights_more}
use Rattle.constriction_pack.proofs.leb128.weights_in.Goals as goal

pub returns-in_default-clause-accepted : goal.returns-in_default-clause-accepted
returns-in_default-clause-accepted c = λ weights rest count is.
    let so_far = c.loop-done.invariant in
    let more = weights_left c.loop-done.weights.items weights _ rest (sym so_far.so_far ∙ is)
    (omega (arith, so_far.counted, count)) in
    let found = c.in_default.ensures.none more.0 more.1
    (take_rest c.args.bytes.now c.loop-done.at ∙ more.2) in cc

pub loop-done-preserved : goal.loop-done-preserved
loop-done-preserved c =
    let so_far = c.loop-done.invariant in
    let items = c.in_ok-push.ensures.items in
    let part = take_rest c.args.bytes.now c.loop-done.at in record {
      counted = rw items
          (omega (arith, so_far.counted, length_push c.loop-done.weights.items c.in-Some.weight));
      positive = rw items (All-push (λ w. 0 < w) c.loop-done.weights.items c.in-Some.weight
          so_far.positive c.in-Some.ensures.positive);
      within = omega (
        arith,
        so_far.within,
        rw part at c.in-Some.ensures.within,
        length-drop c.loop-done.at c.args.bytes.now,
      );
      so_far = rw items (weights_more c.loop-done.weights.items c.args.bytes.now _ c.in-Some.weight
          c.loop-done.at _ so_far.so_far part
          c.in-Some.ensures.some);
    }
