use Rattle.std.proofs.Common.{◌<◌, ◌^◌, length, arith, ap}
use Rattle.std.proofs.lemmas.List.{length_push}
use Rattle.std.proofs.lemmas.List.Elements.{All-push}
use Rattle.constriction_coders.proofs.CountsLemmas.{shares_more, before_more, before_all, some_more, none_more}
use Rattle.constriction_coders.proofs.counts.share_out.Goals as goal

pub loop-count-preserved : goal.loop-count-preserved
loop-count-preserved c =
    let l = c.loop-count in
    let w = c.weight_of-weight in
    let pushed = c.push_reserved.ensures.items in
    let given = shares_more l.weights.items c.args.counts.now l.count-index w.result.0 _ _ _ _ (omega arith) w.ensures.given
    l.invariant.given in record {
      as_many = omega (arith, ap length pushed, length_push l.weights.items w.result.0);
      fit = rw pushed (All-push (λ v. v < 2 ^ 32) l.weights.items w.result.0 l.invariant.fit (omega arith));
      carry = w.ensures.less;
      given = rw pushed given;
      before = rw pushed (before_more _ _ _ _ _ _ _ l.invariant.as_many w.ensures.less given l.invariant.before);
      some = rw pushed (some_more _ _ _ _ l.invariant.as_many w.ensures.some l.invariant.some);
      none = rw pushed (none_more _ _ _ _ l.invariant.as_many w.ensures.none l.invariant.none);
    }

pub returns-clause-before : goal.returns-clause-before
returns-clause-before c =
    before_all _ _ _ _ _ c.loop-count.invariant.as_many (omega arith) c.requires.total c.loop-count.invariant.before
