use Rattle.std.proofs.Common.{◌≡◌, ◌+◌, ◌*◌, ◌≤◌, get_or, arith}
use Rattle.constriction_adaptive.specs.Mixing.{place}
use Rattle.constriction_adaptive.proofs.ListLemmas.{set_more}
use Rattle.constriction_adaptive.proofs.mixer.inputs.find.Goals as goal

pub loop-i-preserved : goal.loop-i-preserved
loop-i-preserved c = record {
  value =
      set_more (λ k v. v ≡ place c.args.groups c.args.history c.args.half c.args.followed (get_or c.args.contexts.now k 0))
      c.loop-i.places c.loop-i.i c.place_of.result (omega arith) c.loop-i.invariant.value c.place_of.ensures.value;
  below =
      set_more (λ k v. v + 16 ≤ 16 * c.args.groups) c.loop-i.places c.loop-i.i c.place_of.result (omega arith)
      c.loop-i.invariant.below c.place_of.ensures.below;
}
