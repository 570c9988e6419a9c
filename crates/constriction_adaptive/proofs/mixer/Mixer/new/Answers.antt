use Rattle.std.proofs.Common.{◌∙◌, ap, length, arith}
use Rattle.constriction_adaptive.specs.Mixer.{MixerState, mixer_state}
use Rattle.constriction_adaptive.proofs.MixerLemmas.{predicted_by, small, strengths_by}
use Rattle.constriction_adaptive.proofs.mixer.Mixer.new.Given.{Over}
use Rattle.constriction_adaptive.proofs.mixer.Mixer.new.Goals as goal

-- what was made
abbrev made : (g : Over) → goal.After-new-3 g → MixerState
made g c = mixer_state c.args.contexts c.args.groups c.in_ok-slots.slots.items c.in_ok-weights.weights.items c.in_ok-past.past

pub find_places-requires : goal.find_places-requires
find_places-requires g c = (
  small g.row.N 4 c.requires.contexts (omega arith),
  (
    small g.row.N 8 c.requires.contexts (omega arith),
    (
      c.requires.groups,
      c.requires.seen,
    ),
  ),
)

pub predict-weight-requires : goal.predict-weight-requires
predict-weight-requires g c = (
  small g.row.N 4 c.requires.contexts (omega arith),
  (
    small g.row.N 8 c.requires.contexts (omega arith),
    (
      small g.row.N 2 c.requires.contexts (omega arith),
      (
        c.requires.contexts,
        (
          ap length c.deref-2.ensures.value ∙ c.in_ok-weights.ensures.many,
          λ k h. omega (arith, c.find_places.ensures.inside k h, ap length c.deref.ensures.value, c.in_ok-slots.ensures.many),
        ),
      ),
    ),
  ),
)

pub invariant_of-result : goal.invariant_of-result
invariant_of-result g c =
    let strengths = strengths_by (made g c) _ _ _ c.deref.ensures.value c.find_places.ensures.are c.predict-weight.ensures.strengths in
    record {
      few = c.requires.contexts;
      some = c.requires.groups;
      many = c.in_ok-slots.ensures.many;
      rows = c.in_ok-weights.ensures.many;
      seen = c.requires.seen;
      inside = c.find_places.ensures.inside;
      places_are = c.find_places.ensures.are;
      strengths_are = strengths;
      weight_is = predicted_by (made g c) _ _ _ c.deref-2.ensures.value strengths c.predict-weight.ensures.weight;
      is = c.new-3.ensures;
    }
