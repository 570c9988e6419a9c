use Rattle.std.proofs.Common.{◌∙◌, sym, arith}
use Rattle.std.specs.List.{length_refill}
use Rattle.std.specs.Vec.{with_items}
use Rattle.constriction_adaptive.specs.Mixer.{MixerState, mixer_state}
use Rattle.constriction_adaptive.proofs.MixerLemmas.{predicted_by, small, strengths_by}
use Rattle.constriction_adaptive.proofs.mixer.MixerPredictor16.learn.Given.{Over}
use Rattle.constriction_adaptive.proofs.mixer.MixerPredictor16.learn.Goals as goal

-- what was learned
abbrev learned : (g : Over) → goal.After-new-self g → MixerState
learned g c =
    let self = c.args.self.now in
    mixer_state self.contexts self.groups (with_items self.slots c.learn.new.slots).items
    (with_items self.weights c.adjust_row.new.weights).items c.move_on.new.past

pub adjust_row-requires : goal.adjust_row-requires
adjust_row-requires g c =
    let self = c.args.self.now in (
      small g.row.N 4 self.few (omega arith),
      (
        small g.row.N 2 self.few (omega arith),
        omega (arith, c.told-told.ensures.below, c.deref_mut.ensures.len, self.weights.ok.0, self.rows),
      ),
    )

pub learn-requires : goal.learn-requires
learn-requires g c = record {
  path = c.path.ensures.below;
  within = λ k h.
      let self = c.args.self.now in
      omega (arith, self.inside k (omega (arith, h)), c.deref_mut-2.ensures.len, self.slots.ok.0, self.many);
}

pub move_on-requires : goal.move_on-requires
move_on-requires g c =
    let self = c.args.self.now in (
      small g.row.N 4 self.few (omega arith),
      (
        small g.row.N 8 self.few (omega arith),
        (
          self.some,
          (
            self.seen,
            (
              self.places_are,
              self.inside,
            ),
          ),
        ),
      ),
    )

pub predict-self-requires : goal.predict-self-requires
predict-self-requires g c =
    let self = c.args.self.now in (
      small g.row.N 4 self.few (omega arith),
      (
        small g.row.N 8 self.few (omega arith),
        (
          small g.row.N 2 self.few (omega arith),
          (
            self.few,
            (
              omega (arith, c.deref-2.ensures.len, self.rows, self.weights.ok.0),
              λ k h. omega (arith, c.move_on.ensures.inside k h, c.deref.ensures.len, self.many, self.slots.ok.0),
            ),
          ),
        ),
      ),
    )

pub invariant_of-self : goal.invariant_of-self
invariant_of-self g c =
    let self = c.args.self.now in
    let strengths = strengths_by (learned g c) _ _ _ c.deref.ensures.value c.move_on.ensures.are c.predict-self.ensures.strengths in
    record {
      few = self.few;
      some = self.some;
      many = sym (length_refill self.slots.len self.slots.items c.learn.new.slots self.slots.ok.0) ∙ self.slots.ok.0 ∙ self.many;
      rows =
          sym (length_refill self.weights.len self.weights.items c.adjust_row.new.weights self.weights.ok.0) ∙ self.weights.ok.0
          ∙ self.rows;
      seen = self.seen;
      inside = c.move_on.ensures.inside;
      places_are = c.move_on.ensures.are;
      strengths_are = strengths;
      weight_is = predicted_by (learned g c) _ _ _ c.deref-2.ensures.value strengths c.predict-self.ensures.weight;
      is = c.new-self.ensures;
    }
