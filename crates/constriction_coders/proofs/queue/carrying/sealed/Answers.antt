use Rattle.std.proofs.Common.{◌+◌, ◌*◌, ◌-◌, ◌/◌, ◌^◌, ◌<◌, arith, inl, inr}
use Rattle.std.proofs.lemmas.Bool.{cases_Bool, iff_false}
use Rattle.constriction_coders.proofs.Sealing.{sealed-short, sealed-long}
use Rattle.constriction_coders.proofs.queue.carrying.sealed.Goals as goal

pub returns : goal.returns
returns c =
    let lower = c.args.lower in
    let range = c.args.range in
    let same = c.in_ok-reserve.ensures.items in
    let low = rw same at c.raised-point.ensures.value in
    let long = rw same at c.raised-point.ensures.length in
    elim (cases_Bool c.ends_in_zero-zero.result) [
      | inl zero ↦
          sealed-long c.args.words.items c.raised-point.new.words.items lower range c.raised-point.result c.requires.wide low long _
          c.with_point.ensures.fit (c.with_point.ensures.long zero) (c.ends_in_zero-zero.ensures.0 zero)
      | inr none ↦
          let above : lower + range < ((lower + (2 ^ 32 - 1)) / 2 ^ 32 + 1) * 2 ^ 32 → ⊥ =
          iff_false c.ends_in_zero-zero.ensures none in
          sealed-short c.args.words.items c.raised-point.new.words.items lower range c.raised-point.result c.requires.wide low long _
          c.with_point.ensures.fit (c.with_point.ensures.short none) (omega (arith, above))
    ]
