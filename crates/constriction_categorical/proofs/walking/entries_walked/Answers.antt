use Rattle.std.proofs.Common.{Err, ap, ◌∙◌}
use Rattle.std.proofs.lemmas.Result.{IfOk-from_err, err_from_is_err_and}
use Rattle.constriction_stored_rows.proofs.FillLemmas.{accepted≢refused, table≢memory}
use Rattle.constriction_categorical.proofs.CollectLemmas.{collected-none, collected-step, collected-repeat, collected-end}
use Rattle.constriction_categorical.proofs.walking.entries_walked.Goals as goal

pub rows-init : goal.rows-init
rows-init g c = (
  c.requires.goes,
  c.requires.ends,
  collected-none g.Walk.Iterator.next_gives c.args.walk g.Symbol.PartialEq.eq g.met.Symbol.Eq.laws.symm c.in_ok-entries.entries.items
      c.in_ok-entries.ensures.items,
)

pub rows-preserved : goal.rows-preserved
rows-preserved g c =
    let next = c.in-Some.ensures.goes.on c.rows.invariant.1 in (
      next.0,
      next.1,
      collected-step g.Walk.Iterator.next_gives c.args.walk g.Symbol.PartialEq.eq g.met.Symbol.Eq.laws.symm c.rows.walk c.next.new.self
          c.rows.entries.items c.in-Some.row (c.in_ok-symbol.symbol, c.in_ok-symbol.left, c.in_ok-symbol._weight) c.rows.invariant.2
          c.in-Some.ensures.steps c.in_ok-symbol.was c.deref.result.now c.has_symbol.result c.has_symbol.ensures c.deref.ensures.value
          c.push.new.self.items c.in_ok-push.ensures.items c.if-has_symbol.false,
    )

pub returns-then-has_symbol-clause-invalid : goal.returns-then-has_symbol-clause-invalid
returns-then-has_symbol-clause-invalid g c = λ _.
    collected-repeat g.Walk.Iterator.next_gives c.args.walk g.Symbol.PartialEq.eq g.met.Symbol.Eq.laws.symm c.rows.walk c.next.new.self
    c.rows.entries.items c.in-Some.row (c.in_ok-symbol.symbol, c.in_ok-symbol.left, c.in_ok-symbol._weight) c.rows.invariant.2
    c.in-Some.ensures.steps c.in_ok-symbol.was c.deref.result.now c.has_symbol.result c.has_symbol.ensures c.deref.ensures.value
    c.if-has_symbol.true

pub returns-clause-ok : goal.returns-clause-ok
returns-clause-ok g c =
    collected-end g.Walk.Iterator.next_gives c.args.walk g.Symbol.PartialEq.eq g.met.Symbol.Eq.laws.symm c.rows.walk c.next.new.self
    c.rows.entries.items c.rows.invariant.2 c.in_default.ensures.steps

pub returns-in_err-entries-clause-ok : goal.returns-in_err-entries-clause-ok
returns-in_err-entries-clause-ok g c = IfOk-from_err c.from_residual.result _ c.from_residual.ensures.0

pub returns-in_err-entries-clause-invalid : goal.returns-in_err-entries-clause-invalid
returns-in_err-entries-clause-invalid g c =
    let refused = err_from_is_err_and c.from_residual.result c.from_residual.ensures.1 in
    λ e. absurd (table≢memory c.from_residual.result e (refused.1 ∙ ap Err refused.2))

pub returns-in_err-symbol-clause-ok : goal.returns-in_err-symbol-clause-ok
returns-in_err-symbol-clause-ok g c = IfOk-from_err c.from_residual-in_err-symbol.result _ c.from_residual-in_err-symbol.ensures.0

pub returns-in_err-symbol-clause-invalid : goal.returns-in_err-symbol-clause-invalid
returns-in_err-symbol-clause-invalid g c =
    let refused = err_from_is_err_and c.from_residual-in_err-symbol.result c.from_residual-in_err-symbol.ensures.1 in
    λ e. absurd (table≢memory c.from_residual-in_err-symbol.result e (refused.1 ∙ ap Err refused.2))

pub returns-then-has_symbol-clause-ok : goal.returns-then-has_symbol-clause-ok
returns-then-has_symbol-clause-ok g c = tt

pub rows-smaller : goal.rows-smaller
rows-smaller g c = (c.in-Some.ensures.goes.on c.rows.invariant.1).2

pub returns-in_err-push-clause-ok : goal.returns-in_err-push-clause-ok
returns-in_err-push-clause-ok g c = IfOk-from_err c.from_residual-in_err-push.result _ c.from_residual-in_err-push.ensures.0

pub returns-in_err-push-clause-invalid : goal.returns-in_err-push-clause-invalid
returns-in_err-push-clause-invalid g c =
    let refused = err_from_is_err_and c.from_residual-in_err-push.result c.from_residual-in_err-push.ensures.1 in
    λ e. absurd (table≢memory c.from_residual-in_err-push.result e (refused.1 ∙ ap Err refused.2))

pub returns-clause-invalid : goal.returns-clause-invalid
returns-clause-invalid g c = λ e. absurd (accepted≢refused _ _ e)
