use Rattle.std.proofs.Common.{map, sym, refl, arith}
use Rattle.std.proofs.lemmas.List.{append-nil}
use Rattle.std.proofs.lemmas.Result.{IfOk-from_err}
use Rattle.constriction_stored_rows.proofs.EndLemmas.{pushed-left, pushed-total}
use Rattle.constriction_stored_rows.proofs.ends.with_cdf.Goals as goal

pub loop-entry-init : goal.loop-entry-init
loop-entry-init g c = sym (append-nil _)

pub returns-in_err-push_item : goal.returns-in_err-push_item
returns-in_err-push_item g c = IfOk-from_err c.from_residual.result _ c.from_residual.ensures.0

pub loop-entry-preserved : goal.loop-entry-preserved
loop-entry-preserved g c =
    pushed-left g.Kind.Word.WholeNumber.whole g.Kind.CdfEntry.cumulative (map g.Kind.Word.WholeNumber.whole c.args.words.items)
    c.loop-entry.all.items c.push_item.new.items.items c.args.entries.now
    c.loop-entry.entry-index c.cumulative_of.result c.entry-item.result c.loop-entry.invariant (c.in_ok-push_item.ensures.pushed refl)
    (omega arith) c.entry-item.is c.cumulative_of.ensures

pub returns-in_err-push_item-2 : goal.returns-in_err-push_item-2
returns-in_err-push_item-2 g c = IfOk-from_err c.from_residual-in_err-push_item-2.result _ c.from_residual-in_err-push_item-2.ensures.0

pub returns : goal.returns
returns g c =
    pushed-total g.Kind.Word.WholeNumber.whole g.Kind.CdfEntry.cumulative g.Kind.Word.WholeNumber.BITS g.row.PRECISION
    (map g.Kind.Word.WholeNumber.whole c.args.words.items) c.loop-entry.all.items c.push_item-2.new.items.items c.args.entries.now
    c.loop-entry.entry-index c.wrapping_pow2.result c.loop-entry.invariant (omega arith) (c.in_ok-push_item-2.ensures.pushed refl)
    c.wrapping_pow2.ensures
