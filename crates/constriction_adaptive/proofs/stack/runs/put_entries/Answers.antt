use Rattle.std.proofs.Common.{◌≡◌, ◌+◌, ◌-◌, ◌<◌, ℕ, [], suc, drop, fold, length, map, refl, sym, subst, arith}
use Rattle.std.proofs.lemmas.List.{drop_all, length-map}
use Rattle.std.proofs.lemmas.Slice.Zip.{AllZip-long}
use Rattle.constriction_model.specs.Coding.{InTurn}
use Rattle.constriction_coders.specs.AnsCoder.{held_by}
use Rattle.constriction_coders.specs.Places.{placed, entry_at}
use Rattle.constriction_coders.specs.Steps.{Content, IsEncoded}
use Rattle.constriction_adaptive.specs.Entries.{IsEntryAt}
use Rattle.constriction_adaptive.specs.Predicted.{predicted_entry}
use Rattle.constriction_adaptive.proofs.Entries.{encoded-more, entry-lies, kept-at, placed-long, stacking-stops}
use Rattle.constriction_adaptive.proofs.stack.runs.put_entries.Goals as goal

pub loop-done-init : goal.loop-done-init
loop-done-init g c first symbols are =
    let entry = entry_at (predicted_entry g.P.Predictor.rows g.P.Model.EncoderModel.symbol_eq) in
    let places = placed g.P.Predictor.next first symbols in
    let many = AllZip-long (IsEntryAt g.row.PRECISION entry) places (map g.K.StoredEntry.kept c.args.entries.now) are in
    let long = length-map c.args.entries.now g.K.StoredEntry.kept in
    let none : drop (length c.args.entries.now - 0) places ≡ [] =
    drop_all (length c.args.entries.now - 0) places (omega (arith, many, long)) in
    rw none refl

pub put_entry-requires-clause-some : goal.put_entry-requires-clause-some
put_entry-requires-clause-some g c =
    let i : ℕ = length c.args.entries.now - 1 - c.loop-done.done in
    let less : i < length c.args.entries.now = omega (arith, c.loop-done-test.true) in
    (entry-lies (entry_at (predicted_entry g.P.Predictor.rows g.P.Model.EncoderModel.symbol_eq)) g.row.PRECISION _
    (map g.K.StoredEntry.kept c.args.entries.now) i c.read-left.result c.requires.entries.2
    (omega (arith, less, length-map c.args.entries.now g.K.StoredEntry.kept))
    (kept-at g.K.StoredEntry.kept c.args.entries.now i c.index-entries-count.result c.read-left.result less c.index-entries-count.is
    c.read-left.ensures)).1.some

pub put_entry-requires-clause-within : goal.put_entry-requires-clause-within
put_entry-requires-clause-within g c =
    let i : ℕ = length c.args.entries.now - 1 - c.loop-done.done in
    let less : i < length c.args.entries.now = omega (arith, c.loop-done-test.true) in
    (entry-lies (entry_at (predicted_entry g.P.Predictor.rows g.P.Model.EncoderModel.symbol_eq)) g.row.PRECISION _
    (map g.K.StoredEntry.kept c.args.entries.now) i c.read-left.result c.requires.entries.2
    (omega (arith, less, length-map c.args.entries.now g.K.StoredEntry.kept))
    (kept-at g.K.StoredEntry.kept c.args.entries.now i c.index-entries-count.result c.read-left.result less c.index-entries-count.is
    c.read-left.ensures)).1.within

pub loop-done-preserved : goal.loop-done-preserved
loop-done-preserved g c =
    let entry = entry_at (predicted_entry g.P.Predictor.rows g.P.Model.EncoderModel.symbol_eq) in
    let i : ℕ = length c.args.entries.now - 1 - c.loop-done.done in
    let before : length c.args.entries.now - c.loop-done.done ≡ suc i = omega (arith, c.loop-done-test.true) in
    let now : length c.args.entries.now - (c.loop-done.done + 1) ≡ i = omega arith in
    let less : i < length c.args.entries.now = omega (arith, c.loop-done-test.true) in
    λ first symbols are.
    rw now
    (encoded-more entry g.row.PRECISION (placed g.P.Predictor.next first symbols) (map g.K.StoredEntry.kept c.args.entries.now) i
    c.read-left.result _ _ _ are (omega (arith, less, length-map c.args.entries.now g.K.StoredEntry.kept))
    (kept-at g.K.StoredEntry.kept c.args.entries.now i c.index-entries-count.result c.read-left.result less
    c.index-entries-count.is c.read-left.ensures)
    c.in-Ok.ensures.ok (rw before at (c.loop-done.invariant first symbols are)))

pub returns-clause-ok : goal.returns-clause-ok
returns-clause-ok g c first symbols are =
    let entry = entry_at (predicted_entry g.P.Predictor.rows g.P.Model.EncoderModel.symbol_eq) in
    let none : length c.args.entries.now - c.loop-done.done ≡ 0 = omega (arith, c.loop-done-test.false) in
    subst (λ n. InTurn (λ s. IsEncoded (entry s) g.row.PRECISION) (drop n (placed g.P.Predictor.next first symbols))
    (held_by c.loop-done.coder) (held_by c.args.coder.now)) none (c.loop-done.invariant first symbols are)

pub returns-in-Err-clause-err : goal.returns-in-Err-clause-err
returns-in-Err-clause-err g c first symbols are =
    let entry = entry_at (predicted_entry g.P.Predictor.rows g.P.Model.EncoderModel.symbol_eq) in
    let next = g.P.Predictor.next in
    let i : ℕ = length c.args.entries.now - 1 - c.loop-done.done in
    let before : length c.args.entries.now - c.loop-done.done ≡ suc i = omega (arith, c.loop-done-test.true) in
    let many = AllZip-long (IsEntryAt g.row.PRECISION entry) (placed next first symbols) (map g.K.StoredEntry.kept c.args.entries.now)
    are in
    let long = placed-long next first symbols in
    let mapped = length-map c.args.entries.now g.K.StoredEntry.kept in
    let stops = stacking-stops next (λ s. IsEncoded (entry s) g.row.PRECISION) first symbols i (held_by c.loop-done.coder)
    (held_by c.args.coder.now) (omega (arith, many, long, mapped, c.loop-done-test.true))
    (rw before at (c.loop-done.invariant first symbols are)) in (
      stops.0,
      stops.1,
      stops.2,
      stops.3,
      subst (λ (x : Content). InTurn (λ s. IsEncoded (entry s) g.row.PRECISION)
          (placed next (next (fold next first stops.0) stops.1) stops.2) x (held_by c.args.coder.now)) (sym c.in-Err.ensures.same) stops.4,
    )
