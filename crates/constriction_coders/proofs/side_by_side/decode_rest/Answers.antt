use Rattle.std.proofs.Common.{List, subst}
use Rattle.std.proofs.lemmas.List.{take_rest}
use Rattle.constriction_coders.specs.Filling.{FillingStops}
use Rattle.constriction_coders.proofs.Filling.{rest-filled, rest-put, rest-stops}
use Rattle.constriction_coders.proofs.side_by_side.decode_rest.Goals as goal

pub returns-in-Ok-clause-ok : goal.returns-in-Ok-clause-ok
returns-in-Ok-clause-ok g c = λ before start filled.
    rest-filled g.C.Code.held _ c.args.from before c.args.symbols.now _ c.decode_into.new.symbols start c.args.coder.now filled
    (rest-put c.args.from c.args.symbols.now c.decode_into.new.symbols c.requires.places) _ c.in-Ok.ensures.ok

pub returns-in-Err-clause-err : goal.returns-in-Err-clause-err
returns-in-Err-clause-err g c = λ before start filled.
    rest-stops g.C.Code.held _ c.args.from before c.args.symbols.now _ c.decode_into.new.symbols start c.args.coder.now filled
    (rest-put c.args.from c.args.symbols.now c.decode_into.new.symbols c.requires.places) _ _ _
    (subst (λ (ys : List g.row.D-Symbol.Denot). FillingStops g.C.Code.held
    (g.C.Decode.is_decoded g.row.D-Symbol.Denot g.D.DecoderModel.stands_for (g.D.EntropyModel.rows c.args.model.now))
    (g.C.Decode.decodes g.row.D-Symbol.Denot g.D.DecoderModel.may_refuse (g.D.EntropyModel.rows c.args.model.now)) ys
    c.decode_into.new.symbols c.in-Err.error (g.C.Code.held c.args.coder.now) c.decode_into.new.self)
    (take_rest c.args.symbols.now c.args.from) c.in-Err.ensures.err)
