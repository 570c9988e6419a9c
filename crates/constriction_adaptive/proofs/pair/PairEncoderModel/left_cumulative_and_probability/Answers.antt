use Rattle.std.specs.Int.NonZero.{non_zero_u32_get}
use Rattle.std.proofs.Common.{map, ap, sym, ◌∙◌}
use Rattle.constriction_model.specs.lemmas.Coding.{words-within}
use Rattle.either.specs.declared.Either.TheVariants.{Left, Right}
use Rattle.constriction_adaptive.specs.ByContext.{rows_if_any, context_state}
use Rattle.constriction_adaptive.specs.Pair.{pair_state, with_symbols}
use Rattle.constriction_adaptive.proofs.ByContextLemmas.{state-found}
use Rattle.constriction_adaptive.proofs.PairLemmas.{entry-left, entry-right, none-left, none-right, side-left, side-right}
use Rattle.constriction_adaptive.proofs.pair.PairEncoderModel.left_cumulative_and_probability.Goals as goal

pub returns-then-self-clause-entry : goal.returns-then-self-clause-entry
returns-then-self-clause-entry g c =
    let m = c.args.self.now in
    let rows = side-right g.A.Predictor.rows g.B.Predictor.rows g.C.Context.number
    (pair_state (g.A.Predictor.state m.left) (context_state (map g.B.Predictor.state m.rights.items) (g.C.Context.state m.context))
    m.is_right) c.if-self.true in
    none-left g.A.Model.EncoderModel.symbol_eq g.B.Model.EncoderModel.symbol_eq _ _ rows c.args.symbol.now c.in-Left.symbol c.in-Left.is

pub returns-then-not-self-clause-entry : goal.returns-then-not-self-clause-entry
returns-then-not-self-clause-entry g c =
    let m = c.args.self.now in
    let rows = side-left g.A.Predictor.rows g.B.Predictor.rows g.C.Context.number
    (pair_state (g.A.Predictor.state m.left) (context_state (map g.B.Predictor.state m.rights.items) (g.C.Context.state m.context))
    m.is_right) c.if-not-self.true in
    none-right g.A.Model.EncoderModel.symbol_eq g.B.Model.EncoderModel.symbol_eq _ _ rows c.args.symbol.now c.in-Right.symbol c.in-Right.is

pub returns-else-self-clause-entry : goal.returns-else-self-clause-entry
returns-else-self-clause-entry g c =
    let m = c.args.self.now in
    let rows = side-left g.A.Predictor.rows g.B.Predictor.rows g.C.Context.number
    (pair_state (g.A.Predictor.state m.left) (context_state (map g.B.Predictor.state m.rights.items) (g.C.Context.state m.context))
    m.is_right) c.if-self.false in
    c.entry_in_coder_words.ensures
    ∙ entry-left g.A.Model.EncoderModel.symbol_eq g.B.Model.EncoderModel.symbol_eq _ _ (rows ∙ ap (with_symbols Left) (sym c.model.ensures))
    c.args.symbol.now c.in-Left.symbol c.in-Left.is

pub returns-else-self-clause-within : goal.returns-else-self-clause-within
returns-else-self-clause-within g c =
    words-within g.row.PRECISION g.A.Model.EncoderModel.symbol_eq _ c.in-Left.symbol (λ n. n) non_zero_u32_get
    c.entry_in_coder_words.result c.entry_in_coder_words.ensures (g.met.A.Model.EncoderModel.within_law c.model.result.now)

pub returns-else-not-self-clause-entry : goal.returns-else-not-self-clause-entry
returns-else-not-self-clause-entry g c =
    let m = c.args.self.now in
    let found = state-found m.rights.items c.index.result c.index-in-Right.result.now c.index-in-Right.ensures g.C.Context.number
    (g.C.Context.state m.context) _ c.index.ensures.number (sym m.each) c.index.ensures.below g.B.Predictor.state in
    let rows = side-right g.A.Predictor.rows g.B.Predictor.rows g.C.Context.number
    (pair_state (g.A.Predictor.state m.left) (context_state (map g.B.Predictor.state m.rights.items) (g.C.Context.state m.context))
    m.is_right) c.if-not-self.false ∙ ap (λ o. with_symbols Right (rows_if_any g.B.Predictor.rows o)) found in
    c.entry_in_coder_words-in-Right.ensures
    ∙ entry-right g.A.Model.EncoderModel.symbol_eq g.B.Model.EncoderModel.symbol_eq _ _
    (rows ∙ ap (with_symbols Right) (sym c.model-in-Right.ensures)) c.args.symbol.now c.in-Right.symbol c.in-Right.is

pub returns-else-not-self-clause-within : goal.returns-else-not-self-clause-within
returns-else-not-self-clause-within g c =
    words-within g.row.PRECISION g.B.Model.EncoderModel.symbol_eq _ c.in-Right.symbol (λ n. n) non_zero_u32_get
    c.entry_in_coder_words-in-Right.result c.entry_in_coder_words-in-Right.ensures
    (g.met.B.Model.EncoderModel.within_law c.model-in-Right.result.now)
