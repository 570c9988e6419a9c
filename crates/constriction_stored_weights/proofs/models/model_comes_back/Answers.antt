use Rattle.std.proofs.Common.{◌≡◌, ◌<◌, length, map, sym, ◌∙◌, arith}
use Rattle.std.proofs.lemmas.List.{length-map}
use Rattle.constriction.specs.Acceptance.{AreAccepted}
use Rattle.constriction.specs.Rows.{Row, rows_of}
use Rattle.constriction.specs.lemmas.Stand.{tiling-rebuilds}
use Rattle.constriction.specs.declared.CoderError.{CoderError}
use Rattle.constriction_stored_weights.specs.StoredWeights.{weights_as_words}
use Rattle.constriction_stored_weights.specs.declared.errors.ReadingError.TheVariants.{TooFewWords, NotAccepted}
use Rattle.constriction_stored_weights.specs.declared.errors.StoringError.TheVariants.{TooManyWeights}
use Rattle.constriction_stored_weights.proofs.StoredWeightsLemmas.{same-weights}
use Rattle.constriction_stored_weights.proofs.models.model_comes_back.Goals as goal

pub returns-in-Err-clause-too_many : goal.returns-in-Err-clause-too_many
returns-in-Err-clause-too_many g c = λ is.
    let same : c.in-Err.error ≡ CoderError.Frontend TooManyWeights = cc in
    let stops = rw same at c.in-Err.ensures.err in
    omega (arith, stops.0, length-map (g.M.EntropyModel.rows c.args.model) (λ (r : Row g.row.M-Symbol.Denot). r.weight))

pub returns-in-Ok-read_model-clause-rows : goal.returns-in-Ok-read_model-clause-rows
returns-in-Ok-read_model-clause-rows g c =
    let rows = g.M.EntropyModel.rows c.args.model in
    let weights = map (λ (r : Row g.row.M-Symbol.Denot). r.weight) rows in
    let coming = c.in-Ok.ensures.ok.known _ (sym c.new-words.ensures.items) ∙ sym c.new_at_write_beginning-source.ensures.ahead in
    let table = c.in-Ok-read_model.ensures.ok in
    let read = table.reads.known (weights_as_words weights) coming in
    let same : table.weights ≡ weights = same-weights weights table.weights read.0 read.1 in
    let made : rows_of c.args.symbols.items table.weights ≡ rows =
    rw (same, c.requires) (sym (g.met.M.IterableEntropyModel.tile_law c.args.model).in_order) in
    table.rows_are ∙ made

pub returns-clause-whole : goal.returns-clause-whole
returns-clause-whole g c = λ is.
    let weights = map (λ (r : Row g.row.M-Symbol.Denot). r.weight) (g.M.EntropyModel.rows c.args.model) in
    let coming = c.in-Ok.ensures.ok.known _ (sym c.new-words.ensures.items) ∙ sym c.new_at_write_beginning-source.ensures.ahead in
    let same : c.in-Err-read_model.error ≡ CoderError.Frontend TooFewWords = cc in
    let stops = rw same at c.in-Err-read_model.ensures.err in
    let short : length weights < length weights = stops.1 (weights_as_words weights) coming in
    absurd (omega arith)

pub returns-clause-accepted : goal.returns-clause-accepted
returns-clause-accepted g c = λ is distinct.
    let rows = g.M.EntropyModel.rows c.args.model in
    let weights = map (λ (r : Row g.row.M-Symbol.Denot). r.weight) rows in
    let coming = c.in-Ok.ensures.ok.known _ (sym c.new-words.ensures.items) ∙ sym c.new_at_write_beginning-source.ensures.ahead in
    let same : c.in-Err-read_model.error ≡ CoderError.Frontend NotAccepted = cc in
    let table = rw same at c.in-Err-read_model.ensures.err in
    let read = table.1.known (weights_as_words weights) coming in
    let weights_are : table.0 ≡ weights = same-weights weights table.0 read.0 read.1 in
    let given = rw c.requires at distinct in
    let good = (tiling-rebuilds g.M.Symbol.PartialEq.eq 32 g.row.PRECISION rows
    (g.met.M.IterableEntropyModel.tile_law c.args.model) given).0 in
    let accepted : AreAccepted g.M.Symbol.PartialEq.eq 32 g.row.PRECISION c.args.symbols.items table.0 =
    rw (weights_are, c.requires) good in
    table.2 accepted
