use Rattle.std.proofs.Common.{ℕ, ◌^◌, ◌<◌, ◌++◌, [], refl, subst, sym, ◌∙◌}
use Rattle.std.proofs.lemmas.List.{append-nil}
use Rattle.std.proofs.lemmas.List.Elements.{All-nil}
use Rattle.std.specs.List.{zip}
use Rattle.std.specs.Vec.Iter.{into_iter_items}
use Rattle.constriction_coders.specs.Places.{entry_by}
use Rattle.constriction_coders.specs.RangeDecoder.{held_by}
use Rattle.constriction_coders.specs.Spans.{whole, IsMessageOf}
use Rattle.constriction_coders.proofs.Sealing.{sealed-tell}
use Rattle.constriction_coders.proofs.Spanning.{whole-reached}
use Rattle.constriction_coders_tests.proofs.OwnModels.{vec-shows, beside-seconds, beside-firsts}
use Rattle.constriction_coders_tests.proofs.callers.own_models.from_a_queue.Goals as goal

pub returns-in-Ok-read_by_models : goal.returns-in-Ok-read_by_models
returns-in-Ok-read_by_models g c =
    let pairs = c.args.pairs.items in
    let answers = c.in-Ok-read_by_models.answers.items in
    let models = c.args.models.now in
    let words = c.in-Some.words.items in
    let known = append-nil words ∙ sym c.new_at_write_beginning.ensures.ahead in
    let sent = subst (λ ps. IsMessageOf (entry_by g.E.EncoderModel.symbol_eq g.E.EntropyModel.rows) g.row.PRECISION ps words)
    c.into_iter.ensures.rest (c.in-Some.ensures into_iter_items vec-shows) in
    let back = c.range_pairs_come_back.ensures pairs [] (zip answers models) whole sent.0 sent.0 (words ++ [])
    (held_by c.in-Ok.decoder) _ whole-reached sent.1 refl (sealed-tell sent.0 words [] sent.2 (All-nil (λ (w : ℕ). w < 2 ^ 32)))
    (c.in-Ok.ensures.begins (words ++ []) known) c.in-Ok-read_by_models.ensures.run.1
    (beside-seconds _ pairs answers models c.in-Ok-read_by_models.ensures.count c.requires) in
    beside-firsts _ pairs answers models c.in-Ok-read_by_models.ensures.count back.0
