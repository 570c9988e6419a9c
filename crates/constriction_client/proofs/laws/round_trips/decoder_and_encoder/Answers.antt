use Rattle.std.proofs.Common.{◌≡◌, Err, rules, sym, ◌∙◌}
use Rattle.constriction_model.specs.declared.error.ModelError.TheVariants.{InvalidTable}
use Rattle.constriction_model.specs.lemmas.Stand.{entries-made, entries-of, repeats-made}
use Rattle.constriction_client.proofs.laws.round_trips.decoder_and_encoder.Goals as goal

pub returns-clause-alike : goal.returns-clause-alike
returns-clause-alike g c = λ s.
    let eq = g.M.Symbol.PartialEq.eq in
    let laws = g.met.M.Symbol.Eq.laws in
    let stands = g.M.IterableEntropyModel.stands_for in
    let rows = g.M.EntropyModel.rows c.args.model in
    entries-of eq laws stands c.requires _ rows c.in_ok-encoder.ensures.ok s
    ∙ sym (entries-made eq laws stands c.requires _ rows c.in_ok-decoder.ensures.ok.0 s)

pub returns-in_err-decoder-clause-invalid : goal.returns-in_err-decoder-clause-invalid
returns-in_err-decoder-clause-invalid g c = λ h.
    let e : c.to_generic_decoder_model.result ≡ Err InvalidTable = search rules in
    repeats-made g.M.Symbol.PartialEq.eq g.met.M.Symbol.Eq.laws g.M.IterableEntropyModel.stands_for c.requires
    (g.M.EntropyModel.rows c.args.model) (c.to_generic_decoder_model.ensures.invalid e)
