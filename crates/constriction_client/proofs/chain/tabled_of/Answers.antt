use Rattle.std.proofs.Common.{map}
use Rattle.constriction_client.proofs.Rebuilding.{gives-items, gives-numbers, lacks-memory}
use Rattle.constriction_client.proofs.chain.tabled_of.Goals as goal

pub returns : goal.returns
returns g c =
    let made = c.from_distinct_symbols_and_nonzero_fixed_point_probabilities.ensures in
    let symbols = c.args.symbols.items in
    let numbers = map g.Probability.WholeNumber.whole c.args.weights.items in
    record {
      rows = made.rows symbols numbers (gives-items c.args.symbols) (gives-numbers c.args.weights g.Probability.WholeNumber.whole);
      refused = lacks-memory c.from_distinct_symbols_and_nonzero_fixed_point_probabilities.result (λ invalid.
          made.invalid symbols numbers (gives-items c.args.symbols) (gives-numbers c.args.weights g.Probability.WholeNumber.whole) invalid
          c.requires.accepted);
    }
