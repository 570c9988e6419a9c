use Rattle.std.proofs.Common.{◌≡◌, ◌∙◌, ap, arith, refl, sym}
use Rattle.constriction_model.proofs.StepLemmas.{fewer-first}
use Rattle.constriction_tables.proofs.Walking.{step-at, step-first, step-rest, IsStep}
use Rattle.constriction_tables.proofs.symbol_table.DirectSymbolTableIterator.next.Goals as goal
use Rattle.constriction_tables.proofs.symbol_table.DirectSymbolTableIterator.next.Given.{Over}

-- the step at the place
step : (g : Over) (c : goal.After-weight-weight g)
    → IsStep g.Entry.TableEntry.number g.met.Entry.TableEntry.same_law g.Entry.TableEntry.row_in c.args.self.now.entries.now
    c.args.self.now.from c.index-self-self.result
step g c =
    step-at g.Entry.TableEntry.number g.met.Entry.TableEntry.same_law g.Entry.TableEntry.row_in c.args.self.now.entries.now
    c.args.self.now.from c.index-self-self.result (omega (arith, c.if-self.false)) c.index-self-self.is c.args.self.now.stands

weight_is : (g : Over) (c : goal.After-weight-weight g)
    → c.weight-weight.result ≡ (g.Entry.TableEntry.row_in c.index-self-self.result).weight
weight_is g c = c.weight-weight.ensures.value ∙ ap (λ e. (g.Entry.TableEntry.row_in e).weight) (sym c.index-self-self.is)

pub overflow_add-self : goal.overflow_add-self
overflow_add-self g c =
    let within = (step g c).within in
    let is = weight_is g c in
    omega (arith, within, is)

pub invariant_of-self : goal.invariant_of-self
invariant_of-self g c = record {
  stands = step-rest g.Entry.TableEntry.number g.met.Entry.TableEntry.same_law g.Entry.TableEntry.row_in c.args.self.now.entries.now
      c.args.self.now.from c.index-self-self.result (step g c) c.weight-weight.result (weight_is g c);
}

pub returns : goal.returns
returns g c =
    let row_in = g.Entry.TableEntry.row_in in
    let e = c.index-self-self.result in
    let first = step-first g.Entry.TableEntry.number g.met.Entry.TableEntry.same_law row_in c.args.self.now.entries.now
    c.args.self.now.from e
    (step-at g.Entry.TableEntry.number g.met.Entry.TableEntry.same_law row_in c.args.self.now.entries.now
    c.args.self.now.from e (omega (arith, c.if-self.false)) c.index-self-self.is c.args.self.now.stands)
    c.weight-weight.result (c.weight-weight.ensures.value ∙ ap (λ x. (row_in x).weight) (sym c.index-self-self.is))
    c.symbol.result c.left_cumulative.result c.to_weight.result.value
    (c.symbol.ensures ∙ ap (λ x. (row_in x).symbol) (sym c.index-self-self.is))
    (c.left_cumulative.ensures ∙ ap (λ x. (row_in x).left) (sym c.index-self-self.is)) c.to_weight.ensures in
    record {
      steps = (c.symbol.result, refl, first);
      goes = record { on = λ _. (tt, tt, fewer-first _ _ _ first); keeps = tt; rests = λ _. tt };
    }
