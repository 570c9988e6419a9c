use Rattle.std.proofs.Common.{◌≡◌, Bool, List, map, ap, sym, refl, ◌∙◌}
use Rattle.std.specs.List.{list_any}
use Rattle.constriction_model.specs.Rows.{Row, symbols_of}
use Rattle.constriction_stored_rows.proofs.PairedLemmas.{held-more}
use Rattle.constriction_stored_rows.proofs.paired.VecTuple2TakesRows.take_row.Goals as goal

found-same : {Word Symbol : Type 0} (test : Symbol → Bool) (entries lent : List (Word × Symbol)) (rows : List (Row Symbol)) (found b : Bool)
    → map (λ x. x.1) entries ≡ symbols_of rows → lent ≡ entries → found ≡ list_any test (map (λ x. x.1) lent) → found ≡ b
    → list_any test (symbols_of rows) ≡ b
found-same test entries lent rows found b h same is e =
    ap (list_any test) (sym h) ∙ ap (λ ys. list_any test (map (λ x. x.1) ys)) (sym same) ∙ sym is ∙ e

pub returns-then-has_symbol-clause-repeated : goal.returns-then-has_symbol-clause-repeated
returns-then-has_symbol-clause-repeated g c = λ _ rows h.
    found-same (g.Symbol.PartialEq.eq c.args.symbol) c.args.self.now.items c.deref.result.now rows c.has_symbol.result _ h.0
    c.deref.ensures.value c.has_symbol.ensures c.if-has_symbol.true

pub returns-clause-held : goal.returns-clause-held
returns-clause-held g c = λ _ rows h.
    let whole = g.Word.WholeNumber.whole in
    rw c.in_ok-push.ensures.items
    (held-more whole c.args.self.now.items rows
    (record { symbol = c.args.symbol; left = whole c.args.left; weight = whole c.args._weight }) c.args.left h refl)

pub returns-clause-apart : goal.returns-clause-apart
returns-clause-apart g c = λ _ rows h.
    found-same (g.Symbol.PartialEq.eq c.args.symbol) c.args.self.now.items c.deref.result.now rows c.has_symbol.result _ h.0
    c.deref.ensures.value c.has_symbol.ensures c.if-has_symbol.false
