use Rattle.std.proofs.Common.{◌≡◌, ap, sym, subst, ◌∙◌}
use Rattle.std.specs.Iterator.Adapters.{rev_source}
use Rattle.constriction_coders.proofs.Giving.{inner-takes}
use Rattle.constriction_coders.proofs.stack.ans_coder.AnsCoder.encode_symbols_reverse.Goals as goal

pub returns : goal.returns
returns g c =
    let took = c.encode_symbols.ensures in
    let same : rev_source took.0 ≡ c.into_iter.result = ap rev_source took.1 ∙ c.rev.ensures.source in (
      rev_source took.0,
      subst (λ it. g.I.IntoIterator.into_iter_gives c.args.symbols_and_models it) (sym same) c.into_iter.ensures.into_iter_gives,
      inner-takes rev_source g.I.IntoIter.DoubleEndedIterator.next_back_gives took.0 c.encode_symbols.result _ _ took.2,
    )
