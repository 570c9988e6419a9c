use Rattle.constriction_client.proofs.Rebuilding.{parted-none, parted-more, parted-all}
use Rattle.constriction_client.proofs.chain.symbols_and_words.Goals as goal

pub loop-row-init : goal.loop-row-init
loop-row-init g c = rw (c.in_ok-symbols.ensures.items, c.in_ok-words.ensures.items) (parted-none _)

pub loop-row-preserved : goal.loop-row-preserved
loop-row-preserved g c =
    rw (c.in_ok-symbol.was, c.in_ok-push.ensures.items, c.in_ok-push-2.ensures.items)
    (parted-more g.Word.WholeNumber.base c.loop-row.yielded
    c.loop-row.symbols.items c.loop-row.words.items c.in_ok-symbol.symbol c.in_ok-symbol._left c.from_weight.result c.in_ok-symbol.weight
    c.from_weight.ensures c.loop-row.invariant)

pub returns : goal.returns
returns g c =
    parted-all g.Word.WholeNumber.base g.Walk.Iterator.next_gives c.into_iter-row-iterator.result c.args.walk c.loop-row.yielded
    c.loop-row.symbols.items c.loop-row.words.items c.into_iter-row-iterator.ensures.into_iter_gives
    (c.next.new.self, (c.loop-row.row-iterator, c.loop-row.yielded_by, c.in-None.ensures.steps)) c.loop-row.invariant
