use Rattle.std.proofs.Common.{ap, ◌∙◌}
use Rattle.constriction_models_tests.proofs.laws.read_rows.Goals as goal

pub returns : goal.returns
returns g c =
    (c.table_gives_all_rows.ensures c.into_iter-item-iterator.result c.loop-item.yielded
    (c.next.new.self, (c.loop-item.item-iterator, c.loop-item.yielded_by, c.in-None.ensures.steps))).exact c.requires.clones
    c.loop-item.rows.items c.loop-item.invariant
    ∙ ap g.M.IterableEntropyModel.rows_left c.into_iter-item-iterator.ensures.into_iter_gives
    ∙ c.symbol_table-item-items.ensures.all
