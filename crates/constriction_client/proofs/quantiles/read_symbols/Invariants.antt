use Rattle.std.proofs.Common.{◌≡◌, ◌≤◌, length, vec_capacity}
use Rattle.constriction_client.proofs.WordReading.{HasRead}
use Rattle.constriction_client.proofs.quantiles.read_symbols.Given as goal

-- the words so far were read, and each gave a pair; if the pairs fit the first capacity, the capacity is still that
abbrev pub invariant-loop-done : goal.invariant-loop-done
invariant-loop-done g l = record {
  goes_on : g.R.ReadWords.can_read l.source;
  capacity : length l.out.items ≤ vec_capacity l.initial.out → vec_capacity l.out ≡ vec_capacity l.initial.out;
  so_far : HasRead g.M.DecoderModel.stands_for (g.M.EntropyModel.rows l.model) g.M.Probability.WholeNumber.whole g.row.PRECISION
      g.R.ReadWords l.initial.source l.initial.out.items l.done l.source l.out.items;
}
