use Rattle.std.specs.Iterator.{IsFinite, size}
use Rattle.constriction_model.specs.Coding.{InTurn}
use Rattle.constriction_coders.specs.Places.{entry_by}
use Rattle.constriction_coders.proofs.Giving.{GivenSoFar}
use Rattle.constriction_coders.proofs.encode.Encode.encode_symbols.Given as goal

-- what was given so far was encoded
abbrev pub invariant-turns : goal.invariant-turns
invariant-turns g l = record {
  next : g.I.IntoIter.Iterator.can_next l.given;
  ends : IsFinite (g.I.IntoIter.Iterator.remaining l.given);
  so_far : GivenSoFar g.I.IntoIter.Iterator.next_gives l.initial.given l.given
      (λ done. InTurn (λ pair. g.Self.Encode.is_encoded (entry_by g.E.EncoderModel.symbol_eq g.E.EntropyModel.rows pair)) done
      (g.Self.Code.held l.initial.self) (g.Self.Code.held l.self));
}

-- how many symbols are left at most
abbrev pub decreases-turns : goal.decreases-turns
decreases-turns g l = size (g.I.IntoIter.Iterator.remaining l.given)
