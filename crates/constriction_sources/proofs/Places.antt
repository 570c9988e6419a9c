-- Writes in a row to a sink that counts its free places. No public clause cites this module.
use Rattle.std.proofs.Common.{◌≡◌, ℕ, suc, ◌+◌, List, [], ◌∷◌, length, Option, Result, Ok, Err, ap, arith}
use Rattle.constriction_sources.specs.Sink.{CountsWrite, TakesItems, Writes, ExtendsBy}

module _ {S W E : Type 0} (gives : S → W → Result (Unit {0}) E → S → Type 0) (places : S → ℕ)
    (law : (s : S) (w : W) (r : Result (Unit {0}) E) (t : S) → gives s w r t → CountsWrite (places s) r (places t)) where
  -- writes that all succeeded each took a free place
  pub writes_counted : (s : S) (ws : List W) (t : S) → Writes gives s ws t → places s ≡ length ws + places t
  writes_counted s [] t e =
      let same : places s ≡ places t = ap places e in
      let goal : places s ≡ 0 + places t = omega arith in
      goal
  writes_counted s (w ∷ ws) t p =
      let one : places s ≡ places p.0 + 1 = law s w (Ok tt) p.0 p.1 in
      let others : places p.0 ≡ length ws + places t = writes_counted p.0 ws t p.2 in
      let goal : places s ≡ suc (length ws) + places t = omega arith in
      goal

  -- so writing from an iterator is refused if and only if it has more items than there are free places
  pub extending_counted : {I : Type 0} (next : I → Option W → I → Type 0) (s : S) (items : I) (r : Result (Unit {0}) E) (t : S)
      → ExtendsBy gives next s items r t
      → TakesItems next items r (λ ws. places s ≡ length ws + places t) (λ ws _ _. (places s ≡ length ws) × (places t ≡ 0))
  extending_counted next s items (Ok x) t (ws, drained, written) = (ws, drained, writes_counted s ws t written)
  extending_counted next s items (Err e) t (ws, w, rest, yielded, (j, written, refused)) =
      let full : (places j ≡ 0) × (places t ≡ 0) = law j w (Err e) t refused in
      let none : places j ≡ 0 = full.0 in
      let taken : places s ≡ length ws + places j = writes_counted s ws j written in
      let all : places s ≡ length ws = omega arith in
      (ws, w, rest, yielded, (all, full.1))
