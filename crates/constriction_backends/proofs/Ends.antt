-- A cursor at the end of its words. No public clause cites this module.
use Rattle.std.proofs.Common.{◌≡◌, ◌↔◌, ℕ, ◌-◌, ◌≤◌, drop, List, [], length, sym, ◌∙◌, ap, arith}
use Rattle.std.proofs.Math.Seq.{drop-length}
use Rattle.std.proofs.lemmas.List.{length-drop}

-- a position is the length if and only if there are no words from it on
pub queue_empty : {W : Type 0} (pos : ℕ) (all : List W) → pos ≤ length all → (pos ≡ length all) ↔ (drop pos all ≡ [])
queue_empty pos all in_range = (
  (λ at_end. ap (λ n. drop n all) at_end ∙ drop-length all),
  (λ none. let left : length all - pos ≡ 0 = sym (length-drop pos all) ∙ ap length none in omega arith),
)
