-- Two symbols, each of a model of its own, from the laws of a symbol.
use Rattle.std.proofs.Common.{◌≡◌, ℕ, ◌-◌, ◌^◌, ◌<◌, Bool, List, [], ◌++◌, Option, Result, ap, arith}
use Rattle.std.proofs.lemmas.List.Elements.{All-nil}
use Rattle.constriction.specs.Coding.{StandsForEqual}
use Rattle.constriction.specs.Rows.{Row}
use Rattle.constriction_coders.specs.Intervals.{Held, IsRead}
use Rattle.constriction_coders.specs.RangeLaws.{IsAt, RangeSymbolsComeBack}
use Rattle.constriction_coders.specs.Spans.{Span, whole, IsNarrowed, IsSealed}
use Rattle.constriction_coders.proofs.Sealing.{sealed-tell}

module _ {A B S E : Type 0} (Stands : A → A → Type 0) (eq : A → A → Bool) (entry : A → Option (ℕ × ℕ)) (rows : List (Row A))
    (OtherStands : B → B → Type 0) (other_eq : B → B → Bool) (other_entry : B → Option (ℕ × ℕ)) (other_rows : List (Row B))
    (gives : S → Result (Option ℕ) E → S → Type 0) (tells : S → List ℕ → Type 0) (precision other_precision : ℕ)
    (law : RangeSymbolsComeBack Stands eq entry rows gives tells precision)
    (other_law : RangeSymbolsComeBack OtherStands other_eq other_entry other_rows gives tells other_precision)
    (symbol answer : A) (other other_answer : B) (old mid last : Span) (words : List ℕ) (start middle end : Held S)
    (new : old ≡ whole) (first : IsNarrowed (entry symbol) precision old mid)
    (second : IsNarrowed (other_entry other) other_precision mid last) (sealed : IsSealed last words)
    (starts : IsAt tells whole (words ++ []) start)
    (read : IsRead Stands rows gives precision answer start middle)
    (read_on : IsRead OtherStands other_rows gives other_precision other_answer middle end) where
  -- both symbols come back
  pub two-back : StandsForEqual Stands eq symbol answer × StandsForEqual OtherStands other_eq other other_answer
  two-back =
      let begun : IsNarrowed (entry symbol) precision whole mid = rw new at first in
      let less : mid.size < 2 ^ 64 - 1 = law.leaves symbol whole mid begun (omega arith) in
      let fewer : last.size < 2 ^ 64 - 1 = other_law.leaves other mid last second (omega (arith, less)) in
      let message = sealed-tell last words [] sealed (All-nil (λ (w : ℕ). w < 2 ^ 32)) in
      let lies = message.lies (λ all. omega (arith, fewer, ap (λ (s : Span). s.size) all)) in
      let there = law.symbol symbol answer whole mid (words ++ []) start middle message.fit begun
      (other_law.before other mid last (words ++ []) message.fit second lies) starts read in
      (there.0, (other_law.symbol other other_answer mid last (words ++ []) middle end message.fit second lies there.1 read_on).0)
