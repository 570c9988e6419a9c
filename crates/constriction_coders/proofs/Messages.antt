-- What a decoder of symbols that were encoded answers, from the laws.
use Rattle.std.proofs.Common.{◌≡◌, ℕ, ◌<◌, ◌≤◌, List, Option, length, subst, arith}
use Rattle.std.specs.List.{AllZip}
use Rattle.std.proofs.lemmas.List.{take_all}
use Rattle.constriction_model.specs.Coding.{InTurn}
use Rattle.constriction_coders.specs.Intervals.{Held, IsAboveAll}
use Rattle.constriction_coders.specs.RangeLaws.{IsAt, FollowsEncoder, RangeMessageComesBack}
use Rattle.constriction_coders.specs.Spans.{Span, IsNarrowed, IsReached, LeadTo}

module _ {Symbol Place S : Type 0} (places : List Symbol → List Place) (entry : Place → Option (ℕ × ℕ)) (precision : ℕ)
    (Reads : Place → Held S → Held S → Type 0) (tells : S → List ℕ → Type 0) (Back : Symbol → Symbol → Type 0)
    (law : RangeMessageComesBack places entry precision Reads tells Back) (start : Held S) (count : ℕ) (answers : List Symbol)
    (now : Held S) (decoded : InTurn Reads (places answers) start now) (symbols : List Symbol) (words : List ℕ) (first last : Span)
    (reached : IsReached first) (long : length symbols ≡ count)
    (encoded : InTurn (λ s. IsNarrowed (entry s) precision) (places symbols) first last) (message : LeadTo last words)
    (begun : IsAt tells first words start) where
  follows : length answers ≤ length symbols → FollowsEncoder places entry precision Reads tells Back first last symbols answers words now
  follows few = law first last symbols answers words now (record {
    reached = reached;
    encoded = encoded;
    message = message;
    start = start;
    begun = begun;
    decoded = decoded;
    as_many = few;
  })

  -- all symbols came back
  pub came-back : length answers ≡ count → AllZip Back symbols answers
  came-back many =
      subst (λ (ss : List Symbol). AllZip Back ss answers) (take_all (length answers) symbols (omega (arith, many, long)))
      (follows (omega (arith, many, long))).back

  -- a message that is not read to its end is not invalid data
  pub not-invalid : length answers < count → IsAboveAll precision now.held → ⊥
  not-invalid fewer = (follows (omega (arith, fewer, long))).valid (omega (arith, fewer, long))
