-- What was encoded by models, a model each, is decoded by models with the same entries.
use Rattle.std.proofs.Common.{◌≡◌, ℕ, ◌+◌, ◌^◌, ◌<◌, Bool, List, [], ◌∷◌, ◌++◌, length, length-append, Option, Result, sym, ◌∙◌, subst}
use Rattle.std.proofs.Common.{arith}
use Rattle.std.specs.Prelude.{All}
use Rattle.constriction_model.specs.Coding.{InTurn}
use Rattle.constriction_model.specs.Rows.{Row, RowsTile, entry_of}
use Rattle.constriction_backends.specs.Source.{ReadsUpcoming}
use Rattle.constriction_coders.specs.Intervals.{Held, IsAboveAll, IsRead}
use Rattle.constriction_coders.specs.Laws.{HaveSameEntries, StandForPairs, PairsComeBack}
use Rattle.constriction_coders.specs.Places.{entry_by}
use Rattle.constriction_coders.specs.RangeLaws.{IsAt, RangePairsComeBack}
use Rattle.constriction_coders.specs.Spans.{Span, whole, IsNarrowed, LiesIn}
use Rattle.constriction_coders.specs.Steps.{Content, content, IsEncoded, IsDecoded}
use Rattle.constriction_coders.specs.lemmas.Stack.{compressed-once}
use Rattle.constriction_coders.proofs.ComingBack.{symbol-back}
use Rattle.constriction_coders.proofs.Decoding.{range-symbol-back}
use Rattle.constriction_coders.proofs.PlacesComingBack.{not-above}
use Rattle.constriction_coders.proofs.Spanning.{lies-run, some-symbol}
use Rattle.constriction_coders.proofs.Stopping.{turns-append}

module _ {Symbol Model Other : Type 0} (eq : Symbol → Symbol → Bool) (rows : Model → List (Row Symbol)) (Stands : Symbol → Symbol → Type 0)
    (other_rows : Other → List (Row Symbol)) (bits precision : ℕ) (tile : (m : Other) → RowsTile bits precision (other_rows m)) where
  stack-back : (pairs : List (Symbol × Model)) (others : List (Symbol × Other)) (full rest under : Content)
      → InTurn (λ s. IsEncoded (entry_by eq rows s) precision) pairs full rest
      → InTurn (λ other. IsDecoded Stands (other_rows other.1) precision other.0) others full under
      → HaveSameEntries eq rows Stands other_rows pairs others → StandForPairs eq rows Stands other_rows pairs others × (under ≡ rest)
  stack-back [] [] full rest under e d alike = (tt, sym d ∙ e)
  stack-back [] (o ∷ os) full rest under e d alike = absurd alike
  stack-back (p ∷ ps) [] full rest under e d alike = absurd alike
  stack-back (p ∷ ps) (o ∷ os) full rest under (mid, e, es) (left, d, ds) alike =
      let first = symbol-back Stands eq (entry_of eq (rows p.1)) (other_rows o.1) bits precision (tile o.1) alike.0 p.0 o.0 full mid left
      e d in
      let on = subst (λ (c : Content). InTurn (λ other. IsDecoded Stands (other_rows other.1) precision other.0) os c under) first.1 ds in
      let others = stack-back ps os mid rest under es on alike.1 in
      ((first.0, others.0), others.1)

  -- symbols that are encoded by models of their own come back from a stack
  pub pairs-back : PairsComeBack eq rows Stands other_rows precision
  pairs-back = record {
    symbols = stack-back;
    words = λ pairs others words opened left stacked compressed decoded alike.
        stack-back pairs others opened _ left
        (subst (λ (c : Content). InTurn (λ s. IsEncoded (entry_by eq rows s) precision) pairs c (content 0 []))
        (compressed-once stacked.full opened words stacked.compressed compressed) stacked.led) decoded alike;
  }

  module _ {S E : Type 0} (gives : S → Result (Option ℕ) E → S → Type 0) (tells : S → List ℕ → Type 0) (positive : Model → 0 < precision)
      (law : (s : S) (r : Result (Option ℕ) E) (t : S) → gives s r t → (ws : List ℕ) → tells s ws → ReadsUpcoming tells ws r t) where
    follow : (pairs : List (Symbol × Model)) (others : List (Symbol × Other)) (first mid : Span) (words : List ℕ) (start now : Held S)
        → All (λ w. w < 2 ^ 32) words → InTurn (λ s. IsNarrowed (entry_by eq rows s) precision) pairs first mid
        → (0 < length pairs → LiesIn mid words) → IsAt tells first words start
        → InTurn (λ other. IsRead Stands (other_rows other.1) gives precision other.0) others start now
        → HaveSameEntries eq rows Stands other_rows pairs others
        → StandForPairs eq rows Stands other_rows pairs others × IsAt tells mid words now
    follow [] [] first mid words start now fit e lies here d alike = (
      tt,
      subst (λ (s : Span). IsAt tells s words now) e (subst (λ (h : Held S). IsAt tells first words h) d here),
    )
    follow [] (o ∷ os) first mid words start now fit e lies here d alike = absurd alike
    follow (p ∷ ps) [] first mid words start now fit e lies here d alike = absurd alike
    follow (p ∷ ps) (o ∷ os) first mid words start now fit (next, e, es) lies here (later, d, ds) alike =
        let there = lies-run (entry_by eq rows) precision words fit ps next mid es (lies (omega arith)) in
        let back = range-symbol-back Stands eq (entry_of eq (rows p.1)) (other_rows o.1) gives tells bits precision (tile o.1) alike.0 law
        p.0 o.0 first next words start later fit
        e there here d in
        let rest = follow ps os next mid words later now fit es (λ _. lies (omega arith)) back.1 ds alike.1 in
        ((back.0, rest.0), rest.1)

    not-whole : (pairs : List (Symbol × Model)) (first last : Span) → first.size < 2 ^ 64
        → InTurn (λ s. IsNarrowed (entry_by eq rows s) precision) pairs first last → 0 < length pairs → last ≡ whole → ⊥
    not-whole [] first last bound e some = absurd (omega (arith, some))
    not-whole (p ∷ ps) first last bound e some = some-symbol (entry_by eq rows) precision (positive p.1) p ps first last bound e

    left-valid : (after : List (Symbol × Model)) (mid last : Span) (words : List ℕ) (now : Held S) → All (λ w. w < 2 ^ 32) words
        → InTurn (λ s. IsNarrowed (entry_by eq rows s) precision) after mid last → LiesIn last words → IsAt tells mid words now
        → 0 < length after → IsAboveAll precision now.held → ⊥
    left-valid [] mid last words now fit e lies here some = absurd (omega (arith, some))
    left-valid (p ∷ ps) mid last words now fit e lies here some =
        not-above (entry_by eq rows) precision tells words p mid e.0 now fit e.1
        (lies-run (entry_by eq rows) precision words fit ps e.0 last e.2 lies) here

    -- they come back from a queue
    pub range-pairs-back : RangePairsComeBack eq rows Stands other_rows gives tells precision
    range-pairs-back pairs after others first mid last words start now reached e f message here d alike =
        let all = turns-append (λ s. IsNarrowed (entry_by eq rows s) precision) pairs after first mid last e f in
        let lies : 0 < length pairs + length after → LiesIn last words =
        λ some. message.lies (not-whole (pairs ++ after) first last reached.fits all (omega (arith, some, length-append pairs after))) in
        let both = follow pairs others first mid words start now message.fit e
        (λ some. lies-run (entry_by eq rows) precision words message.fit after mid last f (lies (omega (arith, some)))) here d alike in
        (both.0, both.1, λ some. left-valid after mid last words now message.fit f (lies (omega (arith, some))) both.1 some)
