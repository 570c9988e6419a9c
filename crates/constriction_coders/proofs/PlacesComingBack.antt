-- What was encoded in places is decoded in the same places: `put` is the place of a symbol in a state, and `next` leads to the next state.
-- By one model, where a symbol is its own place, there is one state.
use Rattle.std.proofs.Common.{◌≡◌, ℕ, ◌+◌, ◌-◌, ◌*◌, ◌/◌, ◌^◌, ◌<◌, ◌≤◌, List, [], ◌∷◌, length, take, Option, refl, sym, ◌∙◌, subst, arith}
use Rattle.std.specs.Prelude.{All}
use Rattle.std.specs.List.{AllZip}
use Rattle.std.proofs.lemmas.Nat.{mul-le}
use Rattle.constriction_model.specs.Coding.{InTurn}
use Rattle.constriction_coders.specs.Intervals.{Interval, Held, IsAboveAll}
use Rattle.constriction_coders.specs.Laws.{StackComesBack}
use Rattle.constriction_coders.specs.Numbers.{number_first}
use Rattle.constriction_coders.specs.RangeLaws.{IsAt, RangeMessageComesBack}
use Rattle.constriction_coders.specs.lemmas.Stack.{compressed-once}
use Rattle.constriction_coders.specs.Spans.{Span, whole, part_in, IsNarrowed, LiesIn}
use Rattle.constriction_coders.specs.Steps.{Content, content, IsEncoded}
use Rattle.constriction_coders.proofs.Sealing.{ends-there}
use Rattle.constriction_coders.proofs.Spanning.{lies-run, lies-unwidened, some-symbol}

-- if a symbol is to come, the point is not above all parts
pub not-above : {Place S : Type 0} (entry : Place → Option (ℕ × ℕ)) (precision : ℕ) (tells : S → List ℕ → Type 0) (words : List ℕ)
    (place : Place) (old new : Span) (now : Held S) → All (λ w. w < 2 ^ 32) words → IsNarrowed (entry place) precision old new
    → LiesIn new words → IsAt tells old words now → IsAboveAll precision now.held → ⊥
not-above entry precision tells words place old new now fit e lies here above =
    let unit = old.size / 2 ^ precision in
    let inside = lies-unwidened words fit (part_in precision e.left e.weight old) new e.next lies in
    let over : unit * 2 ^ precision ≤ number_first (old.written + 2) words - old.low =
    subst (λ (i : Interval). IsAboveAll precision i) here.held above in
    omega (arith, over, inside.0, inside.1, mul-le unit (e.left + e.weight) unit (2 ^ precision) (omega arith) e.within)

module _ {State Symbol Place : Type 0} (places : State → List Symbol → List Place) (put : State → Symbol → Place)
    (next : State → Symbol → State) (none : (state : State) → places state [] ≡ [])
    (more : (state : State) (x : Symbol) (xs : List Symbol) → places state (x ∷ xs) ≡ put state x ∷ places (next state x) xs)
    (entry : Place → Option (ℕ × ℕ)) (precision : ℕ) (Back : Symbol → Symbol → Type 0)
    (same : (state : State) (symbol answer : Symbol) → Back symbol answer → next state answer ≡ next state symbol) where
  -- ---- from a stack

  module _ (Decodes : Place → Content → Content → Type 0)
      (step : (state : State) (symbol answer : Symbol) (full rest under : Content)
      → IsEncoded (entry (put state symbol)) precision full rest → Decodes (put state answer) full under
      → Back symbol answer × (under ≡ rest)) where
    symbols-back : (symbols answers : List Symbol) (state : State) (full rest under : Content)
        → InTurn (λ s. IsEncoded (entry s) precision) (places state symbols) full rest → InTurn Decodes (places state answers) full under
        → length answers ≡ length symbols → AllZip Back symbols answers × (under ≡ rest)
    symbols-back [] [] state full rest under e d n =
        let encoded : full ≡ rest = rw (none state) at e in
        let decoded : full ≡ under = rw (none state) at d in
        (tt, sym decoded ∙ encoded)
    symbols-back [] (a ∷ ts) state full rest under e d n = absurd (omega arith)
    symbols-back (x ∷ xs) [] state full rest under e d n = absurd (omega arith)
    symbols-back (x ∷ xs) (a ∷ ts) state full rest under e d n =
        let encoded : InTurn (λ s. IsEncoded (entry s) precision) (put state x ∷ places (next state x) xs) full rest =
        rw (more state x xs) at e in
        let decoded : InTurn Decodes (put state a ∷ places (next state a) ts) full under = rw (more state a ts) at d in
        let first = step state x a full encoded.0 decoded.0 encoded.1 decoded.1 in
        let on : InTurn Decodes (places (next state x) ts) decoded.0 under =
        subst (λ (t : State). InTurn Decodes (places t ts) decoded.0 under) (same state x a first.0) decoded.2 in
        let others = symbols-back xs ts (next state x) encoded.0 rest under encoded.2
        (subst (λ (c : Content). InTurn Decodes (places (next state x) ts) c under) first.1 on) (omega arith) in
        ((first.0, others.0), others.1)

    -- symbols whose models depend on those before come back from a stack
    pub stack-back : (first : State) → StackComesBack (places first) entry precision Decodes Back
    stack-back first = record {
      symbols = λ symbols answers. symbols-back symbols answers first;
      words = λ symbols answers words opened left stacked compressed.
          let is : stacked.full ≡ opened = compressed-once stacked.full opened words stacked.compressed compressed in
          symbols-back symbols answers first opened _ left
          (subst (λ (c : Content). InTurn (λ s. IsEncoded (entry s) precision) (places first symbols) c (content 0 [])) is stacked.led);
    }

  -- ---- from a range coder

  module _ {S : Type 0} (Reads : Place → Held S → Held S → Type 0) (tells : S → List ℕ → Type 0) (positive : 0 < precision)
      (step : (state : State) (symbol answer : Symbol) (old new : Span) (words : List ℕ) (now later : Held S) → All (λ w. w < 2 ^ 32) words
      → IsNarrowed (entry (put state symbol)) precision old new → LiesIn new words → IsAt tells old words now
      → Reads (put state answer) now later → Back symbol answer × IsAt tells new words later) where
    -- the decoder follows the encoder from `first` on
    abbrev Follows : State → (first last : Span) (symbols answers : List Symbol) → List ℕ → Held S → Type 0
    Follows state first last symbols answers words now =
        AllZip Back (take (length answers) symbols) answers
        × ((s : Span) × InTurn (λ s. IsNarrowed (entry s) precision) (places state (take (length answers) symbols)) first s
        × IsAt tells s words now × (length answers ≡ length symbols → s ≡ last))
        × (length answers < length symbols → IsAboveAll precision now.held → ⊥)

    follows : (symbols answers : List Symbol) (state : State) (first last : Span) (words : List ℕ) (now later : Held S)
        → All (λ w. w < 2 ^ 32) words → InTurn (λ s. IsNarrowed (entry s) precision) (places state symbols) first last
        → (0 < length symbols → LiesIn last words) → IsAt tells first words now → InTurn Reads (places state answers) now later
        → length answers ≤ length symbols → Follows state first last symbols answers words later
    follows [] [] state first last words now later fit e lies here d few =
        let led : first ≡ last = rw (none state) at e in
        let kept : now ≡ later = rw (none state) at d in (
          tt,
          (first, rw (none state) refl, subst (λ (h : Held S). IsAt tells first words h) kept here, λ many. led),
          λ fewer. absurd (omega (arith, fewer)),
        )
    follows [] (a ∷ ts) state first last words now later fit e lies here d few = absurd (omega (arith, few))
    follows (x ∷ xs) [] state first last words now later fit e lies here d few =
        let led : InTurn (λ s. IsNarrowed (entry s) precision) (put state x ∷ places (next state x) xs) first last =
        rw (more state x xs) at e in
        let there = lies-run entry precision words fit (places (next state x) xs) led.0 last led.2 (lies (omega arith)) in
        let kept : now ≡ later = rw (none state) at d in (
          tt,
          (
            first,
            rw (none state) refl,
            subst (λ (h : Held S). IsAt tells first words h) kept here,
            λ many. absurd (omega (arith, many)),
          ),
          λ fewer above. not-above entry precision tells words (put state x) first led.0 now fit led.1 there here
              (subst (λ (h : Held S). IsAboveAll precision h.held) (sym kept) above),
        )
    follows (x ∷ xs) (a ∷ ts) state first last words now later fit e lies here d few =
        let led : InTurn (λ s. IsNarrowed (entry s) precision) (put state x ∷ places (next state x) xs) first last =
        rw (more state x xs) at e in
        let read : InTurn Reads (put state a ∷ places (next state a) ts) now later = rw (more state a ts) at d in
        let there = lies-run entry precision words fit (places (next state x) xs) led.0 last led.2 (lies (omega arith)) in
        let back = step state x a first led.0 words now read.0 fit led.1 there here read.1 in
        let on : InTurn Reads (places (next state x) ts) read.0 later =
        subst (λ (t : State). InTurn Reads (places t ts) read.0 later) (same state x a back.0) read.2 in
        let rest = follows xs ts (next state x) led.0 last words read.0 later fit led.2 (λ _. lies (omega arith)) back.1 on
        (omega (arith, few)) in (
          (back.0, rest.0),
          (
            rest.1.0,
            rw (more state x (take (length ts) xs)) (led.0, led.1, rest.1.1),
            rest.1.2,
            λ many. rest.1.3 (omega (arith, many)),
          ),
          λ fewer. rest.2 (omega (arith, fewer)),
        )

    not-whole : (symbols : List Symbol) (state : State) (first last : Span) → first.size < 2 ^ 64
        → InTurn (λ s. IsNarrowed (entry s) precision) (places state symbols) first last → 0 < length symbols → last ≡ whole → ⊥
    not-whole [] state first last bound e some all = absurd (omega (arith, some))
    not-whole (x ∷ xs) state first last bound e some all =
        let led : InTurn (λ s. IsNarrowed (entry s) precision) (put state x ∷ places (next state x) xs) first last =
        rw (more state x xs) at e in
        some-symbol entry precision positive (put state x) (places (next state x) xs) first last bound led all

    -- they come back from a queue
    pub range-back : (state : State) → RangeMessageComesBack (places state) entry precision Reads tells Back
    range-back state first last symbols answers words now h =
        let both = follows symbols answers state first last words h.start now h.message.fit h.encoded
        (λ some. h.message.lies (not-whole symbols state first last h.reached.fits h.encoded some)) h.begun h.decoded h.as_many in
        record {
          back = both.0;
          follows = (both.1.0, both.1.1, both.1.2);
          valid = both.2;
          ends = λ message more sealed is many.
              let at_last : IsAt tells last words now = subst (λ (s : Span). IsAt tells s words now) (both.1.3 many) both.1.2 in
              ends-there last message more now.held (rw is at h.message.fit) sealed (rw is at at_last.held);
        }
