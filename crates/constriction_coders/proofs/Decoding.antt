-- What was encoded is decoded: a decoder holds how far the number of the words lies above the least number of each span in turn.
use Rattle.std.proofs.Common.{◌≡◌, ℕ, ◌+◌, ◌-◌, ◌*◌, ◌/◌, ◌^◌, ◌<◌, ◌≤◌, Bool, true, List, [], get_or, drop, Option, Some, None, Result, Ok}
use Rattle.std.proofs.Common.{ap, sym, ◌∙◌, subst, arith, inl, inr}
use Rattle.std.specs.Prelude.{All}
use Rattle.std.proofs.lemmas.Bool.{cases_lt}
use Rattle.std.proofs.lemmas.List.{get_or-drop, drop-drop}
use Rattle.std.proofs.lemmas.Nat.{mul-le, le-div, div_below}
use Rattle.constriction_model.specs.Coding.{StandsForEqual}
use Rattle.constriction_model.specs.lemmas.Coding.{entry-back}
use Rattle.constriction_model.specs.Rows.{Row, RowsTile, IsRowOf, entry_of}
use Rattle.constriction_backends.specs.Source.{ReadsUpcoming}
use Rattle.constriction_coders.specs.Intervals.{Interval, interval, part_of, word_or_zero, HoldsPoint, IsWidenedByRead, IsStart, Held}
use Rattle.constriction_coders.specs.Intervals.{held_of, IsRead}
use Rattle.constriction_coders.specs.Numbers.{number_first}
use Rattle.constriction_coders.specs.RangeLaws.{IsAt}
use Rattle.constriction_coders.specs.Spans.{Span, span, whole, part_in, IsWidened, IsNarrowed, LiesIn}
use Rattle.constriction_coders.proofs.NumberLemmas.{first-more}
use Rattle.constriction_coders.proofs.Spanning.{lies-unwidened}

-- a point in the part of some quantiles is in the part of one of them
module _ (unit offset left weight : ℕ) (from : unit * left ≤ offset) (to : offset < unit * (left + weight)) where
  some-unit : 0 < unit
  some-unit =
      elim (cases_lt 0 unit) [
        | inl some ↦ some
        | inr none ↦ absurd (omega (arith, to, mul-le unit (left + weight) 0 (left + weight) none (omega arith)))
      ]

  -- the quantile of an offset is not before its row
  pub quantile-from : left ≤ offset / unit
  quantile-from = le-div left offset unit some-unit (omega (arith, from))

  -- it is not past its row
  pub quantile-to : offset / unit < left + weight
  quantile-to = div_below offset unit (left + weight) some-unit (omega (arith, to))

module _ {S E : Type 0} (gives : S → Result (Option ℕ) E → S → Type 0) (tells : S → List ℕ → Type 0)
    (law : (s : S) (r : Result (Option ℕ) E) (t : S) → gives s r t → (ws : List ℕ) → tells s ws → ReadsUpcoming tells ws r t) where
  read-word : (s : S) (answer : Option ℕ) (t : S) → gives s (Ok answer) t → (words : List ℕ) (k : ℕ) → tells s (drop k words)
      → (word_or_zero answer ≡ get_or words k 0) × tells t (drop (k + 1) words)
  read-word s None t read words k known =
      let end = law s (Ok None) t read (drop k words) known in
      let same : k + 0 ≡ k = omega arith in
      let word : 0 ≡ get_or words k 0 =
      sym (ap (λ (ws : List ℕ). get_or ws 0 0) end.0) ∙ get_or-drop k words 0 0 ∙ ap (λ n. get_or words n 0) same in
      let rest : [] ≡ drop (k + 1) words = sym (ap (λ (ws : List ℕ). drop 1 ws) end.0) ∙ drop-drop 1 k words in
      (word, subst (λ (ws : List ℕ). tells t ws) rest end.1)
  read-word s (Some w) t read words k known =
      let next = law s (Ok (Some w)) t read (drop k words) known in
      let same : k + 0 ≡ k = omega arith in
      let word : w ≡ get_or words k 0 =
      sym (ap (λ (ws : List ℕ). get_or ws 0 0) next.1) ∙ get_or-drop k words 0 0 ∙ ap (λ n. get_or words n 0) same in
      let rest : next.0 ≡ drop (k + 1) words = sym (ap (λ (ws : List ℕ). drop 1 ws) next.1) ∙ drop-drop 1 k words in
      (word, subst (λ (ws : List ℕ). tells t ws) rest next.2)

  -- a decoder begins at the span of no symbol
  pub begins-whole : (source : S) (range offset : ℕ) (rest : S) → IsStart gives source (interval range offset) rest → (words : List ℕ)
      → tells source words → IsAt tells whole words (held_of range offset rest)
  begins-whole source range offset rest opened words known =
      let first = read-word source opened.0 opened.2 opened.3 words 0 known in
      let second = read-word opened.2 opened.1 rest opened.4 words 1 first.1 in
      let offset : word_or_zero opened.0 * 2 ^ 32 + word_or_zero opened.1 ≡ number_first 2 words - 0 =
      omega (arith, first.0, second.0) in
      record {
        held = opened.5 ∙ ap (λ n. interval (2 ^ 64 - 1) n) offset;
        known = second.1;
      }

  -- the decoder holds the part if decoder and encoder widen it, or leave it, alike
  pub is-at-part : (part new : Span) (words : List ℕ) (i held : Interval) (from to : S)
      → i ≡ interval part.size (number_first (part.written + 2) words - part.low) → part.low ≤ number_first (part.written + 2) words
      → tells from (drop (part.written + 2) words) → IsWidenedByRead gives i from held to → IsWidened part new
      → IsAt tells new words (record { held = held; source = to })
  is-at-part part new words i held from to is low known (inl stays) (inl same) =
      let there : IsAt tells part words (record { held = held; source = to }) = record {
        held = stays.1 ∙ is;
        known = subst (λ (s : S). tells s (drop (part.written + 2) words)) (sym stays.2) known;
      } in
      subst (λ (s : Span). IsAt tells s words (record { held = held; source = to })) (sym same.1) there
  is-at-part part new words i held from to is low known (inl stays) (inr wider) =
      absurd (omega (arith, stays.0, wider.0, ap (λ (x : Interval). x.range) is))
  is-at-part part new words i held from to is low known (inr stretched) (inl same) =
      absurd (omega (arith, stretched.0, same.0, ap (λ (x : Interval). x.range) is))
  is-at-part part new words i held from to is low known (inr stretched) (inr wider) =
      let read = read-word from stretched.1 to stretched.2 words (part.written + 2) known in
      let sum : part.written + 2 + 1 ≡ part.written + 1 + 2 = omega arith in
      let more : number_first (part.written + 1 + 2) words
      ≡ number_first (part.written + 2) words * 2 ^ 32 + get_or words (part.written + 2) 0 =
      sym (ap (λ n. number_first n words) sum) ∙ first-more (part.written + 2) words in
      let range : i.range * 2 ^ 32 ≡ part.size * 2 ^ 32 = ap (λ (x : Interval). x.range * 2 ^ 32) is in
      let offset : i.offset * 2 ^ 32 + word_or_zero stretched.1
      ≡ number_first (part.written + 1 + 2) words - part.low * 2 ^ 32 =
      omega (arith, ap (λ (x : Interval). x.offset) is, read.0, more, low) in
      let there : IsAt tells (span (part.low * 2 ^ 32) (part.size * 2 ^ 32) (part.written + 1)) words
      (record { held = held; source = to }) = record {
        held = stretched.3 ∙ ap (λ n. interval n (i.offset * 2 ^ 32 + word_or_zero stretched.1)) range
            ∙ ap (λ n. interval (part.size * 2 ^ 32) n) offset;
        known = subst (λ n. tells to (drop n words)) sum read.1;
      } in
      subst (λ (s : Span). IsAt tells s words (record { held = held; source = to })) (sym wider.1) there

module _ {Symbol S E : Type 0} (Stands : Symbol → Symbol → Type 0) (eq : Symbol → Symbol → Bool) (entry : Symbol → Option (ℕ × ℕ))
    (rows : List (Row Symbol)) (gives : S → Result (Option ℕ) E → S → Type 0) (tells : S → List ℕ → Type 0) (bits precision : ℕ)
    (tile : RowsTile bits precision rows) (alike : (s : Symbol) → entry s ≡ entry_of eq rows s)
    (law : (s : S) (r : Result (Option ℕ) E) (t : S) → gives s r t → (ws : List ℕ) → tells s ws → ReadsUpcoming tells ws r t) where
  -- what is decoded after a symbol was encoded stands for an equal one, and the decoder goes on to the next span
  module _ (symbol answer : Symbol) (old new : Span) (words : List ℕ) (now later : Held S) (fit : All (λ w. w < 2 ^ 32) words)
      (e : IsNarrowed (entry symbol) precision old new) (lies : LiesIn new words) (here : IsAt tells old words now)
      (d : IsRead Stands rows gives precision answer now later) where
    abbrev part : Span
    part = part_in precision e.left e.weight old

    abbrev unit : ℕ
    unit = old.size / 2 ^ precision

    abbrev offset : ℕ
    offset = number_first (old.written + 2) words - old.low

    inside : LiesIn part words
    inside = lies-unwidened words fit part new e.next lies

    from : unit * e.left ≤ offset
    from = omega (arith, inside.0)

    to : offset < unit * (e.left + e.weight)
    to = omega (arith, inside.0, inside.1)

    holds : HoldsPoint precision d.row.left d.row.weight (interval old.size offset)
    holds = subst (λ (i : Interval). HoldsPoint precision d.row.left d.row.weight i) here.held d.holds

    found : IsRowOf rows (offset / unit) d.row
    found = record {
      among = d.among;
      from = quantile-from unit offset d.row.left d.row.weight holds.from holds.to;
      to = quantile-to unit offset d.row.left d.row.weight holds.from holds.to;
    }

    same-entry : (eq d.row.symbol symbol ≡ true) × (d.row.left ≡ e.left) × (d.row.weight ≡ e.weight)
    same-entry =
        entry-back bits precision eq rows symbol e.left e.weight (offset / unit) d.row tile (sym (alike symbol) ∙ e.known)
        (quantile-from unit offset e.left e.weight from to) (quantile-to unit offset e.left e.weight from to) found

    is-at-next : IsAt tells new words later
    is-at-next =
        let stretched : IsWidenedByRead gives (interval (unit * e.weight) (offset - unit * e.left)) now.source later.held later.source =
        rw (same-entry.1, same-entry.2) at
        (subst (λ (i : Interval).
        IsWidenedByRead gives (part_of precision d.row.left d.row.weight i) now.source later.held later.source) here.held d.next) in
        let away : offset - unit * e.left ≡ number_first (old.written + 2) words - (old.low + unit * e.left) =
        omega (arith, inside.0) in
        is-at-part gives tells law part new words (interval (unit * e.weight) (offset - unit * e.left)) later.held now.source
        later.source (ap (λ n. interval (unit * e.weight) n) away) inside.0 here.known stretched e.next

    -- the symbol comes back, and the rest is where it was
    pub range-symbol-back : StandsForEqual Stands eq symbol answer × IsAt tells new words later
    range-symbol-back = ((d.row.symbol, same-entry.0, d.stands), is-at-next)
