-- The words of a message of numbers are words from which the numbers are read.
use Rattle.std.proofs.Common.{◌≡◌, ℕ, ◌+◌, ◌-◌, ◌*◌, ◌^◌, ◌<◌, ◌≤◌, Bool, List, [], ◌∷◌, ◌++◌, length, Option, Some, None, Result, Ok, Err, refl, ap, sym, ◌∙◌, subst, arith, inl, inr, ◌⊎◌}
use Rattle.std.specs.Prelude.{All}
use Rattle.std.proofs.lemmas.Bool.{cases_lt}
use Rattle.std.proofs.lemmas.List.Elements.{All-head, All-tail, All-cons, All-nil, same_from_all_zip}
use Rattle.std.specs.Bool.{beq}
use Rattle.constriction_model.specs.Coding.{InTurn, StandsForEqual}
use Rattle.constriction_model.specs.lemmas.Coding.{entry-row}
use Rattle.constriction_model.specs.Rows.{Row, RowsTile}
use Rattle.constriction_backends.specs.Source.{ReadsUpcoming}
use Rattle.constriction_coders.specs.Intervals.{Interval, interval, part_of, word_or_zero, HoldsPoint, IsWidenedByRead, IsStart, Held}
use Rattle.constriction_coders.specs.Numbers.{number_first}
use Rattle.constriction_coders.specs.Places.{placed, entry_at, IsMessageFrom}
use Rattle.constriction_coders.specs.RangeLaws.{IsAt, RangeMessageComesBack}
use Rattle.constriction_coders.specs.Spans.{Span, whole, part_in, IsNarrowed, LiesIn}
use Rattle.constriction_coders.proofs.Decoding.{begins-whole, range-symbol-back}
use Rattle.constriction_coders.proofs.Messages.{came-back}
use Rattle.constriction_coders.proofs.PlacesComingBack.{range-back}
use Rattle.constriction_coders.proofs.Sealing.{sealed-tell}
use Rattle.constriction_coders.proofs.Spanning.{lies-run, lies-unwidened, some-symbol, whole-reached}
use Rattle.constriction_adaptive.specs.Numbers.{all_bits, AreReadFrom, IsBitRead, TakesWord}
use Rattle.constriction_adaptive.specs.lemmas.Bit.{next-same, same-bit}
use Rattle.constriction_adaptive.specs.Predicted.{predicted_entry, AllTile}
use Rattle.constriction_adaptive.proofs.Bits.{all-bits-length, numbers-once}
use Rattle.constriction_adaptive.proofs.Telling.{holding}

-- ---- a list of words tells itself

abbrev tells : List ℕ → List ℕ → Type 0
tells words upcoming = words ≡ upcoming

tells-law : (s : List ℕ) (r : Result (Option ℕ) ⊥) (t : List ℕ) → TakesWord s r t → (ws : List ℕ) → s ≡ ws → ReadsUpcoming tells ws r t
tells-law s (Ok None) t read ws is = (sym is ∙ read.0, read.1)
tells-law s (Ok (Some w)) t read ws is = (t, sym is ∙ read, refl)
tells-law s (Err error) t read ws is = absurd read

take-word : (words : List ℕ) → (answer : Option ℕ) × (left : List ℕ) × TakesWord words (Ok answer) left
take-word [] = (None, [], (refl, refl))
take-word (w ∷ ws) = (Some w, ws, refl)

widen : (i : Interval) (words : List ℕ) → (new : Interval) × (left : List ℕ) × IsWidenedByRead TakesWord i words new left
widen i words = go (cases_lt i.range (2 ^ 32))
  where
    go : (i.range < 2 ^ 32) ⊎ (2 ^ 32 ≤ i.range) → (new : Interval) × (left : List ℕ) × IsWidenedByRead TakesWord i words new left
    go (inl small) =
        let word = take-word words in
        (interval (i.range * 2 ^ 32) (i.offset * 2 ^ 32 + word_or_zero word.0), word.1, inr (small, word.0, word.2, refl))
    go (inr wide) = (i, words, inl (wide, refl, refl))

module _ {State : Type 0} (rows : State → List (Row Bool)) (next : State → Bool → State) where
  abbrev Narrows : State × Bool → Span → Span → Type 0
  Narrows s = IsNarrowed (entry_at (predicted_entry rows beq) s) 16

  abbrev Tiles : State × Bool → Type 0
  Tiles place = RowsTile 32 16 (rows place.0)

  -- ---- a bit that was encoded is read

  read-step : (state : State) (x : Bool) (old new : Span) (words : List ℕ) (now : Held (List ℕ)) → All (λ w. w < 2 ^ 32) words
      → Tiles (state, x) → Narrows (state, x) old new → LiesIn new words → IsAt tells old words now
      → (later : Held (List ℕ)) × IsBitRead rows (state, x) now later × IsAt tells new words later
  read-step state x old new words now fit tile e lies here =
      let has = entry-row beq (rows state) x e.left e.weight e.known in
      let inside = lies-unwidened words fit (part_in 16 e.left e.weight old) new e.next lies in
      let i : Interval = interval old.size (number_first (old.written + 2) words - old.low) in
      let in_part : HoldsPoint 16 e.left e.weight i =
      record { from = omega (arith, inside.0); to = omega (arith, inside.0, inside.1) } in
      let holds : HoldsPoint 16 has.row.left has.row.weight now.held =
      subst (λ (j : Interval). HoldsPoint 16 has.row.left has.row.weight j) (sym here.held)
      (subst (λ n. HoldsPoint 16 n has.row.weight i) (sym has.left_is)
      (subst (λ n. HoldsPoint 16 e.left n i) (sym has.weight_is) in_part)) in
      let on = widen (part_of 16 has.row.left has.row.weight now.held) now.source in
      let d : IsBitRead rows (state, x) now (holding on.0 on.1) = record {
        tile = tile;
        alike = λ s. refl;
        step = record {
          row = has.row;
          among = has.among;
          stands = sym (same-bit x has.row.symbol (has.row.symbol, has.same, refl));
          holds = holds;
          next = on.2;
        };
      } in
      let back = range-symbol-back (λ s t. t ≡ s) beq (predicted_entry rows beq state) (rows state) TakesWord tells 32 16 tile (λ s. refl)
      tells-law x x old new words now (holding on.0 on.1) fit
      (record { left = e.left; weight = e.weight; known = e.known; within = e.within; next = e.next }) lies here d.step in
      (holding on.0 on.1, d, back.1)

  read-run : (xs : List Bool) (state : State) (old last : Span) (words : List ℕ) (now : Held (List ℕ)) → All (λ w. w < 2 ^ 32) words
      → AllTile rows next 16 state xs → InTurn Narrows (placed next state xs) old last → (0 < length xs → LiesIn last words)
      → IsAt tells old words now → (later : Held (List ℕ)) × InTurn (IsBitRead rows) (placed next state xs) now later
  read-run [] state old last words now fit tile e lies here = (now, refl)
  read-run (x ∷ xs) state old last words now fit tile e lies here =
      let others = placed next (next state x) xs in
      let there = lies-run (entry_at (predicted_entry rows beq)) 16 words fit others e.0 last e.2 (lies (omega arith)) in
      let one = read-step state x old e.0 words now fit (All-head Tiles (state, x) others tile) e.1 there here in
      let rest = read-run xs (next state x) e.0 last words one.0 fit (All-tail Tiles (state, x) others tile) e.2 (λ _. lies (omega arith))
      one.2 in
      (rest.0, (one.0, one.1, rest.1))

  leaves-whole : (xs : List Bool) (state : State) (last : Span) → InTurn Narrows (placed next state xs) whole last → 0 < length xs
      → last ≡ whole → ⊥
  leaves-whole [] state last e some all = absurd (omega (arith, some))
  leaves-whole (x ∷ xs) state last e some all =
      some-symbol (entry_at (predicted_entry rows beq)) 16 (omega arith) (state, x) (placed next (next state x) xs) whole last (omega arith)
      e all

  -- each state that bits were read in has rows that tile
  pub tiles-of : (xs : List Bool) (state : State) (old new : Held (List ℕ)) → InTurn (IsBitRead rows) (placed next state xs) old new
      → AllTile rows next 16 state xs
  tiles-of [] state old new d = All-nil Tiles
  tiles-of (x ∷ xs) state old new d =
      All-cons Tiles (state, x) (placed next (next state x) xs) d.1.tile (tiles-of xs (next state x) d.0 new d.2)

  module _ (width : ℕ) (first : State) (numbers words more : List ℕ) (small : All (λ n. n < 2 ^ width) numbers)
      (message : IsMessageFrom (predicted_entry rows beq) next 16 first (all_bits width numbers) words)
      (fit : All (λ w. w < 2 ^ 32) more) where
    -- from the words of numbers these numbers are read, if all rows tile
    pub message-read : AllTile rows next 16 first (all_bits width numbers)
        → AreReadFrom width rows next first numbers (words ++ more)
    message-read tile =
        let lead = sealed-tell message.0 words more message.2 fit in
        let high = take-word (words ++ more) in
        let low = take-word high.1 in
        let offset : ℕ = word_or_zero high.0 * 2 ^ 32 + word_or_zero low.0 in
        let begun : IsStart TakesWord (words ++ more) (interval (2 ^ 64 - 1) offset) low.1 =
        (high.0, low.0, high.1, high.2, low.2, refl) in
        let here = begins-whole TakesWord tells tells-law (words ++ more) (2 ^ 64 - 1) offset low.1 begun (words ++ more) refl in
        let run = read-run (all_bits width numbers) first whole message.0 (words ++ more) (holding (interval (2 ^ 64 - 1) offset) low.1)
        lead.fit tile message.1 (λ some. lead.lies (leaves-whole (all_bits width numbers) first message.0 message.1 some)) here in
        record { small = small; start = holding (interval (2 ^ 64 - 1) offset) low.1; begun = begun; end = run.0; led = run.1 }

    -- as many numbers that are read from them are these numbers
    pub message-back : (answers : List ℕ) → AreReadFrom width rows next first answers (words ++ more) → length answers ≡ length numbers
        → answers ≡ numbers
    message-back answers read long =
        let law : RangeMessageComesBack (placed next first) (entry_at (predicted_entry rows beq)) 16 (IsBitRead rows) tells
        (StandsForEqual (λ s t. t ≡ s) beq) =
        range-back (placed next) (λ state symbol. (state, symbol)) next (λ state. refl) (λ state x xs. refl)
        (entry_at (predicted_entry rows beq)) 16 _ (next-same next) (IsBitRead rows) tells (omega arith)
        (λ state symbol answer old new words now later fit e lies here d.
        range-symbol-back (λ s t. t ≡ s) beq (predicted_entry rows beq state) (rows state) TakesWord tells 32 16 d.tile d.alike tells-law
        symbol answer old new words now later fit
        (record { left = e.left; weight = e.weight; known = e.known; within = e.within; next = e.next }) lies here d.step) first in
        let here = begins-whole TakesWord tells tells-law (words ++ more) read.start.held.range read.start.held.offset read.start.source
        read.begun (words ++ more) refl in
        let back = came-back (placed next first) _ _ _ _ _ law read.start (width * length numbers) (all_bits width answers) read.end
        read.led (all_bits width numbers) (words ++ more) whole message.0 whole-reached (all-bits-length width numbers) message.1
        (sealed-tell message.0 words more message.2 fit) here (omega (arith, all-bits-length width answers, ap (λ n. width * n) long)) in
        let bits : all_bits width answers ≡ all_bits width numbers =
        same_from_all_zip (StandsForEqual (λ s t. t ≡ s) beq) (all_bits width numbers) (all_bits width answers) back
        (λ a b e. same-bit a b e) in
        numbers-once width answers numbers read.small small long bits
