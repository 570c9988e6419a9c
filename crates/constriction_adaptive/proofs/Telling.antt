-- What is read from a source that tells its words is read from these words.
use Rattle.std.proofs.Common.{ℕ, Bool, List, [], ◌∷◌}
use Rattle.std.proofs.Common.{Option, Some, None, Result, Ok, refl, ap, sym, subst, inl, inr}
use Rattle.constriction_model.specs.Coding.{InTurn}
use Rattle.constriction_model.specs.Rows.{Row}
use Rattle.constriction_backends.specs.Source.{ReadsUpcoming}
use Rattle.constriction_coders.specs.Intervals.{Interval, part_of}
use Rattle.constriction_coders.specs.Intervals.{IsWidenedByRead, IsStart, Held}
use Rattle.constriction_adaptive.specs.Numbers.{TakesWord}
use Rattle.constriction_adaptive.specs.Predicted.{IsReadIn}

-- an interval, and the words that are left
abbrev pub holding : Interval → List ℕ → Held (List ℕ)
holding i words = record { held = i; source = words }

module _ {S E : Type 0} (gives : S → Result (Option ℕ) E → S → Type 0) (tells : S → List ℕ → Type 0)
    (law : (s : S) (r : Result (Option ℕ) E) (t : S) → gives s r t → (ws : List ℕ) → tells s ws → ReadsUpcoming tells ws r t) where
  told-word : (s : S) (answer : Option ℕ) (t : S) → gives s (Ok answer) t → (words : List ℕ) → tells s words
      → (left : List ℕ) × TakesWord words (Ok answer) left × tells t left
  told-word s None t read words known = let end = law s (Ok None) t read words known in ([], (end.0, refl), end.1)
  told-word s (Some w) t read words known = let next = law s (Ok (Some w)) t read words known in (next.0, next.1, next.2)

  -- a source that tells its words starts as these words do
  pub told-start : (source : S) (held : Interval) (rest : S) → IsStart gives source held rest → (words : List ℕ) → tells source words
      → (left : List ℕ) × IsStart TakesWord words held left × tells rest left
  told-start source held rest opened words known =
      let high = told-word source opened.0 opened.2 opened.3 words known in
      let low = told-word opened.2 opened.1 rest opened.4 high.0 high.2 in
      (low.0, (opened.0, opened.1, high.0, high.1, low.1, opened.5), low.2)

  told-widened : (i : Interval) (from : S) (new : Interval) (to : S) → IsWidenedByRead gives i from new to → (words : List ℕ)
      → tells from words → (left : List ℕ) × IsWidenedByRead TakesWord i words new left × tells to left
  told-widened i from new to (inl stays) words known =
      (words, inl (stays.0, stays.1, refl), subst (λ (s : S). tells s words) (sym stays.2) known)
  told-widened i from new to (inr wider) words known =
      let next = told-word from wider.1 to wider.2 words known in
      (next.0, inr (wider.0, wider.1, next.1, wider.3), next.2)

  module _ {State Symbol : Type 0} (rows : State → List (Row Symbol)) (Stands : Symbol → Symbol → Type 0) (eq : Symbol → Symbol → Bool)
      (precision : ℕ) where
    told-step : (place : State × Symbol) (old new : Held S) → IsReadIn rows Stands eq precision gives place old new → (words : List ℕ)
        → tells old.source words
        → (left : List ℕ) × IsReadIn rows Stands eq precision TakesWord place (holding old.held words) (holding new.held left)
        × tells new.source left
    told-step place old new d words known =
        let read = told-widened (part_of precision d.step.row.left d.step.row.weight old.held) old.source new.held new.source d.step.next
        words known in (
          read.0,
          record {
            tile = d.tile;
            alike = d.alike;
            step = record {
              row = d.step.row;
              among = d.step.among;
              stands = d.step.stands;
              holds = d.step.holds;
              next = read.1;
            };
          },
          read.2,
        )

    -- symbols are read from it as from these words
    pub told-turns : (places : List (State × Symbol)) (old new : Held S) → InTurn (IsReadIn rows Stands eq precision gives) places old new
        → (words : List ℕ) → tells old.source words
        → (left : List ℕ) × InTurn (IsReadIn rows Stands eq precision TakesWord) places (holding old.held words) (holding new.held left)
        × tells new.source left
    told-turns [] old new same words known =
        (words, ap (λ (h : Held S). holding h.held words) same, subst (λ (h : Held S). tells h.source words) same known)
    told-turns (p ∷ ps) old new d words known =
        let first = told-step p old d.0 d.1 words known in
        let rest = told-turns ps d.0 new d.2 first.0 first.2 in
        (rest.0, (holding d.0.held first.0, first.1, rest.1), rest.2)
