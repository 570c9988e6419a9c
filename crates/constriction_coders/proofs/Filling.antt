-- A list is filled with symbols that are decoded, from its beginning on.
use Rattle.std.proofs.Common.{◌≡◌, ℕ, ◌+◌, ◌-◌, ◌<◌, ◌≤◌, List, [], ◌++◌, length, take, drop, slice_set, Result, Err, refl, ap, sym, ◌∙◌}
use Rattle.std.proofs.Common.{subst, arith}
use borrow.Rule.Slice.PartMut.{put_mid}
use Rattle.std.proofs.lemmas.Grind.{take-set_at}
use Rattle.std.proofs.lemmas.List.{drop-set-lt, drop_more, length-set, length-take-le, take-append-drop, take_at, drop_at, drop_all}
use Rattle.std.proofs.lemmas.List.{drop-drop, length-drop, length-append, append_assoc, append-nil}
use Rattle.constriction_model.specs.Coding.{InTurn}
use Rattle.constriction_model.specs.lemmas.Turns.{turn-last}
use Rattle.constriction_words.specs.declared.CoderError.{CoderError}
use Rattle.constriction_coders.proofs.Stopping.{turns-append}
use Rattle.constriction_coders.specs.Filling.{FirstAreFilled, IsFilledTo, FillingStops}

-- lists with the same symbols from a place on have the same after it
drop-next : {X : Type 0} (xs ys : List X) (i : ℕ) (x : X) → i < length xs → i < length ys → drop i xs ≡ drop i ys
    → drop (i + 1) xs ≡ drop (i + 1) ys
drop-next {X} xs ys i x less also same =
    ap (λ (zs : List X). drop 1 zs) (sym (drop_more xs i x less) ∙ same ∙ drop_more ys i x also)

module _ {Content Symbol : Type 0} (Step : Symbol → Content → Content → Type 0) (before symbols : List Symbol) (i : ℕ)
    (old reached : Content) (long : length symbols ≡ length before) (others : drop i symbols ≡ drop i before)
    (led : InTurn Step (take i symbols) old reached) where
  -- one place more is filled
  pub fill-more : (symbol : Symbol) (new : Content) → i < length symbols → Step symbol reached new
      → (length (slice_set symbols i symbol) ≡ length before) × (drop (i + 1) (slice_set symbols i symbol) ≡ drop (i + 1) before)
      × InTurn Step (take (i + 1) (slice_set symbols i symbol)) old new
  fill-more symbol new less step = (
    length-set symbols i symbol ∙ long,
    drop-set-lt (i + 1) symbols i symbol (omega arith) ∙ drop-next symbols before i symbol less (omega (arith, less, long)) others,
    subst (λ (ys : List Symbol). InTurn Step ys old new) (sym (take-set_at symbols i (i + 1) symbol refl less))
        (turn-last Step (take i symbols) symbol old reached new led step),
  )

module _ {Coder Content Symbol : Type 0} (held : Coder → Content) (Step : Symbol → Content → Content → Type 0)
    (before symbols : List Symbol) (i : ℕ) (old : Content) (reached : Coder)
    (long : length symbols ≡ length before) (others : drop i symbols ≡ drop i before)
    (led : InTurn Step (take i symbols) old (held reached)) where
  pub many_taken : i ≤ length before → length (take i symbols) ≡ i
  many_taken within = length-take-le i symbols (omega (arith, within, long))

  -- so far it is filled
  abbrev pub filled-so-far : i ≤ length before → FirstAreFilled held Step before symbols old reached
  filled-so-far within = record {
    done = take i symbols;
    filled =
        sym (take-append-drop i symbols) ∙ ap (λ ys. take i symbols ++ ys) others
        ∙ ap (λ n. take i symbols ++ drop n before) (sym (many_taken within));
    within = omega (arith, many_taken within, within);
    led = led;
  }

  -- so many places are filled
  pub filled-to : (count : ℕ) → i ≡ count → count ≤ length before → IsFilledTo held Step count before symbols old reached
  filled-to count same within =
      let short : i ≤ length before = omega (arith, same, within) in (filled-so-far short, many_taken short ∙ same)

  -- it is not filled further
  pub filling-stops : {Fault E : Type 0} (Tells : Coder → Result Symbol (CoderError Fault E) → Coder → Type 0) (error : CoderError Fault E)
      (new : Coder) → i < length before → Tells reached (Err error) new
      → FillingStops held Step Tells before symbols error old new
  filling-stops Tells error new less step =
      let within : i ≤ length before = omega (arith, less) in record {
        reached = reached;
        first = filled-so-far within;
        fewer = omega (arith, many_taken within, less);
        step = step;
      }

-- a list whose symbols were all decoded is filled
pub all-filled : {Coder Content Symbol : Type 0} (held : Coder → Content) (Step : Symbol → Content → Content → Type 0)
    (before symbols : List Symbol) (old : Content) (reached : Coder) → length symbols ≡ length before
    → InTurn Step symbols old (held reached) → FirstAreFilled held Step before symbols old reached
all-filled held Step before symbols old reached long led = record {
  done = symbols;
  filled =
      sym (append-nil symbols) ∙ ap (λ ys. symbols ++ ys) (sym (drop_all (length symbols) before (omega (arith, long))));
  within = omega (arith, long);
  led = led;
}

-- a list whose rest was written has what it had before that, and then what was written
pub rest-put : {X : Type 0} (from : ℕ) (xs ys : List X) → from ≤ length xs
    → put_mid from (length xs - from) xs ys ≡ take from xs ++ ys
rest-put from xs ys within =
    let none : drop (length xs - from) (drop from xs) ≡ [] =
    drop_all (length xs - from) (drop from xs) (omega (arith, length-drop from xs)) in
    ap (λ zs. take from xs ++ (ys ++ zs)) none ∙ ap (λ zs. take from xs ++ zs) (append-nil ys)

-- The rest of a list is filled after its first places.
module _ {Coder Content Symbol : Type 0} (held : Coder → Content) (Step : Symbol → Content → Content → Type 0) (from : ℕ)
    (before symbols after rest : List Symbol) (old : Content) (reached : Coder)
    (first : IsFilledTo held Step from before symbols old reached) (is : after ≡ take from symbols ++ rest) where
  own : take from symbols ≡ first.0.done
  own = ap (λ ys. take from ys) first.0.filled ∙ take_at first.0.done (drop (length first.0.done) before) from first.1

  left : drop from symbols ≡ drop (length first.0.done) before
  left = ap (λ ys. drop from ys) first.0.filled ∙ drop_at first.0.done (drop (length first.0.done) before) from first.1

  together : after ≡ first.0.done ++ rest
  together = is ∙ ap (λ ys. ys ++ rest) own

  -- if the others lead on, all do
  pub rest-filled : (last : Content) → InTurn Step rest (held reached) last → InTurn Step after old last
  rest-filled last led =
      subst (λ (ys : List Symbol). InTurn Step ys old last) (sym together)
      (turns-append Step first.0.done rest old (held reached) last first.0.led led)

  -- if the others stop at an error, all do
  pub rest-stops : {Fault E : Type 0} (Tells : Coder → Result Symbol (CoderError Fault E) → Coder → Type 0) (error : CoderError Fault E)
      (new : Coder) → FillingStops held Step Tells (drop from symbols) rest error (held reached) new
      → FillingStops held Step Tells before after error old new
  rest-stops Tells error new stops =
      let more : List Symbol = stops.first.done in
      let places : length (drop from symbols) ≡ length before - length first.0.done =
      ap length left ∙ length-drop (length first.0.done) before in
      let all : length (first.0.done ++ more) ≡ length first.0.done + length more = length-append first.0.done more in
      record {
        reached = stops.reached;
        first = record {
          done = first.0.done ++ more;
          filled =
              together ∙ ap (λ ys. first.0.done ++ ys) stops.first.filled
              ∙ ap (λ ys. first.0.done ++ (more ++ drop (length more) ys)) left
              ∙ ap (λ ys. first.0.done ++ (more ++ ys)) (drop-drop (length more) (length first.0.done) before)
              ∙ ap (λ n. first.0.done ++ (more ++ drop n before)) (sym all)
              ∙ sym (append_assoc first.0.done more (drop (length (first.0.done ++ more)) before));
          within = omega (arith, all, places, stops.fewer, first.0.within);
          led = turns-append Step first.0.done more old (held reached) (held stops.reached) first.0.led stops.first.led;
        };
        fewer = omega (arith, all, places, stops.fewer, first.0.within);
        step = stops.step;
      }
