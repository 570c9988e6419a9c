-- A run of symbols goes on, stops at a symbol, or is read from its end.
use Rattle.std.proofs.Common.{◌≡◌, ℕ, ◌+◌, ◌-◌, ◌<◌, ◌≤◌, suc, Option, None, Result, Err, List, [], ◌∷◌, ◌++◌, length, reverse, take, drop, get_or, ap, sym, ◌∙◌, subst, arith}
use Rattle.std.proofs.lemmas.List.{append_assoc, drop_more, reverse-append, take_more}
use Rattle.std.proofs.Math.Seq.{split_at}
use Rattle.constriction_model.specs.Coding.{InTurn}
use Rattle.constriction_model.specs.lemmas.Turns.{turn-last}
use Rattle.constriction_words.specs.declared.CoderError.{CoderError}
use Rattle.constriction_words.specs.declared.CoderError.TheVariants.{Frontend}
use Rattle.constriction_coders.specs.Encoding.{EncodingStops}

module _ {Symbol : Type 0} (symbols : List Symbol) (i : ℕ) (symbol : Symbol) (less : i < length symbols)
    (is : symbol ≡ get_or symbols i symbol) where
  -- one symbol more after the others
  pub turn-more : {Content : Type 0} (Step : Symbol → Content → Content → Type 0) (first mid last : Content)
      → InTurn Step (take i symbols) first mid → Step symbol mid last → InTurn Step (take (i + 1) symbols) first last
  turn-more Step first mid last led step =
      let more : take (i + 1) symbols ≡ take i symbols ++ symbol ∷ [] =
      take_more symbols i symbol less ∙ ap (λ y. take i symbols ++ y ∷ []) (sym is) in
      subst (λ (ys : List Symbol). InTurn Step ys first last) (sym more)
      (turn-last Step (take i symbols) symbol first mid last led step)

  -- one symbol more before the others
  pub turn-from : {Content : Type 0} (Step : Symbol → Content → Content → Type 0) (full mid rest : Content) → Step symbol full mid
      → InTurn Step (drop (i + 1) symbols) mid rest → InTurn Step (drop i symbols) full rest
  turn-from Step full mid rest step led =
      subst (λ (ys : List Symbol). InTurn Step ys full rest)
      (sym (drop_more symbols i symbol less ∙ ap (λ x. x ∷ drop (i + 1) symbols) (sym is))) (mid, step, led)

  -- symbols are those before an index, the one there, and those after it
  pub split-at-symbol : symbols ≡ take i symbols ++ symbol ∷ drop (suc i) symbols
  split-at-symbol = split_at symbols i symbol less ∙ ap (λ x. take i symbols ++ x ∷ drop (suc i) symbols) (sym is)

  -- the same from the last symbol on
  split-back : reverse symbols ≡ reverse (drop (suc i) symbols) ++ symbol ∷ reverse (take i symbols)
  split-back =
      let before = take i symbols in
      let later = drop (suc i) symbols in
      ap reverse split-at-symbol ∙ reverse-append before (symbol ∷ later)
      ∙ ap (λ ys. ys ++ reverse before) (reverse-append (symbol ∷ []) later)
      ∙ append_assoc (reverse later) (symbol ∷ []) (reverse before)

-- steps in turn are the steps back in the other order
pub turns-back : {Symbol Content : Type 0} {Step Back : Symbol → Content → Content → Type 0}
    → ((x : Symbol) (a b : Content) → Step x a b → Back x b a) → (xs : List Symbol) (a b : Content) → InTurn Step xs a b
    → InTurn Back (reverse xs) b a
turns-back so [] a b same = sym same
turns-back {Symbol} {Back = Back} so (x ∷ xs) a b (j, step, others) =
    subst (λ (ys : List Symbol). InTurn Back ys b a) (sym (reverse-append (x ∷ []) xs))
    (turn-last Back (reverse xs) x b j a (turns-back so xs j b others) (so x a j step))

-- a run goes on by another
pub turns-append : {Place Content : Type 0} (Step : Place → Content → Content → Type 0) (xs ys : List Place) (first mid last : Content)
    → InTurn Step xs first mid → InTurn Step ys mid last → InTurn Step (xs ++ ys) first last
turns-append Step [] ys first mid last e f = subst (λ c. InTurn Step ys c last) (sym e) f
turns-append Step (x ∷ xs) ys first mid last (next, step, others) f = (next, step, turns-append Step xs ys next mid last others f)

-- symbols go on from the last one on, and `done` of them did
module _ {Symbol Content : Type 0} (Step : Symbol → Content → Content → Type 0) (symbols : List Symbol) (done : ℕ) (old : Content) where
  -- one symbol more
  pub back-more : (symbol : Symbol) (full mid : Content) → done < length symbols
      → symbol ≡ get_or symbols (length symbols - 1 - done) symbol → Step symbol full mid
      → InTurn Step (drop (length symbols - done) symbols) mid old → InTurn Step (drop (length symbols - (done + 1)) symbols) full old
  back-more symbol full mid less is step led =
      let at : ℕ = length symbols - 1 - done in
      let next : length symbols - done ≡ at + 1 = omega (arith, less) in
      let here : at ≡ length symbols - (done + 1) = omega arith in
      subst (λ n. InTurn Step (drop n symbols) full old) here
      (turn-from symbols at symbol (omega (arith, less)) is Step full mid old step
      (subst (λ n. InTurn Step (drop n symbols) mid old) next led))

  -- all of them
  pub back-all : (full : Content) → length symbols ≤ done → InTurn Step (drop (length symbols - done) symbols) full old
      → InTurn Step symbols full old
  back-all full ended led =
      let none : length symbols - done ≡ 0 = omega (arith, ended) in
      subst (λ n. InTurn Step (drop n symbols) full old) none led

-- encoding from the last symbol on stops at the one before those that are done
pub back-stops : {Coder Content Symbol Fault E : Type 0} (held : Coder → Content)
    (IsEncoded : Option (ℕ × ℕ) → Content → Content → Type 0)
    (Encodes : Option (ℕ × ℕ) → Coder → Result (Unit {0}) (CoderError Fault E) → Coder → Type 0) (entry : Symbol → Option (ℕ × ℕ))
    (symbols : List Symbol) (done : ℕ) (old : Content) (symbol : Symbol) (reached new : Coder) (error : CoderError Fault E)
    → done < length symbols → symbol ≡ get_or symbols (length symbols - 1 - done) symbol
    → InTurn (λ s a b. IsEncoded (entry s) b a) (drop (length symbols - done) symbols) (held reached) old
    → ((fault : Fault) → error ≡ Frontend fault → entry symbol ≡ None) → Encodes (entry symbol) reached (Err error) new
    → held new ≡ held reached → EncodingStops held IsEncoded Encodes entry (reverse symbols) error old new
back-stops held IsEncoded Encodes entry symbols done old symbol reached new error less is led impossible step same =
    let at : ℕ = length symbols - 1 - done in
    let next : length symbols - done ≡ suc at = omega (arith, less) in (
      reverse (drop (suc at) symbols),
      symbol,
      reverse (take at symbols),
      split-back symbols at symbol (omega (arith, less)) is,
      record {
        reached = reached;
        led =
            turns-back (λ x a b step. step) (drop (suc at) symbols) (held reached) old
            (subst (λ n. InTurn (λ s a b. IsEncoded (entry s) b a) (drop n symbols) (held reached) old) next led);
        impossible = impossible;
        step = step;
        same = same;
      },
    )
