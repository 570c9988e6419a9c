-- Symbols and weights that were read into entries. The symbols are known to differ, or were found to.
use Rattle.std.specs.Prelude.{◌≡◌, ℕ, Bool, false, List, map, Option, Result, Ok, Err, IfOk}
use Rattle.std.proofs.Common.{sym, subst}
use Rattle.std.specs.List.{IsDistinct}
use Rattle.std.specs.declared.vec.Vec.{Vec}
use Rattle.constriction_model.specs.Acceptance.{AreAccepted, completed, IsMadeOfBoth, Reading, ToItsEnd, WasReadOf}
use Rattle.constriction_model.specs.Rows.{rows_of}
use Rattle.constriction_model.specs.declared.error.ModelError.{ModelError}
use Rattle.constriction_model.specs.declared.error.ModelError.TheVariants.{InvalidTable}
use Rattle.constriction_stored_rows.specs.private.Filling.{HoldsRows}
use Rattle.constriction_stored_rows.specs.private.Given.{GaveBothGood, GaveBothBad}
use Rattle.constriction_categorical.specs.private.Entries.{MakesEntries}
use Rattle.constriction_stored_rows.proofs.ApartLemmas.{read-symbols, apart-accepted, accepted-uncompared, bad-narrower, bad-at_end}
use Rattle.constriction_stored_rows.proofs.MadeLemmas.{BothBad, made-unrefused, bad-both}
use Rattle.constriction_stored_rows.proofs.PairedLemmas.{paired-of_rows, accepted-tile, paired-distinct}

module _ {Symbol Word Z : Type 0} (whole : Word → ℕ) (bits precision : ℕ) (infer : Bool) (ReadSymbols : Reading → List Symbol → Type 0)
    (Read : Reading → List Word → Type 0) where
  -- the entries hold the rows of what was read, with symbols compared by `compared`
  abbrev pub AreHeld : (Symbol → Symbol → Bool) → Result (Vec (Word × Symbol) Z) ModelError → Type 0
  AreHeld compared r =
      IsMadeOfBoth (AreAccepted compared bits precision) (completed precision infer) ReadSymbols Read whole
      (λ v ss ws. HoldsRows whole v.items (rows_of ss ws)) r

  abbrev pub Makes : (Symbol → Symbol → Bool) → (List Symbol → List ℕ → Type 0) → Result (Vec (Word × Symbol) Z) ModelError → Type 0
  Makes eq Accepted r = MakesEntries eq Accepted whole bits precision infer ReadSymbols Read r

  module _ (compared : Symbol → Symbol → Bool) (v : Vec (Word × Symbol) Z) (held : AreHeld compared (Ok v)) where
    abbrev weights : List ℕ
    weights = completed precision infer (map whole held.ok.1)

    held-makes : (eq : Symbol → Symbol → Bool) (Accepted : List Symbol → List ℕ → Type 0) → Accepted held.ok.0 weights
        → IsDistinct eq (map (λ x. x.1) v.items) → Makes eq Accepted (Ok v)
    held-makes eq Accepted accepted differ =
        let paired = paired-of_rows whole bits precision (rows_of held.ok.0 weights) v.items
        (accepted-tile compared bits precision held.ok.0 weights held.ok.4) held.ok.5 in
        record {
          made = record {
            ok = (held.ok.0, held.ok.1, held.ok.2, held.ok.3, accepted, paired.1);
            invalid = λ is. absurd (made-unrefused _ _ is);
          };
          stored = paired.0;
          distinct = differ;
        }

  -- symbols that were not compared, and no two of them are equal
  module _ (eq : Symbol → Symbol → Bool) (v : Vec (Word × Symbol) Z) (held : AreHeld (λ _ _. false) (Ok v)) where
    held-symbols : map (λ x. x.1) v.items ≡ held.ok.0
    held-symbols =
        read-symbols eq whole bits precision v.items held.ok.0 (completed precision infer (map whole held.ok.1)) held.ok.4 held.ok.5

    -- a further fact of the symbols, which acceptance asks for, holds
    pub judged-makes : (Good : List Symbol → Type 0) (Accepted : List Symbol → List ℕ → Type 0)
        → ((ss : List Symbol) (ws : List ℕ) → AreAccepted eq bits precision ss ws → Good ss → Accepted ss ws)
        → IsDistinct eq (map (λ x. x.1) v.items) → Good (map (λ x. x.1) v.items) → Makes eq Accepted (Ok v)
    judged-makes Good Accepted accepts differ good =
        let ws : List ℕ = completed precision infer (map whole held.ok.1) in
        let apart = apart-accepted eq whole bits precision v.items held.ok.0 ws held.ok.4 held.ok.5
        (subst (IsDistinct eq) held-symbols differ) in
        held-makes (λ _ _. false) v held eq Accepted (accepts held.ok.0 ws apart (subst Good held-symbols good)) differ

    -- a further fact of the symbols, which acceptance asks for, does not hold
    pub judged-refused : (Good : List Symbol → Type 0) (Accepted : List Symbol → List ℕ → Type 0)
        → ((ss : List Symbol) (ws : List ℕ) → Accepted ss ws → Good ss) → ¬ (Good (map (λ x. x.1) v.items))
        → BothBad ReadSymbols Read (λ ss ws. Accepted ss (completed precision infer (map whole ws)))
    judged-refused Good Accepted asks bad =
        bad-at_end ReadSymbols Read (λ ss ws. Accepted ss (completed precision infer (map whole ws)))
        held.ok.0 held.ok.1 held.ok.2 held.ok.3
        (λ accepted. bad (subst Good (sym held-symbols) (asks held.ok.0 (completed precision infer (map whole held.ok.1)) accepted)))

  -- what was refused as it was read
  pub read-refused : (eq : Symbol → Symbol → Bool) (Accepted : List Symbol → List ℕ → Type 0)
      → ((ss : List Symbol) (ws : List ℕ) → Accepted ss ws → AreAccepted eq bits precision ss ws)
      → (r : Result (Vec (Word × Symbol) Z) ModelError) → AreHeld (λ _ _. false) r → r ≡ Err InvalidTable
      → BothBad ReadSymbols Read (λ ss ws. Accepted ss (completed precision infer (map whole ws)))
  read-refused eq Accepted accepts r held is =
      bad-narrower ReadSymbols Read (λ ss ws. AreAccepted (λ _ _. false) bits precision ss (completed precision infer (map whole ws)))
      (λ ss ws. Accepted ss (completed precision infer (map whole ws)))
      (λ ss ws good.
      let all : List ℕ = completed precision infer (map whole ws) in
      accepted-uncompared eq bits precision ss all (accepts ss all good)) (held.invalid is)

  -- symbols that are known to differ
  pub apart-makes : (eq : Symbol → Symbol → Bool) → ((ss : List Symbol) → ReadSymbols ToItsEnd ss → IsDistinct eq ss)
      → (r : Result (Vec (Word × Symbol) Z) ModelError) → AreHeld (λ _ _. false) r → Makes eq (AreAccepted eq bits precision) r
  apart-makes eq differ (Ok v) held =
      let apart = subst (IsDistinct eq) (sym (held-symbols eq v held)) (differ held.ok.0 held.ok.2) in
      judged-makes eq v held (IsDistinct eq) (AreAccepted eq bits precision) (λ ss ws good _. good) apart apart
  apart-makes eq differ (Err e) held = record {
    made = record {
      ok = tt;
      invalid = read-refused eq (AreAccepted eq bits precision) (λ ss ws good. good) (Err e) held;
    };
    stored = tt;
    distinct = tt;
  }

  -- symbols that were compared as they were read
  pub all-makes : (eq : Symbol → Symbol → Bool) (r : Result (Vec (Word × Symbol) Z) ModelError) → AreHeld eq r
      → Makes eq (AreAccepted eq bits precision) r
  all-makes eq (Ok v) held =
      held-makes eq v held eq (AreAccepted eq bits precision) held.ok.4
      (paired-distinct eq bits precision held.ok.0 (completed precision infer (map whole held.ok.1)) held.ok.4 whole v.items held.ok.5)
  all-makes eq (Err e) held = record { made = record { ok = tt; invalid = held.invalid }; stored = tt; distinct = tt }

-- what a reader says of two iterators it says of the arguments that they were made of
module _ {J S K T Symbol Word Entries : Type 0} (becomes : J → S → Type 0) (steps : S → Option Symbol → S → Type 0) (from : J)
    (other_becomes : K → T → Type 0) (other_steps : T → Option Word → T → Type 0) (other : K)
    (Accepted : List Symbol → List ℕ → Type 0) (completes : List ℕ → List ℕ) (whole : Word → ℕ)
    (Tells : Entries → List Symbol → List ℕ → Type 0)
    (it : S) (here : becomes from it) (jt : T) (there : other_becomes other jt) where
  -- what was read says what a constructor of symbols and weights made of it
  pub read-of_both : (r : Result Entries ModelError)
      → IfOk r (λ t. GaveBothGood steps it other_steps jt
      (λ ss ws. Accepted ss (completes (map whole ws)) × Tells t ss (completes (map whole ws))))
      → (r ≡ Err InvalidTable → GaveBothBad steps it other_steps jt (λ ss ws. Accepted ss (completes (map whole ws))))
      → IsMadeOfBoth Accepted completes (WasReadOf becomes steps from) (WasReadOf other_becomes other_steps other) whole Tells r
  read-of_both (Ok t) good bad = record {
    ok = (
      good.0,
      good.1,
      record { iterator = it; became = here; was_read = good.2 },
      record { iterator = jt; became = there; was_read = good.3 },
      good.4.0,
      good.4.1,
    );
    invalid = λ is. absurd (made-unrefused _ _ is);
  }
  read-of_both (Err e) good bad = record {
    ok = tt;
    invalid = λ is.
        bad-both becomes steps from other_becomes other_steps other (λ ss ws. Accepted ss (completes (map whole ws)))
        (it, here, jt, there, bad is);
  }
