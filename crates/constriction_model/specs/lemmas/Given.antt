-- A constructor's contract at a known list, from what it says of whatever it reads. A caller who makes models needs none of this.
use Rattle.std.proofs.Common.{◌≡◌, ℕ, zero, suc, ◌-◌, ◌^◌, ◌<◌, ◌≤◌, true, false, List, [], ◌∷◌, ◌++◌, length, get_or, map, sum, Option, Result, Ok, Err, refl, ap, sym, subst, ◌∙◌, arith}
use Rattle.std.specs.Prelude.{Bool, IfOk, IfSome, All, slice_get}
use Rattle.std.specs.Iterator.{DrainsIf}
use Rattle.std.specs.List.{IsDistinct}
use Rattle.std.proofs.iter.runs.Made.{run, seen, to_end}
use Rattle.std.proofs.lemmas.Bool.{false≢true}
use Rattle.std.proofs.lemmas.List.{map-append, map-id}
use Rattle.std.proofs.lemmas.List.Elements.{All-head, All-tail}
use Rattle.constriction_model.specs.Acceptance.{completed, IsAccepted, Reading, ToItsEnd, SoFar, WasReadOf, MayGive, IsMadeOfWeights, IsMadeOfBoth, GivesList, GivesDistinct, IsDecidedByWeights, IsDecidedByBoth}
use Rattle.constriction_model.specs.declared.error.ModelError.{ModelError}

-- the first items of a list, in order, are a beginning of it
beginning : {A B : Type 0} (value : A → B) (xs : List A) (list : List B) → length xs ≤ length list
    → ((k : ℕ) → k < length xs → IfSome (slice_get xs k) (λ x. value x ≡ get_or list k (value x)))
    → (rest : List B) × (list ≡ map value xs ++ rest)
beginning value [] list short same = (list, refl)
beginning value (x ∷ xs) [] short same = absurd (omega arith)
beginning value (x ∷ xs) (y ∷ ys) short same =
    let first : value x ≡ y = same 0 (omega arith) in
    let rest = beginning value xs ys (omega arith) (λ k h. same (suc k) (omega arith)) in
    (rest.0, ap (λ zs. y ∷ zs) rest.1 ∙ ap (λ z. z ∷ (map value xs ++ rest.0)) (sym first))

-- as many as the list has are the list
all-of : {A B : Type 0} (value : A → B) (xs : List A) (list : List B) → length xs ≡ length list
    → ((k : ℕ) → k < length xs → IfSome (slice_get xs k) (λ x. value x ≡ get_or list k (value x))) → map value xs ≡ list
all-of value [] [] long same = refl
all-of value [] (y ∷ ys) long same = absurd (omega arith)
all-of value (x ∷ xs) [] long same = absurd (omega arith)
all-of value (x ∷ xs) (y ∷ ys) long same =
    ap (λ z. z ∷ map value xs) (same 0 (omega arith))
    ∙ ap (λ zs. y ∷ zs) (all-of value xs ys (omega arith) (λ k h. same (suc k) (omega arith)))

module _ {J S A B : Type 0} (value : A → B) (becomes : J → S → Type 0) (steps : S → Option A → S → Type 0) (from : J) (list : List B)
    (gives : GivesList value becomes steps from list) where
  -- what is read from it to its end is the list
  all-read : (xs : List A) → WasReadOf becomes steps from ToItsEnd xs → map value xs ≡ list
  all-read xs read =
      let p = run steps read.iterator xs true (to_end steps read.iterator xs read.was_read) in
      let given = gives read.iterator read.became p (seen (length xs)) refl in
      all-of value xs list (given.1 refl) given.2

  -- whatever was read from it, it may give items of this list, if the rest of the list stands for items
  may-read : ((first rest : List B) → list ≡ first ++ rest → (ys : List A) × (map value ys ≡ rest))
      → (reading : Reading) (xs : List A) → WasReadOf becomes steps from reading xs
      → (all : List A) × MayGive reading xs all × (map value all ≡ list)
  may-read items ToItsEnd xs read = (xs, refl, all-read xs read)
  may-read items SoFar xs read =
      let drained : DrainsIf steps (false ≡ true) read.iterator xs = (read.was_read.0, read.was_read.1, λ e. absurd (false≢true e)) in
      let given = gives read.iterator read.became (run steps read.iterator xs false drained) (seen (length xs)) refl in
      let cut = beginning value xs list given.0 given.2 in
      let more = items (map value xs) cut.0 cut.1 in
      (xs ++ more.0, (more.0, refl), map-append value xs more.0 ∙ ap (λ ys. map value xs ++ ys) more.1 ∙ sym cut.1)

-- if no two symbols that an argument gives are equal, no two that were read are
pub distinct-read : {J S Symbol : Type 0} (becomes : J → S → Type 0) (steps : S → Option Symbol → S → Type 0)
    (eq : Symbol → Symbol → Bool) (from : J) → GivesDistinct becomes steps eq from
    → (ss : List Symbol) → WasReadOf becomes steps from ToItsEnd ss → IsDistinct eq ss
distinct-read becomes steps eq from differ ss read =
    differ read.iterator read.became (run steps read.iterator ss true (to_end steps read.iterator ss read.was_read)) (seen (length ss))
    refl refl

-- ---- numbers and their words

All-end : {A : Type 0} (P : A → Type 0) (xs ys : List A) → All P (xs ++ ys) → All P ys
All-end P [] ys all = all
All-end P (x ∷ xs) ys all = All-end P xs ys (All-tail P x (xs ++ ys) all)

All-front : {A : Type 0} (P : A → Type 0) (xs ys : List A) → All P (xs ++ ys) → All P xs
All-front P [] ys all k d short = absurd (omega arith)
All-front P (x ∷ xs) ys all zero d short = All-head P x (xs ++ ys) all
All-front P (x ∷ xs) ys all (suc k) d short = All-front P xs ys (All-tail P x (xs ++ ys) all) k d (omega arith)

given-fit : (P : ℕ → Type 0) (precision : ℕ) (infer : Bool) (weights : List ℕ) → All P (completed precision infer weights) → All P weights
given-fit P precision true weights all = All-front P weights ((2 ^ precision - sum weights) ∷ []) all
given-fit P precision false weights all = all

module _ {Word : Type 0} (bits : ℕ) (whole : Word → ℕ) (word_of : (n : ℕ) → n < 2 ^ bits → (x : Word) × (whole x ≡ n)) where
  words-of : (ns : List ℕ) → All (λ n. n < 2 ^ bits) ns → (ws : List Word) × (map whole ws ≡ ns)
  words-of [] fit = ([], refl)
  words-of (n ∷ ns) fit =
      let first = word_of n (All-head (λ m. m < 2 ^ bits) n ns fit) in
      let rest = words-of ns (All-tail (λ m. m < 2 ^ bits) n ns fit) in
      (first.0 ∷ rest.0, ap (λ m. m ∷ map whole rest.0) first.1 ∙ ap (λ ms. n ∷ ms) rest.1)

  words-of_rest : (weights : List ℕ) → All (λ n. n < 2 ^ bits) weights
      → (first rest : List ℕ) → weights ≡ first ++ rest → (ws : List Word) × (map whole ws ≡ rest)
  words-of_rest weights fit first rest cut =
      words-of rest (All-end (λ n. n < 2 ^ bits) first rest (subst (All (λ n. n < 2 ^ bits)) cut fit))

-- ---- what a constructor says at lists that it is given

at-ok : {A E : Type 0} {P : A → Type 0} (r : Result A E) (Q : A → Type 0) → IfOk r P → ((x : A) → P x → Q x) → IfOk r Q
at-ok (Ok x) Q given so = so x given
at-ok (Err e) Q given so = tt

module _ {J S Word Model : Type 0} {becomes : J → S → Type 0} {steps : S → Option Word → S → Type 0} {from : J} {whole : Word → ℕ}
    {Tells : Model → List ℕ → Type 0} (bits precision : ℕ) (infer : Bool)
    (word_of : (n : ℕ) → n < 2 ^ bits → (x : Word) × (whole x ≡ n)) where
  -- what a constructor makes of what it read says what it does with the weights it is given
  pub decided-by_weights : (r : Result Model ModelError)
      → IsMadeOfWeights (IsAccepted bits precision) (completed precision infer) (WasReadOf becomes steps from) whole Tells r
      → IsDecidedByWeights (IsAccepted bits precision) (completed precision infer) becomes steps from whole Tells r
  decided-by_weights r made = record {
    made = made;
    accepted = λ weights gives. at-ok r (λ m. IsAccepted bits precision (completed precision infer weights)) made.ok (λ m ok.
        subst (λ (ns : List ℕ). IsAccepted bits precision (completed precision infer ns))
        (all-read whole becomes steps from weights gives ok.0 ok.1) ok.2);
    rows = λ weights gives. at-ok r (λ m. Tells m (completed precision infer weights)) made.ok (λ m ok.
        subst (λ (ns : List ℕ). Tells m (completed precision infer ns)) (all-read whole becomes steps from weights gives ok.0 ok.1) ok.3);
    invalid = λ weights gives is good.
        let bad = made.invalid is in
        let fit = given-fit (λ n. n < 2 ^ bits) precision infer weights good.fit in
        let all = may-read whole becomes steps from weights gives (words-of_rest bits whole word_of weights fit) bad.1 bad.0 bad.2 in
        bad.3 all.0 all.1 (subst (λ (ns : List ℕ). IsAccepted bits precision (completed precision infer ns)) (sym all.2) good);
  }

module _ {J S K T Symbol Word : Type 0} {becomes : J → S → Type 0} {steps : S → Option Symbol → S → Type 0} {from : J}
    {other_becomes : K → T → Type 0} {other_steps : T → Option Word → T → Type 0} {other : K} (whole : Word → ℕ) where
  -- what is true of the lists that were read is true of the lists that are given
  both-read : (P : List Symbol → List ℕ → Type 0) (symbols : List Symbol) (weights : List ℕ) → GivesList (λ s. s) becomes steps from symbols
      → GivesList whole other_becomes other_steps other weights
      → (ss : List Symbol) (ws : List Word) → WasReadOf becomes steps from ToItsEnd ss
      → WasReadOf other_becomes other_steps other ToItsEnd ws → P ss (map whole ws) → P symbols weights
  both-read P symbols weights gives others ss ws read other_read holds =
      subst (P symbols) (all-read whole other_becomes other_steps other weights others ws other_read)
      (subst (λ (xs : List Symbol). P xs (map whole ws)) (sym (map-id ss) ∙ all-read (λ s. s) becomes steps from symbols gives ss read)
      holds)

module _ {J S K T Symbol Word Model : Type 0} {becomes : J → S → Type 0} {steps : S → Option Symbol → S → Type 0} {from : J}
    {other_becomes : K → T → Type 0} {other_steps : T → Option Word → T → Type 0} {other : K} {whole : Word → ℕ}
    {Tells : Model → List Symbol → List ℕ → Type 0} (Accepted : List Symbol → List ℕ → Type 0) (bits precision : ℕ) (infer : Bool)
    (word_of : (n : ℕ) → n < 2 ^ bits → (x : Word) × (whole x ≡ n))
    (fits : (ss : List Symbol) (ns : List ℕ) → Accepted ss ns → All (λ n. n < 2 ^ bits) ns) where
  -- the same of a constructor from symbols and weights
  pub decided-by_both : (r : Result Model ModelError)
      → IsMadeOfBoth Accepted (completed precision infer) (WasReadOf becomes steps from) (WasReadOf other_becomes other_steps other) whole
      Tells r
      → IsDecidedByBoth Accepted (completed precision infer) becomes steps from other_becomes other_steps other whole Tells r
  decided-by_both r made = record {
    made = made;
    accepted = λ symbols weights gives others.
        at-ok r (λ m. Accepted symbols (completed precision infer weights)) made.ok (λ m ok.
        both-read whole (λ ss ns. Accepted ss (completed precision infer ns)) symbols weights gives others ok.0 ok.1 ok.2 ok.3 ok.4);
    rows = λ symbols weights gives others.
        at-ok r (λ m. Tells m symbols (completed precision infer weights)) made.ok (λ m ok.
        both-read whole (λ ss ns. Tells m ss (completed precision infer ns)) symbols weights gives others ok.0 ok.1 ok.2 ok.3 ok.5);
    invalid = λ symbols weights gives others is good.
        let bad = made.invalid is in
        let fit = given-fit (λ n. n < 2 ^ bits) precision infer weights (fits symbols (completed precision infer weights) good) in
        let ss = may-read (λ s. s) becomes steps from symbols gives (λ _ rest _. (rest, map-id rest)) bad.2 bad.0 bad.4 in
        let ws = may-read whole other_becomes other_steps other weights others (words-of_rest bits whole word_of weights fit) bad.3 bad.1
        bad.5 in
        bad.6 ss.0 ws.0 ss.1 ws.1
        (subst (λ (ns : List ℕ). Accepted ss.0 (completed precision infer ns)) (sym ws.2)
        (subst (λ (xs : List Symbol). Accepted xs (completed precision infer weights)) (sym ss.2 ∙ map-id ss.0) good));
  }
