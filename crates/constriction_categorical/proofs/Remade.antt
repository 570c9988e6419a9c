-- What was said of the parts of a model, a constructor says of the model: its rows are the same, and so are the refusals.
use Rattle.std.specs.Prelude.{◌≡◌, ℕ, List, Option, Result, Ok, Err, IfOk, IfErr}
use Rattle.std.proofs.Common.{sym, subst, ◌∙◌}
use Rattle.constriction_model.specs.Acceptance.{IsDecidedByBoth, IsDecidedByWeights, IsMadeOfBoth, Reading}
use Rattle.constriction_model.specs.Model.{StandForRows}
use Rattle.constriction_model.specs.Rows.{Row, contiguous_rows, rows_of}
use Rattle.constriction_model.specs.declared.error.ModelError.{ModelError}
use Rattle.constriction_model.specs.declared.error.ModelError.TheVariants.{InvalidTable, OutOfMemory}
use Rattle.constriction_stored_rows.proofs.MadeLemmas.{made-unrefused}

module _ {Symbol Word Source Model : Type 0} (Accepted : List Symbol → List ℕ → Type 0) (completes : List ℕ → List ℕ)
    (ReadSymbols : Reading → List Symbol → Type 0) (Read : Reading → List Word → Type 0) (whole : Word → ℕ)
    (rows : Model → List (Row Symbol)) where
  -- a model that is made of another has the rows of its symbols and weights
  pub made_of_both : (known : Source → List (Row Symbol)) (v : Source) (result : Result Model ModelError)
      → IsMadeOfBoth Accepted completes ReadSymbols Read whole (λ v ss ws. known v ≡ rows_of ss ws) (Ok v)
      → IfOk result (λ m. rows m ≡ known v) → IfErr result (λ e. e ≡ OutOfMemory)
      → IsMadeOfBoth Accepted completes ReadSymbols Read whole (λ m ss ws. rows m ≡ rows_of ss ws) result
  made_of_both known v (Ok m) read made memory =
      let ok = read.ok in
      record { ok = (ok.0, ok.1, ok.2, ok.3, ok.4, made ∙ ok.5); invalid = λ is. absurd (made-unrefused _ _ is) }
  made_of_both known v (Err e) read made memory = record {
    ok = tt;
    invalid = λ is.
        let bad : OutOfMemory ≡ InvalidTable = cc in
        absurd cc;
  }

  -- what refuses the first model refuses the one made of it
  pub refused_both : (Tells : Source → List Symbol → List ℕ → Type 0) (e : ModelError)
      → IsMadeOfBoth Accepted completes ReadSymbols Read whole Tells (Err e)
      → IsMadeOfBoth Accepted completes ReadSymbols Read whole (λ m ss ws. rows m ≡ rows_of ss ws) (Err e)
  refused_both Tells e read = record {
    ok = tt;
    invalid = λ is.
        let bad : e ≡ InvalidTable = cc in
        read.invalid cc;
  }

-- what is said of a model, a constructor says of a model of the same rows
module _ {J S K T Symbol Word Source Model : Type 0} (Accepted : List Symbol → List ℕ → Type 0) (completes : List ℕ → List ℕ)
    (becomes : J → S → Type 0) (steps : S → Option Symbol → S → Type 0) (from : J)
    (other_becomes : K → T → Type 0) (other_steps : T → Option Word → T → Type 0) (other : K) (whole : Word → ℕ)
    (rows : Model → List (Row Symbol)) where
  -- the same of known lists of symbols and weights
  pub decided_of_both : (known : Source → List (Row Symbol)) (v : Source) (result : Result Model ModelError)
      → IsDecidedByBoth Accepted completes becomes steps from other_becomes other_steps other whole (λ v ss ws. known v ≡ rows_of ss ws)
      (Ok v)
      → IfOk result (λ m. rows m ≡ known v) → IfErr result (λ e. e ≡ OutOfMemory)
      → IsDecidedByBoth Accepted completes becomes steps from other_becomes other_steps other whole (λ m ss ws. rows m ≡ rows_of ss ws)
      result
  decided_of_both known v (Ok m) read made memory = record {
    made = made_of_both Accepted completes _ _ whole rows known v (Ok m) read.made made memory;
    accepted = read.accepted;
    rows = λ symbols weights gives others. made ∙ read.rows symbols weights gives others;
    invalid = λ symbols weights gives others is. absurd (made-unrefused _ _ is);
  }
  decided_of_both known v (Err e) read made memory = record {
    made = made_of_both Accepted completes _ _ whole rows known v (Err e) read.made made memory;
    accepted = λ symbols weights gives others. tt;
    rows = λ symbols weights gives others. tt;
    invalid = λ symbols weights gives others is.
        let bad : OutOfMemory ≡ InvalidTable = cc in
        absurd cc;
  }

  -- what refuses the first model of known lists refuses the one made of it
  pub error_of_both : (Tells : Source → List Symbol → List ℕ → Type 0) (e : ModelError)
      → IsDecidedByBoth Accepted completes becomes steps from other_becomes other_steps other whole Tells (Err e)
      → IsDecidedByBoth Accepted completes becomes steps from other_becomes other_steps other whole (λ m ss ws. rows m ≡ rows_of ss ws)
      (Err e)
  error_of_both Tells e read = record {
    made = refused_both Accepted completes _ _ whole rows Tells e read.made;
    accepted = λ symbols weights gives others. tt;
    rows = λ symbols weights gives others. tt;
    invalid = λ symbols weights gives others is.
        let bad : e ≡ InvalidTable = cc in
        read.invalid symbols weights gives others cc;
  }

module _ {J S Word Source Model : Type 0} (Accepted : List ℕ → Type 0) (completes : List ℕ → List ℕ)
    (becomes : J → S → Type 0) (steps : S → Option Word → S → Type 0) (from : J) (whole : Word → ℕ) (rows : Model → List (Row ℕ)) where
  -- a model that is made of another has the rows of its known weights
  pub decided_of_weights : (known : Source → List (Row ℕ)) (v : Source) (result : Result Model ModelError)
      → IsDecidedByWeights Accepted completes becomes steps from whole (λ v ws. known v ≡ contiguous_rows ws) (Ok v)
      → IfOk result (λ m. rows m ≡ known v) → IfErr result (λ e. e ≡ OutOfMemory)
      → IsDecidedByWeights Accepted completes becomes steps from whole (λ m ws. rows m ≡ contiguous_rows ws) result
  decided_of_weights known v (Ok m) read made memory =
      let ok = read.made.ok in
      record {
        made = record { ok = (ok.0, ok.1, ok.2, made ∙ ok.3); invalid = λ is. absurd (made-unrefused _ _ is) };
        accepted = read.accepted;
        rows = λ weights gives. made ∙ read.rows weights gives;
        invalid = λ weights gives is. absurd (made-unrefused _ _ is);
      }
  decided_of_weights known v (Err e) read made memory = record {
    made = record {
      ok = tt;
      invalid = λ is.
          let bad : OutOfMemory ≡ InvalidTable = cc in
          absurd cc;
    };
    accepted = λ weights gives. tt;
    rows = λ weights gives. tt;
    invalid = λ weights gives is.
        let bad : OutOfMemory ≡ InvalidTable = cc in
        absurd cc;
  }

  -- what refuses the first model of known weights refuses the one made of it
  pub error_of_weights : (Tells : Source → List ℕ → Type 0) (e : ModelError)
      → IsDecidedByWeights Accepted completes becomes steps from whole Tells (Err e)
      → IsDecidedByWeights Accepted completes becomes steps from whole (λ m ws. rows m ≡ contiguous_rows ws) (Err e)
  error_of_weights Tells e read = record {
    made = record {
      ok = tt;
      invalid = λ is.
          let bad : e ≡ InvalidTable = cc in
          read.made.invalid cc;
    };
    accepted = λ weights gives. tt;
    rows = λ weights gives. tt;
    invalid = λ weights gives is.
        let bad : e ≡ InvalidTable = cc in
        read.invalid weights gives cc;
  }

-- a model of the rows of another one, or of rows that stand for them
pub rows_same : {Symbol Model Error : Type 0} (rows : Model → List (Row Symbol)) (made others : List (Row Symbol)) (r : Result Model Error)
    → IfOk r (λ m. rows m ≡ made) → made ≡ others → IfOk r (λ m. rows m ≡ others)
rows_same rows made others (Ok m) is same = is ∙ same
rows_same rows made others (Err e) is same = tt

-- a model of rows that stand for others has such rows
pub rows_stand : {Symbol Model Error : Type 0} (Stands : Symbol → Symbol → Type 0) (rows : Model → List (Row Symbol))
    (made others : List (Row Symbol)) (r : Result Model Error) → IfOk r (λ m. rows m ≡ made) → StandForRows Stands made others
    → IfOk r (λ m. StandForRows Stands (rows m) others)
rows_stand {Symbol = Symbol} Stands rows made others (Ok m) is stand =
    subst (λ (rs : List (Row Symbol)). StandForRows Stands rs others) (sym is) stand
rows_stand Stands rows made others (Err e) is stand = tt
