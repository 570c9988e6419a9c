-- Which weights a model accepts, and what a constructor that reads them from an iterator says of them.
use Rattle.std.specs.Prelude.{◌≡◌, ℕ, ◌-◌, ◌^◌, ◌<◌, ◌≤◌, Bool, true, List, [], ◌∷◌, ◌++◌, length, map, sum, slice_index_or, All, Option, Result, Err, IfOk, IfSome, if◌then◌else◌}
use Rattle.std.specs.List.{IsDistinct}
use Rattle.std.specs.Iterator.{Drains, Yields}
use Rattle.std.specs.Iterator.Runs.{EachRunFrom}
use Rattle.constriction_model.specs.declared.error.ModelError.{ModelError}
use Rattle.constriction_model.specs.declared.error.ModelError.TheVariants.{InvalidTable}

-- weights tile the quantiles below 2 ^ precision: none is 0, and nothing is left over
pub record Tiles (precision : ℕ) (weights : List ℕ) : Type 0 where
  pub positive : All (λ w. 0 < w) weights
  pub total : sum weights ≡ 2 ^ precision

-- The weights, and if the last one is inferred, after them what they leave of 2 ^ precision.
-- If they leave nothing, or exceed it, this is 0, and weights with a 0 among them never tile.
abbrev pub completed : ℕ → Bool → List ℕ → List ℕ
completed precision infer weights = if infer then weights ++ (2 ^ precision - sum weights) ∷ [] else weights

-- completed weights that a model over words of `bits` bits accepts: they tile, and each of them is the number of a word
pub record IsAccepted (bits precision : ℕ) (weights : List ℕ) : Type 0 where
  pub tiles : Tiles precision weights
  pub fit : All (λ w. w < 2 ^ bits) weights

-- symbols and completed weights that a model of any symbols accepts: the weights are accepted, there are exactly as many symbols, and no
-- two symbols are equal
pub record AreAccepted {Symbol : Type 0} (eq : Symbol → Symbol → Bool) (bits precision : ℕ) (symbols : List Symbol) (weights : List ℕ)
    : Type 0 where
  pub tile : IsAccepted bits precision weights
  pub as_many : length symbols ≡ length weights
  pub distinct : IsDistinct eq symbols

-- ---- what was read, and what a constructor makes of it

-- whether an iterator was read to its end, or only up to some item
pub data Reading : Type 0 where
  ToItsEnd : Reading
  SoFar : Reading

-- xs was read from the iterator
abbrev pub WasRead : {S A : Type 0} → (S → Option A → S → Type 0) → S → Reading → List A → Type 0
WasRead steps it ToItsEnd xs = Drains steps it xs
WasRead {S} steps it SoFar xs = (t : S) × Yields steps it xs t

-- xs was read from a value, by an iterator that it becomes
pub record WasReadOf {J S A : Type 0} (becomes : J → S → Type 0) (steps : S → Option A → S → Type 0) (from : J) (reading : Reading)
    (xs : List A) : Type 0 where
  pub iterator : S
  pub became : becomes from iterator
  pub was_read : WasRead steps iterator reading xs

-- a list that the iterator may give in all, after xs was read from it: xs if it was read to its end, else any list that begins with xs
abbrev pub MayGive : {A : Type 0} → Reading → List A → List A → Type 0
MayGive ToItsEnd xs all = all ≡ xs
MayGive {A} SoFar xs all = (ys : List A) × (all ≡ xs ++ ys)

-- If there is a model, the weights were read to their end and are accepted, and `Tells` relates the model to them. The result is
-- InvalidTable only if the iterator, after what was read from it, can give no accepted list. `completes` adds to the numbers that are read
-- the weight that is inferred, if one is.
pub record IsMadeOfWeights {Word Model : Type 0} (Accepted : List ℕ → Type 0) (completes : List ℕ → List ℕ)
    (Read : Reading → List Word → Type 0) (whole : Word → ℕ) (Tells : Model → List ℕ → Type 0) (result : Result Model ModelError)
    : Type 0 where
  pub ok : IfOk result (λ m. (ws : List Word) × Read ToItsEnd ws
      × Accepted (completes (map whole ws)) × Tells m (completes (map whole ws)))
  pub invalid : result ≡ Err InvalidTable → (ws : List Word) × (reading : Reading) × Read reading ws
      × ((all : List Word) → MayGive reading ws all → ¬ (Accepted (completes (map whole all))))

-- the same for symbols and weights
pub record IsMadeOfBoth {Symbol Word Model : Type 0} (Accepted : List Symbol → List ℕ → Type 0) (completes : List ℕ → List ℕ)
    (ReadSymbols : Reading → List Symbol → Type 0) (Read : Reading → List Word → Type 0) (whole : Word → ℕ)
    (Tells : Model → List Symbol → List ℕ → Type 0) (result : Result Model ModelError) : Type 0 where
  pub ok : IfOk result (λ m. (ss : List Symbol) × (ws : List Word) × ReadSymbols ToItsEnd ss × Read ToItsEnd ws
      × Accepted ss (completes (map whole ws)) × Tells m ss (completes (map whole ws)))
  pub invalid : result ≡ Err InvalidTable
      → (ss : List Symbol) × (ws : List Word) × (reading other : Reading) × ReadSymbols reading ss × Read other ws
      × ((all : List Symbol) (weights : List Word) → MayGive reading ss all → MayGive other ws weights
      → ¬ (Accepted all (completes (map whole weights))))

-- ---- constructors that are given a known list

-- each iterator that a value becomes gives items that `value` takes to the elements of this list, place by place, and to its end as many as
-- there are
abbrev pub GivesList : {J S A B : Type 0} → (A → B) → (J → S → Type 0) → (S → Option A → S → Type 0) → J → List B → Type 0
GivesList {S = S} value becomes steps from list =
    (it : S) → becomes from it → EachRunFrom steps it (λ p. (p.len ≤ length list) × (p.whole ≡ true → p.len ≡ length list)
    × ((k : ℕ) → k < p.len → IfSome (p.at k) (λ x. value x ≡ slice_index_or list k (value x))))

-- What a constructor says of its result: `made` whatever it reads, and the rest if it reads a known list, which then decides. `Tells`
-- relates a model to the list.
pub record IsDecidedByWeights {J S Word Model : Type 0} (Accepted : List ℕ → Type 0) (completes : List ℕ → List ℕ)
    (becomes : J → S → Type 0) (steps : S → Option Word → S → Type 0) (from : J) (whole : Word → ℕ) (Tells : Model → List ℕ → Type 0)
    (result : Result Model ModelError) : Type 0 where
  pub made : IsMadeOfWeights Accepted completes (WasReadOf becomes steps from) whole Tells result
  pub accepted : (weights : List ℕ) → GivesList whole becomes steps from weights → IfOk result (λ _. Accepted (completes weights))
  pub rows : (weights : List ℕ) → GivesList whole becomes steps from weights → IfOk result (λ m. Tells m (completes weights))
  pub invalid : (weights : List ℕ) → GivesList whole becomes steps from weights
      → result ≡ Err InvalidTable → ¬ (Accepted (completes weights))

-- the same for symbols and weights
pub record IsDecidedByBoth {J S K T Symbol Word Model : Type 0} (Accepted : List Symbol → List ℕ → Type 0) (completes : List ℕ → List ℕ)
    (becomes : J → S → Type 0) (steps : S → Option Symbol → S → Type 0) (from : J)
    (other_becomes : K → T → Type 0) (other_steps : T → Option Word → T → Type 0) (other : K) (whole : Word → ℕ)
    (Tells : Model → List Symbol → List ℕ → Type 0) (result : Result Model ModelError) : Type 0 where
  pub made : IsMadeOfBoth Accepted completes (WasReadOf becomes steps from) (WasReadOf other_becomes other_steps other) whole Tells result
  pub accepted : (symbols : List Symbol) (weights : List ℕ) → GivesList (λ s. s) becomes steps from symbols
      → GivesList whole other_becomes other_steps other weights → IfOk result (λ _. Accepted symbols (completes weights))
  pub rows : (symbols : List Symbol) (weights : List ℕ) → GivesList (λ s. s) becomes steps from symbols
      → GivesList whole other_becomes other_steps other weights → IfOk result (λ m. Tells m symbols (completes weights))
  pub invalid : (symbols : List Symbol) (weights : List ℕ) → GivesList (λ s. s) becomes steps from symbols
      → GivesList whole other_becomes other_steps other weights → result ≡ Err InvalidTable → ¬ (Accepted symbols (completes weights))

-- whichever iterator a value becomes, no two of the symbols that it gives are equal
abbrev pub GivesDistinct : {J S Symbol : Type 0} → (J → S → Type 0) → (S → Option Symbol → S → Type 0)
    → (Symbol → Symbol → Bool) → J → Type 0
GivesDistinct {S = S} becomes steps eq from =
    (it : S) → becomes from it → EachRunFrom steps it (λ p. p.whole ≡ true → IsDistinct eq p.items)
