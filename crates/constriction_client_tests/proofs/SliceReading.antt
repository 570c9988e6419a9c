-- What reading gives if the upcoming words are known.
use Rattle.std.specs.Prelude.{◌≡◌, ◌<◌, ◌≤◌, ◌⊎◌, ℕ, List, [], ◌++◌, length, take, Result, Ok, Err, IfOk}
use Rattle.std.proofs.Common.{ap, sym, ◌∙◌, subst, arith, inl, inr}
use Rattle.std.proofs.lemmas.List.{append-nil, take_all, take_at}
use Rattle.std.proofs.lemmas.Slice.Zip.{AllZip-long}
use Rattle.constriction.specs.Model.{RowMayBeRefused}
use Rattle.constriction.specs.Rows.{Row}
use Rattle.constriction_words.specs.declared.coder_error.CoderError.{CoderError}
use Rattle.constriction_words.specs.declared.coder_error.CoderError.TheVariants.{Frontend}
use Rattle.constriction_backends.specs.declared.ReadWords as source
use Rattle.constriction_client.specs.declared.quantiles.ReadFault.{ReadFault}
use Rattle.constriction_client.specs.declared.quantiles.ReadFault.TheVariants.{OutOfMemory}
use Rattle.constriction_client.specs.Quantiles.{ArePairs, GivesPair, ReadsPairs}
use Rattle.constriction_client.specs.lemmas.Pairs.{are-pairs}

-- The words of `many` pairs: as many as were asked for, or all if there are fewer. `n` is the answer.
asked-for : {Word P Q : Type 0} (count n many : ℕ) (upcoming words rest : List Word) → upcoming ≡ words ++ rest → n ≡ many
    → many ≡ length words → ((many ≡ count) × P) ⊎ ((many < count) × Q) → (n < count → rest ≡ []) → take count upcoming ≡ words
asked-for count n many upcoming words rest split same long (inl end) none =
    ap (take count) split ∙ take_at words rest count (sym long ∙ end.0)
asked-for count n many upcoming words rest split same long (inr end) none =
    let all : upcoming ≡ words = split ∙ ap (λ more. words ++ more) (none (omega (arith, same, end.0))) ∙ append-nil words in
    ap (take count) all ∙ take_all count words (omega (arith, long, end.0))

module _ {Symbol Word Order Source Error : Type 0} (Stands : Symbol → Symbol → Type 0) (rows : List (Row Symbol)) (whole : Word → ℕ)
    (precision : ℕ) (MayRefuse : Symbol → Type 0) (capacity : ℕ) (reads : source.Ghosts Source Word Order Error) (count : ℕ) (s : Source)
    (old : List (Symbol × Word)) (t : Source) (new : List (Symbol × Word)) where
  abbrev MayLackMemory : ℕ → Type 0
  MayLackMemory q = RowMayBeRefused MayRefuse rows q ⊎ (capacity ≤ length new)

  abbrev Gives : Word → Result (Symbol × Word) ReadFault → Type 0
  Gives = GivesPair Stands rows whole precision MayLackMemory

  -- the pairs that were added are the pairs of the first `count` upcoming words, or of all if there are fewer
  pub pairs-if-read : (r : Result ℕ (CoderError ReadFault Error)) (upcoming : List Word) → ReadsPairs reads Gives count s old r t new
      → reads.tells_upcoming s upcoming
      → IfOk r (λ n. (pairs : List (Symbol × Word)) × ArePairs Stands rows whole (take count upcoming) pairs × (length pairs ≡ n)
      × (new ≡ old ++ pairs))
  pairs-if-read (Ok n) upcoming r known =
      let adds = r.adds in
      let left = r.known upcoming known in
      let split : upcoming ≡ adds.words ++ left.0 = left.1 ∙ ap (λ more. adds.words ++ (more ++ left.0)) r.ended.1 in
      let long : length adds.pairs ≡ length adds.words =
      AllZip-long (λ word pair. Gives word (Ok pair)) adds.words adds.pairs adds.of_words in
      let first : take count upcoming ≡ adds.words =
      asked-for count n (length adds.pairs) upcoming adds.words left.0 split r.ended.0 long r.ended.2 left.3 in (
        adds.pairs,
        rw first (are-pairs Stands rows whole precision MayLackMemory adds.words adds.pairs adds.of_words),
        sym r.ended.0,
        adds.added,
      )
  pairs-if-read (Err e) upcoming r known = tt

-- if memory was refused, it was for a word that gives this fault
pub if-refused : {Word Pair Order Source Error P : Type 0} (reads : source.Ghosts Source Word Order Error)
    (Gives : Word → Result Pair ReadFault → Type 0) (count : ℕ) (s : Source) (old : List Pair) (t : Source) (new : List Pair)
    (r : Result ℕ (CoderError ReadFault Error)) → ReadsPairs reads Gives count s old r t new
    → ((word : Word) → Gives word (Err OutOfMemory) → P) → r ≡ Err (Frontend OutOfMemory) → P
if-refused reads Gives count s old t new r read given is =
    let at : ReadsPairs reads Gives count s old (Err (Frontend OutOfMemory)) t new =
    subst (λ x. ReadsPairs reads Gives count s old x t new) is read in
    given at.ended.0 at.ended.4
