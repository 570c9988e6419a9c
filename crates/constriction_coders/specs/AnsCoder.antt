-- A stack coder as one value: what it holds, what its calls answer and leave, and what its backend was given.
use Rattle.std.specs.Prelude.{◌≡◌, ℕ, ◌+◌, ◌*◌, ◌^◌, ◌<◌, ◌⊎◌, List, [], ◌∷◌, Option, Some, None, Result, Ok, Err, MatchResult, IfErr}
use Rattle.std.specs.Prelude.{OnErr}
use Rattle.std.specs.declared.fmt.Debug as shown
use Rattle.constriction_words.specs.declared.CoderError.{CoderError}
use Rattle.constriction_words.specs.declared.CoderError.TheVariants.{Frontend, Backend}
use Rattle.constriction_words.specs.declared.Stack.{Stack}
use Rattle.constriction_backends.specs.declared.ReadWords as source
use Rattle.constriction_backends.specs.declared.StackSource as stack
use Rattle.constriction_model.specs.Rows.{Row}
use Rattle.constriction_backends.specs.Sink.{Writes}
use Rattle.constriction_backends.specs.Source.{GivesAnswers}
use Rattle.constriction_coders.specs.Compressed.{AreAllWordsOf}
use Rattle.constriction_coders.specs.Steps.{Content, content, IsDecodingFault, ReadsAtMostOne, backend_result}
use Rattle.constriction_backends.specs.Sink.{StopsAtWord}
use Rattle.constriction_coders.specs.declared.stack.ans_coder.AnsCoder.{AnsCoder}

-- no state was read: the word on top is 0, which belongs to no state; or the first or the second read failed
abbrev pub ReadsNoState : {S E : Type 0} → (S → Result (Option ℕ) E → S → Type 0) → S → CoderError S E → Type 0
ReadsNoState gives from (Frontend left) = GivesAnswers gives from (Ok (Some 0) ∷ []) left
ReadsNoState {S} gives from (Backend error) =
    (left : S)
    × (GivesAnswers gives from (Err error ∷ []) left ⊎ ((high : ℕ) × GivesAnswers gives from (Ok (Some high) ∷ Err error ∷ []) left))

module _ {S ReadError : Type 0} {words : stack.Ghosts S ℕ ReadError} {reads : source.Ghosts S ℕ Stack ReadError}
    {shows : shown.Ghosts ReadError} where
  -- the state of a coder, and the words under it
  abbrev pub held_by : AnsCoder S ReadError words reads shows → Content
  held_by coder = content coder.state (words.words_of coder.words)

  -- `gives s word r t` says that a write of the word to s may answer r and leave t
  module _ {WriteError : Type 0} (gives : S → ℕ → Result (Unit {0}) WriteError → S → Type 0) where
    -- the words of the coder's state were written to the words under it: all of them, or those before one that was refused
    abbrev pub WritesState : AnsCoder S ReadError words reads shows → Result S WriteError → Type 0
    WritesState coder r =
        (own : List ℕ) × AreAllWordsOf (content coder.state []) own
        × MatchResult r
        (λ to. Writes gives coder.words own to)
        (λ error. (left : S) × StopsAtWord gives coder.words own error left)

  -- what a coder says of decoding a symbol, beside the symbol: why there is none, at most one word was read, and an error leaves the rest
  pub record DecodesFromStack {Symbol Fault : Type 0} (MayRefuse : Symbol → Type 0) (rows : List (Row Symbol)) (precision : ℕ)
      (old : AnsCoder S ReadError words reads shows) (answer : Result Symbol (CoderError Fault ReadError))
      (new : AnsCoder S ReadError words reads shows) : Type 0 where
    pub fault : IfErr answer (λ error. IsDecodingFault MayRefuse rows precision error (held_by old))
    pub read : ReadsAtMostOne reads.read_gives old.words (backend_result answer) new.words
    pub same : OnErr answer (held_by new ≡ held_by old)

  -- the words of a coder's state were read from the top: two, or fewer and then the end; or none were
  abbrev pub ReadsState : S → Result (AnsCoder S ReadError words reads shows) (CoderError S ReadError) → Type 0
  ReadsState from (Ok coder) =
      ((coder.state ≡ 0) × GivesAnswers reads.read_gives from (Ok None ∷ []) coder.words)
      ⊎ ((0 < coder.state) × (coder.state < 2 ^ 32)
      × GivesAnswers reads.read_gives from (Ok (Some coder.state) ∷ Ok None ∷ []) coder.words)
      ⊎ ((high : ℕ) × (low : ℕ) × (0 < high) × (coder.state ≡ high * 2 ^ 32 + low)
      × GivesAnswers reads.read_gives from (Ok (Some high) ∷ Ok (Some low) ∷ []) coder.words)
  ReadsState from (Err error) = ReadsNoState reads.read_gives from error
