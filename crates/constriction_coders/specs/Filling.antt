-- Symbols that a coder decodes into a list which has a place for each.
use Rattle.std.specs.Prelude.{◌≡◌, ℕ, ◌<◌, ◌≤◌, List, ◌++◌, Result, Err, drop, length}
use Rattle.constriction_model.specs.Coding.{InTurn}
use Rattle.constriction_words.specs.declared.CoderError.{CoderError}

module _ {Coder Content Symbol : Type 0} (held : Coder → Content) (IsDecoded : Symbol → Content → Content → Type 0) where
  -- The symbols that were decoded stand in the first places, and the others are as they were.
  pub record FirstAreFilled (before after : List Symbol) (old : Content) (reached : Coder) : Type 0 where
    pub done : List Symbol
    pub filled : after ≡ done ++ drop (length done) before
    pub within : length done ≤ length before
    pub led : InTurn IsDecoded done old (held reached)

  -- as many places as that are filled
  abbrev pub IsFilledTo : ℕ → (before after : List Symbol) (old : Content) (reached : Coder) → Type 0
  IsFilledTo count before after old reached = (first : FirstAreFilled before after old reached) × (length first.done ≡ count)

  -- `Tells` is what else a coder says of an answer. Fewer symbols than there are places were decoded, and the next one was not.
  pub record FillingStops {Fault E : Type 0} (Tells : Coder → Result Symbol (CoderError Fault E) → Coder → Type 0)
      (before after : List Symbol) (error : CoderError Fault E) (old : Content) (new : Coder) : Type 0 where
    pub reached : Coder
    pub first : FirstAreFilled before after old reached
    pub fewer : length first.done < length before
    pub step : Tells reached (Err error) new
