-- Symbols that are predicted: each is coded in a state, by the rows that the state predicts, and leads to the next state.
use Rattle.std.specs.Prelude.{◌≡◌, ℕ, ◌*◌, ◌^◌, ◌<◌, ◌⊎◌, All, Bool, List, [], ◌∷◌, ◌++◌, fold, length, Option, Some, None, Result, Ok, Err}
use Rattle.std.specs.Iterator.{Drains, YieldsThen}
use Rattle.constriction_model.specs.Coding.{InTurn}
use Rattle.constriction_words.specs.declared.CoderError.{CoderError}
use Rattle.constriction_words.specs.declared.CoderError.TheVariants.{Frontend, Backend}
use Rattle.constriction_model.specs.Rows.{Row, RowsTile, entry_of}
use Rattle.constriction_coders.specs.Intervals.{Held, IsRead, unit_of}
use Rattle.constriction_coders.specs.Places.{placed, entry_at, IsDecodedAt}
use Rattle.constriction_coders.specs.Spans.{Span}
use Rattle.constriction_coders.specs.Steps.{Content, IsDecoded, IsEncoded}
use Rattle.constriction_adaptive.specs.declared.error.EncoderFrontendError.{EncoderFrontendError}
use Rattle.constriction_adaptive.specs.declared.error.EncoderFrontendError.TheVariants as encoding

-- ---- a symbol in its state

module _ {State Symbol : Type 0} (rows : State → List (Row Symbol)) where
  -- the entry of a symbol by the rows of a state
  abbrev pub predicted_entry : (Symbol → Symbol → Bool) → State → Symbol → Option (ℕ × ℕ)
  predicted_entry eq state = entry_of eq (rows state)

  -- the rows of the states in which these symbols are coded tile the quantiles
  abbrev pub AllTile : (State → Symbol → State) → (precision : ℕ) → State → List Symbol → Type 0
  AllTile next precision first symbols = All (λ place. RowsTile 32 precision (rows place.0)) (placed next first symbols)

  -- a symbol is decoded by the rows of its state
  abbrev pub IsDecodedIn : {C : Type 0} → (Symbol → Symbol → Bool) → (precision : ℕ) → (List (Row Symbol) → Symbol → C → C → Type 0)
      → State × Symbol → C → C → Type 0
  IsDecodedIn eq = IsDecodedAt eq (predicted_entry eq) rows

  module _ (Stands : Symbol → Symbol → Type 0) (eq : Symbol → Symbol → Bool) (precision : ℕ) where
    -- the same from a range coder
    abbrev pub IsReadIn : {S E : Type 0} → (S → Result (Option ℕ) E → S → Type 0) → State × Symbol → Held S → Held S → Type 0
    IsReadIn gives = IsDecodedIn eq precision (λ own. IsRead Stands own gives precision)

    -- the same from a stack
    abbrev pub IsTakenIn : State × Symbol → Content → Content → Type 0
    IsTakenIn = IsDecodedIn eq precision (λ own. IsDecoded Stands own precision)

-- ---- why a symbol was not coded

-- The symbol of a place has no entry; memory to learn it was refused; or memory was refused to a word that was to be written.
abbrev pub IsEncodingFault : {Place E : Type 0} → (Place → Option (ℕ × ℕ)) → (precision : ℕ) → CoderError EncoderFrontendError E → Place
    → Span → Type 0
IsEncodingFault entry precision (Frontend encoding.ImpossibleSymbol) place s = entry place ≡ None
IsEncodingFault entry precision (Frontend encoding.OutOfMemory) place s = Unit {0}
IsEncodingFault entry precision (Backend error) place s =
    (left weight : ℕ) × (entry place ≡ Some (left, weight)) × (unit_of precision s.size * weight < 2 ^ 32)

-- why the next symbol was not decoded, and what that left: memory to learn it was refused, which leaves the coder; or the coder tells why
abbrev pub IsNotDecoded : {Coder Symbol Fault E : Type 0} → (IsRefusal : Fault → Type 0)
    → (Tells : Coder → Result Symbol (CoderError Fault E) → Coder → Type 0) → CoderError Fault E → (old new : Coder) → Type 0
IsNotDecoded {Fault = Fault} IsRefusal Tells error old new =
    ((fault : Fault) × IsRefusal fault × (error ≡ Frontend fault) × (new ≡ old)) ⊎ Tells old (Err error) new

-- ---- several symbols

module _ {State Symbol C : Type 0} (next : State → Symbol → State) (Step : State × Symbol → C → C → Type 0) where
  -- the symbols were coded and learned, the first one in the state `first`
  pub record AreCoded (symbols : List Symbol) (first : State) (old : C) (last : State) (new : C) : Type 0 where
    pub led : InTurn Step (placed next first symbols) old new
    pub learned : last ≡ fold next first symbols

  -- the symbols before one were coded and learned, and that one was neither
  pub record AdaptiveEncodingStops (Fault : State × Symbol → C → Type 0) (symbols : List Symbol) (first : State) (old : C) (last : State)
      (new : C)
      : Type 0 where
    pub done : List Symbol
    pub symbol : Symbol
    pub after : List Symbol
    pub split : symbols ≡ done ++ symbol ∷ after
    pub coded : AreCoded done first old last new
    pub fault : Fault (last, symbol) new

  -- fewer than `count` symbols were decoded and learned, and the next one was neither; or none was, because memory for all was refused
  pub record AdaptiveDecodingStops {Coder Fault E : Type 0} (held : Coder → C) (IsRefusal : Fault → Type 0)
      (Tells : State → Coder → Result Symbol (CoderError Fault E) → Coder → Type 0) (count : ℕ) (error : CoderError Fault E)
      (first : State) (old : C) (last : State) (new : Coder) : Type 0 where
    pub done : List Symbol
    pub reached : Coder
    pub coded : AreCoded done first old last (held reached)
    pub why : ((length done < count) × IsNotDecoded IsRefusal (Tells last) error reached new)
        ⊎ ((done ≡ []) × (new ≡ reached) × (fault : Fault) × IsRefusal fault × (error ≡ Frontend fault))

-- some of the symbols were learned, from the first one on
abbrev pub FirstAreLearned : {State Symbol : Type 0} → (State → Symbol → State) → List Symbol → State → State → Type 0
FirstAreLearned {Symbol = Symbol} next symbols first last =
    (done : List Symbol) × (after : List Symbol) × (symbols ≡ done ++ after) × (last ≡ fold next first done)

-- Symbols up to one were learned, and nothing was encoded: that one has no entry, or memory was refused.
abbrev pub StopsPredicting : {State Symbol : Type 0} → (State → Symbol → State) → (State → Symbol → Option (ℕ × ℕ)) → List Symbol
    → EncoderFrontendError → State → State → Type 0
StopsPredicting {Symbol = Symbol} next entry symbols encoding.ImpossibleSymbol first last =
    (done : List Symbol) × (symbol : Symbol) × (after : List Symbol) × (symbols ≡ done ++ symbol ∷ after) × (last ≡ fold next first done)
    × (entry last symbol ≡ None)
StopsPredicting next entry symbols encoding.OutOfMemory first last = FirstAreLearned next symbols first last

-- ---- on a stack, where symbols are encoded from the last one to the first

module _ {State Symbol : Type 0} (next : State → Symbol → State) where
  -- the symbols were learned and then encoded, so that the first one is on top
  pub record AreStacked (entry : State × Symbol → Option (ℕ × ℕ)) (precision : ℕ) (symbols : List Symbol) (first : State) (old : Content)
      (last : State) (new : Content) : Type 0 where
    pub led : InTurn (λ s. IsEncoded (entry s) precision) (placed next first symbols) new old
    pub learned : last ≡ fold next first symbols

  -- Nothing was encoded, since a symbol has no entry or memory was refused; or all symbols were learned, and a write failed after those
  -- after a symbol were encoded.
  abbrev pub StackingStops : {E : Type 0} → (State → Symbol → Option (ℕ × ℕ)) → (precision : ℕ) → List Symbol
      → CoderError EncoderFrontendError E → State → Content → State → Content → Type 0
  StackingStops entry precision symbols (Frontend error) first old last new =
      StopsPredicting next entry symbols error first last × (new ≡ old)
  StackingStops entry precision symbols (Backend error) first old last new =
      (done : List Symbol) × (symbol : Symbol) × (after : List Symbol) × (symbols ≡ done ++ symbol ∷ after)
      × (last ≡ fold next first symbols)
      × InTurn (λ s. IsEncoded (entry_at entry s) precision) (placed next (next (fold next first done) symbol) after) new old

  -- The symbols that an iterator gives were learned and then encoded; or one was given and not learned, which has no entry or memory was
  -- refused, and nothing was encoded; or all were learned, and a write failed after those after a symbol were encoded.
  abbrev pub StacksItems : {I E : Type 0} → (I → Option Symbol → I → Type 0) → (State → Symbol → Option (ℕ × ℕ)) → (precision : ℕ) → I
      → Result (Unit {0}) (CoderError EncoderFrontendError E) → State → Content → State → Content → Type 0
  StacksItems gives entry precision items (Ok _) first old last new =
      (symbols : List Symbol) × Drains gives items symbols × AreStacked (entry_at entry) precision symbols first old last new
  StacksItems {I} gives entry precision items (Err (Frontend error)) first old last new =
      (done : List Symbol) × (symbol : Symbol) × (rest : I) × YieldsThen gives items done (Some symbol) rest
      × (last ≡ fold next first done) × (error ≡ encoding.ImpossibleSymbol → entry last symbol ≡ None) × (new ≡ old)
  StacksItems gives entry precision items (Err (Backend error)) first old last new =
      (symbols : List Symbol) × Drains gives items symbols
      × StackingStops entry precision symbols (Backend error) first old last new
