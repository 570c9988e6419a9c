-- Symbols that a coder decodes one after the other, whatever coder it is.
use Rattle.std.specs.Prelude.{◌≡◌, ℕ, ◌<◌, ◌⊎◌, List, [], Result, Err, IfOk, length}
use Rattle.constriction_model.specs.Coding.{InTurn}
use Rattle.constriction_words.specs.declared.CoderError.{CoderError}
use Rattle.constriction_words.specs.declared.CoderError.TheVariants.{Frontend}

-- `Tells` is what else a coder says of an answer.
module _ {Coder Content Symbol Fault E : Type 0} (held : Coder → Content) (IsDecoded : Symbol → Content → Content → Type 0)
    (Tells : Coder → Result Symbol (CoderError Fault E) → Coder → Type 0) where
  -- what decoding a symbol answers and leaves
  pub record Decodes (old : Coder) (answer : Result Symbol (CoderError Fault E)) (new : Coder) : Type 0 where
    pub ok : IfOk answer (λ symbol. IsDecoded symbol (held old) (held new))
    pub step : Tells old answer new

  -- fewer than `count` symbols were decoded, and the next one was not; or none was, because memory for all of them was refused
  pub record DecodingStops (IsRefusal : Fault → Type 0) (count : ℕ) (error : CoderError Fault E) (old : Content) (new : Coder)
      : Type 0 where
    pub done : List Symbol
    pub reached : Coder
    pub led : InTurn IsDecoded done old (held reached)
    pub why : ((length done < count) × Tells reached (Err error) new)
        ⊎ ((done ≡ []) × (new ≡ reached) × (fault : Fault) × IsRefusal fault × (error ≡ Frontend fault))
