-- What a coder holds, and what a step does to it.
use Rattle.std.specs.Prelude.{◌≡◌, ◌≢◌, ℕ, ◌+◌, ◌*◌, ◌%◌, ◌^◌, ◌<◌, ◌≤◌, ◌⊎◌, List, [], ◌∷◌, ◌++◌, Option, Some, Result, Ok, Err}
use Rattle.constriction_words.specs.declared.CoderError.{CoderError}
use Rattle.constriction_words.specs.declared.CoderError.TheVariants.{Frontend, Backend}
use Rattle.constriction_model.specs.Model.{RowMayBeRefused}
use Rattle.constriction_model.specs.Rows.{Row, IsRowOf}
use Rattle.constriction_coders.specs.States.{taken}

-- the state, and the words under it, the last one on top
pub record Content : Type 0 where
  pub state : ℕ
  pub words : List ℕ

-- the same, from both
abbrev pub content : ℕ → List ℕ → Content
content s ws = record { state = s; words = ws }

-- a state below 2 ^ 32 has no words under it
abbrev pub IsWhole : ℕ → List ℕ → Type 0
IsWhole state words = state < 2 ^ 32 → words ≡ []

-- a coder may hold this: its state has 64 bits, and there are words under it only if it is at least 2 ^ 32
pub record MayBeHeld (c : Content) : Type 0 where
  pub fits : c.state < 2 ^ 64
  pub whole : IsWhole c.state c.words

-- a state below 2 ^ 32 takes the word on top if there is one, and otherwise nothing changes; `new` is the result
abbrev pub Refills : ℕ → List ℕ → Content → Type 0
Refills state words new =
    (IsWhole state words × (new ≡ content state words))
    ⊎ ((state < 2 ^ 32) × (word : ℕ) × (word < 2 ^ 32) × (words ≡ new.words ++ word ∷ []) × (new.state ≡ state * 2 ^ 32 + word))

-- `full` has a symbol of this entry on top of `rest`
pub record IsOnTop (precision left weight : ℕ) (full rest : Content) : Type 0 where
  pub from : left ≤ full.state % 2 ^ precision
  pub to : full.state % 2 ^ precision < left + weight
  pub within : left + weight ≤ 2 ^ precision
  pub under : Refills (taken precision left weight full.state) full.words rest

-- `full` has a symbol on top of `rest` that has this entry
pub record IsEncoded (entry : Option (ℕ × ℕ)) (precision : ℕ) (full rest : Content) : Type 0 where
  pub left : ℕ
  pub weight : ℕ
  pub known : entry ≡ Some (left, weight)
  pub top : IsOnTop precision left weight full rest

-- `full` has on top of `rest` the row that these rows have for its quantile, and the symbol stands for that of the row
pub record IsDecoded {Symbol : Type 0} (Stands : Symbol → Symbol → Type 0) (rows : List (Row Symbol)) (precision : ℕ) (symbol : Symbol)
    (full rest : Content) : Type 0 where
  pub row : Row Symbol
  pub found : IsRowOf rows (full.state % 2 ^ precision) row
  pub stands : Stands row.symbol symbol
  pub top : IsOnTop precision row.left row.weight full rest

-- without a symbol of this entry on top, the state is below 2 ^ 32, and there is a word for it to take
abbrev pub NeedsWord : (precision left weight : ℕ) → Content → Type 0
NeedsWord precision left weight c = (taken precision left weight c.state < 2 ^ 32) × (c.words ≢ [])

-- this is why a symbol was not decoded
abbrev pub IsDecodingFault : {Symbol Fault E : Type 0} → (Symbol → Type 0) → List (Row Symbol) → (precision : ℕ) → CoderError Fault E
    → Content → Type 0
IsDecodingFault MayRefuse rows precision (Frontend fault) c = RowMayBeRefused MayRefuse rows (c.state % 2 ^ precision)
IsDecodingFault {Symbol = Symbol} MayRefuse rows precision (Backend error) c =
    (row : Row Symbol) × IsRowOf rows (c.state % 2 ^ precision) row × NeedsWord precision row.left row.weight c

-- how a call ended for the backend: by an error of it, or by none
abbrev pub backend_result : {A Fault E : Type 0} → Result A (CoderError Fault E) → Result (Unit {0}) E
backend_result (Ok value) = Ok tt
backend_result (Err (Frontend fault)) = Ok tt
backend_result (Err (Backend error)) = Err error

-- nothing was written, or one word, and an error is what that write answered
abbrev pub WritesAtMostOne : {A S E : Type 0} → (S → ℕ → Result (Unit {0}) E → S → Type 0) → S → Result A E → S → Type 0
WritesAtMostOne gives from (Ok value) to = (to ≡ from) ⊎ ((word : ℕ) × gives from word (Ok tt) to)
WritesAtMostOne gives from (Err error) to = (word : ℕ) × gives from word (Err error) to

-- nothing was read, or there was one read, and an error is what that read answered
abbrev pub ReadsAtMostOne : {A S E : Type 0} → (S → Result (Option ℕ) E → S → Type 0) → S → Result A E → S → Type 0
ReadsAtMostOne gives from (Ok value) to = (to ≡ from) ⊎ ((answer : Option ℕ) × gives from (Ok answer) to)
ReadsAtMostOne gives from (Err error) to = gives from (Err error) to
