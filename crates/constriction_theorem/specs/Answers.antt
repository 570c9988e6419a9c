-- What a form replies after steps, and what the models of one row list reply. Replies have numbers in the place of words.
use Rattle.std.specs.Prelude.{◌≡◌, ◌↔◌, ℕ, ◌-◌, ◌^◌, ◌≤◌, Bool, false, if◌then◌else◌, nat_lt, List, All, length, fold, map, IsSome, IfSome, Result, Err, IfOk}
use Rattle.constriction_model.specs.Model.{StandForRows, ClonesAreSame}
use Rattle.constriction_model.specs.Probe.{digits}
use Rattle.constriction_model.specs.Rows.{Row, uniform_rows}
use Rattle.constriction_model.specs.declared.ModelError.{ModelError}
use Rattle.constriction_model.specs.declared.ModelError.TheVariants.{InvalidTable}
use Rattle.constriction_client.specs.Chains.{is_lookup, is_lookup_after, ChainLeaves}
use Rattle.constriction_client.specs.declared.chain.ChainStep.{ChainStep}
use Rattle.constriction_client.specs.declared.decoder_form.SearchOrLookup.{SearchOrLookup}
use Rattle.constriction_client.specs.declared.queries.Query.{Query}
use Rattle.constriction_client.specs.declared.queries.Query.TheVariants.{OfQuantile, OfSymbol}
use Rattle.constriction_client.specs.declared.queries.Reply.{Reply}
use Rattle.constriction_client.specs.Replies.{AreRepliesOf}
use Rattle.constriction_theorem.specs.declared.searches.AnswersBySearch.{AnswersBySearch}
use Rattle.constriction_theorem.specs.declared.weights.AnswersOfWeights.{AnswersOfWeights}
use Rattle.constriction_theorem.specs.declared.weights.RepliesByEncoder.{RepliesByEncoder}

-- The result of a call that makes models of lists. There are answers only if the lists are accepted, and `Tells` is true of the answers.
-- The result is `InvalidTable` only if the lists are not accepted.
pub record IsDecidedBy {Answers : Type 0} (result : Result Answers ModelError) (Accepted : Type 0) (Tells : Answers → Type 0)
    : Type 0 where
  pub accepted : IfOk result (λ _. Accepted)
  pub answers : IfOk result Tells
  pub invalid : result ≡ Err InvalidTable → ¬ Accepted

-- Steps turn a form of the rows `first`, a lookup form or not, into one of the rows `made`, which gives these replies beside an encoder
-- of the same entries. `Walks s t` says that a walk may give `t` for the symbol `s` of a row, `IsClone s t` that `t` may be a clone of `s`.
-- `scan` gives the replies of a row list.
pub record AnswersAfter {Symbol : Type 0} (Walks IsClone : Symbol → Symbol → Type 0) (scan : List (Row Symbol) → List (Reply Symbol ℕ ℕ))
    (steps : List ChainStep) (was_lookup : Bool) (first : List (Row Symbol))
    (now_lookup : Bool) (made : List (Row Symbol)) (given : List (Reply Symbol ℕ ℕ)) : Type 0 where
  pub kind : now_lookup ≡ fold is_lookup_after was_lookup steps
  pub walked : List (Row Symbol)
  pub walk : StandForRows Walks walked first
  pub rows : ChainLeaves IsClone steps walked made
  pub replies : AreRepliesOf IsClone (scan made) given
  pub exact : ClonesAreSame Walks → ClonesAreSame IsClone → (made ≡ first) × (given ≡ scan first)

-- what a decoder replied beside each of two encoders is what a scan gives
abbrev pub ReplyAsScan : {Word Weight : Type 0} → (Reply ℕ Word Weight → Reply ℕ ℕ ℕ) → List (Reply ℕ ℕ ℕ) → RepliesByEncoder Word Weight
    → Type 0
ReplyAsScan in_numbers scanned given =
    (map in_numbers given.contiguous.items ≡ scanned) × (map in_numbers given.hashed.items ≡ scanned)

-- the models without a lookup table reply as a scan of these rows does
pub record BothReplyAsScan {Word Weight Decoder : Type 0} (in_numbers : Reply ℕ Word Weight → Reply ℕ ℕ ℕ)
    (scan : List (Row ℕ) → List (Reply ℕ ℕ ℕ)) (rows_of : Decoder → List (Row ℕ)) (rows : List (Row ℕ))
    (answers : AnswersBySearch Word Decoder Weight) : Type 0 where
  pub contiguous : ReplyAsScan in_numbers (scan rows) answers.contiguous
  pub non_contiguous : ReplyAsScan in_numbers (scan rows) answers.non_contiguous
  pub same : rows_of answers.decoder ≡ rows

-- how many questions a search of n rows asks for a query: none for a symbol, and for a word that is no quantile
abbrev pub questions_for : {Word : Type 0} → (precision : ℕ) → (Word → ℕ) → (n : ℕ) → Query ℕ Word → ℕ
questions_for precision whole n (OfQuantile word) = if nat_lt (whole word) (2 ^ precision) then digits (n - 1) else 0
questions_for precision whole n (OfSymbol symbol) = 0

-- the same for each of several queries
abbrev pub questions_asked : {Word : Type 0} → (precision : ℕ) → (Word → ℕ) → List (Query ℕ Word) → (n : ℕ) → List ℕ
questions_asked precision whole queries n = map (questions_for precision whole n) queries

-- All models of a row list reply as a scan of these rows does: the dividing model, which there is exactly if the rows are uniform rows of
-- two symbols or more, the model that searches, the model with a lookup table, and the form that steps leave. `asked n` are the questions
-- of a search of n rows for each query; none is for more than the number of rows has binary digits.
pub record AllReplyAsScan {Word Weight Searching Tabled : Type 0} (in_numbers : Reply ℕ Word Weight → Reply ℕ ℕ ℕ)
    (scan : List (Row ℕ) → List (Reply ℕ ℕ ℕ)) (asked : ℕ → List ℕ) (steps : List ChainStep)
    (rows_of_form : SearchOrLookup Searching Tabled → List (Row ℕ)) (precision : ℕ) (rows : List (Row ℕ))
    (answers : AnswersOfWeights Word (SearchOrLookup Searching Tabled) Weight) : Type 0 where
  pub divides : IsSome answers.dividing ↔ ((n : ℕ) × (2 ≤ n) × (rows ≡ uniform_rows precision n))
  pub dividing : IfSome answers.dividing (ReplyAsScan in_numbers (scan rows))
  pub searching : ReplyAsScan in_numbers (scan rows) answers.searching
  pub tabled : ReplyAsScan in_numbers (scan rows) answers.tabled
  pub converted : ReplyAsScan in_numbers (scan rows) answers.converted
  pub kind : is_lookup answers.form ≡ fold is_lookup_after false steps
  pub same : rows_of_form answers.form ≡ rows
  pub questions : answers.questions.items ≡ asked (length rows)
  pub few : All (λ n. n ≤ digits (length rows)) answers.questions.items
