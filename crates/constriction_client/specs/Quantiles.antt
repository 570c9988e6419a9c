-- Items as quantiles, and words as pairs. An item is a symbol and an offset: the place of its quantile among those of
-- the symbol.
use Rattle.std.specs.Prelude.{◌≡◌, ◌≢◌, ℕ, ◌+◌, ◌^◌, ◌<◌, ◌≤◌, ◌⊎◌, List, [], ◌∷◌, ◌++◌, length, Option, Some, None, Result, Ok, Err}
use Rattle.std.specs.List.{AllZip}
use Rattle.constriction_words.specs.declared.coder_error.CoderError.{CoderError}
use Rattle.constriction_words.specs.declared.coder_error.CoderError.TheVariants.{Frontend, Backend}
use Rattle.constriction_backends.specs.Sink.{Writes}
use Rattle.constriction_backends.specs.Source.{Reads}
use Rattle.constriction_backends.specs.declared.ReadWords as source
use Rattle.constriction_model.specs.Laws.{IsQuantileAt}
use Rattle.constriction_model.specs.Rows.{Row, IsRowOf}
use Rattle.constriction_client.specs.declared.quantiles.QuantileFault.{QuantileFault}
use Rattle.constriction_client.specs.declared.quantiles.QuantileFault.TheVariants.{ImpossibleSymbol, OffsetTooLarge}
use Rattle.constriction_client.specs.declared.quantiles.ReadFault.{ReadFault}
use Rattle.constriction_client.specs.declared.quantiles.ReadFault.TheVariants.{OutOfMemory, QuantileTooLarge}

-- Below, `entry` gives the entry of each symbol, and `whole` the number of each word.

-- `IsSuch` is true of one of the items and the items before it
pub record StopsAmong {Item : Type 0} (items : List Item) (IsSuch : List Item → Item → Type 0) : Type 0 where
  pub before : List Item
  pub item : Item
  pub after : List Item
  pub split : items ≡ before ++ item ∷ after
  pub is_such : IsSuch before item

module _ {Symbol Word : Type 0} (entry : Symbol → Option (ℕ × ℕ)) (whole : Word → ℕ) where
  -- q is the quantile of the item
  abbrev pub IsQuantileOf : Symbol × Word → ℕ → Type 0
  IsQuantileOf item q = IsQuantileAt entry item.0 (whole item.1) q

  -- this is why an item has no quantile
  abbrev pub IsFaultOf : Symbol × Word → QuantileFault → Type 0
  IsFaultOf item ImpossibleSymbol = entry item.0 ≡ None
  IsFaultOf item OffsetTooLarge = (left weight : ℕ) × (entry item.0 ≡ Some (left, weight)) × (weight ≤ whole item.1)

  -- the words are the quantiles of the items, one by one
  abbrev pub AreQuantiles : List (Symbol × Word) → List Word → Type 0
  AreQuantiles items words = AllZip (λ item word. IsQuantileOf item (whole word)) items words

  module _ {Sink Error : Type 0} (gives : Sink → Word → Result (Unit {0}) Error → Sink → Type 0) where
    -- The quantiles of the items were written in order, which leads from s to t. If s tells words, t tells them and then these.
    pub record WritesItems (tells : Sink → List Word → Type 0) (items : List (Symbol × Word)) (s t : Sink) : Type 0 where
      pub words : List Word
      pub quantiles : AreQuantiles items words
      pub written : Writes gives s words t
      pub known : (old : List Word) → tells s old → tells t (old ++ words)

    -- the item was refused, which leads from s to t: it has no quantile, or the sink refused it
    abbrev pub RefusesItem : Symbol × Word → Sink → CoderError QuantileFault Error → Sink → Type 0
    RefusesItem item s (Frontend fault) t = IsFaultOf item fault × (t ≡ s)
    RefusesItem item s (Backend e) t = (word : Word) × IsQuantileOf item (whole word) × gives s word (Err e) t

    -- the quantiles of the items before one were written, and that item was refused
    abbrev pub StopsAtItem : (Sink → List Word → Type 0) → List (Symbol × Word) → Sink → CoderError QuantileFault Error → Sink → Type 0
    StopsAtItem tells items s fault t =
        StopsAmong items (λ before item. (reached : Sink) × (wrote : WritesItems tells before s reached) × RefusesItem item reached fault t
        × ((old : List Word) → tells s old → tells t (old ++ wrote.words)))

module _ {Symbol Word : Type 0} (Stands : Symbol → Symbol → Type 0) (rows : List (Row Symbol)) (whole : Word → ℕ) where
  -- The pair is that of the word: a symbol that stands for the symbol of the word's row, and how far the word lies after the left
  -- cumulative of that row. `Stands row_symbol answered` says that an answered symbol stands for a row's.
  pub record IsPairOf (word : Word) (pair : Symbol × Word) : Type 0 where
    pub row : Row Symbol
    pub found : IsRowOf rows (whole word) row
    pub symbol : Stands row.symbol pair.0
    pub offset : row.left + whole pair.1 ≡ whole word

  -- the pairs are those of the words, one by one
  abbrev pub ArePairs : List Word → List (Symbol × Word) → Type 0
  ArePairs words pairs = AllZip IsPairOf words pairs

  -- A word gives its pair, or memory for that was refused, as it may be. A word that is no quantile is too large.
  abbrev pub GivesPair : ℕ → (ℕ → Type 0) → Word → Result (Symbol × Word) ReadFault → Type 0
  GivesPair precision MayLackMemory word (Ok pair) = (whole word < 2 ^ precision) × IsPairOf word pair
  GivesPair precision MayLackMemory word (Err OutOfMemory) = (whole word < 2 ^ precision) × MayLackMemory (whole word)
  GivesPair precision MayLackMemory word (Err QuantileTooLarge) = 2 ^ precision ≤ whole word

module _ {Word Pair Order Source Error : Type 0} (reads : source.Ghosts Source Word Order Error)
    (Gives : Word → Result Pair ReadFault → Type 0) where
  -- Words were read in order, which leads from s to t, and the pair that each word gives was put after the old pairs.
  pub record AddsPairs (s : Source) (old : List Pair) (t : Source) (new : List Pair) : Type 0 where
    pub words : List Word
    pub pairs : List Pair
    pub of_words : AllZip (λ word pair. Gives word (Ok pair)) words pairs
    pub added : new ≡ old ++ pairs
    pub read : Reads reads.read_gives s words t

  module _ (count : ℕ) where
    -- Reading ends so after n pairs, which leads from s to t, and takes the words `more` after those of the pairs. There are as many pairs
    -- as were asked for, or the source ended, a word gives no pair, or a read failed.
    abbrev pub EndsReading : ℕ → Source → Result ℕ (CoderError ReadFault Error) → List Word → Source → Type 0
    EndsReading n s (Ok k) more t = (k ≡ n) × (more ≡ []) × (((n ≡ count) × (t ≡ s)) ⊎ ((n < count) × reads.read_gives s (Ok None) t))
    EndsReading n s (Err (Frontend fault)) more t =
        (word : Word) × (n < count) × (more ≡ word ∷ []) × reads.read_gives s (Ok (Some word)) t × Gives word (Err fault)
    EndsReading n s (Err (Backend e)) more t = (n < count) × (more ≡ []) × reads.read_gives s (Err e) t

    -- the words `rest` are still to come after that
    abbrev pub LeavesWords : Result ℕ (CoderError ReadFault Error) → List Word → Type 0
    LeavesWords (Ok n) rest = n < count → rest ≡ []
    LeavesWords (Err (Frontend fault)) rest = Unit {0}
    LeavesWords (Err (Backend e)) rest = rest ≢ []

    -- Pairs were added until reading ended. If s tells upcoming words, t tells those that are left.
    pub record ReadsPairs (s : Source) (old : List Pair) (result : Result ℕ (CoderError ReadFault Error)) (t : Source) (new : List Pair)
        : Type 0 where
      pub reached : Source
      pub adds : AddsPairs s old reached new
      pub more : List Word
      pub ended : EndsReading (length adds.pairs) reached result more t
      pub known : (upcoming : List Word) → reads.tells_upcoming s upcoming
          → (rest : List Word) × (upcoming ≡ adds.words ++ (more ++ rest)) × reads.tells_upcoming t rest × LeavesWords result rest
