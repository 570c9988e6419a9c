-- The rows of each model of given weights, its member `rows`, under one name for the clauses that speak of them.
use Rattle.std.specs.Prelude.{◌≡◌, ℕ, Bool, List, Option, Result, map}
use Rattle.std.specs.declared.cmp.PartialEq as equality
use Rattle.constriction_numbers.specs.declared.whole_number.WholeNumber as number
use Rattle.constriction_buffers.specs.declared.buf.SafeBuf as buffer
use Rattle.constriction_model.specs.Acceptance.{completed, IsDecidedByBoth}
use Rattle.constriction_model.specs.Rows.{Row, contiguous_rows, rows_of}
use Rattle.constriction_model.specs.declared.error.ModelError.{ModelError}
use Rattle.constriction_model.specs.declared.traits.EntropyModel as model
use Rattle.constriction_stored_rows.specs.Stored.{lefts_in, rows_paired, weights_of}
use Rattle.constriction_categorical.specs.declared.contiguous.ContiguousCategoricalEntropyModel.{ContiguousCategoricalEntropyModel}
use Rattle.constriction_categorical.specs.declared.lookup.LookupDecoderModel.{LookupDecoderModel}
use Rattle.constriction_categorical.specs.declared.non_contiguous.NonContiguousCategoricalDecoderModel as decoder

module _ {Word NonZero Cdf : Type 0} {precision : ℕ} {words : number.Ghosts Word NonZero} {cdf : buffer.Ghosts Cdf Word} where
  -- the rows of a model of the symbols 0, 1, ..: their weights follow from the left cumulatives in its cdf
  abbrev pub contiguous_model_rows : ContiguousCategoricalEntropyModel Word Cdf precision NonZero words cdf → List (Row ℕ)
  contiguous_model_rows m = contiguous_rows (weights_of precision (lefts_in (map words.whole (cdf.words_of m.cdf))))

module _ {Symbol Word NonZero Cdf : Type 0} {precision : ℕ} {symbols : equality.Ghosts Symbol} {words : number.Ghosts Word NonZero}
    {cdf : buffer.Ghosts Cdf (Word × Symbol)} where
  -- the rows of a decoder's model of any symbols: the rows of its entries, each a left cumulative and a symbol
  abbrev pub decoder_model_rows : decoder.NonContiguousCategoricalDecoderModel Symbol Word Cdf precision NonZero symbols words cdf
      → List (Row Symbol)
  decoder_model_rows m = rows_paired words.whole precision (cdf.words_of m.cdf)

  -- the result of a constructor of these models that is given symbols and weights: `Accepted` decides, and a model has their rows
  abbrev pub MakesDecoder : {J S K T : Type 0} → (List Symbol → List ℕ → Type 0) → Bool
      → (J → S → Type 0) → (S → Option Symbol → S → Type 0) → J → (K → T → Type 0) → (T → Option Word → T → Type 0) → K
      → Result (decoder.NonContiguousCategoricalDecoderModel Symbol Word Cdf precision NonZero symbols words cdf) ModelError → Type 0
  MakesDecoder Accepted infer becomes steps symbols_from other_becomes other_steps weights_from =
      IsDecidedByBoth Accepted (completed precision infer) becomes steps symbols_from other_becomes other_steps weights_from
      words.whole (λ m ss ws. decoder_model_rows m ≡ rows_of ss ws)

module _ {Model LookupTable Symbol Word NonZero : Type 0} {precision slot_bits : ℕ}
    {searching : model.Ghosts Model precision Symbol Word NonZero} {words : number.Ghosts Word NonZero}
    {table : buffer.Ghosts LookupTable Word} where
  -- the rows of a lookup model: the rows of the searching model beside its lookup table
  abbrev pub lookup_model_rows : LookupDecoderModel Model LookupTable precision slot_bits Symbol Word NonZero searching words table
      → List (Row Symbol)
  lookup_model_rows m = searching.rows m.model
