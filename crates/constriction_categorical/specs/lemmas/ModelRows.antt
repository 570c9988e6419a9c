-- The laws of known models, for a model that holds one of them and for a caller.
use Rattle.std.specs.Prelude.{ℕ}
use Rattle.std.specs.declared.cmp.PartialEq as equality
use Rattle.constriction_numbers.specs.declared.whole_number.WholeNumber as number
use Rattle.constriction_buffers.specs.declared.buf.SafeBuf as buffer
use Rattle.constriction_model.specs.Precision.{IsPrecision}
use Rattle.constriction_model.specs.Rows.{RowsTile}
use Rattle.constriction_model.specs.declared.traits.EntropyModel as model
use Rattle.constriction_stored_rows.specs.lemmas.StoredRows.{stored-tiles}
use Rattle.constriction_stored_rows.specs.lemmas.SymbolRows.{paired-tiles}
use Rattle.constriction_categorical.specs.ModelRows.{contiguous_model_rows, decoder_model_rows, lookup_model_rows}
use Rattle.constriction_categorical.specs.declared.contiguous.ContiguousCategoricalEntropyModel.{ContiguousCategoricalEntropyModel}
use Rattle.constriction_categorical.specs.declared.lookup.LookupDecoderModel.{LookupDecoderModel}
use Rattle.constriction_categorical.specs.declared.non_contiguous.NonContiguousCategoricalDecoderModel as decoder

module _ {Word NonZero Cdf : Type 0} {precision : ℕ} {words : number.Ghosts Word NonZero} {cdf : buffer.Ghosts Cdf Word} where
  -- the precision of a contiguous model fits its words
  pub contiguous-precise : ContiguousCategoricalEntropyModel Word Cdf precision NonZero words cdf → IsPrecision words.BITS precision
  contiguous-precise m = m.precise

  -- the rows of a contiguous model tile
  pub contiguous-tiles : (m : ContiguousCategoricalEntropyModel Word Cdf precision NonZero words cdf)
      → RowsTile words.BITS precision (contiguous_model_rows m)
  contiguous-tiles m = stored-tiles _ _ _ m.stored.stored

module _ {Symbol Word NonZero Cdf : Type 0} {precision : ℕ} {symbols : equality.Ghosts Symbol} {words : number.Ghosts Word NonZero}
    {cdf : buffer.Ghosts Cdf (Word × Symbol)} where
  -- the precision of a decoder over any symbols fits its words
  pub decoder-precise : decoder.NonContiguousCategoricalDecoderModel Symbol Word Cdf precision NonZero symbols words cdf
      → IsPrecision words.BITS precision
  decoder-precise m = m.precise

  -- the rows of a decoder over any symbols tile
  pub decoder-tiles : (m : decoder.NonContiguousCategoricalDecoderModel Symbol Word Cdf precision NonZero symbols words cdf)
      → RowsTile words.BITS precision (decoder_model_rows m)
  decoder-tiles m = paired-tiles words.whole _ _ _ m.stored

-- a lookup model has the laws of its searching model
module _ {Model LookupTable Symbol Word NonZero : Type 0} {precision slot_bits : ℕ}
    {searching : model.Ghosts Model precision Symbol Word NonZero} {words : number.Ghosts Word NonZero}
    {table : buffer.Ghosts LookupTable Word} where
  -- the precision of a lookup model fits its words if that of its searching model does
  pub lookup-precise : (Model → IsPrecision words.BITS precision)
      → LookupDecoderModel Model LookupTable precision slot_bits Symbol Word NonZero searching words table
      → IsPrecision words.BITS precision
  lookup-precise law m = law m.model

  -- the rows of a lookup model tile if those of its searching model do
  pub lookup-tiles : ((m : Model) → RowsTile words.BITS precision (searching.rows m))
      → (m : LookupDecoderModel Model LookupTable precision slot_bits Symbol Word NonZero searching words table)
      → RowsTile words.BITS precision (lookup_model_rows m)
  lookup-tiles law m = law m.model
