-- The rows of a decoder in one of two forms: its member `rows`, under a short name for clauses.
use Rattle.std.specs.Prelude.{ℕ, List}
use Rattle.std.specs.declared.cmp.PartialEq as equality
use Rattle.constriction_words.specs.declared.WholeNumber as number
use Rattle.constriction_buffers.specs.declared.buf.SafeBuf as buffer
use Rattle.constriction_model.specs.declared.traits.EntropyModel as model
use Rattle.constriction_categorical.specs.ModelRows.{decoder_model_rows, lookup_model_rows}
use Rattle.constriction_model.specs.Rows.{Row}
use Rattle.constriction_categorical.specs.declared.NonContiguousCategoricalDecoderModel as decoder
use Rattle.constriction_categorical.specs.declared.LookupDecoderModel as lookup
use Rattle.constriction_client.specs.declared.decoder_form.SearchOrLookup.{SearchOrLookup}
use Rattle.constriction_client.specs.declared.decoder_form.SearchOrLookup.TheVariants.{Search, Lookup}

module _ {Symbol Word NonZero Cdf Searching LookupTable : Type 0} {precision slot_bits : ℕ} {symbols : equality.Ghosts Symbol}
    {words : number.Ghosts Word NonZero} {cdf : buffer.Ghosts Cdf (Word × Symbol)}
    {searching : model.Ghosts Searching precision Symbol Word NonZero} {table : buffer.Ghosts LookupTable Word} where
  -- the rows of the model in the form
  abbrev pub form_rows : SearchOrLookup (decoder.NonContiguousCategoricalDecoderModel Symbol Word Cdf precision NonZero symbols words cdf)
      (lookup.LookupDecoderModel Searching LookupTable precision slot_bits Symbol Word NonZero searching words table) → List (Row Symbol)
  form_rows (Search m) = decoder_model_rows m
  form_rows (Lookup m) = lookup_model_rows m
