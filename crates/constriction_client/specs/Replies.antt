-- The replies to queries, by a scan of rows, with numbers in the place of words.
use Rattle.std.specs.Prelude.{◌≡◌, ℕ, ◌^◌, Bool, nat_lt, List, map, find, Option, None, if◌then◌else◌}
use Rattle.std.specs.List.{AllZip}
use Rattle.std.specs.Option.{option_map, option_map_or}
use Rattle.constriction_model.specs.Rows.{Row, entry_of}
use Rattle.constriction_model.specs.Model.{entry_in, ClonesAreSame}
use Rattle.constriction_client.specs.declared.queries.Query.{Query}
use Rattle.constriction_client.specs.declared.queries.Query.TheVariants.{OfQuantile, OfSymbol}
use Rattle.constriction_client.specs.declared.queries.Reply.{Reply}
use Rattle.constriction_client.specs.declared.queries.Reply.TheVariants as reply
use Rattle.constriction_model.specs.Scanning.{holds}

-- a reply with numbers in the place of its words
abbrev pub in_numbers : {Symbol Word Weight : Type 0} → (Word → ℕ) → (Weight → Word) → Reply Symbol Word Weight
    → Reply Symbol ℕ ℕ
in_numbers whole base (reply.Row symbol left weight) = reply.Row symbol (whole left) (whole (base weight))
in_numbers whole base reply.OutOfRange = reply.OutOfRange
in_numbers whole base (reply.Entry entry) = reply.Entry (option_map (entry_in whole base) entry)

-- The reply to a query. If the rows tile, a row holds each quantile below 2 ^ precision, by the law `each_quantile_in_range_has_a_row`.
abbrev pub reply_to_query : {Symbol Word : Type 0} → ℕ → (Word → ℕ) → List (Row Symbol) → (Symbol → Option (ℕ × ℕ))
    → Query Symbol Word → Reply Symbol ℕ ℕ
reply_to_query precision whole rows entry (OfQuantile word) =
    option_map_or (λ row. reply.Row row.symbol row.left row.weight)
    (if nat_lt (whole word) (2 ^ precision) then find (holds (whole word)) rows else None) reply.OutOfRange
reply_to_query precision whole rows entry (OfSymbol symbol) = reply.Entry (entry symbol)

-- the replies to queries by a scan of one list of rows, which also gives the entries
abbrev pub replies_by_scan : {Symbol Word : Type 0} → ℕ → (Word → ℕ) → (Symbol → Symbol → Bool) → List (Query Symbol Word)
    → List (Row Symbol) → List (Reply Symbol ℕ ℕ)
replies_by_scan precision whole eq queries rows = map (reply_to_query precision whole rows (entry_of eq rows)) queries

-- A reply stands for that of a scan: the two are the same, except that the symbol of a row in the reply may only stand for the scan's.
abbrev pub StandsForReply : {Symbol : Type 0} → (Symbol → Symbol → Type 0) → Reply Symbol ℕ ℕ → Reply Symbol ℕ ℕ → Type 0
StandsForReply {Symbol} Stands (reply.Row symbol left weight) scanned =
    (own : Symbol) × Stands own symbol × (scanned ≡ reply.Row own left weight)
StandsForReply Stands given scanned = scanned ≡ given

-- the replies stand for those of a scan, one by one
pub record AreRepliesOf {Symbol : Type 0} (Stands : Symbol → Symbol → Type 0) (scanned replies : List (Reply Symbol ℕ ℕ)) : Type 0 where
  pub stand : AllZip (StandsForReply Stands) replies scanned
  pub exact : ClonesAreSame Stands → replies ≡ scanned
