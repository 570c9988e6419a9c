-- What was encoded is decoded, symbol by symbol.
use Rattle.std.proofs.Common.{◌≡◌, ℕ, ◌%◌, ◌^◌, ◌<◌, ◌≤◌, Bool, List, Option, sym, ◌∙◌, arith}
use Rattle.std.proofs.lemmas.List.{length_push}
use Rattle.constriction_model.specs.lemmas.Coding.{entry-back}
use Rattle.constriction_model.specs.Coding.{StandsForEqual}
use Rattle.constriction_model.specs.Rows.{Row, RowsTile, entry_of}
use Rattle.constriction_coders.specs.lemmas.Stack.{refills-once}
use Rattle.constriction_coders.specs.States.{taken}
use Rattle.constriction_coders.specs.Steps.{Content, MayBeHeld, IsOnTop, IsEncoded, IsDecoded}
use Rattle.constriction_coders.proofs.Steps.{one-entry}
use Rattle.constriction_coders.proofs.States.{put_taken, put_high, put_low}

module _ {Symbol : Type 0} (Stands : Symbol → Symbol → Type 0) (eq : Symbol → Symbol → Bool) (entry : Symbol → Option (ℕ × ℕ))
    (rows : List (Row Symbol)) (bits precision : ℕ) (tile : RowsTile bits precision rows)
    (alike : (s : Symbol) → entry s ≡ entry_of eq rows s) where
  -- what is decoded after a symbol was encoded stands for an equal one, and what was under it is left
  pub symbol-back : (symbol answer : Symbol) (full rest under : Content) → IsEncoded (entry symbol) precision full rest
      → IsDecoded Stands rows precision answer full under → StandsForEqual Stands eq symbol answer × (under ≡ rest)
  symbol-back symbol answer full rest under e d =
      let same = entry-back bits precision eq rows symbol e.left e.weight (full.state % 2 ^ precision) d.row tile
      (sym (alike symbol) ∙ e.known) e.top.from e.top.to d.found in (
        (d.row.symbol, same.0, d.stands),
        refills-once _ full.words under rest (rw (same.1, same.2) at d.top.under) e.top.under,
      )

-- an entry that is on top has quantiles
pub on-top-some : (precision left weight : ℕ) (full rest : Content) → IsOnTop precision left weight full rest → 0 < weight
on-top-some precision left weight full rest top = omega (arith, top.from, top.to)

-- a symbol is put on a content in one way, if a coder may hold the result
pub put-once : (precision left weight : ℕ) (a b rest : Content) → precision ≤ 32 → MayBeHeld a → MayBeHeld b
    → IsOnTop precision left weight a rest → IsOnTop precision left weight b rest → a ≡ b
put-once precision left weight a b rest fits ha hb p q =
    let within = p.within in
    let some = on-top-some precision left weight a rest p in
    let under : ℕ → ℕ = taken precision left weight in
    let a-is = put_taken precision left weight a.state some within p.from p.to in
    let b-is = put_taken precision left weight b.state some within q.from q.to in
    let a-low = put_low precision left weight (under a.state) fits some within in
    let b-low = put_low precision left weight (under b.state) fits some within in
    let a-high = put_high precision left weight (under a.state) fits some within in
    let b-high = put_high precision left weight (under b.state) fits some within in
    grind (arith, p.under, q.under, length_push {X = ℕ})

-- so a symbol is encoded in one way
pub encode-once : {Symbol : Type 0} (entry : Symbol → Option (ℕ × ℕ)) (precision : ℕ) → precision ≤ 32
    → (symbol : Symbol) (a b rest : Content) → MayBeHeld a → MayBeHeld b → IsEncoded (entry symbol) precision a rest
    → IsEncoded (entry symbol) precision b rest → a ≡ b
encode-once entry precision fits symbol a b rest ha hb p q =
    let same = one-entry (entry symbol) q.left q.weight p.left p.weight q.known p.known in
    put-once precision p.left p.weight a b rest fits ha hb p.top (rw (same.0, same.1) at q.top)
