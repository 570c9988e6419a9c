-- The words of a stack have one content, and one list of so many symbols.
use Rattle.std.proofs.Common.{◌≡◌, ℕ, ◌+◌, ◌*◌, ◌%◌, ◌^◌, Bool, true, List, [], ◌∷◌, Option, length, reverse, refl, ap, sym, ◌∙◌}
use Rattle.std.proofs.Common.{subst, arith, inl, inr, nat_eq}
use Rattle.std.proofs.lemmas.Bool.{eqb-true}
use Rattle.std.proofs.lemmas.Cmp.{nat_eq_equiv}
use Rattle.std.proofs.lemmas.List.{length_push, reverse-append, reverse-reverse, same_from_push}
use Rattle.std.proofs.lemmas.List.Elements.{same_from_all_zip}
use Rattle.std.proofs.lemmas.List.FromFn.{length-range_with_len}
use Rattle.std.proofs.lemmas.Nat.{pow_pos, mod_below}
use Rattle.std.specs.Cmp.{IsEquivalence}
use Rattle.std.specs.List.{AllZip}
use Rattle.std.specs.Prelude.{IsTrue}
use Rattle.constriction_model.specs.Acceptance.{IsAccepted}
use Rattle.constriction_model.specs.Coding.{InTurn}
use Rattle.constriction_model.specs.lemmas.Coding.{entry-back}
use Rattle.constriction_model.specs.lemmas.Pairs.{has-row}
use Rattle.constriction_model.specs.lemmas.Rows.{symbols-rows_from, weights-rows_from}
use Rattle.constriction_model.specs.Rows.{Row, RowsTile, contiguous_rows, entry_of}
use Rattle.constriction_coders.specs.Compressed.{AreAllWordsOf, IsCompressed}
use Rattle.constriction_coders.specs.StackMessages.{IsStackOf}
use Rattle.constriction_coders.specs.States.{taken}
use Rattle.constriction_coders.specs.Steps.{Content, content, Refills, IsEncoded}

-- contents of the same state and words are the same
pub same-content : (a b : Content) → a.state ≡ b.state → a.words ≡ b.words → a ≡ b
same-content a b s w = ap (λ n. content n a.words) s ∙ ap (λ ws. content b.state ws) w

-- a state takes a word, or none, in one way
pub refills-once : (state : ℕ) (words : List ℕ) (a b : Content) → Refills state words a → Refills state words b → a ≡ b
refills-once state words a b p q = grind (arith, same_from_push {X = ℕ}, length_push {X = ℕ})

-- the content that has these words, the last one first
abbrev content_of : List ℕ → Content
content_of [] = content 0 []
content_of (state ∷ []) = content state []
content_of (high ∷ low ∷ words) = content (high * 2 ^ 32 + low) (reverse words)

compressed-is : (c : Content) (all : List ℕ) → IsCompressed c all → c ≡ content_of (reverse all)
compressed-is c all h = go h.words
  where
    go : AreAllWordsOf c all → c ≡ content_of (reverse all)
    go (inl x) =
        let none : c.words ≡ [] = h.held.whole (omega (arith, x.0)) in rw (x.1 ∙ none) (same-content c (content 0 []) x.0 none)
    go (inr (inl x)) =
        let none : c.words ≡ [] = h.held.whole x.1 in rw (rw none at x.2) (same-content c (content c.state []) refl none)
    go (inr (inr x)) = rw (x.1, reverse-append, reverse-reverse) (same-content c _ (omega arith) refl)

-- words are those of one content
pub compressed-once : (a b : Content) (all : List ℕ) → IsCompressed a all → IsCompressed b all → a ≡ b
compressed-once a b all p q = compressed-is a all p ∙ sym (compressed-is b all q)

module _ {Symbol : Type 0} (eq : Symbol → Symbol → Bool) (entry : Symbol → Option (ℕ × ℕ))
    (rows : List (Row Symbol)) (precision bits : ℕ) (tile : RowsTile bits precision rows) (laws : IsEquivalence eq)
    (alike : (s : Symbol) → entry s ≡ entry_of eq rows s) where
  -- two symbols on top of one content are equal, and have the same under them
  one-top : (s t : Symbol) (full a b : Content) → IsEncoded (entry s) precision full a → IsEncoded (entry t) precision full b
      → (eq s t ≡ true) × (a ≡ b)
  one-top s t full a b p q =
      let quantile : ℕ = full.state % 2 ^ precision in
      let row = has-row bits precision rows quantile tile (mod_below full.state (2 ^ precision) (pow_pos precision)) in
      let x = entry-back bits precision eq rows s p.left p.weight quantile row.0 tile (sym (alike s) ∙ p.known) p.top.from p.top.to row.1 in
      let y = entry-back bits precision eq rows t q.left q.weight quantile row.0 tile (sym (alike t) ∙ q.known) q.top.from q.top.to row.1 in
      let left : q.left ≡ p.left = sym y.1 ∙ x.1 in
      let weight : q.weight ≡ p.weight = sym y.2 ∙ x.2 in (
        sym (laws.congr row.0.symbol s t x.0) ∙ y.0,
        refills-once (taken precision p.left p.weight full.state) full.words a b p.top.under (rw (left, weight) at q.top.under),
      )

  one-run : (symbols others : List Symbol) (full last : Content) → InTurn (λ s. IsEncoded (entry s) precision) symbols full last
      → InTurn (λ s. IsEncoded (entry s) precision) others full last → length symbols ≡ length others
      → AllZip (λ s t. IsTrue (eq s t)) symbols others
  one-run [] [] full last p q n = tt
  one-run [] (t ∷ ts) full last p q n = absurd (omega arith)
  one-run (s ∷ ss) [] full last p q n = absurd (omega arith)
  one-run (s ∷ ss) (t ∷ ts) full last p q n =
      let top = one-top s t full p.0 q.0 p.1 q.1 in (
        top.0,
        one-run ss ts q.0 last (subst (λ (c : Content). InTurn (λ s. IsEncoded (entry s) precision) ss c last) top.1 p.2) q.2
            (omega arith),
      )

  -- two lists of as many symbols with the same words have equal symbols
  pub symbols-once : (symbols others : List Symbol) (words : List ℕ) → IsStackOf entry precision symbols words
      → IsStackOf entry precision others words → length symbols ≡ length others → AllZip (λ s t. IsTrue (eq s t)) symbols others
  symbols-once symbols others words p q many =
      let same : q.full ≡ p.full = compressed-once q.full p.full words q.compressed p.compressed in
      one-run symbols others p.full (content 0 []) p.led
      (subst (λ (c : Content). InTurn (λ s. IsEncoded (entry s) precision) others c (content 0 [])) same q.led) many

-- words are those of one list of a given number of numbers, by weights that are accepted
pub numbers-once : (precision : ℕ) (weights numbers others words : List ℕ) → IsAccepted 32 precision weights
    → IsStackOf (entry_of nat_eq (contiguous_rows weights)) precision numbers words
    → IsStackOf (entry_of nat_eq (contiguous_rows weights)) precision others words → length numbers ≡ length others → numbers ≡ others
numbers-once precision ws numbers others words accepted p q many =
    let long = length-range_with_len 0 (length ws) in
    let tile : RowsTile 32 precision (contiguous_rows ws) =
    record { accepted = rw weights-rows_from accepted; in_order = rw (weights-rows_from, symbols-rows_from) refl } in
    let equal = symbols-once nat_eq _ _ precision 32 tile nat_eq_equiv (λ s. refl) numbers others words p q many in
    sym (same_from_all_zip (λ s t. IsTrue (nat_eq s t)) numbers others equal (λ s t h. sym (eqb-true s t h)))
