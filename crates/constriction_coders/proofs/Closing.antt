-- The words of a coder: what writing those of its state gives, how many there are, and what the last one is.
use Rattle.std.proofs.Common.{◌≡◌, ℕ, ◌+◌, ◌/◌, ◌%◌, ◌^◌, ◌<◌, ◌≤◌, List, [], ◌∷◌, ◌++◌, suc, zero, Result, Ok, Err, length, refl, ap, sym}
use Rattle.std.proofs.Common.{◌∙◌, arith, inl, inr}
use Rattle.std.proofs.lemmas.Bool.{cases_lt}
use Rattle.std.proofs.lemmas.List.{append_assoc, length-append, same_from_push}
use Rattle.constriction_backends.specs.Sink.{Writes}
use Rattle.constriction_coders.specs.Compressed.{AreAllWordsOf, IsCompressed}
use Rattle.constriction_coders.specs.Steps.{Content, content}
use Rattle.constriction_backends.specs.Sink.{StopsAtWord}

module _ {S E : Type 0} (gives : S → ℕ → Result (Unit {0}) E → S → Type 0) (state : ℕ) (from : S) (some : 0 < state) where
  -- a state below 2 ^ 32 that is not 0 is its only word
  one-word : state < 2 ^ 32 → AreAllWordsOf (content state []) (state % 2 ^ 32 ∷ [])
  one-word small = let same : state % 2 ^ 32 ≡ state = omega (arith, small) in rw same (inr (inl (some, small, refl)))

  -- a state of one word was written whole
  pub wrote-one : (to : S) → state < 2 ^ 32 → gives from (state % 2 ^ 32) (Ok tt) to
      → (own : List ℕ) × AreAllWordsOf (content state []) own × Writes gives from own to
  wrote-one to small step = (state % 2 ^ 32 ∷ [], one-word small, (to, step, refl))

  -- a state of two words was written whole
  pub wrote-two : (reached to : S) → 2 ^ 32 ≤ state → gives from (state % 2 ^ 32) (Ok tt) reached
      → gives reached (state / 2 ^ 32) (Ok tt) to → (own : List ℕ) × AreAllWordsOf (content state []) own × Writes gives from own to
  wrote-two reached to least low high = (state % 2 ^ 32 ∷ state / 2 ^ 32 ∷ [], inr (inr (least, refl)), (reached, low, (to, high, refl)))

  -- the first word was refused
  pub stops-first : (left : S) (error : E) → gives from (state % 2 ^ 32) (Err error) left
      → (own : List ℕ) × AreAllWordsOf (content state []) own × ((left : S) × StopsAtWord gives from own error left)
  stops-first left error step =
      let stops : (after : List ℕ) → StopsAtWord gives from (state % 2 ^ 32 ∷ after) error left = λ after. record {
        before = [];
        word = state % 2 ^ 32;
        after = after;
        split = refl;
        reached = from;
        written = refl;
        refused = step;
      } in
      elim (cases_lt state (2 ^ 32)) [
        | inl small ↦ (state % 2 ^ 32 ∷ [], one-word small, (left, stops []))
        | inr least ↦ (state % 2 ^ 32 ∷ state / 2 ^ 32 ∷ [], inr (inr (least, refl)), (left, stops (state / 2 ^ 32 ∷ [])))
      ]

  -- the second word was refused
  pub stops-second : (reached left : S) (error : E) → 2 ^ 32 ≤ state → gives from (state % 2 ^ 32) (Ok tt) reached
      → gives reached (state / 2 ^ 32) (Err error) left
      → (own : List ℕ) × AreAllWordsOf (content state []) own × ((left : S) × StopsAtWord gives from own error left)
  stops-second reached left error least low step = (
    state % 2 ^ 32 ∷ state / 2 ^ 32 ∷ [],
    inr (inr (least, refl)),
    (
      left,
      record {
        before = state % 2 ^ 32 ∷ [];
        word = state / 2 ^ 32;
        after = [];
        split = refl;
        reached = reached;
        written = (reached, low, refl);
        refused = step;
      },
    ),
  )

-- there are as many words as under the state, and in the state
pub counted : (c : Content) (all : List ℕ) (n : ℕ) → (c.state ≡ 0 → n ≡ 0) → (0 < c.state → c.state < 2 ^ 32 → n ≡ 1)
    → (2 ^ 32 ≤ c.state → n ≡ 2) → IsCompressed c all → length c.words + n ≡ length all
counted c all n none one two compressed = let w = compressed.words in grind (arith, length-append {A = ℕ})

-- a number that is not 0 is positive
pub positive : (n : ℕ) → (n ≡ 0 → ⊥) → 0 < n
positive zero h = absurd (h refl)
positive (suc n) h = omega arith

-- the words of a coder do not end in 0
pub not-compressed : (c : Content) (all others : List ℕ) → IsCompressed c all → all ≡ others ++ 0 ∷ [] → ⊥
not-compressed c all others compressed e = go compressed.words
  where
    go : AreAllWordsOf c all → ⊥
    go (inl p) =
        absurd (omega (arith, ap length (sym e ∙ p.1 ∙ compressed.held.whole (omega (arith, p.0))), length-append others (0 ∷ [])))
    go (inr (inl p)) = let parts = same_from_push c.words others c.state 0 (sym p.2 ∙ e) in absurd (omega (arith, p.0, parts.1))
    go (inr (inr p)) =
        let parts = same_from_push (c.words ++ c.state % 2 ^ 32 ∷ []) others (c.state / 2 ^ 32) 0
        (append_assoc c.words (c.state % 2 ^ 32 ∷ []) (c.state / 2 ^ 32 ∷ []) ∙ sym p.1 ∙ e) in
        absurd (omega (arith, p.0, parts.1))

-- a content has one list of words
pub words-once : (c : Content) (all others : List ℕ) → AreAllWordsOf c all → AreAllWordsOf c others → all ≡ others
words-once c all others p q = grind arith
