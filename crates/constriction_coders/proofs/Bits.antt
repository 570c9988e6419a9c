-- The words whose bits a coder holds: there are as many as its bits fill, and there are such words if the bits fill words.
use Rattle.std.proofs.Common.{◌≡◌, ℕ, ◌*◌, ◌/◌, ◌%◌, ◌^◌, ◌<◌, ◌≤◌, List, [], ◌∷◌, ◌++◌, length, refl, ap, sym, ◌∙◌, arith, inl, inr}
use Rattle.std.proofs.lemmas.Bool.{cases_lt}
use Rattle.std.proofs.lemmas.List.{append_assoc, length_push, same_from_push}
use Rattle.std.proofs.Math.Pow.{pow_mono}
use Rattle.constriction_coders.specs.Compressed.{AreAllWordsOf, IsBinary, HasValidBits}
use Rattle.constriction_coders.specs.lemmas.Stack.{same-content}
use Rattle.constriction_coders.specs.Steps.{Content, content, MayBeHeld}

-- the highest one-bit of 1 is its lowest bit
top-of-one : (top : ℕ) → 2 ^ top ≤ 1 → top ≡ 0
top-of-one top least = elim (cases_lt 0 top) [
  | inl more ↦ absurd (omega (arith, least, pow_mono {i = 1} {j = top} more))
  | inr none ↦ omega (arith, none)
]

-- the highest one-bit of a number from 2 ^ 32 to 2 ^ 33 is its bit 32
top-of-word : (top state : ℕ) → 2 ^ 32 ≤ state → state < 2 ^ 33 → 2 ^ top ≤ state → state < 2 * 2 ^ top → top ≡ 32
top-of-word top state from to least less = elim (cases_lt top 32) [
  | inl low ↦ absurd (omega (arith, from, less, pow_mono {i = top} {j = 31} (omega (arith, low))))
  | inr high ↦ elim (cases_lt 32 top) [
    | inl above ↦ absurd (omega (arith, to, least, pow_mono {i = 33} {j = top} (omega (arith, above))))
    | inr at_most ↦ omega (arith, high, at_most)
  ]
]

-- a content of whole words has 32 bits for each
pub binary-bits : (c : Content) (words : List ℕ) (bits : ℕ) → HasValidBits c bits → IsBinary c words → bits ≡ 32 * length words
binary-bits c words bits valid binary = go valid binary.words
  where
    go : HasValidBits c bits → AreAllWordsOf c (words ++ 1 ∷ []) → bits ≡ 32 * length words
    go v (inl x) = absurd (omega (arith, ap length (x.1 ∙ binary.held.whole (omega (arith, x.0))), length_push words 1))
    go (inl v) (inr (inl x)) = absurd (omega (arith, v.0, x.0))
    go (inl v) (inr (inr x)) = absurd (omega (arith, v.0, x.0))
    go (inr v) (inr (inl x)) =
        let parts = same_from_push words c.words 1 c.state x.2 in
        let top = top-of-one v.0 (omega (arith, v.1, parts.1)) in
        omega (arith, v.3, top, ap length parts.0)
    go (inr v) (inr (inr x)) =
        let low : List ℕ = c.words ++ c.state % 2 ^ 32 ∷ [] in
        let parts = same_from_push words low 1 (c.state / 2 ^ 32)
        (x.1 ∙ sym (append_assoc c.words (c.state % 2 ^ 32 ∷ []) (c.state / 2 ^ 32 ∷ []))) in
        let top = top-of-word v.0 c.state x.0 (omega (arith, parts.1)) v.1 v.2 in
        omega (arith, v.3, top, ap length parts.0, length_push c.words (c.state % 2 ^ 32))

-- a content whose bits are a multiple of 32 is made of whole words
pub binary-words : (c : Content) (bits : ℕ) → MayBeHeld c → HasValidBits c bits → bits % 32 ≡ 0 → (c ≡ content 0 [] → ⊥)
    → (words : List ℕ) × IsBinary c words
binary-words c bits held (inl v) fill some = absurd (some (same-content c (content 0 []) v.0 (held.whole (omega (arith, v.0)))))
binary-words c bits held (inr v) fill some = elim (cases_lt v.0 32) [
  | inl low ↦
      let top : v.0 ≡ 0 = omega (arith, low, fill, v.3) in
      let one : c.state ≡ 1 = omega (arith, rw top at v.1, rw top at v.2) in
      let none : c.words ≡ [] = held.whole (omega (arith, one)) in
      ([], record { held = held; words = inr (inl (omega (arith, one), omega (arith, one), rw (none, one) refl)) })
  | inr high ↦
      let below : v.0 < 64 = elim (cases_lt v.0 64) [
        | inl less ↦ less
        | inr more ↦ absurd (omega (arith, v.1, held.fits, pow_mono {i = 64} {j = v.0} more))
      ] in
      let top : v.0 ≡ 32 = omega (arith, high, below, fill, v.3) in
      let least : 2 ^ 32 ≤ c.state = rw top at v.1 in
      let one : c.state / 2 ^ 32 ≡ 1 = omega (arith, least, rw top at v.2) in (
        c.words ++ c.state % 2 ^ 32 ∷ [],
        record { held = held; words = inr (inr (least, rw one (append_assoc c.words (c.state % 2 ^ 32 ∷ []) (1 ∷ [])))) },
      )
]
