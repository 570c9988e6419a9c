-- What is read from a list of words is read from it only once.
use Rattle.std.proofs.Common.{◌-◌, ◌≡◌, ℕ, ◌+◌, ◌*◌, ◌/◌, ◌^◌, ◌<◌, ◌≤◌, Bool, List, [], ◌∷◌, ◌++◌}
use Rattle.std.proofs.Common.{fold, length, Option, Some, None, Ok, refl, ap, sym, ◌∙◌, subst, arith, inl, inr}
use Rattle.std.proofs.lemmas.List.{append-nil, length-append, nil_from_length}
use Rattle.std.proofs.lemmas.Nat.{mul-le}
use Rattle.constriction_model.specs.Coding.{InTurn}
use Rattle.constriction_model.specs.lemmas.Coding.{one-row, row-within}
use Rattle.constriction_model.specs.Rows.{Row, IsRowOf}
use Rattle.constriction_coders.specs.Intervals.{Interval, interval, unit_of, part_of, word_or_zero}
use Rattle.constriction_coders.specs.Intervals.{IsAboveAll, IsWidenedByRead, IsStart, Held}
use Rattle.constriction_coders.specs.Places.{placed}
use Rattle.constriction_coders.proofs.Decoding.{quantile-from, quantile-to}
use Rattle.constriction_adaptive.specs.Numbers.{all_bits, AreReadFrom, IsBitRead, TakesWord}
use Rattle.constriction_adaptive.proofs.Bits.{all-bits-length, numbers-once}
use Rattle.constriction_adaptive.proofs.Telling.{holding}

takes-once : (words : List ℕ) (a b : Option ℕ) (t u : List ℕ) → TakesWord words (Ok a) t → TakesWord words (Ok b) u → (a ≡ b) × (t ≡ u)
takes-once words None None t u p q = (refl, p.1 ∙ sym q.1)
takes-once words None (Some y) t u p q = let is : ◌≡◌ {A = List ℕ} [] (y ∷ u) = sym p.0 ∙ q in absurd (cc)
takes-once words (Some x) None t u p q = let is : ◌≡◌ {A = List ℕ} [] (x ∷ t) = sym q.0 ∙ p in absurd (cc)
takes-once words (Some x) (Some y) t u p q = let is : x ∷ t ≡ y ∷ u = sym p ∙ q in ((cc), (cc))

start-once : (words : List ℕ) (a b : Held (List ℕ)) → IsStart TakesWord words a.held a.source → IsStart TakesWord words b.held b.source
    → a ≡ b
start-once words a b p q =
    let high = takes-once words p.0 q.0 p.2 q.2 p.3 q.3 in
    let low = takes-once p.2 p.1 q.1 a.source b.source p.4
    (subst (λ (ws : List ℕ). TakesWord ws (Ok q.1) b.source) (sym high.1) q.4) in
    let held : a.held ≡ b.held =
    p.5 ∙ ap (λ o. interval (2 ^ 64 - 1) (word_or_zero o * 2 ^ 32 + word_or_zero p.1)) high.0
    ∙ ap (λ o. interval (2 ^ 64 - 1) (word_or_zero q.0 * 2 ^ 32 + word_or_zero o)) low.0 ∙ sym q.5 in
    ap (λ (i : Interval). holding i a.source) held ∙ ap (λ (ws : List ℕ). holding b.held ws) low.1

widened-once : (i : Interval) (from : List ℕ) (a b : Held (List ℕ)) → IsWidenedByRead TakesWord i from a.held a.source
    → IsWidenedByRead TakesWord i from b.held b.source → a ≡ b
widened-once i from a b (inl p) (inl q) =
    ap (λ (j : Interval). holding j a.source) (p.1 ∙ sym q.1) ∙ ap (λ (ws : List ℕ). holding b.held ws) (p.2 ∙ sym q.2)
widened-once i from a b (inl p) (inr q) = absurd (omega (arith, p.0, q.0))
widened-once i from a b (inr p) (inl q) = absurd (omega (arith, p.0, q.0))
widened-once i from a b (inr p) (inr q) =
    let word = takes-once from p.1 q.1 a.source b.source p.2 q.2 in
    let held : a.held ≡ b.held =
    p.3 ∙ ap (λ o. interval (i.range * 2 ^ 32) (i.offset * 2 ^ 32 + word_or_zero o)) word.0 ∙ sym q.3 in
    ap (λ (j : Interval). holding j a.source) held ∙ ap (λ (ws : List ℕ). holding b.held ws) word.1

module _ {State : Type 0} (rows : State → List (Row Bool)) (next : State → Bool → State) where
  row-at : (state : State) (x : Bool) (old new : Held (List ℕ)) (d : IsBitRead rows (state, x) old new)
      → IsRowOf (rows state) (old.held.offset / unit_of 16 old.held.range) d.step.row
  row-at state x old new d =
      let unit = unit_of 16 old.held.range in
      let row = d.step.row in record {
        among = d.step.among;
        from = quantile-from unit old.held.offset row.left row.weight d.step.holds.from d.step.holds.to;
        to = quantile-to unit old.held.offset row.left row.weight d.step.holds.from d.step.holds.to;
      }

  step-once : (state : State) (x y : Bool) (old a b : Held (List ℕ)) → IsBitRead rows (state, x) old a → IsBitRead rows (state, y) old b
      → (x ≡ y) × (a ≡ b)
  step-once state x y old a b p q =
      let row : p.step.row ≡ q.step.row =
      one-row 32 16 (rows state) (old.held.offset / unit_of 16 old.held.range) p.step.row q.step.row p.tile (row-at state x old a p)
      (row-at state y old b q) in (
        p.step.stands ∙ ap (λ (r : Row Bool). r.symbol) row ∙ sym q.step.stands,
        widened-once (part_of 16 p.step.row.left p.step.row.weight old.held) old.source a b p.step.next
            (subst (λ (r : Row Bool). IsWidenedByRead TakesWord (part_of 16 r.left r.weight old.held) old.source b.held b.source)
            (sym row) q.step.next),
      )

  -- the longer one of two lists of bits that are read from a point on begins with the other one
  turns-once : (xs ys : List Bool) (state : State) (old a b : Held (List ℕ)) → InTurn (IsBitRead rows) (placed next state xs) old a
      → InTurn (IsBitRead rows) (placed next state ys) old b → length xs ≤ length ys
      → (zs : List Bool) × (ys ≡ xs ++ zs) × InTurn (IsBitRead rows) (placed next (fold next state xs) zs) a b
  turns-once [] ys state old a b p q few = (ys, refl, subst (λ (h : Held (List ℕ)). InTurn (IsBitRead rows) (placed next state ys) h b) p q)
  turns-once (x ∷ xs) [] state old a b p q few = absurd (omega (arith, few))
  turns-once (x ∷ xs) (y ∷ ys) state old a b p q few =
      let one = step-once state x y old p.0 q.0 p.1 q.1 in
      let there : InTurn (IsBitRead rows) (placed next (next state y) ys) p.0 b =
      subst (λ (h : Held (List ℕ)). InTurn (IsBitRead rows) (placed next (next state y) ys) h b) (sym one.1) q.2 in
      let on : InTurn (IsBitRead rows) (placed next (next state x) ys) p.0 b =
      subst (λ (z : Bool). InTurn (IsBitRead rows) (placed next (next state z) ys) p.0 b) (sym one.0) there in
      let rest = turns-once xs ys (next state x) p.0 a b p.2 on (omega (arith, few)) in
      (rest.0, ap (λ (bs : List Bool). y ∷ bs) rest.1 ∙ ap (λ z. z ∷ (xs ++ rest.0)) (sym one.0), rest.2)

  module _ (width : ℕ) (first : State) where
    -- words and how many numbers there are say which numbers are read
    pub read-once : (a b words : List ℕ) → AreReadFrom width rows next first a words → AreReadFrom width rows next first b words
        → length a ≡ length b → a ≡ b
    read-once a b words p q long =
        let begun = start-once words q.start p.start q.begun p.begun in
        let many : width * length a ≡ width * length b = ap (λ n. width * n) long in
        let other : InTurn (IsBitRead rows) (placed next first (all_bits width b)) p.start q.end =
        subst (λ (h : Held (List ℕ)). InTurn (IsBitRead rows) (placed next first (all_bits width b)) h q.end) begun q.led in
        let rest = turns-once (all_bits width a) (all_bits width b) first p.start p.end q.end p.led other
        (omega (arith, all-bits-length width a, all-bits-length width b, many)) in
        let none : rest.0 ≡ [] =
        nil_from_length rest.0
        (omega (
          arith,
          ap length rest.1,
          length-append (all_bits width a) rest.0,
          all-bits-length width a,
          all-bits-length width b,
          many,
        )) in
        let bits : all_bits width b ≡ all_bits width a =
        rest.1 ∙ ap (λ (zs : List Bool). all_bits width a ++ zs) none ∙ append-nil (all_bits width a) in
        numbers-once width a b p.small q.small long (sym bits)

    not-above : (zs : List Bool) (state : State) (at end : Held (List ℕ)) → InTurn (IsBitRead rows) (placed next state zs) at end
        → 0 < length zs
        → IsAboveAll 16 at.held → ⊥
    not-above [] state at end d some above = absurd (omega (arith, some))
    not-above (z ∷ zs) state at end d some above =
        let unit = unit_of 16 at.held.range in
        let row = d.1.step.row in
        let lies = row-within 32 16 (rows state) (at.held.offset / unit) row d.1.tile (row-at state z at d.0 d.1) in
        omega (arith, above, d.1.step.holds.to, mul-le unit (row.left + row.weight) unit (2 ^ 16) (omega arith) lies.1)

    -- where more is read, the point is not above all parts
    pub not-invalid : (xs : List Bool) (numbers words : List ℕ) (start at : Held (List ℕ)) → IsStart TakesWord words start.held start.source
        → InTurn (IsBitRead rows) (placed next first xs) start at → AreReadFrom width rows next first numbers words
        → length xs < width * length numbers
        → IsAboveAll 16 at.held → ⊥
    not-invalid xs numbers words start at begun led read fewer above =
        let same = start-once words read.start start read.begun begun in
        let other : InTurn (IsBitRead rows) (placed next first (all_bits width numbers)) start read.end =
        subst (λ (h : Held (List ℕ)). InTurn (IsBitRead rows) (placed next first (all_bits width numbers)) h read.end) same read.led in
        let rest = turns-once xs (all_bits width numbers) first start at read.end led other
        (omega (arith, all-bits-length width numbers, fewer)) in
        not-above rest.0 (fold next first xs) at read.end rest.2
        (omega (arith, ap length rest.1, length-append xs rest.0, all-bits-length width numbers, fewer)) above
