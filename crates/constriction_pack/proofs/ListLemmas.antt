-- Lists that begin alike, and what readers of known bytes gave.
use Rattle.std.proofs.Common.{◌≡◌, ℕ, ◌+◌, ◌<◌, ◌≤◌, List, [], ◌∷◌, ◌++◌, Option, Some, None}
use Rattle.std.proofs.Common.{length, get_or, take, drop, refl, ap, sym, ◌∙◌, arith}
use Rattle.std.specs.Prelude.{Result, Ok, Err, OnErr}
use Rattle.std.specs.Io.KnownBytes.{Consumes, IsAtEnd}
use Rattle.std.proofs.KnownBytes.{Consumes-trans}
use Rattle.std.proofs.lemmas.List.{length-append, take_at, drop_at}
use Rattle.constriction_coders.specs.Bytes.{bytes_of_words}
use Rattle.constriction_coders.specs.lemmas.Bytes.{bytes_once}

-- if two lists are equal, so are their beginnings of one length
pub same_front : (xs ys vs ws : List ℕ) → xs ++ vs ≡ ys ++ ws → length xs ≡ length ys
    → (xs ≡ ys) × (vs ≡ ws)
same_front xs ys vs ws e n = (
  sym (take_at xs vs (length xs) refl) ∙ ap (take (length xs)) e
      ∙ take_at ys ws (length xs) (sym n),
  sym (drop_at xs vs (length xs) refl) ∙ ap (drop (length xs)) e
      ∙ drop_at ys ws (length xs) (sym n),
)

-- numbers with the same bytes, whatever follows them
pub number_once : (n m : ℕ) (xs ys : List ℕ)
    → bytes_of_words (n ∷ []) ++ xs ≡ bytes_of_words (m ∷ []) ++ ys → n ≡ m
number_once n m xs ys e = ap (λ ws. get_or ws 0 0) (bytes_once (n ∷ []) (m ∷ []) (ap (take 4) e))

-- what a reader of known bytes gave
pub gave : (a b : Option (List ℕ)) (xs bs : List ℕ) → a ≡ Some xs → Consumes a b bs
    → (ys : List ℕ) × (b ≡ Some ys) × (xs ≡ bs ++ ys)
gave None b xs bs e h = cc
gave (Some zs) None xs bs e h = absurd h
gave (Some zs) (Some ys) xs bs e h = (ys, refl, cc)

-- what a read put into an empty buffer
pub read_once : (a b : Option (List ℕ)) {old new : List ℕ} → old ≡ []
    → (bytes : List ℕ) × Consumes a b bytes × (new ≡ old ++ bytes) → Consumes a b new
read_once a b none one = rw (one.2, none) one.1

-- what two reads put into an empty buffer
pub read_twice : (a b d : Option (List ℕ)) {old new last : List ℕ} → old ≡ []
    → (bytes : List ℕ) × Consumes a b bytes × (new ≡ old ++ bytes)
    → (bytes : List ℕ) × Consumes b d bytes × (last ≡ new ++ bytes) → Consumes a d last
read_twice a b d none one two =
    rw (two.2, one.2, none) (Consumes-trans a b d one.0 two.0 one.1 two.1)

-- what was read of known bytes that begin so, if it is no more than that, and no less before the
-- end
pub read_front : (a b : Option (List ℕ)) (front rest read : List ℕ) → a ≡ Some (front ++ rest)
    → Consumes a b read → length read ≤ length front → (length read < length front → IsAtEnd b)
    → read ≡ front
read_front a b front rest read known h most end =
    let given = gave a b (front ++ rest) read known h in
    let sum : length front + length rest ≡ length read + length given.0 =
    sym (length-append front rest) ∙ ap length given.2 ∙ length-append read given.0 in
    let short : length read < length front → length given.0 ≡ 0 =
    λ less. ap length (rw given.1 at (end less)) in
    let same : length front ≡ length read = grind (arith, short, sum, most) in
    sym (same_front front read rest given.0 given.2 same).0

-- what holds anyway holds after an error
pub OnErr-from : {A E : Type 0} (r : Result A E) (P : Type 0) → P → OnErr r P
OnErr-from (Ok a) P h = tt
OnErr-from (Err e) P h = h
