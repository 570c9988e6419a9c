-- Entries that were read without comparing symbols, if no two symbols turn out to be equal, and if two do.
use Rattle.std.specs.Prelude.{◌≡◌, ℕ, Bool, false, List, [], ◌∷◌, map}
use Rattle.std.proofs.Common.{refl, subst, ◌∙◌}
use Rattle.std.specs.List.{AllByRecursion, IsDistinct}
use Rattle.constriction_model.specs.Acceptance.{AreAccepted, Reading, ToItsEnd}
use Rattle.constriction_stored_rows.specs.private.Filling.{HoldsRows}
use Rattle.constriction_model.specs.Rows.{rows_of}
use Rattle.constriction_stored_rows.proofs.MadeLemmas.{BothBad}
use Rattle.constriction_stored_rows.proofs.PairedLemmas.{accepted-symbols}

-- if symbols are not compared, no two are equal
all-uncompared : {Symbol : Type 0} (ts : List Symbol) → AllByRecursion (λ t. false ≡ false) ts
all-uncompared [] = tt
all-uncompared (t ∷ ts) = (refl, all-uncompared ts)

uncompared-distinct : {Symbol : Type 0} (ss : List Symbol) → IsDistinct (λ _ _. false) ss
unfolding IsDistinct
uncompared-distinct [] = tt
uncompared-distinct (s ∷ ss) = (all-uncompared ss, uncompared-distinct ss)

module _ {Word Symbol : Type 0} (eq : Symbol → Symbol → Bool) (whole : Word → ℕ) (bits precision : ℕ) (entries : List (Word × Symbol))
    (ss : List Symbol) (ws : List ℕ) (a : AreAccepted (λ _ _. false) bits precision ss ws)
    (h : HoldsRows whole entries (rows_of ss ws)) where
  -- the symbols of the entries are the symbols that were read
  pub read-symbols : map (λ x. x.1) entries ≡ ss
  read-symbols = h.0 ∙ accepted-symbols (λ _ _. false) bits precision ss ws a

  module _ (d : IsDistinct eq ss) where
    -- symbols that differ and weights that are accepted are accepted together
    pub apart-accepted : AreAccepted eq bits precision ss ws
    apart-accepted = record { tile = a.tile; as_many = a.as_many; distinct = d }

-- ---- what was refused

-- what is accepted if symbols are compared is accepted if they are not
pub accepted-uncompared : {Symbol : Type 0} (eq : Symbol → Symbol → Bool) (bits precision : ℕ) (ss : List Symbol) (ws : List ℕ)
    → AreAccepted eq bits precision ss ws → AreAccepted (λ _ _. false) bits precision ss ws
accepted-uncompared eq bits precision ss ws a = record { tile = a.tile; as_many = a.as_many; distinct = uncompared-distinct ss }

module _ {A B : Type 0} (Read : Reading → List A → Type 0) (OtherRead : Reading → List B → Type 0) (Good : List A → List B → Type 0) where
  -- if what was read is not good, it is not better than good
  pub bad-narrower : (Better : List A → List B → Type 0) → ((xs : List A) (ys : List B) → Better xs ys → Good xs ys)
      → BothBad Read OtherRead Good → BothBad Read OtherRead Better
  bad-narrower Better better (xs, ys, reading, other, read, other_read, never) =
      (xs, ys, reading, other, read, other_read, λ all others a b good. never all others a b (better all others good))

  -- what was read to the ends and is not good
  pub bad-at_end : (xs : List A) (ys : List B) → Read ToItsEnd xs → OtherRead ToItsEnd ys → ¬ (Good xs ys) → BothBad Read OtherRead Good
  bad-at_end xs ys read other_read not = (
    xs,
    ys,
    ToItsEnd,
    ToItsEnd,
    read,
    other_read,
    λ all others a b good.
        not (subst (λ (zs : List A). Good zs ys) a (subst (λ (zs : List B). Good all zs) b good)),
  )
