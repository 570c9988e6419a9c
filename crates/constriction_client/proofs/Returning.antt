-- The pair of an item's word is the item, except that its symbol may stand for an equal one. So it is for whole lists.
use Rattle.std.proofs.Common.{◌≡◌, ℕ, ◌^◌, ◌<◌, Bool, List, [], ◌∷◌, Option, Result, length, reverse, ap, sym, ◌∙◌, subst, arith}
use Rattle.std.specs.Prelude.{All, IsTrue}
use Rattle.std.specs.Cmp.{IsEquivalence}
use Rattle.std.specs.List.{AllZip}
use Rattle.std.proofs.lemmas.List.{reverse-append}
use Rattle.std.proofs.lemmas.List.Elements.{All-nil, All-cons}
use Rattle.std.proofs.lemmas.Slice.Zip.{all_zipped_more, AllZip-long}
use Rattle.constriction_model.specs.Model.{LiesWithin}
use Rattle.constriction_model.specs.Rows.{Row, RowsTile, entry_of}
use Rattle.constriction_words.specs.declared.coder_error.CoderError.{CoderError}
use Rattle.constriction_words.specs.declared.coder_error.CoderError.TheVariants.{Frontend}
use Rattle.constriction_client.specs.declared.quantiles.QuantileFault.{QuantileFault}
use Rattle.constriction_client.specs.Quantiles.{IsQuantileOf, AreQuantiles, IsPairOf, ArePairs, StopsAtItem}
use Rattle.constriction_client.specs.ThereAndBack.{AreItems, StandForItems, ReadsBack, HasFault}
use Rattle.constriction_model.specs.lemmas.Coding.{entry-row, entry-below, one-row}

-- the pairs are the items, one by one, except that each symbol stands for one that is equal to the item's
abbrev StandOneByOne : {Symbol Word : Type 0} → (Symbol → Symbol → Type 0) → (Symbol → Symbol → Bool) → List (Symbol × Word)
    → List (Symbol × Word) → Type 0
StandOneByOne {Symbol} Stands eq items pairs =
    AllZip (λ item pair. ((own : Symbol) × IsTrue (eq own item.0) × Stands own pair.0) × (pair.1 ≡ item.1)) items pairs

-- the pair of an item's word has the item's offset, and its symbol stands for an equal one
same-item : {Symbol Word : Type 0} (Stands : Symbol → Symbol → Type 0) (eq : Symbol → Symbol → Bool) (entry : Symbol → Option (ℕ × ℕ))
    (whole : Word → ℕ) (bits precision : ℕ) (rows : List (Row Symbol))
    (item pair : Symbol × Word) (word : Word) → RowsTile bits precision rows → ((a b : Word)
    → whole a ≡ whole b → a ≡ b)
    → ((s : Symbol) → entry s ≡ entry_of eq rows s)
    → IsQuantileOf entry whole item (whole word) → IsPairOf Stands rows whole word pair
    → ((own : Symbol) × IsTrue (eq own item.0) × Stands own pair.0) × (pair.1 ≡ item.1)
same-item {Symbol = Symbol} Stands eq entry whole bits precision rows item pair word tile one_word agree quantile is =
    let has = entry-row eq rows item.0 quantile.left quantile.weight (sym (agree item.0) ∙ quantile.known) in
    let row : is.row ≡ has.row = one-row bits precision rows (whole word) is.row has.row tile is.found (record {
      among = has.among;
      from = omega (arith, has.left_is, quantile.sum);
      to = omega (arith, has.left_is, has.weight_is, quantile.sum, quantile.below);
    }) in
    let left : is.row.left ≡ quantile.left = ap (λ (r : Row Symbol). r.left) row ∙ has.left_is in (
      (has.row.symbol, has.same, subst (λ (r : Row Symbol). Stands r.symbol pair.0) row is.symbol),
      one_word pair.1 item.1 (omega (arith, left, is.offset, quantile.sum)),
    )

-- so it is for all items, in order
stand-one-by-one : {Symbol Word : Type 0} (Stands : Symbol → Symbol → Type 0) (eq : Symbol → Symbol → Bool)
    (entry : Symbol → Option (ℕ × ℕ)) (whole : Word → ℕ) (bits precision : ℕ) (rows : List (Row Symbol))
    (items pairs : List (Symbol × Word)) (words : List Word)
    → RowsTile bits precision rows → ((a b : Word) → whole a ≡ whole b → a ≡ b)
    → ((s : Symbol) → entry s ≡ entry_of eq rows s)
    → AreQuantiles entry whole items words → ArePairs Stands rows whole words pairs → StandOneByOne Stands eq items pairs
stand-one-by-one Stands eq entry whole bits precision rows [] [] [] tile one_word agree h k = tt
stand-one-by-one Stands eq entry whole bits precision rows [] (p ∷ ps) [] tile one_word agree h k = absurd k
stand-one-by-one Stands eq entry whole bits precision rows [] ps (w ∷ ws) tile one_word agree h k = absurd h
stand-one-by-one Stands eq entry whole bits precision rows (i ∷ is) ps [] tile one_word agree h k = absurd h
stand-one-by-one Stands eq entry whole bits precision rows (i ∷ is) [] (w ∷ ws) tile one_word agree h k = absurd k
stand-one-by-one Stands eq entry whole bits precision rows (i ∷ is) (p ∷ ps) (w ∷ ws) tile one_word agree h k = (
  same-item Stands eq entry whole bits precision rows i p w tile one_word agree h.0 k.0,
  stand-one-by-one Stands eq entry whole bits precision rows is ps ws tile one_word agree h.1 k.1,
)

-- pairs whose symbols stand for equal ones are the items, if a symbol that stands for another is equal to all that the other is equal to
are-these : {Symbol Word : Type 0} (Stands : Symbol → Symbol → Type 0) (eq : Symbol → Symbol → Bool)
    → ((s t u : Symbol) → Stands s t → IsTrue (eq s u) → IsTrue (eq t u))
    → (items pairs : List (Symbol × Word)) → StandOneByOne Stands eq items pairs → AreItems eq items pairs
are-these Stands eq carry [] [] h = tt
are-these Stands eq carry [] (p ∷ ps) h = absurd h
are-these Stands eq carry (i ∷ is) [] h = absurd h
are-these Stands eq carry (i ∷ is) (p ∷ ps) h = (
  (carry h.0.0.0 p.0 i.0 h.0.0.2 h.0.0.1, h.0.1),
  are-these Stands eq carry is ps h.1,
)

-- pairs that were read from the quantiles of items stand for the items
pub stand-back : {Symbol Word : Type 0} (Stands : Symbol → Symbol → Type 0) (eq : Symbol → Symbol → Bool) → IsEquivalence eq
    → (entry : Symbol → Option (ℕ × ℕ)) (whole : Word → ℕ) (bits precision : ℕ) (rows : List (Row Symbol))
    (items pairs : List (Symbol × Word)) (words : List Word)
    → RowsTile bits precision rows → ((a b : Word) → whole a ≡ whole b → a ≡ b)
    → ((s : Symbol) → entry s ≡ entry_of eq rows s)
    → AreQuantiles entry whole items words → ArePairs Stands rows whole words pairs → StandForItems Stands eq items pairs
stand-back Stands eq laws entry whole bits precision rows items pairs words tile one_word agree h k =
    let stand = stand-one-by-one Stands eq entry whole bits precision rows items pairs words tile one_word agree h k in
    record {
      stand = stand;
      equal = λ equal.
          are-these Stands eq (λ s t u stands same. sym (laws.congr s t u (equal s t stands)) ∙ same) items pairs stand;
    }

-- in a queue words are read in their order, and so are items
pub reads-back : (Symbol Word : Type 0) → ReadsBack Symbol Word (λ words. words) (λ items. items)
reads-back Symbol Word eq entry whole bits precision rows items pairs words tile one_word agree h k =
    are-these (λ s t. t ≡ s) eq (λ s t u is same. ap (λ x. eq x u) is ∙ same) items pairs
    (stand-one-by-one (λ s t. t ≡ s) eq entry whole bits precision rows items pairs words tile one_word agree h k)

-- what holds of two lists one by one holds of the reversed ones
pub AllZip-reverse : {X Y : Type 0} (R : X → Y → Type 0) (xs : List X) (ys : List Y) → AllZip R xs ys
    → AllZip R (reverse xs) (reverse ys)
AllZip-reverse R [] [] h = tt
AllZip-reverse R [] (y ∷ ys) h = absurd h
AllZip-reverse R (x ∷ xs) [] h = absurd h
AllZip-reverse R (x ∷ xs) (y ∷ ys) h =
    rw (reverse-append (x ∷ []) xs, reverse-append (y ∷ []) ys)
    (all_zipped_more R (reverse xs) (reverse ys) x y (AllZip-reverse R xs ys h.1) h.0)

-- the same where the words are read in reverse: the items come back in reverse
pub stand-back-reversed : {Symbol Word : Type 0} (Stands : Symbol → Symbol → Type 0) (eq : Symbol → Symbol → Bool) → IsEquivalence eq
    → (entry : Symbol → Option (ℕ × ℕ)) (whole : Word → ℕ) (bits precision : ℕ) (rows : List (Row Symbol))
    (items pairs : List (Symbol × Word)) (words : List Word)
    → RowsTile bits precision rows → ((a b : Word) → whole a ≡ whole b → a ≡ b)
    → ((s : Symbol) → entry s ≡ entry_of eq rows s)
    → AreQuantiles entry whole items words → ArePairs Stands rows whole (reverse words) pairs
    → StandForItems Stands eq (reverse items) pairs
stand-back-reversed Stands eq laws entry whole bits precision rows items pairs words tile one_word agree h k =
    stand-back Stands eq laws entry whole bits precision rows (reverse items) pairs (reverse words) tile one_word agree
    (AllZip-reverse (λ item word. IsQuantileOf entry whole item (whole word)) items words h) k

-- in a stack words are read in reverse, and so are items
pub reads-back-reversed : (Symbol Word : Type 0) → ReadsBack Symbol Word reverse reverse
reads-back-reversed Symbol Word eq entry whole bits precision rows items pairs words tile one_word agree h k =
    reads-back Symbol Word eq entry whole bits precision rows (reverse items) pairs (reverse words) tile one_word agree
    (AllZip-reverse (λ item word. IsQuantileOf entry whole item (whole word)) items words h) k

-- there are as many words as items
pub as-many : {Symbol Word : Type 0} (entry : Symbol → Option (ℕ × ℕ)) (whole : Word → ℕ) (items : List (Symbol × Word))
    (words : List Word) → AreQuantiles entry whole items words → length words ≡ length items
as-many entry whole items words = AllZip-long (λ item word. IsQuantileOf entry whole item (whole word)) items words

-- the words of items are quantiles
pub quantiles-below : {Symbol Word : Type 0} (eq : Symbol → Symbol → Bool) (whole : Word → ℕ) (precision : ℕ)
    (rows : List (Row Symbol)) (items : List (Symbol × Word)) (words : List Word) → All (LiesWithin precision) rows
    → AreQuantiles (entry_of eq rows) whole items words → All (λ w. whole w < 2 ^ precision) words
quantiles-below eq whole precision rows [] [] within h = All-nil (λ w. whole w < 2 ^ precision)
quantiles-below eq whole precision rows [] (w ∷ ws) within h = absurd h
quantiles-below eq whole precision rows (i ∷ is) [] within h = absurd h
quantiles-below eq whole precision rows (i ∷ is) (w ∷ ws) within h =
    let q = h.0 in
    let below = entry-below precision eq rows i.0 q.left q.weight (whole i.1) q.known within q.below in
    All-cons (λ x. whole x < 2 ^ precision) w ws (omega (arith, below, q.sum))
    (quantiles-below eq whole precision rows is ws within h.1)

-- if the writing stopped at a fault, that fault is the first one
pub first-fault : {Symbol Word Sink Error : Type 0} (entry : Symbol → Option (ℕ × ℕ)) (whole : Word → ℕ)
    (gives : Sink → Word → Result (Unit {0}) Error → Sink → Type 0) (tells : Sink → List Word → Type 0)
    (items : List (Symbol × Word)) (s : Sink) (error : CoderError QuantileFault Error) (t : Sink) (fault : QuantileFault)
    → StopsAtItem entry whole gives tells items s error t → error ≡ Frontend fault
    → HasFault entry whole items fault
first-fault entry whole gives tells items s error t fault stopped is =
    let at : StopsAtItem entry whole gives tells items s (Frontend fault) t =
    subst (λ e. StopsAtItem entry whole gives tells items s e t) is stopped in
    record {
      before = at.before;
      item = at.item;
      after = at.after;
      split = at.split;
      is_such = (at.is_such.1.words, at.is_such.1.quantiles, at.is_such.2.0);
    }
