-- How the words of items are written, turn by turn.
use Rattle.std.proofs.Common.{◌≡◌, ℕ, ◌+◌, ◌<◌, ◌≤◌, List, [], ◌∷◌, ◌++◌, length, take, drop, get_or, Option, Result, Ok, Err, refl, ap, sym, ◌∙◌, subst, suc, append_assoc, drop-cons, take-append-drop}
use Rattle.std.proofs.lemmas.List.{take_more, take_all}
use Rattle.std.proofs.lemmas.Slice.Zip.{all_zipped_more}
use Rattle.constriction_words.specs.declared.coder_error.CoderError.TheVariants.{Frontend, Backend}
use Rattle.constriction_backends.specs.Sink.{WritesAppend}
use Rattle.constriction_backends.specs.lemmas.Sink.{writes_more}
use Rattle.constriction_client.specs.declared.quantiles.QuantileFault.{QuantileFault}
use Rattle.constriction_client.specs.Quantiles.{IsQuantileOf, IsFaultOf, WritesItems, StopsAtItem}

-- a list is the elements before an index, the element there, and those after it
section_at : {X : Type 0} (xs : List X) (i : ℕ) (x : X) → i < length xs → x ≡ get_or xs i x
    → xs ≡ take i xs ++ x ∷ drop (suc i) xs
section_at xs i x h e =
    sym (take-append-drop i xs) ∙ ap (λ ys. take i xs ++ ys) (drop-cons xs i x h ∙ ap (λ y. y ∷ drop (suc i) xs) (sym e))

module _ {Symbol Word Sink Error : Type 0} (entry : Symbol → Option (ℕ × ℕ)) (whole : Word → ℕ)
    (gives : Sink → Word → Result (Unit {0}) Error → Sink → Type 0) (tells : Sink → List Word → Type 0)
    (law : (s : Sink) (w : Word) (r : Result (Unit {0}) Error) (t : Sink) → gives s w r t
    → (ws : List Word) → tells s ws → WritesAppend tells ws w r t) where
  -- after one more item, the items so far are written
  pub wrote-more : (items : List (Symbol × Word)) (i : ℕ) (item : Symbol × Word) (word : Word) (s j t : Sink)
      → i < length items → item ≡ get_or items i item → WritesItems entry whole gives tells (take i items) s j
      → IsQuantileOf entry whole item (whole word) → gives j word (Ok tt) t
      → WritesItems entry whole gives tells (take (i + 1) items) s t
  wrote-more items i item word s j t h e so_far quantile wrote =
      let more : take (i + 1) items ≡ take i items ++ item ∷ [] = take_more items i item h
      ∙ ap (λ y. take i items ++ y ∷ []) (sym e) in
      subst (λ (xs : List (Symbol × Word)). WritesItems entry whole gives tells xs s t) (sym more) (record {
        words = so_far.words ++ word ∷ [];
        quantiles =
            all_zipped_more (λ x w. IsQuantileOf entry whole x (whole w))
            (take i items) so_far.words item word so_far.quantiles quantile;
        written = writes_more gives s so_far.words j word t so_far.written wrote;
        known = λ old known.
            subst (λ (ws : List Word). tells t ws) (append_assoc old so_far.words (word ∷ []))
            (law j word (Ok tt) t wrote (old ++ so_far.words) (so_far.known old known));
      })

  -- writing stops at an item that has no quantile
  pub stopped-at-fault : (items : List (Symbol × Word)) (i : ℕ) (item : Symbol × Word) (s t : Sink) (fault : QuantileFault)
      → i < length items → item ≡ get_or items i item → WritesItems entry whole gives tells (take i items) s t
      → IsFaultOf entry whole item fault → StopsAtItem entry whole gives tells items s (Frontend fault) t
  stopped-at-fault items i item s t fault h e so_far is = record {
    before = take i items;
    item = item;
    after = drop (suc i) items;
    split = section_at items i item h e;
    is_such = (t, so_far, (is, refl), so_far.known);
  }

  -- writing stops at an item if the sink refuses its quantile
  pub stopped-at-refusal : (items : List (Symbol × Word)) (i : ℕ) (item : Symbol × Word) (word : Word) (s j t : Sink) (error : Error)
      → i < length items → item ≡ get_or items i item → WritesItems entry whole gives tells (take i items) s j
      → IsQuantileOf entry whole item (whole word) → gives j word (Err error) t
      → StopsAtItem entry whole gives tells items s (Backend error) t
  stopped-at-refusal items i item word s j t error h e so_far quantile refused = record {
    before = take i items;
    item = item;
    after = drop (suc i) items;
    split = section_at items i item h e;
    is_such = (
      j,
      so_far,
      (word, quantile, refused),
      λ old known. law j word (Err error) t refused (old ++ so_far.words) (so_far.known old known),
    );
  }

  -- if as many items were written as there are, all were
  pub wrote-all : (items : List (Symbol × Word)) (n : ℕ) (s t : Sink) → length items ≤ n
      → WritesItems entry whole gives tells (take n items) s t → WritesItems entry whole gives tells items s t
  wrote-all items n s t h so_far =
      subst (λ (xs : List (Symbol × Word)). WritesItems entry whole gives tells xs s t) (take_all n items h) so_far
