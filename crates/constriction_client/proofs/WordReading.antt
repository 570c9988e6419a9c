-- How words are read and their pairs added, turn by turn.
use Rattle.std.proofs.Common.{◌≡◌, ℕ, ◌+◌, ◌<◌, ◌≤◌, ◌⊎◌, List, [], ◌∷◌, ◌++◌, length, Option, Some, None, Result, Ok, Err, refl, ap, sym, ◌∙◌, subst, inl, inr, arith, append_assoc, append-nil, length-append}
use Rattle.std.proofs.lemmas.List.{length_push}
use Rattle.std.proofs.lemmas.Slice.Zip.{all_zipped_more}
use Rattle.constriction_words.specs.declared.coder_error.CoderError.{CoderError}
use Rattle.constriction_words.specs.declared.coder_error.CoderError.TheVariants.{Frontend, Backend}
use Rattle.constriction_backends.specs.Source.{ReadsUpcoming}
use Rattle.constriction_backends.specs.declared.ReadWords as source
use Rattle.constriction_backends.specs.lemmas.Source.{reads_more, reads_upcoming_all}
use Rattle.constriction_model.specs.Model.{RowMayBeRefused}
use Rattle.constriction_model.specs.Rows.{Row}
use Rattle.constriction_client.specs.declared.quantiles.ReadFault.{ReadFault}
use Rattle.constriction_client.specs.declared.quantiles.ReadFault.TheVariants.{OutOfMemory, QuantileTooLarge}
use Rattle.constriction_client.specs.Quantiles.{GivesPair, AddsPairs, EndsReading, LeavesWords, ReadsPairs}

-- If one more pair has room, the capacity stays. `room` is the first capacity, and `held` the one before this pair.
pub has-room : {X : Type 0} (room held capacity : ℕ) (mid new : List X) (x : X) → new ≡ mid ++ x ∷ []
    → (length mid < held → capacity ≡ held) → (length mid ≤ room → held ≡ room) → length new ≤ room → capacity ≡ room
has-room room held capacity mid new x is keeps so_far fits =
    let long : length new ≡ length mid + 1 = ap length is ∙ length_push mid x in
    let stayed : held ≡ room = so_far (omega (arith, long, fits)) in
    keeps (omega (arith, long, fits, stayed)) ∙ stayed

-- if nothing is added, it stays too
pub stays-full : {X : Type 0} (room held capacity : ℕ) (mid new : List X) → new ≡ mid → capacity ≡ held
    → (length mid ≤ room → held ≡ room) → length new ≤ room → capacity ≡ room
stays-full room held capacity mid new is stays so_far fits = stays ∙ so_far (omega (arith, ap length is, fits))

module _ {Symbol Word : Type 0} (Stands : Symbol → Symbol → Type 0) (rows : List (Row Symbol)) (whole : Word → ℕ) (precision : ℕ) where
  -- a fault of the model's is one too if memory may also be refused for another reason
  pub also-full : (MayLackMemory : ℕ → Type 0) (IsFull : Type 0) (word : Word) (fault : ReadFault)
      → GivesPair Stands rows whole precision MayLackMemory word (Err fault)
      → GivesPair Stands rows whole precision (λ k. MayLackMemory k ⊎ IsFull) word (Err fault)
  also-full MayLackMemory IsFull word OutOfMemory is = (is.0, inl is.1)
  also-full MayLackMemory IsFull word QuantileTooLarge is = is

  module _ {Order Source Error : Type 0} (reads : source.Ghosts Source Word Order Error) where
    -- the words so far were read, and gave n pairs
    abbrev pub HasRead : Source → List (Symbol × Word) → ℕ → Source → List (Symbol × Word) → Type 0
    HasRead s old n t new = (adds : AddsPairs reads (GivesPair Stands rows whole precision (λ _. ⊥)) s old t new) × (length adds.pairs ≡ n)

    -- nothing was read
    pub read-none : (s : Source) (old : List (Symbol × Word)) → HasRead s old 0 s old
    read-none s old = (record { words = []; pairs = []; of_words = tt; added = sym (append-nil old); read = refl }, refl)

    -- one word more was read, and its pair added
    pub read-more : (s : Source) (old : List (Symbol × Word)) (n : ℕ) (j : Source) (mid : List (Symbol × Word)) (word : Word)
        (pair : Symbol × Word) (t : Source) (new : List (Symbol × Word)) → HasRead s old n j mid
        → reads.read_gives j (Ok (Some word)) t → GivesPair Stands rows whole precision (λ _. ⊥) word (Ok pair)
        → new ≡ mid ++ pair ∷ [] → HasRead s old (n + 1) t new
    read-more s old n j mid word pair t new (so_far, many) took is e = (
      record {
        words = so_far.words ++ word ∷ [];
        pairs = so_far.pairs ++ pair ∷ [];
        of_words =
            all_zipped_more (λ word pair. GivesPair Stands rows whole precision (λ _. ⊥) word (Ok pair)) so_far.words so_far.pairs word pair
            so_far.of_words is;
        added = e ∙ ap (λ ps. ps ++ pair ∷ []) so_far.added ∙ append_assoc old so_far.pairs (pair ∷ []);
        read = reads_more reads.read_gives s so_far.words j word t so_far.read took;
      },
      omega (arith, length-append so_far.pairs (pair ∷ []), many),
    )

    module _ (law : (s : Source) (r : Result (Option Word) Error) (t : Source) → reads.read_gives s r t
        → (ws : List Word) → reads.tells_upcoming s ws → ReadsUpcoming reads.tells_upcoming ws r t) where
      -- the words that are still to come after reading ended
      words-left : (Gives : Word → Result (Symbol × Word) ReadFault → Type 0) (count n : ℕ) (j : Source)
          (r : Result ℕ (CoderError ReadFault Error)) (more : List Word) (t : Source) → EndsReading reads Gives count n j r more t
          → (ws : List Word) → reads.tells_upcoming j ws
          → (rest : List Word) × (ws ≡ more ++ rest) × reads.tells_upcoming t rest × LeavesWords reads Gives count r rest
      words-left Gives count n j (Ok k) more t (is, none, inl all) ws h = (
        ws,
        sym (ap (λ m. m ++ ws) none),
        subst (λ (x : Source). reads.tells_upcoming x ws) (sym all.1) h,
        λ less. absurd (omega (arith, is, all.0, less)),
      )
      words-left Gives count n j (Ok k) more t (is, none, inr fewer) ws h =
          let end = law j (Ok None) t fewer.1 ws h in ([], end.0 ∙ sym (ap (λ m. m ++ []) none), end.1, λ _. refl)
      words-left Gives count n j (Err (Frontend fault)) more t (word, less, one, took, is) ws h =
          let next = law j (Ok (Some word)) t took ws h in (next.0, next.1 ∙ sym (ap (λ m. m ++ next.0) one), next.2, tt)
      words-left Gives count n j (Err (Backend e)) more t (less, none, failed) ws h =
          let left = law j (Err e) t failed ws h in (ws, sym (ap (λ m. m ++ ws) none), left.1, left.0)

      module _ (MayRefuse : Symbol → Type 0) (capacity : ℕ) (new : List (Symbol × Word)) where
        -- memory for a pair may be refused by the model, or if the list of pairs is full
        abbrev Gives : Word → Result (Symbol × Word) ReadFault → Type 0
        Gives = GivesPair Stands rows whole precision (λ q. RowMayBeRefused MayRefuse rows q ⊎ (capacity ≤ length new))

        -- reading ends after these words
        pub reading-ends : (s : Source) (old : List (Symbol × Word)) (count n : ℕ) (j : Source) (r : Result ℕ (CoderError ReadFault Error))
            (more : List Word) (t : Source) → HasRead s old n j new → EndsReading reads Gives count n j r more t
            → ReadsPairs reads Gives count s old r t new
        reading-ends s old count n j r more t (so_far, many) ends = record {
          reached = j;
          adds = record {
            words = so_far.words;
            pairs = so_far.pairs;
            of_words = so_far.of_words;
            added = so_far.added;
            read = so_far.read;
          };
          more = more;
          ended = subst (λ k. EndsReading reads Gives count k j r more t) (sym many) ends;
          known = λ upcoming h.
              let now = reads_upcoming_all reads.read_gives reads.tells_upcoming law s so_far.words j so_far.read upcoming h in
              let left = words-left Gives count n j r more t ends now.0 now.2 in
              (left.0, now.1 ∙ ap (λ ws. so_far.words ++ ws) left.1, left.2, left.3);
        }
