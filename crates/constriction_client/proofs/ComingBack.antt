-- Words that were to come are read, and give their pairs.
use Rattle.std.proofs.Common.{◌≡◌, ℕ, suc, ◌^◌, ◌<◌, ◌≤◌, ◌⊎◌, List, [], ◌∷◌, ◌++◌, Result, Ok, Err, length, refl, ap, sym, ◌∙◌, subst, arith, inl, inr, append-nil, length-append}
use Rattle.std.specs.Prelude.{Contains}
use Rattle.std.proofs.lemmas.List.Elements.{All-contains}
use Rattle.std.proofs.lemmas.Slice.Zip.{AllZip-long}
use Rattle.constriction_model.specs.Model.{RowMayBeRefused}
use Rattle.constriction_model.specs.Rows.{Row}
use Rattle.constriction_words.specs.declared.coder_error.CoderError.{CoderError}
use Rattle.constriction_words.specs.declared.coder_error.CoderError.TheVariants.{Frontend}
use Rattle.constriction_backends.specs.Source.{Reads}
use Rattle.constriction_client.specs.declared.quantiles.ReadFault.{ReadFault}
use Rattle.constriction_client.specs.declared.quantiles.ReadFault.TheVariants.{OutOfMemory, QuantileTooLarge}
use Rattle.constriction_client.specs.private.Coming.{ComeNext, QuantilesCome}
use Rattle.constriction_client.specs.Quantiles.{ArePairs, GivesPair, ReadsPairs}
use Rattle.constriction_client.specs.lemmas.Pairs.{are-pairs}
use Rattle.constriction_backends.specs.declared.ReadWords as source
use Rattle.constriction_backends.specs.lemmas.Source.{reads_more}

-- beginnings of one list that have the same length are equal
same-front : {X : Type 0} (a b c d : List X) → a ++ b ≡ c ++ d → length a ≡ length c → a ≡ c
same-front [] b [] d e n = refl
same-front [] b (z ∷ c) d e n = absurd (omega arith)
same-front (y ∷ a) b [] d e n = absurd (omega arith)
same-front (y ∷ a) b (z ∷ c) d e n =
    let first : y ≡ z = cc in
    let others : a ++ b ≡ c ++ d = cc in
    let rest : a ≡ c = same-front a b c d others (omega arith) in
    cc

-- an element with fewer elements before it than a beginning has is in the beginning
among-front : {X : Type 0} (a b c d : List X) (x : X) → a ++ b ≡ c ++ x ∷ d → length c < length a → Contains a x
among-front [] b c d x e n = absurd (omega arith)
among-front (y ∷ a) b [] d x e n = let here : y ≡ x = cc in (0, omega arith, here)
among-front (y ∷ a) b (z ∷ c) d x e n =
    let others : a ++ b ≡ c ++ x ∷ d = cc in
    let rest = among-front a b c d x others (omega arith) in
    (suc rest.0, omega arith, rest.2)

module _ {Symbol Word Order Source Error : Type 0} (Stands : Symbol → Symbol → Type 0) (rows : List (Row Symbol)) (whole : Word → ℕ)
    (precision : ℕ) (MayRefuse : Symbol → Type 0) (capacity : ℕ) (reads : source.Ghosts Source Word Order Error) (count : ℕ) (s t : Source)
    (new : List (Symbol × Word)) where
  abbrev MayLackMemory : ℕ → Type 0
  MayLackMemory q = RowMayBeRefused MayRefuse rows q ⊎ (capacity ≤ length new)

  abbrev Gives : Word → Result (Symbol × Word) ReadFault → Type 0
  Gives = GivesPair Stands rows whole precision MayLackMemory

  -- if as many words as are asked for were to come, all of them are read
  pub all-read : (n : ℕ) → ReadsPairs reads Gives count s [] (Ok n) t new
      → (words : List Word) → ComeNext reads.tells_upcoming s words → length words ≡ count
      → ArePairs Stands rows whole words new × Reads reads.read_gives s words t
  all-read n read words next many =
      let adds = read.adds in
      let left = read.known (words ++ next.rest) next.known in
      let split : words ++ next.rest ≡ adds.words ++ left.0 =
      left.1 ∙ ap (λ ws. adds.words ++ (ws ++ left.0)) read.ended.1 in
      let long = AllZip-long (λ word pair. Gives word (Ok pair)) adds.words adds.pairs adds.of_words in
      let whole_list : (words ≡ adds.words) × (t ≡ read.reached) = elim read.ended.2 [
        | inl all ↦ (
          same-front words next.rest adds.words left.0 split (omega (arith, long, all.0, many)),
          all.1,
        )
        | inr fewer ↦
            let ended : left.0 ≡ [] = left.3 (omega (arith, read.ended.0, fewer.0)) in
            let short : words ++ next.rest ≡ adds.words = split ∙ ap (λ ws. adds.words ++ ws) ended ∙ append-nil adds.words in
            absurd (omega (arith, ap length short, length-append words next.rest, long, fewer.0, many))
      ] in (
        subst (λ (ws : List Word). ArePairs Stands rows whole ws new) (sym whole_list.0)
            (subst (λ (ps : List (Symbol × Word)). ArePairs Stands rows whole adds.words ps) (sym adds.added)
            (are-pairs Stands rows whole precision MayLackMemory adds.words adds.pairs adds.of_words)),
        subst (λ (ws : List Word). Reads reads.read_gives s ws t) (sym whole_list.0)
            (subst (λ (u : Source). Reads reads.read_gives s adds.words u) (sym whole_list.1) adds.read),
      )

  -- if memory was refused, some words were read
  pub some-read : (error : CoderError ReadFault Error) → ReadsPairs reads Gives count s [] (Err error) t new
      → error ≡ Frontend OutOfMemory → (words : List Word) × Reads reads.read_gives s words t
  some-read error read is =
      let at : ReadsPairs reads Gives count s [] (Err (Frontend OutOfMemory)) t new =
      subst (λ e. ReadsPairs reads Gives count s [] (Err e) t new) is read in
      (at.adds.words ++ at.ended.0 ∷ [], reads_more reads.read_gives s at.adds.words at.reached at.ended.0 t at.adds.read at.ended.3)

  -- if the words to come are quantiles, none is too large
  pub never-too-large : (error : CoderError ReadFault Error) → ReadsPairs reads Gives count s [] (Err error) t new
      → error ≡ Frontend QuantileTooLarge → QuantilesCome precision whole reads.tells_upcoming count s → ⊥
  never-too-large error read is come =
      let at : ReadsPairs reads Gives count s [] (Err (Frontend QuantileTooLarge)) t new =
      subst (λ e. ReadsPairs reads Gives count s [] (Err e) t new) is read in
      let left = at.known (come.words ++ come.next.rest) come.next.known in
      let split : come.words ++ come.next.rest ≡ at.adds.words ++ at.ended.0 ∷ left.0 =
      left.1 ∙ ap (λ ws. at.adds.words ++ (ws ++ left.0)) at.ended.2 in
      let long = AllZip-long (λ word pair. Gives word (Ok pair)) at.adds.words at.adds.pairs at.adds.of_words in
      let among =
      among-front come.words come.next.rest at.adds.words left.0 at.ended.0 split (omega (arith, long, at.ended.1, come.many)) in
      let small = All-contains (λ w. whole w < 2 ^ precision) come.words at.ended.0 come.in_range among in
      omega (arith, small, at.ended.4)
