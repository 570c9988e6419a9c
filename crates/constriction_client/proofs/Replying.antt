-- Replies of models stand for those of a scan.
use Rattle.std.proofs.Common.{refl, subst, ◌≡◌, ℕ, ◌+◌, ◌^◌, ◌<◌, ◌≤◌, Bool, List, [], ◌∷◌, ◌++◌, Option, ap, sym, ◌∙◌, length, get_or, take, map}
use Rattle.std.proofs.lemmas.Bool.{lt-ltb}
use Rattle.std.proofs.lemmas.List.{map-append, take_all, take_more}
use Rattle.std.specs.List.{AllZip}
use Rattle.std.proofs.lemmas.Slice.Zip.{all_zipped_more}
use Rattle.constriction_model.specs.Model.{row_of, AnswersQuantile, ClonesAreSame}
use Rattle.constriction_model.specs.Rows.{Row, RowsTile, entry_of}
use Rattle.constriction_client.specs.declared.queries.Query.{Query}
use Rattle.constriction_client.specs.declared.queries.Query.TheVariants.{OfQuantile}
use Rattle.constriction_client.specs.declared.queries.Reply.{Reply}
use Rattle.constriction_client.specs.declared.queries.Reply.TheVariants as reply
use Rattle.constriction_client.specs.Replies.{reply_to_query, replies_by_scan, StandsForReply, AreRepliesOf}
use Rattle.constriction_model.proofs.Finding.{find_row}

-- replies stand for those of a scan, one by one
abbrev pub StandForReplies : {S : Type 0} → (S → S → Type 0) → List (Reply S ℕ ℕ) → List (Reply S ℕ ℕ) → Type 0
StandForReplies Stands replies scanned = AllZip (StandsForReply Stands) replies scanned

-- the replies to queries, one by one, by the rows of one model and the entries of another
abbrev pub replies_of_two : {S Word : Type 0} → ℕ → (Word → ℕ) → List (Row S) → (S → Option (ℕ × ℕ)) → List (Query S Word)
    → List (Reply S ℕ ℕ)
replies_of_two precision whole rows entry queries = map (reply_to_query precision whole rows entry) queries

-- an answer to the quantile stands for the reply of a scan
pub known-reply : {S Word Weight : Type 0} (Stands : S → S → Type 0) (whole : Word → ℕ) (base : Weight → Word) (bits precision : ℕ)
    (rows : List (Row S)) (entry : S → Option (ℕ × ℕ)) (word : Word) (x : S × Word × Weight) → whole word < 2 ^ precision
    → RowsTile bits precision rows → AnswersQuantile Stands whole base rows (whole word) x
    → StandsForReply Stands (reply.Row x.0 (whole x.1) (whole (base x.2))) (reply_to_query precision whole rows entry (OfQuantile word))
known-reply Stands whole base bits precision rows entry word x below tile answer = (
  answer.0,
  answer.1,
  rw (
    lt-ltb (whole word) (2 ^ precision) below,
    find_row bits precision rows (whole word) (row_of whole base (answer.0, x.1, x.2)) tile answer.2,
  ) refl,
)

-- if each clone is its symbol, a reply that stands for a scan's reply is that reply
same-reply : {S : Type 0} (Stands : S → S → Type 0) → ClonesAreSame Stands → (given scanned : Reply S ℕ ℕ)
    → StandsForReply Stands given scanned → given ≡ scanned
same-reply Stands same (reply.Row symbol left weight) scanned h =
    ap (λ s. reply.Row s left weight) (same h.0 symbol h.1) ∙ sym h.2
same-reply Stands same reply.OutOfRange scanned h = sym h
same-reply Stands same (reply.Entry entry) scanned h = sym h

same-replies : {S : Type 0} (Stands : S → S → Type 0) → ClonesAreSame Stands → (given scanned : List (Reply S ℕ ℕ))
    → StandForReplies Stands given scanned → given ≡ scanned
same-replies Stands same [] [] h = refl
same-replies Stands same [] (t ∷ ts) h = absurd h
same-replies Stands same (g ∷ gs) [] h = absurd h
same-replies Stands same (g ∷ gs) (t ∷ ts) h =
    ap (λ x. x ∷ gs) (same-reply Stands same g t h.0) ∙ ap (λ xs. t ∷ xs) (same-replies Stands same gs ts h.1)

-- replies that stand for those of a scan are replies of it
pub replies-of : {S : Type 0} (Stands : S → S → Type 0) (given scanned : List (Reply S ℕ ℕ)) → StandForReplies Stands given scanned
    → AreRepliesOf Stands scanned given
replies-of Stands given scanned h = record { stand = h; exact = λ same. same-replies Stands same given scanned h }

-- if a model's rows and entries are those of a list of rows, its replies are those of a scan of the list
pub scan-of-rows : {S Word : Type 0} (precision : ℕ) (whole : Word → ℕ) (eq : S → S → Bool) (entry : S → Option (ℕ × ℕ))
    (rows before : List (Row S)) (queries : List (Query S Word))
    → rows ≡ before → ((s : S) → entry s ≡ entry_of eq before s)
    → replies_of_two precision whole rows entry queries ≡ replies_by_scan precision whole eq queries before
scan-of-rows {S = S} precision whole eq entry rows before queries same alike =
    let by_entries : replies_of_two precision whole before entry queries ≡ replies_by_scan precision whole eq queries before =
    λ i. replies_of_two precision whole before (λ (s : S). alike s i) queries in
    ap (λ (rs : List (Row S)). replies_of_two precision whole rs entry queries) same ∙ by_entries

-- answers to the first questions and to the next one answer one more question
pub one-more-known : {A B C D : Type 0} (R : D → C → Type 0) (asked : A → C) (known : B → D) (items : List A) (i : ℕ) (item : A)
    (answers more : List B) (answer : B) → i < length items → item ≡ get_or items i item → more ≡ answers ++ answer ∷ []
    → R (known answer) (asked item)
    → AllZip R (map known answers) (map asked (take i items)) → AllZip R (map known more) (map asked (take (i + 1) items))
one-more-known {C = C} {D = D} R asked known items i item answers more answer within is grown answered so_far =
    let given : map known more ≡ map known answers ++ known answer ∷ [] = ap (map known) grown ∙ map-append known answers (answer ∷ []) in
    let scanned : map asked (take (i + 1) items) ≡ map asked (take i items) ++ asked item ∷ [] =
    ap (map asked) (take_more items i item within) ∙ map-append asked (take i items) (get_or items i item ∷ [])
    ∙ ap (λ x. map asked (take i items) ++ asked x ∷ []) (sym is) in
    subst (λ (ds : List D). AllZip R ds (map asked (take (i + 1) items))) (sym given)
    (subst (λ (cs : List C). AllZip R (map known answers ++ known answer ∷ []) cs) (sym scanned)
    (all_zipped_more R (map known answers) (map asked (take i items)) (known answer) (asked item) so_far answered))

-- replies to at least as many queries as there are, are the replies to all
pub all-known : {S Word : Type 0} (Stands : S → S → Type 0) (precision : ℕ) (whole : Word → ℕ) (rows : List (Row S))
    (entry : S → Option (ℕ × ℕ)) (queries : List (Query S Word)) (n : ℕ) (given : List (Reply S ℕ ℕ)) → length queries ≤ n
    → StandForReplies Stands given (replies_of_two precision whole rows entry (take n queries))
    → StandForReplies Stands given (replies_of_two precision whole rows entry queries)
all-known {S} {Word} Stands precision whole rows entry queries n given h is =
    subst (λ (qs : List (Query S Word)). StandForReplies Stands given (replies_of_two precision whole rows entry qs))
    (take_all n queries h) is
