-- Coders that are opened over all words of a buffer, which they only read, and sought to a place in it.
use Rattle.std.proofs.Common.{◌≡◌, ℕ, List, [], ◌∷◌, ◌++◌, length, Option, Some, None, Result, Ok, sym, ap, ◌∙◌, inl, inr}
use Rattle.std.proofs.lemmas.List.{append-nil}
use Rattle.std.specs.Prelude.{IsOk}
use Rattle.std.specs.declared.fmt.Debug as shown
use Rattle.constriction.specs.Coding.{InTurn}
use Rattle.constriction.specs.declared.Stack.{Stack}
use Rattle.constriction.specs.declared.backends.ReadWords as source
use Rattle.constriction.specs.declared.backends.StackSource as stack
use Rattle.constriction_backends.specs.Source.{GivesAnswers}
use Rattle.constriction_coders.specs.AnsCoder.{ReadsState}
use Rattle.constriction_coders.specs.Compressed.{AreAllWordsOf, IsCompressed}
use Rattle.constriction_coders.specs.Positions.{PlaceComesBack, SeeksPlace}
use Rattle.constriction_coders.specs.Steps.{Content, MayBeHeld, IsEncoded}
use Rattle.constriction_coders.specs.declared.stack.ans_coder.AnsCoder.{AnsCoder}

-- reads in a row keep what each of them keeps
reads-keep : {S E Part : Type 0} (gives : S → Result (Option ℕ) E → S → Type 0) (part : S → Part)
    → ((s : S) (r : Result (Option ℕ) E) (t : S) → gives s r t → part t ≡ part s)
    → (s : S) (answers : List (Result (Option ℕ) E)) (t : S) → GivesAnswers gives s answers t → part t ≡ part s
reads-keep gives part keeps s [] t h = ap part (sym h)
reads-keep gives part keeps s (r ∷ rs) t h = reads-keep gives part keeps h.0 rs t h.2 ∙ keeps s r h.0 h.1

module _ {S ReadError Part : Type 0} {words : stack.Ghosts S ℕ ReadError} {reads : source.Ghosts S ℕ Stack ReadError}
    {shows : shown.Ghosts ReadError} (part : S → Part)
    (keeps : (s : S) (r : Result (Option ℕ) ReadError) (t : S) → reads.read_gives s r t → part t ≡ part s) where
  -- so a coder that is opened keeps it
  pub opened-keeps : (from : S) (coder : AnsCoder S ReadError words reads shows) → ReadsState from (Ok coder)
      → part coder.words ≡ part from
  opened-keeps from coder (inl x) = reads-keep reads.read_gives part keeps from (Ok None ∷ []) coder.words x.1
  opened-keeps from coder (inr (inl x)) = reads-keep reads.read_gives part keeps from (Ok (Some coder.state) ∷ Ok None ∷ []) coder.words x.2
  opened-keeps from coder (inr (inr x)) = reads-keep reads.read_gives part keeps from (Ok (Some x.0) ∷ Ok (Some x.1) ∷ []) coder.words x.4

-- all words of a content begin with those under its state
under-first : (c : Content) (all : List ℕ) → AreAllWordsOf c all → (more : List ℕ) × (all ≡ c.words ++ more)
under-first c all (inl x) = ([], x.1 ∙ sym (append-nil c.words))
under-first c all (inr (inl x)) = (_, x.2)
under-first c all (inr (inr x)) = (_, x.1)

-- symbols were encoded since a place was noted, and a seek over the words of the coder goes to the place
pub place-back : {Symbol : Type 0} (entry : Symbol → Option (ℕ × ℕ)) (precision : ℕ) → PlaceComesBack entry precision
    → (symbols : List Symbol) (noted full old new : Content) (words there : List ℕ) (r : Result (Unit {0}) (Unit {0})) → MayBeHeld noted
    → InTurn (λ s. IsEncoded (entry s) precision) symbols full noted → IsCompressed full words → there ≡ words
    → SeeksPlace there old (length noted.words, noted.state) r new → IsOk r × (new ≡ noted)
place-back entry precision law symbols noted full old new words there r held led compressed same seeks =
    let under = under-first full words compressed.words in
    law symbols noted full old new under.0 there r held led (same ∙ under.1) seeks
