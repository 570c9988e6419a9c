use Rattle.std.proofs.Common.{◌≡◌, List, [], ◌∷◌, ◌++◌, length, Option, Some, None, Result, Ok, Err, MatchResult, sym, ◌∙◌, ap, arith}
use Rattle.std.proofs.lemmas.List.{same_from_push, length_push}
use Rattle.constriction_sources.specs.Stack.{PopsOrFails}
use Rattle.constriction_sources.specs.lemmas.Stack.{known_pushes, known_pops}
use Rattle.constriction_sources.proofs.laws.written_is_read.Goals as goal

-- a pop answers the word on top and leaves the others, or fails and leaves all
pops-last : {W E : Type 0} (words : List W) (w : W) (later : List W) (r : Result (Option W) E) (new : List W) → later ≡ words ++ w ∷ []
    → PopsOrFails later r new → MatchResult r (λ o. (o ≡ Some w) × (new ≡ words)) (λ _. new ≡ words ++ w ∷ [])
pops-last words w later (Ok None) new is h = absurd (omega (arith, ap length (sym is ∙ h.0), length_push words w))
pops-last words w later (Ok (Some x)) new is h =
    let parts = same_from_push words new w x (sym is ∙ h) in (ap Some (sym parts.1), sym parts.0)
pops-last words w later (Err e) new is h = h.1 ∙ is

pub returns : goal.returns
returns g c =
    let words_of = g.Backend.StackSource.words_of in
    record {
      written = λ old new w wrote.
          known_pushes {E = g.row.Backend-WriteError.Denot} g.Backend.WriteWords.tells_written words_of (words_of old)
          g.met.Backend.WordStack.tells_no_others w (Ok tt) new
          (g.met.Backend.WriteWords.writes_append old w (Ok tt) new wrote (words_of old) (g.met.Backend.WordStack.tells_words old));
      read = λ later new w r words on_top read.
          pops-last words w (words_of later) r (words_of new) on_top
          (known_pops g.Backend.ReadWords.tells_upcoming words_of (words_of later) g.met.Backend.StackSource.no_others_come r new
          (g.met.Backend.ReadWords.reads_upcoming later r new read _ (g.met.Backend.StackSource.words_come later)));
    }
