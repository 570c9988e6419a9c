-- What is written, turn by turn.
use Rattle.std.proofs.Common.{◌≡◌, ℕ, List, [], ◌∷◌, ◌++◌, Option, ap, refl, sym, ◌∙◌, subst}
use Rattle.std.proofs.Common.{length, arith, append-nil, append_assoc}
use Rattle.std.specs.Io.KnownBytes.{Appends}
use Rattle.std.proofs.KnownBytes.{Appends-nil, Appends-trans}
use Rattle.std.proofs.lemmas.List.Concat.{flat_map-append}
use Rattle.constriction_text.specs.private.Answering.{answer_to, answers_of, text_of}
use Rattle.constriction_text.specs.Text.{IsTextOf, lines_of}
use Rattle.constriction_text.proofs.OneAnswer.{are_answers}
use Rattle.constriction_text.specs.private.Collecting.{WritesFront}
use Rattle.constriction_text.specs.Runs.{WritesBeginning, WritesAnswersBefore}

-- the lines so far, and one more
lines_more : (first : List (List ℕ)) (line input rest after : List ℕ) → first ++ lines_of rest ≡ lines_of input
    → lines_of rest ≡ line ∷ lines_of after
    → (first ++ line ∷ []) ++ lines_of after ≡ lines_of input
lines_more first line input rest after all cut = append_assoc first (line ∷ []) (lines_of after)
    ∙ ap (λ ls. first ++ ls) (sym cut) ∙ all

-- the answers so far, and one more
answers_more : (first : List (List ℕ)) (line : List ℕ) → answers_of (first ++ line ∷ []) ≡ answers_of first ++ answer_to line
answers_more first line = flat_map-append answer_to first (line ∷ [])
    ∙ ap (λ text. answers_of first ++ text) (append-nil (answer_to line))

-- What was answered so far: the lines before the rest were. Some first answers were written, and the text has the others.
pub record Answered (old new : Option (List ℕ)) (input rest text : List ℕ) : Type 0 where
  pub first : List (List ℕ)
  pub lines : first ++ lines_of rest ≡ lines_of input
  pub written : List ℕ
  pub answers : written ++ text ≡ answers_of first
  pub wrote : Appends old new written

-- no lines are answered by no text
pub answered-none : (a : Option (List ℕ)) (input text : List ℕ) → text ≡ [] → Answered a a input input text
answered-none a input text none = record { first = []; lines = refl; written = []; answers = none; wrote = Appends-nil a }

-- one more answer is in the text
pub answered-more : (a b : Option (List ℕ)) (line input rest after text more : List ℕ) → Answered a b input rest text
    → lines_of rest ≡ line ∷ lines_of after → more ≡ text ++ answer_to line → Answered a b input after more
answered-more a b line input rest after text more so_far cut added = record {
  first = so_far.first ++ line ∷ [];
  lines = lines_more so_far.first line input rest after so_far.lines cut;
  written = so_far.written;
  answers =
      ap (λ t. so_far.written ++ t) added ∙ sym (append_assoc so_far.written text (answer_to line))
      ∙ ap (λ t. t ++ answer_to line) so_far.answers ∙ sym (answers_more so_far.first line);
  wrote = so_far.wrote;
}

-- the front of the text was written
pub answered-written : (a b c : Option (List ℕ)) (input rest text left : List ℕ) → Answered a b input rest text
    → WritesFront b c text left → Answered a c input rest left
answered-written a b c input rest text left so_far turn = record {
  first = so_far.first;
  lines = so_far.lines;
  written = so_far.written ++ turn.0;
  answers =
      append_assoc so_far.written turn.0 left ∙ ap (λ t. so_far.written ++ t) turn.1 ∙ so_far.answers;
  wrote = Appends-trans a b c so_far.written turn.0 so_far.wrote turn.2;
}

-- if all of the text was written and a line is left, the answers to the lines before it were written
pub answered-before : (a b c : Option (List ℕ)) (line input rest after text : List ℕ) → Answered a b input rest text
    → lines_of rest ≡ line ∷ lines_of after → Appends b c text → WritesAnswersBefore a c input
answered-before a b c line input rest after text so_far cut turn = (
  so_far.first,
  lines_of after,
  line,
  answers_of so_far.first,
  ap (λ ls. so_far.first ++ ls) (sym cut) ∙ so_far.lines,
  are_answers so_far.first,
  subst (Appends a c) so_far.answers (Appends-trans a b c so_far.written text so_far.wrote turn),
)

no-lines : (rest : List ℕ) → length rest ≡ 0 → lines_of rest ≡ []
no-lines [] none = refl
no-lines (byte ∷ bytes) none = absurd (omega arith)

-- if all of the text was written and no line is left, all answers were written
pub answered-all : (a b c : Option (List ℕ)) (input rest text : List ℕ) → Answered a b input rest text → Appends b c text
    → length rest ≡ 0 → (whole : List ℕ) × IsTextOf input whole × Appends a c whole
answered-all a b c input rest text so_far turn none =
    let lines : so_far.first ≡ lines_of input =
    sym (append-nil so_far.first) ∙ ap (λ ls. so_far.first ++ ls) (sym (no-lines rest none)) ∙ so_far.lines in (
      text_of input,
      are_answers (lines_of input),
      subst (Appends a c) (so_far.answers ∙ ap answers_of lines) (Appends-trans a b c so_far.written text so_far.wrote turn),
    )

-- if a beginning of the text was written, a beginning of all answers was written
pub answered-stopped : (a b c : Option (List ℕ)) (input rest text : List ℕ) → Answered a b input rest text
    → WritesBeginning b c text → (written rest : List ℕ) × IsTextOf input (written ++ rest) × Appends a c written
answered-stopped a b c input rest text so_far turn =
    let others = answers_of (lines_of rest) in
    let joined : (so_far.written ++ turn.0) ++ (turn.1 ++ others) ≡ text_of input =
    append_assoc so_far.written turn.0 (turn.1 ++ others)
    ∙ ap (λ t. so_far.written ++ t) (sym (append_assoc turn.0 turn.1 others) ∙ ap (λ t. t ++ others) turn.2)
    ∙ sym (append_assoc so_far.written text others)
    ∙ ap (λ t. t ++ others) so_far.answers
    ∙ sym (flat_map-append answer_to so_far.first (lines_of rest))
    ∙ ap answers_of so_far.lines in (
      so_far.written ++ turn.0,
      turn.1 ++ others,
      subst (IsTextOf input) (sym joined) (are_answers (lines_of input)),
      Appends-trans a b c so_far.written turn.0 so_far.wrote turn.3,
    )
