-- `answer_of`, `answer_to` and `answers_of` give the only answer to a request, a line and lines.
use Rattle.std.proofs.Common.{refl, subst, ◌≡◌, ℕ, Bool, true, false, cond, List, [], ◌∷◌, ◌++◌, Option, Some, None, ap, sym, ◌∙◌, codes, inl, inr}
use Rattle.std.proofs.lemmas.Option.{same_Some}
use Rattle.std.specs.List.{AllZip, concat}
use Rattle.constriction_model.specs.Acceptance.{completed}
use Rattle.constriction_model.specs.Rows.{Row, contiguous_rows}
use Rattle.constriction_text.specs.declared.line.Format.{Format}
use Rattle.constriction_text.specs.private.Answering.{are_accepted, text_of_model, answer_of, reply_to, answer_to, answers_of}
use Rattle.constriction_text.specs.Grammar.{Request, table, infer, quantile, symbol, uniform, width_of, precision_of, Spells}
use Rattle.constriction_text.specs.private.Reading.{read_line}
use Rattle.constriction_text.specs.Text.{IsTextOfModel, Answers, IsAnswer, AreAnswers, rows_text, quantile_text, symbol_text}
use Rattle.constriction_text.proofs.Accepting.{are_accepted-to, are_accepted-from}
use Rattle.constriction_text.proofs.Exactly.{line_spelled, line_read, spells_none}

-- a line spells at most one request
pub one_request : (line : List ℕ) (one other : Request) → Spells line one → Spells line other → one ≡ other
one_request line one other first second = same_Some one other (sym (line_read line one first) ∙ line_read line other second)

-- ---- the text of a model

module _ (format : Format) (weights : List ℕ) (of_rows : List (Row ℕ) → List ℕ) where
  model_text-at : (b : Bool) → are_accepted (width_of format) (precision_of format) weights ≡ b
      → IsTextOfModel format weights of_rows (cond b (of_rows (contiguous_rows weights)) (codes "invalid\n"))
  model_text-at true e = inl (are_accepted-to (width_of format) (precision_of format) weights e, refl)
  model_text-at false e = inr (
    λ accepted. let wrong : true ≡ false = sym (are_accepted-from (width_of format) (precision_of format) weights accepted) ∙ e in cc,
    refl,
  )

  model_text : IsTextOfModel format weights of_rows (text_of_model (width_of format) (precision_of format) weights of_rows)
  model_text = model_text-at (are_accepted (width_of format) (precision_of format) weights) refl

  model_text-alone : (one other : List ℕ) → IsTextOfModel format weights of_rows one → IsTextOfModel format weights of_rows other
      → one ≡ other
  model_text-alone one other first second =
      elim first [
        | inl a ↦ elim second [
          | inl b ↦ a.1 ∙ sym b.1
          | inr b ↦ absurd (b.0 a.0)
        ]
        | inr a ↦ elim second [
          | inl b ↦ absurd (a.0 b.0)
          | inr b ↦ a.1 ∙ sym b.1
        ]
      ]

-- ---- the answer to a request

answered : (request : Request) → Answers request (answer_of request)
unfolding answer_of
answered (table format weights) = model_text format weights rows_text
answered (infer format weights) = model_text format (completed (precision_of format) true weights) rows_text
answered (quantile format q weights) = model_text format weights (λ rows. quantile_text (precision_of format) rows q)
answered (symbol format s weights) = model_text format weights (λ rows. symbol_text rows s)
answered (uniform format n) = refl

answered-alone : (request : Request) (one other : List ℕ) → Answers request one → Answers request other → one ≡ other
answered-alone (table format weights) one other = model_text-alone format weights rows_text one other
answered-alone (infer format weights) one other = model_text-alone format (completed (precision_of format) true weights) rows_text one other
answered-alone (quantile format q weights) one other =
    model_text-alone format weights (λ rows. quantile_text (precision_of format) rows q) one other
answered-alone (symbol format s weights) one other = model_text-alone format weights (λ rows. symbol_text rows s) one other
answered-alone (uniform format n) one other = λ first second. first ∙ sym second

-- ---- the answer to a line

is_reply : (line : List ℕ) (asked : Option Request) → read_line line ≡ asked → IsAnswer line (reply_to asked)
is_reply line (Some request) e = inl (request, line_spelled line request e, answered request)
is_reply line None e = inr (spells_none line e, refl)

-- the answer to the request that a line spells is the answer to the line
pub answer_found : (line : List ℕ) (request : Request) → Spells line request → answer_of request ≡ answer_to line
unfolding answer_to
answer_found line request spelled = sym (ap reply_to (line_read line request spelled))

-- a line that spells no request is a bad line
pub answer_none : (line : List ℕ) → ((request : Request) → ¬ (Spells line request)) → codes "bad line\n" ≡ answer_to line
unfolding answer_to
answer_none line none = none_asked (read_line line) refl
  where
    none_asked : (asked : Option Request) → read_line line ≡ asked → codes "bad line\n" ≡ reply_to asked
    none_asked (Some request) e = absurd (none request (line_spelled line request e))
    none_asked None e = refl

-- a line has the answer that is computed
pub is_answer : (line : List ℕ) → IsAnswer line (answer_to line)
unfolding answer_to
is_answer line = is_reply line (read_line line) refl

-- an answer that is added to an empty text is the whole text
pub is_answer_alone : (line before text : List ℕ) → before ≡ [] → text ≡ before ++ answer_to line → IsAnswer line text
is_answer_alone line before text none added =
    subst (IsAnswer line) (sym (added ∙ ap (λ b. b ++ answer_to line) none)) (is_answer line)

-- it has no other
pub one_answer : (line one other : List ℕ) → IsAnswer line one → IsAnswer line other → one ≡ other
one_answer line one other first second =
    elim first [
      | inl a ↦ elim second [
        | inl b ↦
            let same : b.0 ≡ a.0 = one_request line b.0 a.0 b.1 a.1 in
            answered-alone a.0 one other a.2 (subst (λ request. Answers request other) same b.2)
        | inr b ↦ absurd (b.0 a.0 a.1)
      ]
      | inr a ↦ elim second [
        | inl b ↦ absurd (a.0 b.0 b.1)
        | inr b ↦ a.1 ∙ sym b.1
      ]
    ]

-- ---- the answers to lines

-- lines have the answers that are computed
pub are_answers : (lines : List (List ℕ)) → AreAnswers lines (answers_of lines)
are_answers [] = ([], tt, refl)
are_answers (line ∷ lines) =
    let others = are_answers lines in
    (answer_to line ∷ others.0, (is_answer line, others.1), ap (λ text. answer_to line ++ text) others.2)

each_answer : (lines one other : List (List ℕ)) → AllZip IsAnswer lines one → AllZip IsAnswer lines other → one ≡ other
each_answer [] [] [] first second = refl
each_answer [] [] (text ∷ texts) first second = absurd second
each_answer [] (text ∷ texts) other first second = absurd first
each_answer (line ∷ lines) [] other first second = absurd first
each_answer (line ∷ lines) (text ∷ texts) [] first second = absurd second
each_answer (line ∷ lines) (text ∷ texts) (again ∷ others) first second =
    ap (λ t. t ∷ texts) (one_answer line text again first.0 second.0)
    ∙ ap (λ ts. again ∷ ts) (each_answer lines texts others first.1 second.1)

-- they have no others
pub one_text : (lines : List (List ℕ)) (one other : List ℕ) → AreAnswers lines one → AreAnswers lines other → one ≡ other
one_text lines one other first second = first.2 ∙ ap concat (each_answer lines first.0 second.0 first.1 second.1) ∙ sym second.2
