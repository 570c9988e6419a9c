-- What some lines spell, and their answers.
use Rattle.std.proofs.Common.{suc, zero, refl, ◌≡◌, ℕ, ◌<◌, ◌^◌, List, [], ◌∷◌, ◌++◌, get_or, Option, Some, None, Result, Ok, Err, ap, sym, subst, ◌∙◌, append-nil, arith, codes, inl, inr}
use Rattle.std.specs.Prelude.{IsNone}
use Rattle.std.specs.Option.{option_map, IfSome, IfNone}
use Rattle.std.specs.Result.{IfOk, OnOk}
use Rattle.std.specs.Io.KnownBytes.{Appends}
use Rattle.std.specs.Fmt.{digits}
use Rattle.constriction_text.specs.declared.line.Command.{Command}
use Rattle.constriction_text.specs.declared.line.Format.TheVariants.{U8Precision6, U8Precision8}
use Rattle.constriction_text.specs.Grammar.{Request, table, uniform, view, IsNumber, Spells}
use Rattle.constriction_text.specs.Words.{read_number}
use Rattle.constriction_text.specs.private.Reading.{read_line, read_words, read_format, read_numbers, read_request}
use Rattle.constriction_text.specs.Runs.{HasReadAll}
use Rattle.constriction_text.specs.Text.{IsAnswer, IsTextOf}
use Rattle.constriction_text.proofs.Exactly.{spells_none}

-- if a line spells nothing, nothing was parsed
pub parsed_none : {E : Type 0} (line : List ℕ) (r : Result (Option Command) E) → read_line line ≡ None
    → IfOk r (λ found. IfSome found (λ command. Spells line (view command))) → IfOk r IsNone
parsed_none line (Ok None) none found = refl
parsed_none line (Ok (Some command)) none found = absurd (spells_none line none (view command) found)
parsed_none line (Err e) none found = tt

-- a uniform model has one range
pub two_ranges_none : read_line (codes "uniform u8/6 2 3") ≡ None
unfolding read_line read_words read_format read_numbers read_number read_request
two_ranges_none = refl

-- two spaces in a row are no separator
pub two_spaces_none : read_line (codes "table  u8/6 64") ≡ None
unfolding read_line read_words read_format read_numbers read_number read_request
two_spaces_none = refl

-- a number has at most 20 digits
pub many_digits_none : read_line (codes "table u8/6 000000000000000000064") ≡ None
unfolding read_line read_words read_format read_numbers read_number read_request
many_digits_none = refl

-- if a line spells one request alone, this request was parsed
pub parsed : {E : Type 0} (line : List ℕ) (asked : Request) (r : Result (Option Command) E) → Spells line asked
    → ((one other : Request) → Spells line one → Spells line other → one ≡ other)
    → IfOk r (λ found. IfSome found (λ command. Spells line (view command)))
    → IfOk r (λ found. IfNone found ((request : Request) → ¬ (Spells line request)))
    → IfOk r (λ found. option_map view found ≡ Some asked)
parsed line asked (Ok None) spelled alone found none = absurd (none asked spelled)
parsed line asked (Ok (Some command)) spelled alone found none = ap Some (alone (view command) asked found spelled)
parsed line asked (Err e) spelled alone found none = tt

-- if a line has one answer alone, this was answered
pub answered : {T E : Type 0} (bytes : T → List ℕ) (line text : List ℕ) (r : Result T E) → IsAnswer line text
    → ((one other : List ℕ) → IsAnswer line one → IsAnswer line other → one ≡ other)
    → IfOk r (λ made. IsAnswer line (bytes made)) → IfOk r (λ made. bytes made ≡ text)
answered bytes line text (Ok made) is alone h = alone (bytes made) text h is
answered bytes line text (Err e) is alone h = tt

-- if an input has one text alone, this is written at its end
pub written : {T E : Type 0} (input rest old new text : List ℕ) (r : Result T E) → IsTextOf input text
    → ((whole one other : List ℕ) → IsTextOf whole one → IsTextOf whole other → one ≡ other)
    → OnOk r (HasReadAll (Some input) (Some rest) (λ read. (made : List ℕ) × IsTextOf read made × Appends (Some old) (Some new) made))
    → OnOk r (new ≡ old ++ text)
written input rest old new text (Ok x) is alone h =
    let all : h.0 ≡ input = sym (append-nil h.0) ∙ ap (λ more. h.0 ++ more) (sym h.2.0) ∙ sym h.1 in
    let same : h.2.2.0 ≡ text = alone input h.2.2.0 text (subst (λ read. IsTextOf read h.2.2.0) all h.2.2.1) is in
    h.2.2.2 ∙ ap (λ made. old ++ made) same
written input rest old new text (Err e) is alone h = tt

letter_answered : (letter : ℕ) → read_line (letter ∷ []) ≡ None → IsAnswer (letter ∷ []) (codes "bad line\n")
letter_answered letter none = inr (spells_none (letter ∷ []) none, refl)

-- two letters on two lines
pub letters_answered : IsTextOf (codes "x\ny") (codes "bad line\nbad line\n")
unfolding read_line read_words
letters_answered =
    (codes "bad line\n" ∷ codes "bad line\n" ∷ [], (letter_answered 120 refl, (letter_answered 121 refl, tt)), refl)

-- a range
pub range_spelled : Spells (codes "uniform u8/8 3") (uniform U8Precision8 3)
range_spelled = (codes "3" ∷ [], (three, tt), refl)
  where
    three : IsNumber (codes "3") 3
    three = record { digits = (omega arith, (omega arith, tt)); short = omega arith; value = refl; small = omega arith }

one : IsNumber (codes "1") 1
one = record { digits = (omega arith, (omega arith, tt)); short = omega arith; value = refl; small = omega arith }

sixty_three : IsNumber (codes "63") 63
sixty_three = record { digits = (omega arith, (omega arith, (omega arith, tt))); short = omega arith; value = refl; small = omega arith }

positive : (k d : ℕ) → k < 2 → 0 < get_or (1 ∷ 63 ∷ []) k d
positive zero d h = omega arith
positive (suc zero) d h = omega arith
positive (suc (suc k)) d h = absurd (omega (arith, h))

words : (k d : ℕ) → k < 2 → get_or (1 ∷ 63 ∷ []) k d < 2 ^ 8
words zero d h = omega arith
words (suc zero) d h = omega arith
words (suc (suc k)) d h = absurd (omega (arith, h))

-- weights that tile 64 quantiles have their rows
pub weights_answered : IsAnswer (codes "table u8/6 1 63") (codes "0 0 1\n1 1 63\n")
unfolding digits
weights_answered =
    inl (
      table U8Precision6 (1 ∷ 63 ∷ []),
      (codes "1" ∷ codes "63" ∷ [], (one, (sixty_three, tt)), refl),
      inl (record { tiles = record { positive = positive; total = refl }; fit = words }, refl),
    )

-- and fewer are invalid
pub few_answered : IsAnswer (codes "table u8/6 63") (codes "invalid\n")
few_answered =
    inl (
      table U8Precision6 (63 ∷ []),
      (codes "63" ∷ [], (sixty_three, tt), refl),
      inr (λ accepted. let total : 63 ≡ 64 = accepted.tiles.total in omega (arith, total), refl),
    )
