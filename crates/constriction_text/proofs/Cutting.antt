-- How an input is cut into lines.
use Rattle.std.proofs.Common.{refl, ◌≡◌, ℕ, ◌<◌, List, [], ◌∷◌, ap, ◌∙◌, length, arith, eqb}
use Rattle.std.specs.List.{slice_split}
use Rattle.std.proofs.lemmas.List.Splits.{length-slice_split}
use Rattle.constriction_text.specs.Text.{lines_of, without_last_empty}

-- a part that others follow is a line
before_others : (line : List ℕ) (parts : List (List ℕ)) → 0 < length parts
    → without_last_empty (line ∷ parts) ≡ line ∷ without_last_empty parts
before_others line [] some = absurd (omega arith)
before_others [] (next ∷ parts) some = refl
before_others (byte ∷ bytes) (next ∷ parts) some = refl

-- if there is a byte 10, the first line ends there, and the others are those of what follows
pub lines_of-cut : (bytes line rest : List ℕ) → slice_split (λ b. eqb b 10) bytes ≡ line ∷ slice_split (λ b. eqb b 10) rest
    → lines_of bytes ≡ line ∷ lines_of rest
lines_of-cut bytes line rest e =
    ap without_last_empty e ∙ before_others line (slice_split (λ b. eqb b 10) rest)
    (omega (arith, length-slice_split (λ b. eqb b 10) rest))

last_line : (line : List ℕ) → 0 < length line → without_last_empty (line ∷ []) ≡ line ∷ []
last_line [] some = absurd (omega arith)
last_line (byte ∷ bytes) some = refl

-- if there is none, the bytes are one line
pub lines_of-last : (bytes line : List ℕ) → slice_split (λ b. eqb b 10) bytes ≡ line ∷ [] → 0 < length line
    → lines_of bytes ≡ line ∷ []
lines_of-last bytes line e some = ap without_last_empty e ∙ last_line line some
