-- How numbers are read.
use Rattle.std.proofs.Common.{suc, zero, refl, ◌≡◌, ℕ, ◌+◌, ◌*◌, ◌<◌, ◌≤◌, ◌^◌, true, List, [], ◌∷◌, ◌++◌, ap, sym, ◌∙◌, length, get_or, drop, arith, eqb, Option, Some, None, append_assoc, append-nil}
use Rattle.std.proofs.lemmas.List.{drop_all}
use Rattle.std.proofs.lemmas.Bool.{le-ltb}
use Rattle.std.proofs.lemmas.List.Splits.{length-slice_split}
use Rattle.std.specs.List.{slice_split}
use Rattle.std.specs.Str.{all_ascii_digits}
use Rattle.std.specs.Char.{digit_value}
use Rattle.std.specs.Str.Parse.{digits_value, digits_value_after}
use Rattle.constriction_text.specs.private.Parts.{only_number}
use Rattle.constriction_text.specs.Words.{read_number}
use Rattle.constriction_text.specs.private.Reading.{read_numbers, ◌>>=◌}

-- more digits make no smaller number
value_grows : (n : ℕ) (ds : List ℕ) → n ≤ digits_value_after 10 n ds
value_grows n [] = omega arith
value_grows n (d ∷ ds) = omega (arith, value_grows (n * 10 + digit_value d) ds)

-- the number that a word spells is at least the one that its first digits spell
pub value_grows_by : (n i : ℕ) (word : List ℕ) → i < length word
    → n * 10 + digit_value (get_or word i 0) ≤ digits_value_after 10 n (drop i word)
value_grows_by n i [] h = absurd (omega arith)
value_grows_by n zero (d ∷ ds) h = value_grows (n * 10 + digit_value d) ds
value_grows_by n (suc i) (d ∷ ds) h = value_grows_by n i ds (omega arith)

-- a word whose value is 2 ^ 64 or more is no number
pub read_number-large : (word : List ℕ) → 2 ^ 64 ≤ digits_value 10 word → read_number word ≡ None
unfolding read_number
read_number-large word h = rw (le-ltb (digits_value 10 word) (2 ^ 64) h)

-- a word of 1 to 20 digits below 2 ^ 64 spells a number
pub read_number-some : (word : List ℕ) → all_ascii_digits word ≡ true → 0 < length word → length word ≤ 20
    → digits_value 10 word < 2 ^ 64 → read_number word ≡ Some (digits_value 10 word)
unfolding read_number
read_number-some word digits some few small = grind arith

-- the numbers in front, and then those that were read
abbrev pub after : List ℕ → Option (List ℕ) → Option (List ℕ)
after front read = read >>= λ numbers. Some (front ++ numbers)

-- numbers that follow none are all numbers
pub after_nothing : (read : Option (List ℕ)) → after [] read ≡ read
after_nothing None = refl
after_nothing (Some numbers) = refl

-- if the next word is no number, the words have no numbers
pub numbers_none : (word : List ℕ) (words parts : List (List ℕ)) (front : List ℕ) (all : Option (List ℕ))
    → parts ≡ word ∷ words → None ≡ read_number word → after front (read_numbers parts) ≡ all → None ≡ all
unfolding read_numbers
numbers_none word words parts front all e none before = rw (e, sym none) at before

after_one : (front more : List ℕ) (number : ℕ) (read : Option (List ℕ)) → more ≡ front ++ number ∷ []
    → after more read ≡ after front (read >>= λ numbers. Some (number ∷ numbers))
after_one front more number None e = refl
after_one front more number (Some numbers) e = ap (λ l. Some (l ++ numbers)) e ∙ ap Some (append_assoc front (number ∷ []) numbers)

-- if the next word is a number, it joins the numbers in front
pub numbers_some : (word : List ℕ) (words parts : List (List ℕ)) (number : ℕ) (front more : List ℕ) (all : Option (List ℕ))
    → parts ≡ word ∷ words → Some number ≡ read_number word → more ≡ front ++ number ∷ []
    → after front (read_numbers parts) ≡ all → after more (read_numbers words) ≡ all
unfolding read_numbers
numbers_some word words parts number front more all e some pushed before =
    let step : after front (Some number >>= λ n. read_numbers words >>= λ ns. Some (n ∷ ns)) ≡ all = rw (e, sym some) at before in
    after_one front more number (read_numbers words) pushed ∙ step

-- if no word is left, the numbers in front are all
pub numbers_end : (front : List ℕ) (all : Option (List ℕ)) → after front (read_numbers []) ≡ all → Some front ≡ all
unfolding read_numbers
numbers_end front all before = ap Some (sym (append-nil front)) ∙ before

-- if no digit is left, the value so far is the number of the word
pub read_number-end : (word : List ℕ) (i n : ℕ) → length word ≤ i → all_ascii_digits (drop i word) ≡ all_ascii_digits word
    → digits_value_after 10 n (drop i word) ≡ digits_value 10 word → 0 < length word → length word ≤ 20 → n < 2 ^ 64
    → Some n ≡ read_number word
read_number-end word i n past digits value some few small =
    let none : drop i word ≡ [] = drop_all i word past in
    let d : true ≡ all_ascii_digits word = rw none at digits in
    let v : n ≡ digits_value 10 word = rw none at value in
    ap Some v ∙ sym (read_number-some word (sym d) some few (omega (arith, v)))

-- ---- a number that stands alone

-- two words or more are not one number
of_two : (word next : List ℕ) (words : List (List ℕ)) → None ≡ (read_numbers (word ∷ next ∷ words) >>= only_number)
unfolding read_numbers
of_two word next words = read_two (read_number word) (read_number next) (read_numbers words)
  where
    read_two : (first second : Option ℕ) (others : Option (List ℕ))
        → None ≡ ((first >>= λ n. (second >>= λ m. others >>= λ ns. Some (m ∷ ns)) >>= λ ns. Some (n ∷ ns)) >>= only_number)
    read_two None second others = refl
    read_two (Some n) None others = refl
    read_two (Some n) (Some m) None = refl
    read_two (Some n) (Some m) (Some ns) = refl

-- words with a separator are not one number
pub only_of_more : (word more : List ℕ) (parts : List (List ℕ)) → parts ≡ word ∷ slice_split (λ byte. eqb byte 32) more
    → None ≡ (read_numbers parts >>= only_number)
only_of_more word more parts e =
    rw e (not_alone word (slice_split (λ byte. eqb byte 32) more) (omega (arith, length-slice_split (λ byte. eqb byte 32) more)))
  where
    not_alone : (word : List ℕ) (words : List (List ℕ)) → 0 < length words → None ≡ (read_numbers (word ∷ words) >>= only_number)
    not_alone word [] some = absurd (omega arith)
    not_alone word (next ∷ words) some = of_two word next words
