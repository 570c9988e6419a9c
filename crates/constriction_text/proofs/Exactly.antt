-- Reading a line finds exactly what the line spells. A caller who asks what a line spells computes `read_line`.
use Rattle.std.proofs.Common.{refl, subst, ◌≡◌, ℕ, ◌<◌, ◌^◌, Bool, true, false, ◌||◌, ◌&&◌, eqb, cond, List, [], ◌∷◌, ◌++◌, ap, sym, ◌∙◌, length, arith, Option, Some, None, nat_lt, nat_le, Result, Ok, Err, find, codes}
use Rattle.std.specs.Option.{option_map, IfSome, IfNone}
use Rattle.std.specs.Result.{IfOk}
use Rattle.std.proofs.lemmas.Bool.{ltb-true, leb-true, ne_eqb, and_parts, or_parts}
use Rattle.std.proofs.lemmas.Option.{cond_some, none-some, option_and_then_some, same_Some}
use Rattle.std.proofs.lemmas.List.Splits.{join_with_byte-slice_split, slice_split-cons_no, slice_split-cons_yes}
use Rattle.std.proofs.lemmas.Str.Parse.{IsNumeralModel, numerals_by_value, tells_all_ascii_digits}
use Rattle.std.specs.Char.{digit_value}
use Rattle.std.specs.Cmp.Lexicographic.{same_text}
use Rattle.std.specs.List.{AllByRecursion, AllZip, slice_split, join_with_byte, onto_first}
use Rattle.std.specs.Str.{all_ascii_digits, bytes_eq}
use Rattle.std.specs.Str.Parse.{AllDigits, digits_value}
use Rattle.constriction_text.specs.declared.line.Command.{Command}
use Rattle.constriction_text.specs.declared.line.Format.{Format}
use Rattle.constriction_text.specs.declared.line.Format.TheVariants.{U8Precision6, U8Precision8, U16Precision12}
use Rattle.constriction_text.specs.Grammar.{Request, table, infer, quantile, symbol, uniform, format_of, format_word, view, IsNumber, IsLineOf, Spells}
use Rattle.constriction_text.specs.private.Parts.{only_number}
use Rattle.constriction_text.specs.Words.{read_number}
use Rattle.constriction_text.specs.private.Reading.{keyword, numbers_of, formats, requests_of, read_numbers, read_format, read_request, read_words, read_line, ◌>>=◌}
use Rattle.constriction_text.proofs.Numbers.{read_number-some}

-- a search that found something found it here or further down
found_where : {X C : Type 0} (passes : Bool) (x found : X) (rest : Option X) → cond passes (Some x) rest ≡ Some found
    → (passes ≡ true → x ≡ found → C) → (rest ≡ Some found → C) → C
found_where true x found rest e here later = here refl (same_Some x found e)
found_where false x found rest e here later = later e

-- what a search finds passes the test, and what holds of each element holds of it
found_one : {X : Type 0} (p : X → Bool) (P : X → Type 0) (xs : List X) (found : X) → AllByRecursion P xs
    → find p xs ≡ Some found → (p found ≡ true) × P found
found_one p P [] found all e = absurd (none-some _ e)
found_one p P (x ∷ xs) found all e =
    found_where (p x) x found (find p xs) e (λ passes same. (ap p (sym same) ∙ passes, subst P same all.0))
    (λ later. found_one p P xs found all.1 later)

-- Numbers.

own : IsNumeralModel (λ ds. all_ascii_digits ds ≡ true) (digits_value 10)
own = numerals_by_value _ tells_all_ascii_digits

number_spelled : (word : List ℕ) (n : ℕ) → read_number word ≡ Some n → IsNumber word n
unfolding read_number
number_spelled word n e =
    let p =
    cond_some (nat_lt (digits_value 10 word) (2 ^ 64) && all_ascii_digits word && nat_lt 0 (length word) && nat_le
    (length word) 20) (digits_value 10 word) n e in
    let q =
    and_parts (nat_lt (digits_value 10 word) (2 ^ 64) && all_ascii_digits word && nat_lt 0 (length word)) (nat_le (length word) 20) p.0 in
    let r = and_parts (nat_lt (digits_value 10 word) (2 ^ 64) && all_ascii_digits word) (nat_lt 0 (length word)) q.0 in
    let s = and_parts (nat_lt (digits_value 10 word) (2 ^ 64)) (all_ascii_digits word) r.0 in
    record {
      digits = (ltb-true 0 (length word) r.1, own.to word s.1);
      short = leb-true (length word) 20 q.1;
      value = p.1;
      small = omega (arith, p.1, ltb-true (digits_value 10 word) (2 ^ 64) s.0);
    }

number_read : (word : List ℕ) (n : ℕ) → IsNumber word n → read_number word ≡ Some n
number_read word n h =
    read_number-some word (own.from word h.digits.1) h.digits.0 h.short (omega (arith, h.value, h.small)) ∙ ap Some h.value

numbers_spelled : (words : List (List ℕ)) (ns : List ℕ) → read_numbers words ≡ Some ns → AllZip IsNumber words ns
unfolding read_numbers
numbers_spelled [] [] e = tt
numbers_spelled [] (n ∷ ns) e = absurd (cc)
numbers_spelled (word ∷ words) ns e =
    let P : List ℕ → Type 0 = λ l. AllZip IsNumber (word ∷ words) l in
    option_and_then_some (λ n. read_numbers words >>= λ ns. Some (n ∷ ns)) (read_number word) ns e (λ n first others.
    option_and_then_some (λ ns. Some (n ∷ ns)) (read_numbers words) ns others (λ rest more all.
    subst P (same_Some _ _ all) (number_spelled word n first, numbers_spelled words rest more)))

numbers_read : (words : List (List ℕ)) (ns : List ℕ) → AllZip IsNumber words ns → read_numbers words ≡ Some ns
unfolding read_numbers
numbers_read [] [] h = refl
numbers_read [] (n ∷ ns) h = absurd h
numbers_read (word ∷ words) [] h = absurd h
numbers_read (word ∷ words) (n ∷ ns) h = rw (number_read word n h.0, numbers_read words ns h.1)

-- Formats and keywords.

format_read : (format : Format) → read_format (format_word format) ≡ Some format
unfolding read_format
format_read U8Precision6 = refl
format_read U8Precision8 = refl
format_read U16Precision12 = refl

format_spelled : (word : List ℕ) (format : Format) → read_format word ≡ Some format → word ≡ format_word format
unfolding read_format
format_spelled word format e = same_text word (format_word format) (sym
    (found_one (λ format. bytes_eq word (format_word format)) (λ _. Unit {0}) formats format (tt, (tt, (tt, tt))) e).0)

request_read : (request : Request) → read_request (keyword request) (format_of request) (numbers_of request) ≡ Some request
unfolding read_request
request_read (table format ws) = refl
request_read (infer format ws) = refl
request_read (quantile format q ws) = refl
request_read (symbol format s ws) = refl
request_read (uniform format n) = refl

-- a word that is no keyword makes no request
pub no_request : (word : List ℕ) (format : Format) (numbers : Option (List ℕ)) → bytes_eq word (codes "table") ≡ false
    → bytes_eq word (codes "infer") ≡ false
    → bytes_eq word (codes "quantile") ≡ false
    → bytes_eq word (codes "symbol") ≡ false
    → bytes_eq word (codes "uniform") ≡ false → None ≡ (numbers >>= read_request word format)
unfolding read_request
no_request word format None no_table no_infer no_quantile no_symbol no_uniform = refl
no_request word format (Some []) no_table no_infer no_quantile no_symbol no_uniform = rw (no_table, no_infer) refl
no_request word format (Some (n ∷ [])) no_table no_infer no_quantile no_symbol no_uniform =
    rw (no_table, no_infer, no_quantile, no_symbol, no_uniform) refl
no_request word format (Some (n ∷ m ∷ ns)) no_table no_infer no_quantile no_symbol no_uniform =
    rw (no_table, no_infer, no_quantile, no_symbol) refl

-- the keyword `uniform` makes a request of a single number, and of no other numbers
uniform_request : (format : Format) (numbers : Option (List ℕ))
    → (numbers >>= read_request (codes "uniform") format) ≡ option_map (uniform format) (numbers >>= only_number)
unfolding read_request
uniform_request format None = refl
uniform_request format (Some []) = refl
uniform_request format (Some (n ∷ [])) = refl
uniform_request format (Some (n ∷ m ∷ ns)) = refl

-- so does a word that is this keyword
pub uniform_read : (word : List ℕ) (format : Format) (numbers : Option (List ℕ)) (range : Option ℕ)
    → bytes_eq word (codes "uniform") ≡ true → range ≡ (numbers >>= only_number)
    → option_map (uniform format) range ≡ (numbers >>= read_request word format)
uniform_read word format numbers range is alone =
    ap (option_map (uniform format)) alone ∙ sym (uniform_request format numbers)
    ∙ ap (λ w. numbers >>= read_request w format) (sym (same_text word (codes "uniform") (sym is)))

-- the request has the format and the numbers
abbrev IsOf : Format → List ℕ → Request → Type 0
IsOf format numbers request = (format ≡ format_of request) × (numbers ≡ numbers_of request)

all_are_of : (format : Format) (numbers : List ℕ) → AllByRecursion (IsOf format numbers) (requests_of format numbers)
all_are_of format [] = ((refl, refl), ((refl, refl), tt))
all_are_of format (n ∷ []) = ((refl, refl), ((refl, refl), ((refl, refl), ((refl, refl), ((refl, refl), tt)))))
all_are_of format (n ∷ m ∷ ns) = ((refl, refl), ((refl, refl), ((refl, refl), ((refl, refl), tt))))

request_parts : (word : List ℕ) (format : Format) (numbers : List ℕ) (request : Request)
    → read_request word format numbers ≡ Some request → (word ≡ keyword request) × IsOf format numbers request
unfolding read_request
request_parts word format numbers request e =
    let found = found_one (λ request. bytes_eq word (keyword request)) (IsOf format numbers) (requests_of format numbers) request
    (all_are_of format numbers) e in
    (same_text word (keyword request) (sym found.0), found.1)

-- Words.

abbrev has_space : List ℕ → Bool
has_space [] = false
has_space (b ∷ bs) = eqb b 32 || has_space bs

has_space-onto : (b : ℕ) (bs : List ℕ) (h : (b ≡ 32) → ⊥) → has_space bs ≡ false → has_space (b ∷ bs) ≡ false
has_space-onto b bs h e = rw (ne_eqb b 32 h, e)

-- a word without a space is one part at the end of a line, and the first part before a space
split_last : (word : List ℕ) → has_space word ≡ false → slice_split (λ b. eqb b 32) word ≡ word ∷ []
split_last [] e = refl
split_last (b ∷ bs) e =
    let p = or_parts _ _ e in
    slice_split-cons_no (λ b. eqb b 32) b bs p.0 ∙ ap (onto_first b) (split_last bs p.1)

split_next : (word rest : List ℕ) → has_space word ≡ false
    → slice_split (λ b. eqb b 32) (word ++ 32 ∷ rest) ≡ word ∷ slice_split (λ b. eqb b 32) rest
split_next [] rest e = slice_split-cons_yes (λ b. eqb b 32) 32 rest refl
split_next (b ∷ bs) rest e =
    let p = or_parts _ _ e in
    slice_split-cons_no (λ b. eqb b 32) b (bs ++ 32 ∷ rest) p.0 ∙ ap (onto_first b) (split_next bs rest p.1)

abbrev NoSpaces : List (List ℕ) → Type 0
NoSpaces [] = Unit {0}
NoSpaces (word ∷ words) = (has_space word ≡ false) × NoSpaces words

-- words that are joined by spaces are the parts between the spaces
split_joined : (word : List ℕ) (words : List (List ℕ)) → has_space word ≡ false → NoSpaces words
    → slice_split (λ b. eqb b 32) (join_with_byte 32 (word ∷ words)) ≡ word ∷ words
split_joined word [] e h = split_last word e
split_joined word (next ∷ words) e h =
    split_next word (join_with_byte 32 (next ∷ words)) e ∙ ap (λ l. word ∷ l) (split_joined next words h.0 h.1)

space_is_no_digit : (b : ℕ) → b ≡ 32 → digit_value b < 10 → ⊥
space_is_no_digit b e h = let k : digit_value 32 < 10 = rw e at h in omega arith

digits_no_space : (word : List ℕ) → AllDigits 10 word → has_space word ≡ false
digits_no_space [] h = refl
digits_no_space (b ∷ bs) h = has_space-onto b bs (λ e. space_is_no_digit b e h.0) (digits_no_space bs h.1)

numbers_no_space : (words : List (List ℕ)) (ns : List ℕ) → AllZip IsNumber words ns → NoSpaces words
numbers_no_space [] ns h = tt
numbers_no_space (word ∷ words) [] h = absurd h
numbers_no_space (word ∷ words) (n ∷ ns) h = (digits_no_space word h.0.digits.1, numbers_no_space words ns h.1)

keyword_no_space : (request : Request) → has_space (keyword request) ≡ false
keyword_no_space (table format ws) = refl
keyword_no_space (infer format ws) = refl
keyword_no_space (quantile format q ws) = refl
keyword_no_space (symbol format s ws) = refl
keyword_no_space (uniform format n) = refl

format_no_space : (format : Format) → has_space (format_word format) ≡ false
format_no_space U8Precision6 = refl
format_no_space U8Precision8 = refl
format_no_space U16Precision12 = refl

-- Lines.

-- what spells a request is its keyword, its format and its numbers
spelled_from : (line : List ℕ) (request : Request) → IsLineOf line (keyword request) (format_of request) (numbers_of request)
    → Spells line request
spelled_from line (table format ws) h = h
spelled_from line (infer format ws) h = h
spelled_from line (quantile format q ws) h = h
spelled_from line (symbol format s ws) h = h
spelled_from line (uniform format n) h = h

spelled_to : (line : List ℕ) (request : Request) → Spells line request
    → IsLineOf line (keyword request) (format_of request) (numbers_of request)
spelled_to line (table format ws) h = h
spelled_to line (infer format ws) h = h
spelled_to line (quantile format q ws) h = h
spelled_to line (symbol format s ws) h = h
spelled_to line (uniform format n) h = h

words_read : (request : Request) (words : List (List ℕ)) → AllZip IsNumber words (numbers_of request)
    → read_words (keyword request ∷ format_word (format_of request) ∷ words) ≡ Some request
unfolding read_words
words_read request words h = rw (format_read (format_of request), numbers_read words (numbers_of request) h) (request_read request)

words_spelled : (words : List (List ℕ)) (request : Request) → read_words words ≡ Some request
    → Spells (join_with_byte 32 words) request
unfolding read_words
words_spelled [] request e = absurd (none-some _ e)
words_spelled (key ∷ []) request e = absurd (none-some _ e)
words_spelled (key ∷ word ∷ words) request e =
    option_and_then_some (λ format. read_numbers words >>= λ numbers. read_request key format numbers) (read_format word) request e
    (λ format named others. option_and_then_some (λ numbers. read_request key format numbers) (read_numbers words) request others
    (λ numbers each asked.
    let parts = request_parts key format numbers request asked in
    let P : List ℕ → Type 0 = λ numbers. AllZip IsNumber words numbers in
    let same : word ≡ format_word (format_of request) = format_spelled word format named ∙ ap format_word parts.1.0 in
    spelled_from (join_with_byte 32 (key ∷ word ∷ words)) request (
      words,
      subst P parts.1.1 (numbers_spelled words numbers each),
      ap (λ k. join_with_byte 32 (k ∷ word ∷ words)) parts.0 ∙ ap (λ f. join_with_byte 32 (keyword request ∷ f ∷ words)) same,
    )))

-- a line spells the request that is read from it
pub line_spelled : (line : List ℕ) (request : Request) → read_line line ≡ Some request → Spells line request
unfolding read_line
line_spelled line request e =
    let P : List ℕ → Type 0 = λ l. Spells l request in
    subst P (join_with_byte-slice_split 32 line) (words_spelled (slice_split (λ b. eqb b 32) line) request e)

-- the request that a line spells is read from it
pub line_read : (line : List ℕ) (request : Request) → Spells line request → read_line line ≡ Some request
unfolding read_line
line_read line request spelled =
    let h = spelled_to line request spelled in
    let words : slice_split (λ b. eqb b 32) line ≡ keyword request ∷ format_word (format_of request) ∷ h.0 =
    ap (slice_split (λ b. eqb b 32)) h.2
    ∙ split_joined (keyword request) (format_word (format_of request) ∷ h.0) (keyword_no_space request)
    (format_no_space (format_of request), numbers_no_space h.0 (numbers_of request) h.1) in
    ap read_words words ∙ words_read request h.0 h.1

-- if reading finds nothing, the line spells no request
pub spells_none : (line : List ℕ) → read_line line ≡ None → (request : Request) → ¬ (Spells line request)
spells_none line none request spelled = none-some request (sym none ∙ line_read line request spelled)

-- if a parser finds what `read_line` finds, the line spells it
pub line_found : {E : Type 0} (line : List ℕ) (r : Result (Option Command) E)
    → IfOk r (λ found. option_map view found ≡ read_line line)
    → IfOk r (λ found. IfSome found (λ command. Spells line (view command)))
line_found line (Ok None) h = tt
line_found line (Ok (Some command)) h = line_spelled line (view command) (sym h)
line_found line (Err e) h = tt

-- if nothing is read from a line, it spells no request
pub line_none : {E : Type 0} (line : List ℕ) (r : Result (Option Command) E)
    → IfOk r (λ found. option_map view found ≡ read_line line)
    → IfOk r (λ found. IfNone found ((request : Request) → ¬ (Spells line request)))
line_none line (Ok None) h = spells_none line (sym h)
line_none line (Ok (Some command)) h = tt
line_none line (Err e) h = tt
