-- Words and their bytes.
use Rattle.std.proofs.Common.{◌≡◌, ℕ, ◌+◌, ◌*◌, ◌/◌, ◌%◌, ◌<◌, List, [], ◌∷◌, ◌++◌, length, get_or, take, refl, ap, arith}
use Rattle.std.specs.Int.{from_le_bytes, w32}
use Rattle.std.proofs.lemmas.List.{take_more, append_assoc}
use Rattle.constriction_coders.specs.Bytes.{bytes_of_words}

-- the bytes of more words
pub bytes_of_words-append : (ws vs : List ℕ) → bytes_of_words (ws ++ vs) ≡ bytes_of_words ws ++ bytes_of_words vs
bytes_of_words-append [] vs = refl
bytes_of_words-append (x ∷ xs) vs =
    ap (λ ys. x % 256 ∷ x / 256 % 256 ∷ x / 65536 % 256 ∷ x / 16777216 ∷ ys) (bytes_of_words-append xs vs)

-- words with the same bytes are the same words
pub bytes_once : (ms bs : List ℕ) → bytes_of_words ms ≡ bytes_of_words bs → ms ≡ bs
bytes_once [] [] e = refl
bytes_once [] (b ∷ bs) e = cc
bytes_once (a ∷ ms) [] e = cc
bytes_once (a ∷ ms) (b ∷ bs) e =
    let first : a % 256 ≡ b % 256 = cc in
    let second : a / 256 % 256 ≡ b / 256 % 256 = cc in
    let third : a / 65536 % 256 ≡ b / 65536 % 256 = cc in
    let fourth : a / 16777216 ≡ b / 16777216 = cc in
    let others : bytes_of_words ms ≡ bytes_of_words bs = cc in
    let word : a ≡ b = omega arith in
    let words : ms ≡ bs = bytes_once ms bs others in
    cc

-- four bytes for each word
pub length-bytes_of_words : (ws : List ℕ) → length (bytes_of_words ws) ≡ 4 * length ws
length-bytes_of_words [] = refl
length-bytes_of_words (w ∷ ws) = omega (arith, length-bytes_of_words ws)

-- four elements more
take_four : (xs : List ℕ) (i : ℕ) → i + 3 < length xs → take (i + 4) xs
    ≡ take i xs ++ (get_or xs i 0 ∷ get_or xs (i + 1) 0 ∷ get_or xs (i + 2) 0 ∷ get_or xs (i + 3) 0 ∷ [])
take_four xs i h = grind (arith, take_more {X = ℕ}, append_assoc {A = ℕ})

-- the bytes of the word of four bytes are these bytes
pub word_back : (a b c d w : ℕ) → a < 256 → b < 256 → c < 256 → d < 256 → w ≡ from_le_bytes w32 (a ∷ b ∷ c ∷ d ∷ [])
    → bytes_of_words (w ∷ []) ≡ a ∷ b ∷ c ∷ d ∷ []
word_back a b c d w p q r s is =
    let first : w % 256 ≡ a = omega arith in
    let second : w / 256 % 256 ≡ b = omega arith in
    let third : w / 65536 % 256 ≡ c = omega arith in
    let fourth : w / 16777216 ≡ d = omega arith in
    cc

-- one word more, of the next four bytes
pub words_more : (ws bytes : List ℕ) (i w : ℕ) → i + 3 < length bytes → ((k : ℕ) → get_or bytes k 0 < 256)
    → w ≡ from_le_bytes w32 (get_or bytes i 0 ∷ get_or bytes (i + 1) 0 ∷ get_or bytes (i + 2) 0 ∷ get_or bytes (i + 3) 0 ∷ [])
    → bytes_of_words ws ≡ take i bytes → bytes_of_words (ws ++ w ∷ []) ≡ take (i + 4) bytes
words_more ws bytes i w h fit is e =
    let word = word_back _ _ _ _ w (fit i) (fit (i + 1)) (fit (i + 2)) (fit (i + 3)) is in
    rw (take_four bytes i h, bytes_of_words-append ws (w ∷ []), word, e) refl
