-- Frames: their bytes fix their content, also if other bytes follow.
use Rattle.std.proofs.Common.{◌≡◌, ℕ, ◌+◌, ◌-◌, ◌/◌, ◌%◌, ◌^◌, ◌<◌, ◌≤◌, Bool, true, false, List}
use Rattle.std.proofs.Common.{[], ◌∷◌, ◌++◌, length, get_or, take, drop, replicate, refl, ap, sym}
use Rattle.std.proofs.Common.{◌∙◌, append_assoc, arith, lit<, subst}
use Rattle.std.specs.Prelude.{Option, Some, ◌==◌, if◌then◌else◌, sum, All}
use Rattle.std.specs.Int.{to_le_bytes, w64}
use Rattle.std.specs.Io.KnownBytes.{Appends, Consumes, IsAtEnd}
use Rattle.std.proofs.lemmas.List.{length-append, length-take-le, take_at, take-append-drop}
use Rattle.constriction.specs.Acceptance.{IsAccepted}
use Rattle.constriction.specs.Rows.{Row}
use Rattle.constriction_adaptive.specs.Numbers.{AreReadFrom}
use Rattle.constriction_adaptive.specs.Mixer.{mixer_after, mixer_rows}
use Rattle.constriction_adaptive.proofs.ReadOnce.{read-once}
use Rattle.constriction_coders.specs.Bytes.{bytes_of_words}
use Rattle.constriction_coders.specs.lemmas.Bytes.{bytes_once}
use Rattle.constriction_pack.specs.Contents.{IsCoded, IsContent, IsPredicted, IsWeighted}
use Rattle.constriction_pack.specs.Contents.{bytes_of_weights, few_contexts, many_contexts}
use Rattle.constriction_pack.specs.Contents.{kind_number}
use Rattle.constriction_pack.specs.declared.format.Format.{Format}
use Rattle.constriction_pack.specs.Frames.{IsFrame, frame_of, hash_after, hash_after_frame}
use Rattle.constriction_pack.specs.Frames.{header_of, tag_of}
use Rattle.constriction_pack.specs.declared.kind.Kind.{Kind}
use Rattle.constriction_pack.specs.declared.kind.Kind.TheVariants.{Stored, Repeated, Weighted}
use Rattle.constriction_pack.specs.declared.kind.Kind.TheVariants.{FewContexts, ManyContexts, Matched}
use Rattle.constriction_pack.proofs.BlockLemmas.{coded_once}
use Rattle.constriction_pack.proofs.HashLemmas.{checksum_once, hash_after-append, hash_before}
use Rattle.constriction_pack.proofs.HashLemmas.{hash_of_more}
use Rattle.constriction_pack.proofs.ListLemmas.{number_once, read_front, same_front}
use Rattle.constriction_pack.proofs.MatchedLemmas.{matched_once}
use Rattle.constriction_pack.proofs.WeightLemmas.{weights_once}

-- ---- tags and headers

abbrev kind_of : ℕ → Kind
kind_of n = if n == 0 then Stored else (if n == 1 then Repeated else (if n == 2 then Weighted
    else (if n == 3 then FewContexts else (if n == 4 then ManyContexts else Matched))))

kind_back : (k : Kind) → kind_of (kind_number k) ≡ k
kind_back Stored = refl
kind_back Repeated = refl
kind_back Weighted = refl
kind_back FewContexts = refl
kind_back ManyContexts = refl
kind_back Matched = refl

-- a kind has a number of its own
kind_once : (k j : Kind) → kind_number k ≡ kind_number j → k ≡ j
kind_once k j e = sym (kind_back k) ∙ ap kind_of e ∙ kind_back j

-- below 128
number_small : (k : Kind) → kind_number k < 128
number_small Stored = lit< tt
number_small Repeated = lit< tt
number_small Weighted = lit< tt
number_small FewContexts = lit< tt
number_small ManyContexts = lit< tt
number_small Matched = lit< tt

-- a tag has one kind, and says whether its frame is the last one
pub tag_once : (k j : Kind) (p q : Bool) → tag_of k p ≡ tag_of j q → (k ≡ j) × (p ≡ q)
tag_once k j true true e = (kind_once k j (omega (arith, e)), refl)
tag_once k j false false e = (kind_once k j (omega (arith, e)), refl)
tag_once k j true false e = absurd (omega (arith, e, number_small j))
tag_once k j false true e = absurd (omega (arith, e, number_small k))

header_once : (t s n m : ℕ) (xs ys : List ℕ) → header_of t n ++ xs ≡ header_of s m ++ ys
    → (t ≡ s) × (n ≡ m) × (xs ≡ ys)
header_once t s n m xs ys e =
    let tag : t ≡ s = ap (λ zs. get_or zs 0 0) e in
    let low : n % 256 ≡ m % 256 = ap (λ zs. get_or zs 1 0) e in
    let middle : n / 256 % 256 ≡ m / 256 % 256 = ap (λ zs. get_or zs 2 0) e in
    let high : n / 65536 ≡ m / 65536 = ap (λ zs. get_or zs 3 0) e in
    (tag, omega arith, ap (drop 5) e)

-- ---- frames

-- a frame has 13 bytes more than its content
pub length_frame_of : (before tag : ℕ) (content : List ℕ)
    → length (frame_of before tag content) ≡ length content + 13
unfolding frame_of
length_frame_of before tag content = simp length-append (omega arith)

-- the content of a frame, and what follows
pub contents_once : (before t s : ℕ) (c d xs ys : List ℕ)
    → frame_of before t c ++ xs ≡ frame_of before s d ++ ys → (t ≡ s) × (c ≡ d) × (xs ≡ ys)
unfolding frame_of
contents_once before t s c d xs ys e =
    let p = to_le_bytes w64 (hash_after_frame before t c) in
    let q = to_le_bytes w64 (hash_after_frame before s d) in
    let head = header_once t s (length c) (length d) ((c ++ p) ++ xs) ((d ++ q) ++ ys) e in
    let bodies = same_front c d (p ++ xs) (q ++ ys)
    (sym (append_assoc c p xs) ∙ head.2 ∙ append_assoc d q ys) head.1 in
    (head.0, bodies.0, ap (drop 8) bodies.1)

-- the hash before a frame, whatever follows it
pub hash_once : (h k t s : ℕ) (c d xs ys : List ℕ) → h < 2 ^ 64 → k < 2 ^ 64
    → frame_of h t c ++ xs ≡ frame_of k s d ++ ys → h ≡ k
unfolding frame_of hash_after_frame
hash_once h k t s c d xs ys small less e =
    let p = to_le_bytes w64 (hash_after_frame h t c) in
    let q = to_le_bytes w64 (hash_after_frame k s d) in
    let head = header_once t s (length c) (length d) ((c ++ p) ++ xs) ((d ++ q) ++ ys) e in
    let bodies = same_front c d (p ++ xs) (q ++ ys)
    (sym (append_assoc c p xs) ∙ head.2 ∙ append_assoc d q ys) head.1 in
    let front = header_of t (length c) ++ c in
    let other = header_of s (length d) ++ d in
    let fronts : front ≡ other =
    ap (λ tag. header_of tag (length c) ++ c) head.0 ∙ ap (λ zs. header_of s (length zs) ++ zs)
    bodies.0 in
    let sums : p ≡ q = ap (take 8) bodies.1 in
    let hashes = checksum_once (hash_after h front) (hash_after k other)
    (hash_of_more h t (drop 1 front)) (hash_of_more k s (drop 1 other)) sums in
    hash_before front h k small less (hashes ∙ ap (hash_after k) (sym fronts))

-- ---- contents

some_weights : (weights : List ℕ) → IsAccepted 32 16 weights → 0 < length weights
some_weights [] h = absurd (omega (arith, h.tiles.total))
some_weights (w ∷ ws) h = omega arith

-- bytes that are predicted have one content
predicted_once : {State : Type 0} (rows : State → List (Row Bool)) (next : State → Bool → State)
    (first : State) (bytes others content : List ℕ) → IsPredicted rows next first bytes content
    → IsPredicted rows next first others content → bytes ≡ others
predicted_once rows next first bytes others content p q =
    let e = sym p.laid_out ∙ q.laid_out in
    let count = number_once (length bytes) (length others) _ _ e in
    let rest : bytes_of_words p.words ≡ bytes_of_words q.words = ap (drop 4) e in
    let words = bytes_once p.words q.words rest in
    read-once rows next 8 first bytes others p.words p.read
    (subst (λ (ws : List ℕ). AreReadFrom 8 rows next first others ws) (sym words) q.read) count

-- blocks are short
pub content_short : (kind : Kind) (bytes content : List ℕ) → IsContent kind bytes content
    → length bytes ≤ 2 ^ 23
content_short Stored bytes content p = p.0
content_short Repeated bytes content p = p.short
content_short Weighted bytes content p = p.short
content_short FewContexts bytes content p = p.short
content_short ManyContexts bytes content p = p.short
content_short Matched bytes content p = p.short

-- a content of one kind is that of one block
pub content_once : (kind : Kind) (bytes others content : List ℕ) → IsContent kind bytes content
    → IsContent kind others content → bytes ≡ others
content_once Stored bytes others content p q = sym p.1 ∙ q.1
content_once Repeated bytes others content p q =
    let e = sym p.laid_out ∙ q.laid_out in
    let count = number_once (length bytes) (length others) (p.byte ∷ []) (q.byte ∷ []) e in
    let byte : p.byte ≡ q.byte = ap (λ xs. get_or xs 4 0) e in
    p.same ∙ ap (λ n. replicate n p.byte) count ∙ ap (replicate (length others)) byte ∙ sym q.same
content_once Weighted bytes others content p q =
    let e = sym p.laid_out ∙ q.laid_out in
    let count = number_once (length bytes) (length others) _ _ e in
    let places : length p.weights - 1 ≡ length q.weights - 1 = ap (λ xs. get_or xs 4 0) e in
    let rest : bytes_of_weights p.weights ++ bytes_of_words p.words
    ≡ bytes_of_weights q.weights ++ bytes_of_words q.words = ap (drop 5) e in
    let same = weights_once p.weights q.weights _ _ rest
    (omega (
      arith,
      places,
      some_weights p.weights p.coded.accepted,
      some_weights q.weights q.coded.accepted,
    ))
    p.coded.accepted.tiles.positive q.coded.accepted.tiles.positive in
    let words = bytes_once p.words q.words same.1 in
    coded_once p.weights bytes others p.words p.coded (rw (← same.0, ← words) at q.coded) count
content_once FewContexts bytes others content p q =
    predicted_once mixer_rows mixer_after few_contexts bytes others content p q
content_once ManyContexts bytes others content p q =
    predicted_once mixer_rows mixer_after many_contexts bytes others content p q
content_once Matched bytes others content p q = matched_once bytes others content p q

-- a frame is that of one block, and what follows it is known
pub frame_once : (format : Format) (before : ℕ) (block other frame another xs ys : List ℕ)
    (after later : Option ℕ) → IsFrame format before block frame after
    → IsFrame format before other another later → frame ++ xs ≡ another ++ ys
    → (block ≡ other) × (after ≡ later) × (xs ≡ ys)
frame_once format before block other frame another xs ys after later p q e =
    let same = contents_once before _ _ p.content q.content xs ys
    (ap (λ zs. zs ++ xs) (sym p.laid_out) ∙ e ∙ ap (λ zs. zs ++ ys) q.laid_out) in
    let tag = tag_once p.kind q.kind p.is_last q.is_last same.0 in
    let kind : p.kind ≡ q.kind = tag.0 in
    let last : p.is_last ≡ q.is_last = tag.1 in
    let content : p.content ≡ q.content = same.1 in (
      content_once p.kind block other p.content p.of_kind (rw (← kind, ← content) at q.of_kind),
      p.leads ∙ rw (kind, last, content) refl ∙ sym q.leads,
      same.2,
    )

-- ---- what was read of a frame

-- the header of a frame that stands there
pub header_stands : (before tag : ℕ) (content rest read : List ℕ) (a b : Option (List ℕ))
    → a ≡ Some (frame_of before tag content ++ rest) → Consumes a b read → length read ≤ 5
    → (length read < 5 → IsAtEnd b) → read ≡ header_of tag (length content)
unfolding frame_of
header_stands before tag content rest read a b known h most end =
    let check = to_le_bytes w64 (hash_after_frame before tag content) in
    read_front a b (header_of tag (length content)) ((content ++ check) ++ rest) read known h
    most end

-- all of it
pub frame_stands : (before tag : ℕ) (content rest read : List ℕ) (a b : Option (List ℕ))
    → a ≡ Some (frame_of before tag content ++ rest) → Consumes a b read
    → length read ≤ length content + 13 → (length read < length content + 13 → IsAtEnd b)
    → read ≡ frame_of before tag content
frame_stands before tag content rest read a b known h most end =
    let long = length_frame_of before tag content in
    read_front a b (frame_of before tag content) rest read known h (omega (arith, long, most))
    (λ less. end (omega (arith, long, less)))

-- a header of n bytes of content has this length alone
pub count_once : (t s n m : ℕ) → header_of t n ≡ header_of s m → (t ≡ s) × (n ≡ m)
count_once t s n m e = let all = header_once t s n m [] [] (ap (λ xs. xs ++ []) e) in (all.0, all.1)

-- bytes that begin with a header and end with the checksum of what is before it are a frame
pub frame_made : (before tag n : ℕ) (first read frame hashed check : List ℕ)
    → first ≡ header_of tag n → frame ≡ first ++ read → length frame ≡ n + 13
    → frame ≡ hashed ++ check → length check ≡ 8
    → check ≡ to_le_bytes w64 (hash_after before hashed) → (content : List ℕ) × (length content ≡ n)
    × (frame ≡ frame_of before tag content)
    × (hash_after before hashed ≡ hash_after_frame before tag content)
unfolding frame_of hash_after_frame
frame_made before tag n first read frame hashed check head laid long cut eight sum =
    let content = take n read in
    let all : frame ≡ header_of tag n ++ read = laid ∙ ap (λ xs. xs ++ read) head in
    let count : length read ≡ n + 8 = omega (arith, ap length all, long) in
    let size : length content ≡ n = length-take-le n read (omega (arith, count)) in
    let split : hashed ++ check ≡ (header_of tag n ++ content) ++ drop n read =
    sym cut ∙ all ∙ ap (λ xs. header_of tag n ++ xs) (sym (take-append-drop n read)) in
    let parts = same_front hashed (header_of tag n ++ content) check (drop n read) split
    (omega (arith, ap length cut, length-append hashed check, eight, long, size)) in
    let hash : hash_after before hashed
    ≡ hash_after before (header_of tag (length content) ++ content) =
    ap (hash_after before) (parts.0 ∙ ap (λ m. header_of tag m ++ content) (sym size)) in (
      content,
      size,
      cut ∙ ap (λ xs. xs ++ check) parts.0
          ∙ ap (λ m. (header_of tag m ++ content) ++ check) (sym size)
          ∙ ap (λ xs. header_of tag (length content) ++ (content ++ xs))
          (sum ∙ ap (to_le_bytes w64) hash),
      hash,
    )

-- the content of a frame stands behind its header
pub content_slice : (before tag : ℕ) (content frame : List ℕ) → frame ≡ frame_of before tag content
    → take (length frame - 8 - 5) (drop 5 frame) ≡ content
unfolding frame_of
content_slice before tag content frame e =
    let check = to_le_bytes w64 (hash_after_frame before tag content) in
    rw e (take_at content check _ (simp length-append (omega arith)))

-- the checksum of a frame is right
pub frame_hash : (before tag : ℕ) (content frame hashed check : List ℕ)
    → frame ≡ frame_of before tag content → frame ≡ hashed ++ check → length check ≡ 8
    → check ≡ to_le_bytes w64 (hash_after before hashed)
unfolding frame_of hash_after_frame
frame_hash before tag content frame hashed check is cut eight =
    let front = header_of tag (length content) ++ content in
    let sum = to_le_bytes w64 (hash_after before front) in
    let parts = same_front hashed front check sum (sym cut ∙ is)
    (omega (
      arith,
      ap length cut,
      length-append hashed check,
      eight,
      ap length is,
      length-append content sum,
    )) in
    parts.1 ∙ ap (λ xs. to_le_bytes w64 (hash_after before xs)) (sym parts.0)

-- a frame by its parts
pub frame_is : (before tag : ℕ) (content header check : List ℕ)
    → header ≡ header_of tag (length content)
    → check ≡ to_le_bytes w64 (hash_after (hash_after before header) content)
    → frame_of before tag content ≡ header ++ (content ++ check)
unfolding frame_of hash_after_frame
frame_is before tag content header check head sum =
    let front = header_of tag (length content) in
    let hash = hash_after-append before front content
    ∙ ap (λ xs. hash_after (hash_after before xs) content) (sym head) in
    ap (λ n. front ++ (content ++ to_le_bytes w64 n)) hash
    ∙ ap (λ xs. front ++ (content ++ xs)) (sym sum)
    ∙ ap (λ xs. xs ++ (content ++ check)) (sym head)

-- the hash of a frame is that of its header and then its content
pub hash_is : (before tag : ℕ) (content header : List ℕ) → header ≡ header_of tag (length content)
    → hash_after (hash_after before header) content ≡ hash_after_frame before tag content
unfolding hash_after_frame
hash_is before tag content header head =
    ap (λ xs. hash_after (hash_after before xs) content) head
    ∙ sym (hash_after-append before (header_of tag (length content)) content)

-- the parts of a content by weights
weighted_stands : (bytes content tail : List ℕ) (n m : ℕ) → (h : IsWeighted bytes content)
    → content ≡ bytes_of_words (n ∷ []) ++ (m ∷ tail)
    → (length bytes ≡ n) × (length h.weights ≡ m + 1)
    × (tail ≡ bytes_of_weights h.weights ++ bytes_of_words h.words)
weighted_stands bytes content tail n m h is =
    let e = sym h.laid_out ∙ is in
    let places : length h.weights - 1 ≡ m = ap (λ xs. get_or xs 4 0) e in
    let count : length h.weights ≡ m + 1 =
    omega (arith, places, some_weights h.weights h.coded.accepted) in
    (number_once (length bytes) n _ _ e, count, sym (ap (drop 5) e))

-- where as many weights were read, the words are what is left, and they are coded by these weights
pub coded_stands : (bytes content tail rest weights : List ℕ) (n m : ℕ) → IsWeighted bytes content
    → content ≡ bytes_of_words (n ∷ []) ++ (m ∷ tail) → tail ≡ bytes_of_weights weights ++ rest
    → length weights ≡ m + 1 → All (λ w. 0 < w) weights → (words : List ℕ) × (length bytes ≡ n)
    × (rest ≡ bytes_of_words words) × IsCoded bytes weights words
coded_stands bytes content tail rest weights n m h is begins count positive =
    let parts = weighted_stands bytes content tail n m h is in
    let same = weights_once weights h.weights rest (bytes_of_words h.words) (sym begins ∙ parts.2)
    (omega (arith, count, parts.1)) positive h.coded.accepted.tiles.positive in
    (h.words, parts.0, same.1, rw (← same.0) at h.coded)

-- a frame of which a part was written
pub part_of : (a b : Option (List ℕ)) (frame written lost : List ℕ) → Appends a b written
    → written ++ lost ≡ frame → 0 < length lost → (front rest : List ℕ) × Appends a b front
    × (front ++ rest ≡ frame) × (0 < length rest)
part_of a b frame written lost h e some = (written, lost, h, e, some)
