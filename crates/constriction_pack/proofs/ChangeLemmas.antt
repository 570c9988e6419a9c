-- A file in which one byte is changed: its frames are none any more.
use Rattle.std.proofs.Common.{◌≡◌, ◌≢◌, ℕ, ◌^◌, ◌<◌, List, [], ◌∷◌, ◌++◌, Option, Some, length}
use Rattle.std.proofs.Common.{get_or, take, drop, refl, ap, sym, ◌∙◌, append_assoc, arith}
use Rattle.std.specs.Prelude.{bit_xor}
use Rattle.std.specs.Int.{to_le_bytes, w64}
use Rattle.std.specs.Int.Bits.{xor_self, xor_zero_l}
use Rattle.std.proofs.lemmas.List.{append_cancel_left, length-append}
use Rattle.constriction_pack.specs.Formats.{signature}
use Rattle.constriction_pack.specs.Frames.{IsFrame, frame_of, hash_after, hash_after_frame}
use Rattle.constriction_pack.specs.Frames.{header_of}
use Rattle.constriction_pack.specs.Packed.{AreFrames, IsPacked, ended, next}
use Rattle.constriction_pack.specs.declared.format.Format.{Format}
use Rattle.constriction_pack.proofs.FormatLemmas.{first_hash_once, first_hash_small}
use Rattle.constriction_pack.proofs.FormatLemmas.{length_signature, signature_once}
use Rattle.constriction_pack.proofs.FrameLemmas.{count_once, hash_once, tag_once}
use Rattle.constriction_pack.proofs.HashLemmas.{byte_once, checksum_once, hash_after-append}
use Rattle.constriction_pack.proofs.HashLemmas.{hash_of_more, xor_left, xor_right}
use Rattle.constriction_pack.proofs.ListLemmas.{same_front}

-- ---- where a byte was changed

-- lists that begin with `front` and `other`, and differ in the byte after `before`: it is one of
-- these two, or of what follows them
pub data Place (front other xs ys before after : List ℕ) (x y : ℕ) : Type 0 where
  within : (rest : List ℕ) → front ≡ before ++ x ∷ rest → other ≡ before ++ y ∷ rest → xs ≡ ys
      → Place front other xs ys before after x y
  beyond : (rest : List ℕ) → front ≡ other → before ≡ front ++ rest → xs ≡ rest ++ x ∷ after
      → ys ≡ rest ++ y ∷ after → Place front other xs ys before after x y

-- lists that differ at one place differ in their fronts or behind them
pub place_of : (front other xs ys before after : List ℕ) (x y : ℕ) → length front ≡ length other
    → front ++ xs ≡ before ++ x ∷ after → other ++ ys ≡ before ++ y ∷ after
    → Place front other xs ys before after x y
place_of [] [] xs ys before after x y n e f = beyond before refl refl e f
place_of [] (b ∷ other) xs ys before after x y n e f = absurd (omega (arith, n))
place_of (a ∷ front) [] xs ys before after x y n e f = absurd (omega (arith, n))
place_of (a ∷ front) (b ∷ other) xs ys [] after x y n e f =
    let first : a ≡ x = ap (λ zs. get_or zs 0 0) e in
    let second : b ≡ y = ap (λ zs. get_or zs 0 0) f in
    let rests : front ++ xs ≡ other ++ ys = ap (drop 1) e ∙ sym (ap (drop 1) f) in
    let same = same_front front other xs ys rests (omega (arith, n)) in
    within front (ap (λ z. z ∷ front) first)
    (ap (λ z. z ∷ other) second ∙ ap (λ zs. y ∷ zs) (sym same.0)) same.1
place_of (a ∷ front) (b ∷ other) xs ys (c ∷ before) after x y n e f =
    let first : a ≡ c = ap (λ zs. get_or zs 0 0) e in
    let second : b ≡ c = ap (λ zs. get_or zs 0 0) f in
    let rests = place_of front other xs ys before after x y (omega (arith, n)) (ap (drop 1) e)
    (ap (drop 1) f) in
    elim rests [
      | within rest p q r ↦ within rest (ap (λ z. z ∷ front) first ∙ ap (λ zs. c ∷ zs) p)
          (ap (λ z. z ∷ other) second ∙ ap (λ zs. c ∷ zs) q) r
      | beyond rest p q r s ↦ beyond rest
          (ap (λ z. z ∷ front) (first ∙ sym second) ∙ ap (λ zs. b ∷ zs) p)
          (ap (λ zs. c ∷ zs) q ∙ ap (λ z. z ∷ (front ++ rest)) (sym first)) r s
    ]

-- equal lists do not differ in a byte
same_byte : (before r s : List ℕ) (x y : ℕ) → before ++ x ∷ r ≡ before ++ y ∷ s → x ≡ y
same_byte before r s x y e = ap (λ zs. get_or zs 0 0) (append_cancel_left before (x ∷ r) (y ∷ s) e)

-- ---- the header

-- four bytes and their exclusive or
abbrev checked : ℕ → ℕ → ℕ → ℕ → List ℕ
checked t l m h = t ∷ l ∷ m ∷ h ∷ bit_xor (bit_xor (bit_xor t l) m) h ∷ []

-- the exclusive or of a number and bytes
abbrev xors : ℕ → List ℕ → ℕ
xors n [] = n
xors n (b ∷ bytes) = xors (bit_xor n b) bytes

xors_back : (bytes : List ℕ) (n m : ℕ) → xors n bytes ≡ xors m bytes → n ≡ m
xors_back [] n m e = e
xors_back (b ∷ bytes) n m e = xor_right n m b (xors_back bytes (bit_xor n b) (bit_xor m b) e)

-- it tells one byte, if the others are known
xors_once : (before rest : List ℕ) (n x y : ℕ)
    → xors n (before ++ x ∷ rest) ≡ xors n (before ++ y ∷ rest) → x ≡ y
xors_once [] rest n x y e = xor_left n x y (xors_back rest (bit_xor n x) (bit_xor n y) e)
xors_once (b ∷ before) rest n x y e = xors_once before rest (bit_xor n b) x y e

xors_of_checked : (t l m h : ℕ) → xors 0 (checked t l m h) ≡ 0
xors_of_checked t l m h =
    let sum = bit_xor (bit_xor (bit_xor t l) m) h in
    ap (λ z. bit_xor (bit_xor (bit_xor (bit_xor z l) m) h) sum) (xor_zero_l t) ∙ xor_self sum

-- such five do not differ in one byte alone
one_changed : (t l m h s k i j : ℕ) (before rest : List ℕ) (x y : ℕ)
    → checked t l m h ≡ before ++ x ∷ rest → checked s k i j ≡ before ++ y ∷ rest → x ≡ y
one_changed t l m h s k i j before rest x y e f =
    xors_once before rest 0 x y (ap (xors 0) (sym e) ∙ xors_of_checked t l m h
    ∙ sym (xors_of_checked s k i j) ∙ ap (xors 0) f)

-- ---- a frame

-- the checksum of a content behind its header
abbrev sum_of : ℕ → ℕ → List ℕ → List ℕ
sum_of hash t c = to_le_bytes w64 (hash_after hash (header_of t (length c) ++ c))

-- contents that differ in one byte have other checksums
sums_differ : (hash t : ℕ) (c d before rest : List ℕ) (x y : ℕ) → x < 256 → y < 256
    → length c ≡ length d → c ≡ before ++ x ∷ rest → d ≡ before ++ y ∷ rest
    → sum_of hash t c ≡ sum_of hash t d → x ≡ y
sums_differ hash t c d before rest x y p q n e f sums =
    let head = header_of t (length c) in
    let hashes : hash_after hash (head ++ c) ≡ hash_after hash (header_of t (length d) ++ d) =
    checksum_once _ _ (hash_of_more hash t (drop 1 head ++ c))
    (hash_of_more hash t (drop 1 (header_of t (length d)) ++ d)) sums in
    let one = hash_after-append hash head c ∙ ap (hash_after (hash_after hash head)) e
    ∙ hash_after-append (hash_after hash head) before (x ∷ rest) in
    let other = ap (λ m. hash_after hash (header_of t m ++ d)) (sym n)
    ∙ hash_after-append hash head d ∙ ap (hash_after (hash_after hash head)) f
    ∙ hash_after-append (hash_after hash head) before (y ∷ rest) in
    byte_once _ x y rest p q (sym one ∙ hashes ∙ other)

-- behind the header: the change is beyond the content and its checksum
content_changed : (hash t : ℕ) (c d xs ys before after : List ℕ) (x y : ℕ) → x < 256 → y < 256
    → y ≢ x → length c ≡ length d → (c ++ sum_of hash t c) ++ xs ≡ before ++ x ∷ after
    → (d ++ sum_of hash t d) ++ ys ≡ before ++ y ∷ after
    → (rest : List ℕ) × (c ≡ d) × (xs ≡ rest ++ x ∷ after) × (ys ≡ rest ++ y ∷ after)
content_changed hash t c d xs ys before after x y small less differ n e f =
    let p = sum_of hash t c in
    let q = sum_of hash t d in
    elim (place_of c d (p ++ xs) (q ++ ys) before after x y n (sym (append_assoc c p xs) ∙ e)
    (sym (append_assoc d q ys) ∙ f)) [
      | within rest a b u ↦
          let sums : p ≡ q = ap (take 8) u in
          absurd (differ (sym (sums_differ hash t c d before rest x y small less n a b sums)))
      | beyond rest same u v w ↦
          let sums : p ≡ q = ap (sum_of hash t) same in
          elim (place_of p q xs ys rest after x y refl v w) [
            | within last a b z ↦
                absurd (differ (sym (same_byte rest last last x y (sym a ∙ sums ∙ b))))
            | beyond last a b g h ↦ (last, same, g, h)
          ]
    ]

-- a frame in which one byte is changed is none after the same frames: the change is beyond it
frame_changed : (hash t s : ℕ) (c d xs ys before after : List ℕ) (x y : ℕ) → x < 256 → y < 256
    → y ≢ x → frame_of hash t c ++ xs ≡ before ++ x ∷ after
    → frame_of hash s d ++ ys ≡ before ++ y ∷ after → (rest : List ℕ) × (t ≡ s) × (c ≡ d)
    × (xs ≡ rest ++ x ∷ after) × (ys ≡ rest ++ y ∷ after)
unfolding frame_of hash_after_frame
frame_changed hash t s c d xs ys before after x y small less differ e f =
    elim (place_of (header_of t (length c)) (header_of s (length d)) ((c ++ sum_of hash t c) ++ xs)
    ((d ++ sum_of hash s d) ++ ys) before after x y refl e f) [
      | within rest a b u ↦
          absurd (differ (sym (one_changed _ _ _ _ _ _ _ _ before rest x y a b)))
      | beyond rest same u v w ↦
          let head = count_once t s (length c) (length d) same in
          let more = content_changed hash t c d xs ys rest after x y small less differ head.1 v
          (rw (← head.0) at w) in
          (more.0, head.0, more.1, more.2, more.3)
    ]

-- ---- frames

-- after a frame, the change is beyond it
next_changed : {format : Format} {hash : ℕ} {after : Option ℕ} {others other : List ℕ}
    (block frame xs before behind : List ℕ) (x y : ℕ) → x < 256 → y < 256 → y ≢ x
    → IsFrame format hash block frame after → frame ++ xs ≡ before ++ x ∷ behind
    → AreFrames format (Some hash) others other → other ≡ before ++ y ∷ behind
    → (rest left ys : List ℕ) × AreFrames format after left ys × (xs ≡ rest ++ x ∷ behind)
    × (ys ≡ rest ++ y ∷ behind)
next_changed {hash = hash} {after = after} block frame xs before behind x y small less differ n e
    (next {bytes = left} {frames = ys} {after = then} another last m g) f =
    let one = frame_changed hash _ _ n.content m.content xs ys before behind x y small less differ
    (ap (λ zs. zs ++ xs) (sym n.laid_out) ∙ e) (ap (λ zs. zs ++ ys) (sym m.laid_out) ∙ f) in
    let tag = tag_once n.kind m.kind n.is_last m.is_last one.1 in
    let last_too : n.is_last ≡ m.is_last = tag.1 in
    let kind : n.kind ≡ m.kind = tag.0 in
    let content : n.content ≡ m.content = one.2 in
    let same : after ≡ then = n.leads ∙ rw (kind, last_too, content) refl ∙ sym m.leads in
    (one.0, left, ys, rw (← same) at g, one.3, one.4)

-- frames of which one byte is changed are none
frames_changed : {format : Format} {from : Option ℕ} {bytes others all other : List ℕ}
    (before behind : List ℕ) (x y : ℕ) → x < 256 → y < 256 → y ≢ x
    → AreFrames format from bytes all → all ≡ before ++ x ∷ behind
    → AreFrames format from others other → other ≡ before ++ y ∷ behind → ⊥
frames_changed before behind x y small less differ ended e g f =
    omega (arith, ap length e, length-append before (x ∷ behind))
frames_changed before behind x y small less differ (next {frames = xs} block frame n rests) e g f =
    let more = next_changed block frame xs before behind x y small less differ n e g f in
    frames_changed more.0 behind x y small less differ rests more.4 more.3 more.5

-- ---- a file

-- frames tell the hash before them
hash_of_frames : {f g : Format} {h k : ℕ} {bytes others all other : List ℕ} → h < 2 ^ 64
    → k < 2 ^ 64 → AreFrames f (Some h) bytes all → AreFrames g (Some k) others other
    → all ≡ other → h ≡ k
hash_of_frames {h = h} {k = k} small less (next {frames = xs} block frame n rests)
    (next {frames = ys} another last m more) e =
    hash_once h k _ _ n.content m.content xs ys small less (ap (λ zs. zs ++ xs) (sym n.laid_out) ∙ e
    ∙ ap (λ zs. zs ++ ys) m.laid_out)

-- a packed file in which one byte is changed is none
pub file_changed : (bytes others before after : List ℕ) (x y : ℕ) → x < 256 → y < 256 → y ≢ x
    → IsPacked bytes (before ++ x ∷ after) → IsPacked others (before ++ y ∷ after) → ⊥
file_changed bytes others before after x y small less differ p q =
    let lengths = length_signature p.format ∙ sym (length_signature q.format) in
    elim (place_of (signature p.format) (signature q.format) p.frames q.frames before after x y
    lengths (sym p.laid_out) (sym q.laid_out)) [
      | within rest a b u ↦
          let hash = hash_of_frames (first_hash_small p.format) (first_hash_small q.format)
          p.framed q.framed u in
          let format = first_hash_once p.format q.format hash in
          differ (sym (same_byte before rest rest x y (sym a ∙ ap signature format ∙ b)))
      | beyond rest same u v w ↦
          let format = signature_once p.format q.format [] [] (ap (λ zs. zs ++ []) same) in
          frames_changed rest after x y small less differ p.framed v (rw (← format.0) at q.framed) w
    ]
