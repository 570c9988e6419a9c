-- Packed files, frame by frame.
use Rattle.std.proofs.Common.{◌≡◌, ℕ, ◌+◌, ◌*◌, ◌/◌, ◌^◌, ◌<◌, ◌≤◌, Bool, List, [], ◌++◌, Option}
use Rattle.std.proofs.Common.{None, Some, length, refl, ap, sym, ◌∙◌, subst, append_assoc}
use Rattle.std.proofs.Common.{append-nil, arith}
use Rattle.std.specs.Io.KnownBytes.{Appends, Consumes, IsAtEnd}
use Rattle.std.proofs.KnownBytes.{Appends-nil, Appends-trans, Consumes-nil, Consumes-trans}
use Rattle.std.proofs.lemmas.List.{length-append}
use Rattle.std.proofs.lemmas.Nat.{le-div}
use Rattle.constriction_pack.specs.Contents.{IsContent}
use Rattle.constriction_pack.specs.Formats.{IsAdmitted, signature}
use Rattle.constriction_pack.specs.Frames.{first_hash, frame_of, IsFrame, tag_of}
use Rattle.constriction_pack.specs.Packed.{AreFrames, IsPacked, ended, next}
use Rattle.constriction_pack.specs.declared.format.Format.{Format}
use Rattle.constriction_pack.specs.declared.format.Format.TheVariants.{Cpk3}
use Rattle.constriction_pack.specs.declared.kind.Kind.{Kind}
use Rattle.constriction_pack.proofs.FormatLemmas.{signature_once}
use Rattle.constriction_pack.proofs.FrameLemmas.{contents_once, frame_once, length_frame_of}
use Rattle.constriction_pack.proofs.FrameLemmas.{tag_once}
use Rattle.constriction_pack.proofs.ListLemmas.{gave}

-- what is left after the next frame
next_left : {format : Format} {before : ℕ} {bytes file : List ℕ} {after : Option ℕ}
    (block frame more : List ℕ) → AreFrames format (Some before) bytes file
    → IsFrame format before block frame after → file ≡ frame ++ more
    → (rest : List ℕ) × (block ++ rest ≡ bytes) × AreFrames format after rest more
next_left block frame more (next {bytes = rest} {frames = frames} other another n f) q e =
    let is = frame_once _ _ other block another frame frames more _ _ n q e in
    (rest, ap (λ xs. xs ++ rest) (sym is.0), rw (is.1, is.2) at f)

-- nothing follows the last frame
pub at_end : {format : Format} {bytes frames : List ℕ} → AreFrames format None bytes frames
    → frames ≡ []
at_end ended = refl

-- ---- one content

framed_once : {format : Format} {from : Option ℕ} {bytes others frames : List ℕ}
    → AreFrames format from bytes frames → AreFrames format from others frames → bytes ≡ others
framed_once ended ended = refl
framed_once (next block frame n f) q =
    let here = next_left block frame _ q n refl in
    ap (λ xs. block ++ xs) (framed_once f here.2) ∙ here.1

-- a packed file has one content
pub one_content : (bytes others packed : List ℕ) → IsPacked bytes packed → IsPacked others packed
    → bytes ≡ others
one_content bytes others packed p q =
    let same = signature_once p.format q.format p.frames q.frames (sym p.laid_out ∙ q.laid_out) in
    framed_once p.framed (rw (← same.0, ← same.1) at q.framed)

framed_end : {format : Format} {from : Option ℕ} {bytes others frames : List ℕ} (more : List ℕ)
    → AreFrames format from bytes frames → AreFrames format from others (frames ++ more)
    → more ≡ []
framed_end more ended q = at_end q
framed_end more (next {frames = rest} block frame n f) q =
    framed_end more f (next_left block frame (rest ++ more) q n (append_assoc frame rest more)).2

-- the format of a file that begins with another, and what stands behind its signature
behind : (format : Format) (bytes written lost packed : List ℕ) → (p : IsPacked bytes written)
    → written ++ lost ≡ signature format ++ packed
    → (p.format ≡ format) × (p.frames ++ lost ≡ packed)
behind format bytes written lost packed p e =
    signature_once p.format format (p.frames ++ lost) packed
    (sym (append_assoc (signature p.format) p.frames lost) ∙ ap (λ xs. xs ++ lost) (sym p.laid_out)
    ∙ e)

-- a packed file is not the beginning of another
pub none_follows : (bytes others packed more : List ℕ) → IsPacked bytes packed
    → IsPacked others (packed ++ more) → more ≡ []
none_follows bytes others packed more p q =
    let same = behind q.format bytes packed more q.frames p q.laid_out in
    framed_end more p.framed (rw (← same.0, ← same.1) at q.framed)

-- ---- what a failure leaves

-- a part of a frame is no frames
no_frames : {format : Format} (before tag : ℕ) (content part lost bytes : List ℕ)
    → part ++ lost ≡ frame_of before tag content → 0 < length lost
    → AreFrames format (Some before) bytes part → ⊥
no_frames before tag content part lost bytes e some (next {frames = more} block frame n f) =
    let all : frame_of before (tag_of n.kind n.is_last) n.content ++ (more ++ lost)
    ≡ frame_of before tag content ++ [] =
    ap (λ xs. xs ++ (more ++ lost)) (sym n.laid_out) ∙ sym (append_assoc frame more lost) ∙ e
    ∙ sym (append-nil (frame_of before tag content)) in
    let same = contents_once before _ tag n.content content (more ++ lost) [] all in
    omega (arith, some, ap length same.2, length-append more lost)

-- nor are no bytes
pub nothing_framed : {format : Format} (before : ℕ) (bytes : List ℕ)
    → AreFrames format (Some before) bytes [] → ⊥
nothing_framed before bytes =
    no_frames before 0 [] [] (frame_of before 0 []) bytes refl
    (omega (arith, length_frame_of before 0 []))

-- so where nothing of a frame was written, or a part of it
pub none_written : {format : Format} (d : Option (List ℕ)) (before : ℕ) → (written : List ℕ)
    × Appends d d written × ((bytes : List ℕ) → ¬ (AreFrames format (Some before) bytes written))
none_written d before = ([], Appends-nil d, nothing_framed before)

-- a frame that was written in part is no frame
pub part_written : {format : Format} (d d' : Option (List ℕ)) (before tag : ℕ) (content : List ℕ)
    → (written lost : List ℕ) × Appends d d' written
    × (written ++ lost ≡ frame_of before tag content) × (0 < length lost)
    → (written : List ℕ) × Appends d d' written
    × ((bytes : List ℕ) → ¬ (AreFrames format (Some before) bytes written))
part_written d d' before tag content p =
    (p.0, p.2, λ bytes. no_frames before tag content p.0 p.1 bytes p.3 p.4)

-- a part of the signature is no packed file
signature_cut : (format : Format) (written lost bytes : List ℕ)
    → written ++ lost ≡ signature format → 0 < length lost → IsPacked bytes written → ⊥
signature_cut format written lost bytes e some file =
    let none = behind format bytes written lost [] file (e ∙ sym (append-nil (signature format))) in
    omega (arith, some, ap length none.1, length-append file.frames lost)

-- a signature that was written in part begins no packed file
pub signature_written : (format : Format) (c d : Option (List ℕ))
    → (written lost : List ℕ) × Appends c d written × (written ++ lost ≡ signature format)
    × (0 < length lost)
    → (written : List ℕ) × Appends c d written × ((bytes : List ℕ) → ¬ (IsPacked bytes written))
signature_written format c d p = (p.0, p.2, λ bytes. signature_cut format p.0 p.1 bytes p.3 p.4)

-- ---- the beginning of a packed file

-- the first frames of a file up to a hash, and the bytes of their blocks
pub data Begins (format : Format) : Option ℕ → List ℕ → List ℕ → Type 0 where
  begun : Begins format (Some (first_hash format)) [] []
  further : {before : ℕ} {after : Option ℕ} {bytes frames : List ℕ} (block frame : List ℕ)
      → Begins format (Some before) bytes frames → IsFrame format before block frame after
      → Begins format after (bytes ++ block) (frames ++ frame)

-- with the frames to the last one they are all
whole : {format : Format} {to : Option ℕ} {bytes frames more rest : List ℕ}
    → Begins format to bytes frames → AreFrames format to more rest
    → AreFrames format (Some (first_hash format)) (bytes ++ more) (frames ++ rest)
whole begun f = f
whole (further {bytes = bytes} {frames = frames} block frame s n) f =
    rw (append_assoc bytes block, append_assoc frames frame) (whole s (next block frame n f))

-- with the last frame they make a file
last_one : {format : Format} {before : ℕ} {bytes frames : List ℕ} (block frame : List ℕ)
    → Begins format (Some before) bytes frames → IsFrame format before block frame None
    → (file : IsPacked (bytes ++ block) (signature format ++ (frames ++ frame)))
    × (file.format ≡ format)
last_one {format = format} {bytes = bytes} {frames = frames} block frame s n = (
  record {
    format = format;
    frames = frames ++ frame;
    framed = rw (append-nil (bytes ++ block), append-nil (frames ++ frame))
        at (whole (further {after = None} block frame s n) ended);
    laid_out = refl;
  },
  refl,
)

-- what is left of frames
left : {format : Format} {to : Option ℕ} {bytes frames : List ℕ} (all more : List ℕ)
    → Begins format to bytes frames
    → AreFrames format (Some (first_hash format)) all (frames ++ more)
    → (rest : List ℕ) × (bytes ++ rest ≡ all) × AreFrames format to rest more
left all more begun f = (all, refl, f)
left all more (further {bytes = bytes} {frames = frames} block frame s n) f =
    let before = left all (frame ++ more) s (rw (append_assoc frames frame more) at f) in
    let here = next_left block frame more before.2 n refl in (
      here.0,
      append_assoc bytes block here.0 ∙ ap (λ xs. bytes ++ xs) here.1 ∙ before.1,
      here.2,
    )

-- what was read from a to b and written from c to d of a file that is packed: blocks and their
-- frames, and what is read and not packed yet
pub record IsUnderWay (a c : Option (List ℕ)) (before : ℕ) (buffer : List ℕ)
    (b d : Option (List ℕ)) : Type 0 where
  pub bytes : List ℕ
  pub frames : List ℕ
  pub begins : Begins Cpk3 (Some before) bytes frames
  pub read : Consumes a b (bytes ++ buffer)
  pub written : Appends c d (signature Cpk3 ++ frames)
  pub count : ℕ
  pub long : count * 2 ^ 20 ≤ length bytes
  pub grown : length frames ≤ length bytes + 13 * count
  pub few : length buffer ≤ 1

-- the signature was written
pub under_way_begun : (a c d : Option (List ℕ)) (buffer : List ℕ) → Appends c d (signature Cpk3)
    → buffer ≡ [] → IsUnderWay a c (first_hash Cpk3) buffer a d
under_way_begun a c d buffer written none = record {
  bytes = [];
  frames = [];
  begins = begun;
  read = rw none (Consumes-nil a);
  written = written;
  count = 0;
  long = omega arith;
  grown = omega arith;
  few = rw none (omega arith);
}

-- what was read is packed, or in the buffer
moved : (a b b' : Option (List ℕ)) (bytes buffer read block buffer' : List ℕ)
    → Consumes a b (bytes ++ buffer) → Consumes b b' read → buffer ++ read ≡ block ++ buffer'
    → Consumes a b' ((bytes ++ block) ++ buffer')
moved a b b' bytes buffer read block buffer' p q e =
    let same : (bytes ++ buffer) ++ read ≡ (bytes ++ block) ++ buffer' =
    append_assoc bytes buffer read ∙ ap (λ xs. bytes ++ xs) e
    ∙ sym (append_assoc bytes block buffer') in
    subst (Consumes a b') same (Consumes-trans a b b' (bytes ++ buffer) read p q)

-- one frame more was written
appended : (c d d' : Option (List ℕ)) (frames frame : List ℕ)
    → Appends c d (signature Cpk3 ++ frames) → Appends d d' frame
    → Appends c d' (signature Cpk3 ++ (frames ++ frame))
appended c d d' frames frame written more =
    subst (Appends c d') (append_assoc (signature Cpk3) frames frame)
    (Appends-trans c d d' (signature Cpk3 ++ frames) frame written more)

-- one frame more
pub under_way_more : {a c b b' d d' : Option (List ℕ)} {before : ℕ} {buffer : List ℕ} (after : ℕ)
    (buffer' read block frame : List ℕ) → IsUnderWay a c before buffer b d → Consumes b b' read
    → buffer ++ read ≡ block ++ buffer' → IsFrame Cpk3 before block frame (Some after)
    → Appends d d' frame → length frame ≤ length block + 13 → 2 ^ 20 ≤ length block
    → length buffer' ≤ 1 → IsUnderWay a c after buffer' b' d'
under_way_more after buffer' read block frame p q e n w short long few = record {
  bytes = p.bytes ++ block;
  frames = p.frames ++ frame;
  begins = further block frame p.begins n;
  read = moved _ _ _ p.bytes _ read block buffer' p.read q e;
  written = appended _ _ _ p.frames frame p.written w;
  count = p.count + 1;
  long = omega (arith, p.long, length-append p.bytes block);
  grown = omega (arith, p.grown, length-append p.bytes block, length-append p.frames frame);
  few = few;
}

-- the last frame makes the file whole
pub under_way_done : {a c b d : Option (List ℕ)} {before : ℕ} {buffer : List ℕ}
    (b' d' : Option (List ℕ)) (buffer' read block frame : List ℕ)
    → IsUnderWay a c before buffer b d → Consumes b b' read → buffer ++ read ≡ block ++ buffer'
    → IsFrame Cpk3 before block frame None → Appends d d' frame
    → length frame ≤ length block + 13 → buffer' ≡ []
    → (bytes packed : List ℕ) × Consumes a b' bytes × Appends c d' packed
    × (file : IsPacked bytes packed) × (file.format ≡ Cpk3)
    × (length packed ≤ length bytes + 24 + 16 * (length bytes / 2 ^ 20))
under_way_done b' d' buffer' read block frame p q e n w short none =
    let bytes = p.bytes ++ block in
    let file = last_one block frame p.begins n in
    let long = length-append p.bytes block in
    let count : p.count ≤ length bytes / 2 ^ 20 =
    le-div p.count (length bytes) (2 ^ 20) (omega arith) (omega (arith, p.long, long)) in (
      bytes,
      signature Cpk3 ++ (p.frames ++ frame),
      subst (Consumes _ _) (ap (λ xs. bytes ++ xs) none ∙ append-nil bytes)
          (moved _ _ _ p.bytes _ read block buffer' p.read q e),
      appended _ _ _ p.frames frame p.written w,
      file.0,
      file.1,
      omega (arith, p.grown, short, count, long, length-append p.frames frame),
    )

-- what ends no frames does not make it whole
pub unended : {a c b d : Option (List ℕ)} {before : ℕ} {buffer : List ℕ} (d' : Option (List ℕ))
    (part : List ℕ) → IsUnderWay a c before buffer b d → Appends d d' part
    → ((bytes : List ℕ) → ¬ (AreFrames Cpk3 (Some before) bytes part))
    → (written : List ℕ) × Appends c d' written × ((bytes : List ℕ) → ¬ (IsPacked bytes written))
unended d' part p w none = (
  signature Cpk3 ++ (p.frames ++ part),
  appended _ _ _ p.frames part p.written w,
  λ bytes file.
      let same = signature_once file.format Cpk3 file.frames (p.frames ++ part)
      (sym file.laid_out) in
      let rest = left bytes part p.begins (rw (same.0, same.1) at file.framed) in
      none rest.0 rest.2,
)

-- what was read from a to b and written from c to d of a file that is unpacked: frames and their
-- blocks
pub record IsReadSoFar (format : Format) (a c : Option (List ℕ)) (limit before left : ℕ)
    (b d : Option (List ℕ)) : Type 0 where
  pub bytes : List ℕ
  pub frames : List ℕ
  pub begins : Begins format (Some before) bytes frames
  pub read : Consumes a b (signature format ++ frames)
  pub written : Appends c d bytes
  pub counted : length bytes + left ≡ limit

-- the signature was read
pub read_begun : (format : Format) (a c b : Option (List ℕ)) (limit : ℕ)
    → Consumes a b (signature format)
    → IsReadSoFar format a c limit (first_hash format) limit b c
read_begun format a c b limit read = record {
  bytes = [];
  frames = [];
  begins = begun;
  read = rw append-nil read;
  written = Appends-nil c;
  counted = omega arith;
}

-- one frame more was read
consumed : (format : Format) (a b b' : Option (List ℕ)) (frames frame : List ℕ)
    → Consumes a b (signature format ++ frames) → Consumes b b' frame
    → Consumes a b' (signature format ++ (frames ++ frame))
consumed format a b b' frames frame read more =
    subst (Consumes a b') (append_assoc (signature format) frames frame)
    (Consumes-trans a b b' (signature format ++ frames) frame read more)

-- one frame more
pub read_more : {format : Format} {a c b b' d d' : Option (List ℕ)} {limit before left : ℕ}
    (after rest : ℕ) (block frame : List ℕ) → IsReadSoFar format a c limit before left b d
    → IsFrame format before block frame (Some after) → Consumes b b' frame → Appends d d' block
    → length block + rest ≡ left → IsReadSoFar format a c limit after rest b' d'
read_more after rest block frame p n r w e = record {
  bytes = p.bytes ++ block;
  frames = p.frames ++ frame;
  begins = further block frame p.begins n;
  read = consumed _ _ _ _ p.frames frame p.read r;
  written = Appends-trans _ _ _ p.bytes block p.written w;
  counted = omega (arith, p.counted, e, length-append p.bytes block);
}

-- what is left of a known file, of which the end may be lost
pub resumed : {format : Format} {a c b d : Option (List ℕ)} {limit before left : ℕ}
    (bytes packed lost : List ℕ) → (p : IsReadSoFar format a c limit before left b d)
    → a ≡ Some packed → IsPacked bytes (packed ++ lost) → (rest more : List ℕ)
    × (p.bytes ++ rest ≡ bytes) × (b ≡ Some more)
    × AreFrames format (Some before) rest (more ++ lost)
resumed {format = format} bytes packed lost p known file =
    let start = signature format in
    let given = gave _ _ packed (start ++ p.frames) known p.read in
    let split : packed ++ lost ≡ start ++ (p.frames ++ (given.0 ++ lost)) =
    ap (λ xs. xs ++ lost) given.2 ∙ append_assoc (start ++ p.frames) given.0 lost
    ∙ append_assoc start p.frames (given.0 ++ lost) in
    let same = signature_once format file.format _ file.frames (sym split ∙ file.laid_out) in
    let here = left bytes (given.0 ++ lost) p.begins
    (rw (← same.0, ← same.1) at file.framed) in
    (here.0, given.0, here.1, given.1, here.2)

-- the last frame makes the file whole
pub read_done : {format : Format} {a c b d : Option (List ℕ)} {limit before left : ℕ}
    (b' d' : Option (List ℕ)) (block frame : List ℕ)
    → IsReadSoFar format a c limit before left b d → IsFrame format before block frame None
    → Consumes b b' frame → Appends d d' block
    → (bytes packed : List ℕ) × Consumes a b' packed × Appends c d' bytes × IsPacked bytes packed
read_done {format = format} b' d' block frame p n r w = (
  p.bytes ++ block,
  signature format ++ (p.frames ++ frame),
  consumed _ _ _ _ p.frames frame p.read r,
  Appends-trans _ _ _ p.bytes block p.written w,
  (last_one block frame p.begins n).0,
)

-- nothing was lost of a known file whose last frame was read
pub read_cut : {format : Format} {a c b d : Option (List ℕ)} {limit before left : ℕ}
    (b' : Option (List ℕ)) (block frame bytes packed lost : List ℕ)
    → IsReadSoFar format a c limit before left b d → IsFrame format before block frame None
    → Consumes b b' frame → IsAtEnd b' → a ≡ Some packed → IsPacked bytes (packed ++ lost)
    → lost ≡ []
read_cut b' block frame bytes packed lost p n r end known file =
    let rest = resumed bytes packed lost p known file in
    let given = gave _ b' rest.1 frame rest.3 r in
    let none : given.0 ≡ [] = rw given.1 at end in
    let here = next_left block frame (given.0 ++ lost) rest.4 n
    (ap (λ xs. xs ++ lost) given.2 ∙ append_assoc frame given.0 lost) in
    ap (λ xs. xs ++ lost) (sym none) ∙ at_end here.2

-- ---- what stands where frames are known

-- the content that was read is that of a block, and the format has it
pub content_stands : {format : Format} (before : ℕ) (bytes frames : List ℕ)
    (a b : Option (List ℕ)) (kind : Kind) (is_last : Bool) (content frame : List ℕ)
    → AreFrames format (Some before) bytes frames → a ≡ Some frames → Consumes a b frame
    → frame ≡ frame_of before (tag_of kind is_last) content
    → (block : List ℕ) × IsContent kind block content × IsAdmitted format kind block content
content_stands before bytes frames a b kind is_last content frame
    (next {frames = rest} block first n f) known h is =
    let given = gave a b (first ++ rest) frame known h in
    let same = contents_once before _ _ n.content content rest given.0
    (ap (λ xs. xs ++ rest) (sym n.laid_out) ∙ given.2 ∙ ap (λ xs. xs ++ given.0) is) in
    let tag = tag_once n.kind kind n.is_last is_last same.0 in
    (block, rw (tag.0, same.1) at n.of_kind, rw (tag.0, same.1) at n.admitted)

-- what is left where a frame was read
pub read_stands : {format : Format} (before : ℕ) (bytes frames block frame : List ℕ)
    (after : Option ℕ) (a b : Option (List ℕ)) → AreFrames format (Some before) bytes frames
    → a ≡ Some frames → IsFrame format before block frame after → Consumes a b frame
    → (rest more : List ℕ) × (block ++ rest ≡ bytes) × (b ≡ Some more)
    × AreFrames format after rest more
read_stands before bytes frames block frame after a b framed known n h =
    let given = gave a b frames frame known h in
    let here = next_left block frame given.0 framed n given.2 in
    (here.0, given.0, here.1, given.1, here.2)
