use Rattle.std.proofs.Common.{◌≡◌, ℕ, ◌+◌, ◌-◌, ◌*◌, ◌^◌, ◌<◌, ◌≤◌, List, [], ◌∷◌, ◌++◌, replicate, ap, sym, ◌∙◌, arith, append-nil, append_assoc}
use Rattle.std.proofs.lemmas.Nat.{shl_whole}
use Rattle.constriction_stored_weights.specs.Bits.{bits, bits_of_bytes}
use Rattle.constriction_stored_weights.proofs.BitsLemmas.{no_bits, bits-shifted, bits_of_bytes-push}
use Rattle.constriction_stored_weights.proofs.writing.fill_byte.Goals as goal

filled_up : (bytes longer : List ℕ) (filled byte last : ℕ) → filled < 8 → longer ≡ bytes ++ last ∷ [] → last ≡ byte * 2 ^ (8 - filled)
    → bits_of_bytes longer ≡ bits_of_bytes bytes ++ bits filled byte ++ replicate (8 - filled) 0
filled_up bytes longer filled byte last fits e is =
    let eight : 8 ≡ filled + (8 - filled) = omega arith in
    ap bits_of_bytes e ∙ bits_of_bytes-push bytes last ∙ ap (λ k. bits_of_bytes bytes ++ bits 8 k) is
    ∙ ap (λ xs. bits_of_bytes bytes ++ xs)
    (ap (λ k. bits k (byte * 2 ^ (8 - filled))) eight ∙ bits-shifted filled byte (8 - filled))
    ∙ sym (append_assoc (bits_of_bytes bytes) (bits filled byte) (replicate (8 - filled) 0))

pub returns-in_ok-push-clause-ok : goal.returns-in_ok-push-clause-ok
returns-in_ok-push-clause-ok c =
    let place = c.args.place in
    let all : place.filled + (8 - place.filled) ≤ 8 = omega arith in (
      8 - place.filled,
      omega arith,
      filled_up c.args.bytes.now.items c.push.new.self.items place.filled place.byte _ place.within c.in_ok-push.ensures.items
          (shl_whole place.byte place.filled (8 - place.filled) 8 place.small all),
    )

pub returns-else-place-gt0-clause-ok : goal.returns-else-place-gt0-clause-ok
returns-else-place-gt0-clause-ok c =
    let bytes = c.args.bytes.now.items in
    let place = c.args.place in
    let none : place.filled ≡ 0 = omega arith in (
      0,
      omega arith,
      sym (append-nil (bits_of_bytes bytes ++ bits place.filled place.byte)
          ∙ ap (λ k. bits_of_bytes bytes ++ bits k place.byte) none ∙ ap (λ xs. bits_of_bytes bytes ++ xs) (no_bits place.byte)
          ∙ append-nil (bits_of_bytes bytes)),
    )
