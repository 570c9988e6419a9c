use Rattle.std.proofs.Common.{◌≡◌, ℕ, ◌+◌, ◌*◌, ◌<◌, List, [], ◌∷◌, ◌++◌, ap, sym, ◌∙◌, arith, append-nil, append_assoc}
use Rattle.constriction_stored_weights.specs.Bits.{bits, bits_of_bytes}
use Rattle.constriction_stored_weights.proofs.BitsLemmas.{no_bits, bits-more, bits_of_bytes-push}
use Rattle.constriction_stored_weights.proofs.writing.push_bit.Goals as goal

full : (bytes longer : List ℕ) (filled byte bit : ℕ) → filled ≡ 7 → bit < 2 → longer ≡ bytes ++ (2 * byte + bit) ∷ []
    → bits_of_bytes longer ++ bits 0 0 ≡ bits_of_bytes bytes ++ bits filled byte ++ bit ∷ []
full bytes longer filled byte bit seven small e =
    let eight : 8 ≡ filled + 1 = omega arith in
    ap (λ xs. bits_of_bytes longer ++ xs) (no_bits 0) ∙ append-nil (bits_of_bytes longer) ∙ ap bits_of_bytes e
    ∙ bits_of_bytes-push bytes (2 * byte + bit)
    ∙ ap (λ xs. bits_of_bytes bytes ++ xs) (ap (λ k. bits k (2 * byte + bit)) eight ∙ bits-more filled byte bit small)
    ∙ sym (append_assoc (bits_of_bytes bytes) (bits filled byte) (bit ∷ []))

pub returns-in_ok-push-clause-ok : goal.returns-in_ok-push-clause-ok
returns-in_ok-push-clause-ok c =
    full c.args.bytes.now.items c.push.new.self.items c.args.place.now.filled c.args.place.now.byte c.args.bit c.if-place-eq7.true
    c.requires c.in_ok-push.ensures.items

pub returns-else-place-eq7-clause-ok : goal.returns-else-place-eq7-clause-ok
returns-else-place-eq7-clause-ok c =
    let bytes = c.args.bytes.now.items in
    let place = c.args.place.now in
    ap (λ xs. bits_of_bytes bytes ++ xs) (bits-more place.filled place.byte c.args.bit c.requires)
    ∙ sym (append_assoc (bits_of_bytes bytes) (bits place.filled place.byte) (c.args.bit ∷ []))
