use Rattle.std.proofs.Common.{ℕ, ◌<◌, ◌≤◌, arith, ◌-◌, ◌+◌, ◌/◌, ◌%◌, ◌^◌, ◌∷◌, [], ◌++◌, ◌≡◌, ◌≢◌, Err, List, Bool, None, Result, nat_eq, ap, refl, append_assoc, subst, sym, ◌∙◌}
use Rattle.std.specs.Bool.{beq}
use Rattle.std.proofs.Math.Nat.{div-lt_iff_lt-mul, le-div_iff_mul-le, pos_of_ne-zero}
use Rattle.std.proofs.lemmas.Nat.{pow_pos}
use Rattle.std.proofs.lemmas.List.Elements.{All-cons, All-nil}
use Rattle.constriction_words.specs.declared.CoderError.{CoderError}
use Rattle.constriction_words.specs.declared.CoderError.TheVariants.{Frontend, Backend}
use Rattle.constriction_model.specs.Rows.{Row, RowsTile}
use Rattle.constriction_coders.proofs.Outcomes.{no-error}
use Rattle.constriction_coders.specs.Places.{entry_at}
use Rattle.constriction_coders.specs.Spans.{Span, IsNarrowed}
use Rattle.constriction_adaptive.specs.Numbers.{bits_of}
use Rattle.constriction_adaptive.specs.Predicted.{predicted_entry, AllTile, AreCoded, IsEncodingFault}
use Rattle.constriction_adaptive.specs.declared.error.EncoderFrontendError.{EncoderFrontendError}
use Rattle.constriction_adaptive.specs.declared.error.EncoderFrontendError.TheVariants.{ImpossibleSymbol, OutOfMemory}
use Rattle.constriction_adaptive.proofs.Bits.{all-done, bits-from}
use Rattle.constriction_adaptive.proofs.Runs.{coded-push, stopped, tile-append}
use Rattle.constriction_adaptive.proofs.numbers.encode_number.Goals as goal

-- a bit that has an entry is not impossible
no-impossible : {State A E : Type 0} (rows : State → List (Row Bool)) (error : CoderError EncoderFrontendError E) (old new : State)
    (bit : Bool) (s : Span) → new ≡ old → predicted_entry rows beq new bit ≢ None
    → IsEncodingFault (entry_at (predicted_entry rows beq)) 16 error (old, bit) s
    → ◌≡◌ {A = Result A (CoderError EncoderFrontendError E)} (Err error) (Err (Frontend ImpossibleSymbol)) → ⊥
no-impossible rows (Frontend ImpossibleSymbol) old new bit s same some none is =
    some (ap (λ state. predicted_entry rows beq state bit) same ∙ none)
no-impossible rows (Frontend OutOfMemory) old new bit s same some fault is = cc
no-impossible rows (Backend error) old new bit s same some fault is = cc

-- a quotient is 0 if and only if the number is below the divisor
below : (n d : ℕ) → 0 < d → n / d ≡ 0 → n < d
below n d some none = omega (arith, (div-lt_iff_lt-mul {k = d} {x = n} {y = 1} some).0 (omega (arith, none)))

above : (n d : ℕ) → 0 < d → n / d ≢ 0 → d ≤ n
above n d some more = omega (arith, (le-div_iff_mul-le {k = d} {x = 1} {y = n} some).0 (pos_of_ne-zero more))

pub loop-done-preserved : goal.loop-done-preserved
loop-done-preserved g c =
    let rows = g.P.Predictor.rows in
    let next = g.P.Predictor.next in
    let first = g.P.Predictor.state c.args.predictor.now in
    let Step : g.P.Predictor.State × Bool → Span → Span → Type 0 = λ s. IsNarrowed (entry_at (predicted_entry rows beq) s) 16 in
    let n = c.to_coder_word-bits.result in
    let done = c.loop-done.done in
    let so = c.loop-done.invariant.so_far in
    let bit : Bool = nat_eq (n / 2 ^ (g.row.BITS - 1 - done) % 2) 1 in
    let split = bits-from g.row.BITS done n c.loop-done-test.true in
    let tile : AllTile rows next 16 (g.P.Predictor.state c.loop-done.predictor) (bit ∷ []) =
    All-cons (λ place. RowsTile 32 16 (rows place.0)) (g.P.Predictor.state c.loop-done.predictor, bit) [] c.in-Ok.ensures.tile
    (All-nil (λ place. RowsTile 32 16 (rows place.0))) in record {
      so_far = (
        so.0 ++ bit ∷ [],
        so.1 ∙ ap (λ bs. so.0 ++ bs) split ∙ sym (append_assoc so.0 (bit ∷ []) (bits_of (g.row.BITS - (done + 1)) n)),
        coded-push next Step so.0 bit _ _ _ _ _ _ so.2 c.in-Ok.ensures.ok c.in-Ok.ensures.learned,
        tile-append rows next 16 first so.0 (bit ∷ []) so.3
            (subst (λ (s : g.P.Predictor.State). AllTile rows next 16 s (bit ∷ [])) so.2.learned tile),
      );
    }

pub returns-then-bits-ne0 : goal.returns-then-bits-ne0
returns-then-bits-ne0 g c = record {
  ok = tt;
  tile = tt;
  fits = tt;
  large = λ is.
      omega (
        arith,
        above c.to_coder_word-bits.result (2 ^ g.row.BITS) (pow_pos g.row.BITS) c.if-bits-ne0.true,
        c.to_coder_word-bits.ensures,
      );
  same = λ is. refl;
  unlearned = λ is. refl;
  err = λ other. absurd (other refl);
}

pub returns-in-Err : goal.returns-in-Err
returns-in-Err g c =
    let n = c.to_coder_word-bits.result in
    let done = c.loop-done.done in
    let so = c.loop-done.invariant.so_far in
    let entry = entry_at (predicted_entry g.P.Predictor.rows beq) in
    let bit : Bool = nat_eq (n / 2 ^ (g.row.BITS - 1 - done) % 2) 1 in
    let split = bits-from g.row.BITS done n c.loop-done-test.true in
    let possible = no-impossible g.P.Predictor.rows c.in-Err.error _ _ bit _ c.in-Err.ensures.unlearned
    (c.bits_have_entries.ensures bit) c.in-Err.ensures.fault in
    record {
      ok = tt;
      tile = tt;
      fits = tt;
      large = λ is. absurd (possible is);
      same = λ is. absurd (possible is);
      unlearned = λ is. absurd (possible is);
      err = λ other.
          stopped g.P.Predictor.next (λ s. IsNarrowed (entry s) 16) so.0 bit
          (bits_of (g.row.BITS - (done + 1)) n) _ _ _ _ _ _ _
          (ap (λ k. bits_of g.row.BITS k) (sym c.to_coder_word-bits.ensures) ∙ so.1 ∙ ap (λ bs. so.0 ++ bs) split) so.2
          c.in-Err.ensures.fault c.in-Err.ensures.unlearned c.in-Err.ensures.same;
    }

pub returns : goal.returns
returns g c =
    let so = c.loop-done.invariant.so_far in
    let all = sym (ap (λ k. bits_of g.row.BITS k) (sym c.to_coder_word-bits.ensures)
    ∙ all-done c.to_coder_word-bits.result g.row.BITS c.loop-done.done so.0 so.1 c.loop-done-test.false) in
    record {
      ok =
          subst (λ (bits : List Bool). AreCoded g.P.Predictor.next
          (λ s. IsNarrowed (entry_at (predicted_entry g.P.Predictor.rows beq) s) 16) bits (g.P.Predictor.state c.args.predictor.now)
          c.args.encoder.now (g.P.Predictor.state c.loop-done.predictor) c.loop-done.encoder) all so.2;
      tile =
          subst (λ (bits : List Bool). AllTile g.P.Predictor.rows g.P.Predictor.next 16 (g.P.Predictor.state c.args.predictor.now) bits)
          all so.3;
      fits = omega (
        arith,
        below c.to_coder_word-bits.result (2 ^ g.row.BITS) (pow_pos g.row.BITS) c.if-bits-ne0.false,
        c.to_coder_word-bits.ensures,
      );
      large = λ is. absurd (no-error _ _ is);
      same = λ is. absurd (no-error _ _ is);
      unlearned = λ is. absurd (no-error _ _ is);
      err = tt;
    }
