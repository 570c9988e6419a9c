use Rattle.std.proofs.Common.{◌≡◌, ℕ, ◌+◌, ◌<◌, ◌≤◌, List, [], ◌∷◌, ◌++◌, length, drop, get_or, replicate, refl, ap, sym, ◌∙◌, arith, append-nil, append_assoc, add-one}
use Rattle.std.proofs.lemmas.List.{drop_more, drop_all, append_cancel_left}
use Rattle.std.proofs.lemmas.Result.{on_ok_weaker}
use Rattle.constriction_stored_weights.specs.Bits.{bits, bits_of_bytes}
use Rattle.constriction_stored_weights.specs.Tables.{entry_bits, number_bits, run_bits, weight_bits, IsTableText}
use Rattle.constriction_stored_weights.specs.private.Places.{Extends, held}
use Rattle.constriction_stored_weights.proofs.BitsLemmas.{no_bits, bits_of_bytes-append, added_twice, extends_more}
use Rattle.constriction_stored_weights.proofs.EntriesLemmas.{weight_bits-some}
use Rattle.constriction_stored_weights.proofs.entries.push_weights.Goals as goal
use Rattle.constriction_stored_weights.proofs.entries.push_weights.Goals.{then-weight-eq0, else-weight-eq0+in_ok-push_run+in_ok-push_number}

pub loop-weight-init : goal.loop-weight-init
loop-weight-init c =
    let bytes = c.args.bytes.now.items in
    record {
      few = omega arith;
      extends = ([], sym (append-nil bytes));
      so_far = ([], ap (λ xs. bits_of_bytes bytes ++ xs) (no_bits 0), refl);
    }

one_more_zero : (weights written : List ℕ) (i zeros : ℕ) → i < length weights → get_or weights i 0 ≡ 0
    → weight_bits 0 weights ≡ written ++ weight_bits zeros (drop i weights)
    → weight_bits 0 weights ≡ written ++ weight_bits (zeros + 1) (drop (i + 1) weights)
one_more_zero weights written i zeros h none e =
    e ∙ ap (λ xs. written ++ weight_bits zeros xs) (drop_more weights i 0 h)
    ∙ ap (λ k. written ++ weight_bits zeros (k ∷ drop (i + 1) weights)) none
    ∙ ap (λ k. written ++ weight_bits k (drop (i + 1) weights)) (sym (add-one zeros))

one_more_entry : (weights written : List ℕ) (i zeros : ℕ) → i < length weights → 0 < get_or weights i 0
    → weight_bits 0 weights ≡ written ++ weight_bits zeros (drop i weights)
    → weight_bits 0 weights ≡ (written ++ entry_bits zeros (get_or weights i 0)) ++ weight_bits 0 (drop (i + 1) weights)
one_more_entry weights written i zeros h some e =
    let weight = get_or weights i 0 in
    e ∙ ap (λ xs. written ++ weight_bits zeros xs) (drop_more weights i 0 h)
    ∙ ap (λ xs. written ++ xs) (weight_bits-some zeros weight (drop (i + 1) weights) some)
    ∙ sym (append_assoc written (entry_bits zeros weight) (weight_bits 0 (drop (i + 1) weights)))

pub loop-weight-preserved : goal.loop-weight-preserved
loop-weight-preserved c =
    let weights = c.args.weights.now in
    let i = c.loop-weight.weight-index in
    let here = c.loop-weight.invariant in
    let zeros = c.loop-weight.zeros in
    let old = bits_of_bytes c.args.bytes.now.items in
    let written = here.so_far.0 in
    elim c.if-weight-eq0.branch [
      | then-weight-eq0 w ↦
          rw (w.bytes-is, w.place-is, w.zeros-is) (record {
            few = omega arith;
            extends = here.extends;
            so_far = (
              written,
              here.so_far.1,
              one_more_zero weights written i zeros c.loop-weight-test.true w.if-weight-eq0.true here.so_far.2,
            );
          })
      | else-weight-eq0+in_ok-push_run+in_ok-push_number w ↦
          let weight = get_or weights i 0 in
          let some : 0 < weight = omega (arith, w.if-weight-eq0.false) in
          let mid = held w.push_run.new.bytes.items w.push_run.new.place in
          rw (w.bytes-is, w.place-is, w.zeros-is) (record {
            few = omega arith;
            extends =
                extends_more _ _ _ here.extends (extends_more _ _ _ w.push_run.ensures.extends w.push_number.ensures.extends);
            so_far = (
              written ++ entry_bits zeros weight,
              added_twice old (held c.loop-weight.bytes.items c.loop-weight.place) _ written (entry_bits zeros weight) _ here.so_far.1
                  (added_twice (held c.loop-weight.bytes.items c.loop-weight.place) mid _ (run_bits zeros) (number_bits weight) _
                  w.in_ok-push_run.ensures.ok w.in_ok-push_number.ensures.ok refl)
                  refl,
              one_more_entry weights written i zeros c.loop-weight-test.true some here.so_far.2,
            );
          })
    ]

finished : (old new bits written weights : List ℕ) (i zeros : ℕ) → Extends old new → bits ≡ bits_of_bytes old ++ written
    → weight_bits 0 weights ≡ written ++ weight_bits zeros (drop i weights) → length weights ≤ i
    → (padding : ℕ) × (padding < 8) × (bits_of_bytes new ≡ bits ++ replicate padding 0)
    → (text : List ℕ) × (new ≡ old ++ text) × IsTableText weights text
finished old new bits written weights i zeros extends e all ended filled =
    let text = extends.0 in
    let zeros_left = replicate filled.0 0 in
    let whole : written ≡ weight_bits 0 weights =
    sym (all ∙ ap (λ xs. written ++ weight_bits zeros xs) (drop_all i weights ended) ∙ append-nil written) in (
      text,
      extends.1,
      record {
        padding = filled.0;
        fills = filled.1;
        bits_are =
            append_cancel_left (bits_of_bytes old) (bits_of_bytes text) (weight_bits 0 weights ++ zeros_left)
            (sym (bits_of_bytes-append old text) ∙ sym (ap bits_of_bytes extends.1) ∙ filled.2 ∙ ap (λ xs. xs ++ zeros_left) e
            ∙ append_assoc (bits_of_bytes old) written zeros_left ∙ ap (λ xs. bits_of_bytes old ++ (xs ++ zeros_left)) whole);
      },
    )

pub returns-clause-ok : goal.returns-clause-ok
returns-clause-ok c =
    let here = c.loop-weight.invariant in
    on_ok_weaker c.fill_byte.result
    (finished c.args.bytes.now.items c.fill_byte.new.bytes.items (held c.loop-weight.bytes.items c.loop-weight.place) here.so_far.0
    c.args.weights.now c.loop-weight.weight-index c.loop-weight.zeros (extends_more _ _ _ here.extends c.fill_byte.ensures.extends)
    here.so_far.1 here.so_far.2 c.loop-weight-test.false)
    c.fill_byte.ensures.ok
