-- Entries: what begins with one, and the weights that they make.
use Rattle.std.proofs.Common.{◌≡◌, inl, inr, ℕ, zero, suc, ◌+◌, ◌-◌, ◌^◌, ◌<◌, ◌≤◌, List, [], ◌∷◌, ◌++◌, length, replicate, sum, refl, sym, ap, ◌∙◌, subst, arith, append-nil, append_assoc, length-append, add-zero, zero-add}
use Rattle.std.proofs.Math.Nat.{pow-le-pow_right}
use Rattle.std.proofs.lemmas.Bool.{cases_lt}
use Rattle.std.proofs.lemmas.List.{length-replicate, nil_from_length}
use Rattle.std.proofs.lemmas.List.Sums.{sum_by-append, sum_by-cons}
use Rattle.std.proofs.lemmas.List.Folds.{sum_by-replicate}
use Rattle.constriction_stored_weights.specs.Tables.{number_bits, run_bits, entry_bits, weight_bits}
use Rattle.constriction_stored_weights.specs.private.Entries.{BeginsWithEntry, BeginsWithWeights, EndsInNumber, EndsInEntry, EndsInTableBits}
use Rattle.constriction_stored_weights.proofs.NumbersLemmas.{same_number}

-- ---- runs

-- no zeros have no bits
pub no_run : (run : ℕ) → run ≤ 0 → run_bits run ≡ []
unfolding run_bits
no_run zero h = refl
no_run (suc more) h = absurd (omega arith)

-- some zeros are told by 0 and their number
pub a_run : (run : ℕ) → 0 < run → run_bits run ≡ number_bits 0 ++ number_bits run
unfolding run_bits
a_run zero h = absurd (omega arith)
a_run (suc more) h = refl

-- ---- entries

-- an entry after no zeros is its weight
pub entry_with_no_run : (run weight : ℕ) (rest : List ℕ) → run ≤ 0 → entry_bits run weight ++ rest ≡ number_bits weight ++ rest
entry_with_no_run run weight rest h = ap (λ xs. (xs ++ number_bits weight) ++ rest) (no_run run h)

-- an entry after zeros is three numbers
pub entry_with_run : (run weight : ℕ) (rest : List ℕ) → 0 < run
    → entry_bits run weight ++ rest ≡ number_bits 0 ++ (number_bits run ++ (number_bits weight ++ rest))
entry_with_run run weight rest h =
    ap (λ xs. (xs ++ number_bits weight) ++ rest) (a_run run h) ∙ append_assoc (number_bits 0 ++ number_bits run) (number_bits weight) rest
    ∙ append_assoc (number_bits 0) (number_bits run) (number_bits weight ++ rest)

-- an entry begins with a number
pub begins_with_number : (whole : List ℕ) (entry : BeginsWithEntry whole)
    → (number : ℕ) × (number < 2 ^ 15) × ((rest : List ℕ) × (whole ≡ number_bits number ++ rest))
begins_with_number whole entry =
    elim (cases_lt 0 entry.run) [
      | inl some ↦ (0, omega arith, (_, entry.bits_are ∙ entry_with_run entry.run entry.weight entry.rest some))
      | inr none ↦ (entry.weight, entry.weight_fits, (_, entry.bits_are ∙ entry_with_no_run entry.run entry.weight entry.rest none))
    ]

-- after the number 0 are the run and the weight
pub run_after : (whole tail : List ℕ) (first : ℕ) → whole ≡ number_bits first ++ tail → first ≤ 0 → (entry : BeginsWithEntry whole)
    → (tail ≡ number_bits entry.run ++ (number_bits entry.weight ++ entry.rest)) × (0 < entry.run)
run_after whole tail first e h entry =
    let none_fits : first < 2 ^ 15 = omega arith in
    elim (cases_lt 0 entry.run) [
      | inl some ↦
          let zero_fits : 0 < 2 ^ 15 = omega arith in
          let same = same_number first 0 tail _ none_fits zero_fits
          (sym e ∙ entry.bits_are ∙ entry_with_run entry.run entry.weight entry.rest some) in
          (same.1, some)
      | inr none ↦
          let same = same_number first entry.weight tail entry.rest none_fits entry.weight_fits
          (sym e ∙ entry.bits_are ∙ entry_with_no_run entry.run entry.weight entry.rest none) in
          let some = entry.some in
          absurd (omega (arith, same.0))
    ]

-- a number above 0 is the weight
pub weight_first : (whole tail : List ℕ) (first : ℕ) → first < 2 ^ 15 → whole ≡ number_bits first ++ tail → 0 < first
    → (entry : BeginsWithEntry whole)
    → (entry.run ≡ 0) × (first ≡ entry.weight) × (tail ≡ entry.rest)
weight_first whole tail first fits e h entry =
    elim (cases_lt 0 entry.run) [
      | inl some ↦
          let same = same_number first 0 tail _ fits (omega arith)
          (sym e ∙ entry.bits_are ∙ entry_with_run entry.run entry.weight entry.rest some) in
          absurd (omega (arith, same.0))
      | inr none ↦
          let same = same_number first entry.weight tail entry.rest fits entry.weight_fits
          (sym e ∙ entry.bits_are ∙ entry_with_no_run entry.run entry.weight entry.rest none) in
          (omega arith, same.0, same.1)
    ]

-- bits begin with one entry
pub same_entry : (whole rest : List ℕ) (run weight : ℕ) → run < 2 ^ 15 → 0 < weight → weight < 2 ^ 15
    → whole ≡ entry_bits run weight ++ rest → (entry : BeginsWithEntry whole)
    → (run ≡ entry.run) × (weight ≡ entry.weight) × (rest ≡ entry.rest)
same_entry whole rest run weight run_fits some weight_fits e entry =
    elim (cases_lt 0 run) [
      | inl above ↦
          let after = run_after whole (number_bits run ++ (number_bits weight ++ rest)) 0 (e ∙ entry_with_run run weight rest above)
          (omega arith) entry in
          let runs = same_number run entry.run (number_bits weight ++ rest) _ run_fits entry.run_fits after.0 in
          let weights = same_number weight entry.weight rest entry.rest weight_fits entry.weight_fits runs.1 in
          (runs.0, weights.0, weights.1)
      | inr none ↦
          let first = weight_first whole rest weight weight_fits (e ∙ entry_with_no_run run weight rest none) some entry in
          (omega (arith, first.0), first.1, first.2)
    ]

-- an entry goes on from bits that end within its first number, its run or its weight
pub ends_in_first : (given : List ℕ) → EndsInNumber given → EndsInEntry given
ends_in_first given cut = record {
  run = 0;
  weight = cut.number;
  more = cut.more;
  some = cut.some;
  goes_on = cut.goes_on;
  bits_are = cut.bits_are ∙ sym (ap (λ xs. xs ++ number_bits cut.number) (no_run 0 (omega arith)));
}

-- bits that end in the number of zeros end in an entry
pub ends_in_run : (given rest : List ℕ) (first : ℕ) → given ≡ number_bits first ++ rest → first ≤ 0 → EndsInNumber rest → EndsInEntry given
ends_in_run given rest first e h cut =
    let none : first ≡ 0 = omega arith in
    record {
      run = cut.number;
      weight = 1;
      more = cut.more ++ number_bits 1;
      some = omega arith;
      goes_on = let goes_on = cut.goes_on in omega (arith, length-append cut.more (number_bits 1));
      bits_are =
          ap (λ xs. xs ++ (cut.more ++ number_bits 1)) (e ∙ ap (λ k. number_bits k ++ rest) none)
          ∙ append_assoc (number_bits 0) rest (cut.more ++ number_bits 1)
          ∙ ap (λ xs. number_bits 0 ++ xs) (sym (append_assoc rest cut.more (number_bits 1)) ∙ ap (λ xs. xs ++ number_bits 1) cut.bits_are)
          ∙ sym (append_assoc (number_bits 0) (number_bits cut.number) (number_bits 1))
          ∙ ap (λ xs. xs ++ number_bits 1) (sym (a_run cut.number cut.some));
    }

-- bits that end in the weight after zeros end in an entry
pub ends_in_weight : (given rest last : List ℕ) (first run : ℕ) → given ≡ number_bits first ++ rest → first ≤ 0
    → rest ≡ number_bits run ++ last → 0 < run
    → EndsInNumber last → EndsInEntry given
ends_in_weight given rest last first run e h f some cut =
    let none : first ≡ 0 = omega arith in
    let front = number_bits 0 ++ number_bits run in
    let given_is : given ≡ front ++ last =
    e ∙ ap (λ k. number_bits k ++ rest) none ∙ ap (λ xs. number_bits 0 ++ xs) f
    ∙ sym (append_assoc (number_bits 0) (number_bits run) last) in
    record {
      run = run;
      weight = cut.number;
      more = cut.more;
      some = cut.some;
      goes_on = cut.goes_on;
      bits_are =
          ap (λ xs. xs ++ cut.more) given_is ∙ append_assoc front last cut.more ∙ ap (λ xs. front ++ xs) cut.bits_are
          ∙ ap (λ xs. xs ++ number_bits cut.number) (sym (a_run run some));
    }

-- what comes after the rest comes after all
pub extended : (up xs rest more : List ℕ) → up ≡ xs ++ rest → up ++ more ≡ xs ++ (rest ++ more)
extended up xs rest more e = ap (λ s. s ++ more) e ∙ append_assoc xs rest more

-- ---- the bits of weights

pub weight_bits-replicate : (before count : ℕ) (weights : List ℕ)
    → weight_bits before (replicate count 0 ++ weights) ≡ weight_bits (before + count) weights
weight_bits-replicate before zero weights = ap (λ k. weight_bits k weights) (sym (add-zero before))
weight_bits-replicate before (suc count) weights =
    let moved : suc before + count ≡ before + suc count = omega arith in
    weight_bits-replicate (suc before) count weights ∙ ap (λ k. weight_bits k weights) moved

pub weight_bits-zeros : (before count : ℕ) → weight_bits before (replicate count 0) ≡ []
weight_bits-zeros before zero = refl
weight_bits-zeros before (suc count) = weight_bits-zeros (suc before) count

-- a weight above 0 ends an entry
pub weight_bits-some : (run weight : ℕ) (rest : List ℕ) → 0 < weight
    → weight_bits run (weight ∷ rest) ≡ entry_bits run weight ++ weight_bits 0 rest
weight_bits-some run zero rest h = absurd (omega arith)
weight_bits-some run (suc less) rest h = refl

pub weight_bits-entry : (run weight : ℕ) (rest : List ℕ) → 0 < weight
    → weight_bits 0 (replicate run 0 ++ weight ∷ rest) ≡ entry_bits run weight ++ weight_bits 0 rest
weight_bits-entry run weight rest h =
    weight_bits-replicate 0 run (weight ∷ rest) ∙ ap (λ k. weight_bits k (weight ∷ rest)) (zero-add run)
    ∙ weight_bits-some run weight rest h

-- the first weight above 0
pub record FirstWeight (weights : List ℕ) : Type 0 where
  pub run : ℕ
  pub weight : ℕ
  pub rest : List ℕ
  pub some : 0 < weight
  pub weights_are : weights ≡ replicate run 0 ++ weight ∷ rest

pub first_weight : (weights : List ℕ) → 0 < sum weights → FirstWeight weights
first_weight [] h = absurd (omega arith)
first_weight (zero ∷ weights) h =
    let first = first_weight weights (omega (arith, sum_by-cons (λ x. x) 0 weights)) in
    record {
      run = suc first.run;
      weight = first.weight;
      rest = first.rest;
      some = first.some;
      weights_are = ap (λ xs. 0 ∷ xs) first.weights_are;
    }
first_weight (suc less ∷ weights) h = record { run = 0; weight = suc less; rest = weights; some = omega arith; weights_are = refl }

pub all_zeros : (weights : List ℕ) → sum weights ≡ 0 → weights ≡ replicate (length weights) 0
all_zeros [] h = refl
all_zeros (zero ∷ weights) h = ap (λ xs. 0 ∷ xs) (all_zeros weights (sym (sum_by-cons (λ x. x) 0 weights ∙ zero-add (sum weights)) ∙ h))
all_zeros (suc less ∷ weights) h = absurd (omega (arith, sum_by-cons (λ x. x) (suc less) weights))

pub sum-run : (run weight : ℕ) (rest : List ℕ) → sum (replicate run 0 ++ weight ∷ rest) ≡ weight + sum rest
sum-run run weight rest =
    omega (
      arith,
      sum_by-append (λ x. x) (replicate run 0) (weight ∷ rest),
      sum_by-replicate (λ (x : ℕ). x) run 0,
      sum_by-cons (λ x. x) weight rest,
    )

-- ---- a table of which some weights were read

-- Weights were read from all bits, whose rest is coming, over all quantiles but some. Any table that all bits or more begin with goes on
-- from them.
pub record Reached (precision count : ℕ) (all done coming : List ℕ) (left : ℕ) : Type 0 where
  pub taken : List ℕ
  pub parts : all ≡ taken ++ coming
  pub written : (rest : List ℕ) → weight_bits 0 (done ++ rest) ≡ taken ++ weight_bits 0 rest
  pub total : sum done + left ≡ 2 ^ precision
  pub fits : length done ≤ count
  pub only : (more : List ℕ) (table : BeginsWithWeights precision count (all ++ more))
      → (rest : List ℕ) × (table.weights ≡ done ++ rest) × (coming ++ more ≡ weight_bits 0 rest ++ table.rest)

-- before the first entry no weights were read
pub reached_none : (precision count : ℕ) (all : List ℕ) (left : ℕ) → left ≡ 2 ^ precision → Reached precision count all [] all left
reached_none precision count all left e = record {
  taken = [];
  parts = refl;
  written = λ rest. refl;
  total = zero-add left ∙ e;
  fits = omega arith;
  only = λ more table. (table.weights, refl, table.bits_are);
}

-- the entry that a table goes on with
pub record GoesOn (precision count : ℕ) (all done coming more : List ℕ) (left : ℕ)
    (table : BeginsWithWeights precision count (all ++ more)) : Type 0 where
  pub entry : BeginsWithEntry (coming ++ more)
  pub weights : List ℕ
  pub table_is : table.weights ≡ done ++ (replicate entry.run 0 ++ entry.weight ∷ weights)
  pub rest_is : entry.rest ≡ weight_bits 0 weights ++ table.rest
  pub room : length done + entry.run < count
  pub within : entry.weight ≤ left

-- if quantiles are left, a table goes on by an entry
pub goes_on : (precision count : ℕ) (all done coming : List ℕ) (left : ℕ) → precision ≤ 14 → Reached precision count all done coming left
    → 0 < left
    → (more : List ℕ) (table : BeginsWithWeights precision count (all ++ more)) → GoesOn precision count all done coming more left table
goes_on precision count all done coming left small reached some more table =
    let on = reached.only more table in
    let few = table.is_table.few in
    let counted = table.counted in
    let total = table.is_table.total in
    let most = pow-le-pow_right {n = 2} (omega arith) small in
    let sums : sum table.weights ≡ sum done + sum on.0 = ap sum on.1 ∙ sum_by-append (λ x. x) done on.0 in
    let rest_sum : sum on.0 ≡ left = omega (arith, reached.total) in
    let first = first_weight on.0 (omega arith) in
    let rest_is : sum on.0 ≡ first.weight + sum first.rest = ap sum first.weights_are ∙ sum-run first.run first.weight first.rest in
    let whole : table.weights ≡ done ++ (replicate first.run 0 ++ first.weight ∷ first.rest) =
    on.1 ∙ ap (λ xs. done ++ xs) first.weights_are in
    let lengths : length table.weights ≡ length done + (first.run + suc (length first.rest)) =
    omega (
      arith,
      ap length whole,
      length-append done (replicate first.run 0 ++ first.weight ∷ first.rest),
      length-append (replicate first.run 0) (first.weight ∷ first.rest),
      length-replicate {A = ℕ} first.run 0,
    ) in
    record {
      entry = record {
        run = first.run;
        weight = first.weight;
        rest = weight_bits 0 first.rest ++ table.rest;
        run_fits = omega arith;
        some = first.some;
        weight_fits = omega (arith, reached.total);
        bits_are =
            on.2 ∙ ap (λ xs. weight_bits 0 xs ++ table.rest) first.weights_are
            ∙ ap (λ xs. xs ++ table.rest) (weight_bits-entry first.run first.weight first.rest first.some)
            ∙ append_assoc (entry_bits first.run first.weight) (weight_bits 0 first.rest) table.rest;
      };
      weights = first.rest;
      table_is = whole;
      rest_is = refl;
      room = omega arith;
      within = omega arith;
    }

-- one entry more was read
pub reached_more : (precision count : ℕ) (all done coming : List ℕ) (left : ℕ) → precision ≤ 14
    → Reached precision count all done coming left → 0 < left
    → (run weight : ℕ) (next : List ℕ) → run < 2 ^ 15 → 0 < weight → weight < 2 ^ 15 → coming ≡ entry_bits run weight ++ next
    → length done + run < count → weight ≤ left → Reached precision count all (done ++ replicate run 0 ++ weight ∷ []) next (left - weight)
reached_more precision count all done coming left small reached some run weight next run_fits above weight_fits e room within =
    let done2 = done ++ replicate run 0 ++ weight ∷ [] in
    let grouped : (rest : List ℕ) → done2 ++ rest ≡ done ++ (replicate run 0 ++ weight ∷ rest) =
    λ rest. append_assoc (done ++ replicate run 0) (weight ∷ []) rest ∙ append_assoc done (replicate run 0) (weight ∷ rest) in
    record {
      taken = reached.taken ++ entry_bits run weight;
      parts = reached.parts ∙ ap (λ xs. reached.taken ++ xs) e ∙ sym (append_assoc reached.taken (entry_bits run weight) next);
      written = λ rest.
          ap (weight_bits 0) (grouped rest) ∙ reached.written (replicate run 0 ++ weight ∷ rest)
          ∙ ap (λ xs. reached.taken ++ xs) (weight_bits-entry run weight rest above)
          ∙ sym (append_assoc reached.taken (entry_bits run weight) (weight_bits 0 rest));
      total =
          omega (
            arith,
            reached.total,
            ap sum (append_assoc done (replicate run 0) (weight ∷ [])),
            sum_by-append (λ x. x) done (replicate run 0 ++ weight ∷ []),
            sum-run run weight [],
          );
      fits =
          omega (
            arith,
            length-append (done ++ replicate run 0) (weight ∷ []),
            length-append done (replicate run 0),
            length-replicate {A = ℕ} run 0,
          );
      only = λ more table.
          let on = goes_on precision count all done coming left small reached some more table in
          let same = same_entry (coming ++ more) (next ++ more) run weight run_fits above weight_fits
          (extended coming (entry_bits run weight) next more e) on.entry in (
            on.weights,
            on.table_is ∙ ap (λ k. done ++ (replicate k 0 ++ on.entry.weight ∷ on.weights)) (sym same.0)
                ∙ ap (λ k. done ++ (replicate run 0 ++ k ∷ on.weights)) (sym same.1) ∙ sym (grouped on.weights),
            same.2 ∙ on.rest_is,
          );
    }

-- a table goes on from bits that end within its next entry
pub ends_in_weights : (precision count : ℕ) (all done coming : List ℕ) (left : ℕ) → Reached precision count all done coming left → 0 < left
    → (length done ≡ count → ⊥) → EndsInEntry coming → EndsInTableBits precision count all
ends_in_weights precision count all done coming left reached some room cut =
    let fits = reached.fits in
    let total = reached.total in
    let entry = entry_bits cut.run cut.weight in
    record {
      weights = done;
      run = cut.run;
      weight = cut.weight;
      more = cut.more;
      below = omega arith;
      room = omega (arith, room);
      some = cut.some;
      goes_on = cut.goes_on;
      bits_are =
          ap (λ xs. xs ++ cut.more) reached.parts ∙ append_assoc reached.taken coming cut.more
          ∙ ap (λ xs. reached.taken ++ xs) (cut.bits_are ∙ sym (append-nil entry) ∙ sym (weight_bits-entry cut.run cut.weight [] cut.some))
          ∙ sym (reached.written (replicate cut.run 0 ++ cut.weight ∷ []));
    }

-- what is known once weights over all quantiles were read, and zeros were added for the others
pub record WholeTable (precision count : ℕ) (all coming weights : List ℕ) : Type 0 where
  pub total : sum weights ≡ 2 ^ precision
  pub counted : length weights ≡ count
  pub parts : all ≡ weight_bits 0 weights ++ coming
  pub only : (more : List ℕ) (table : BeginsWithWeights precision count (all ++ more)) → table.weights ≡ weights

-- if no quantile is left, the weights and zeros after them are the table's
pub whole_table : (precision count : ℕ) (all done coming : List ℕ) (left : ℕ) → Reached precision count all done coming left → left ≤ 0
    → WholeTable precision count all coming (done ++ replicate (count - length done) 0)
whole_table precision count all done coming left reached ended =
    let others = count - length done in
    let fits = reached.fits in
    record {
      total =
          omega (arith, reached.total, sum_by-append (λ x. x) done (replicate others 0), sum_by-replicate (λ (x : ℕ). x) others 0);
      counted = omega (arith, length-append done (replicate others 0), length-replicate {A = ℕ} others 0);
      parts =
          reached.parts
          ∙ ap (λ xs. xs ++ coming)
          (sym (reached.written (replicate others 0) ∙ ap (λ xs. reached.taken ++ xs) (weight_bits-zeros 0 others)
          ∙ append-nil reached.taken));
      only = λ more table.
          let on = reached.only more table in
          let counted = table.counted in
          let total = table.is_table.total in
          let sums : sum table.weights ≡ sum done + sum on.0 = ap sum on.1 ∙ sum_by-append (λ x. x) done on.0 in
          let none : sum on.0 ≡ 0 = omega (arith, reached.total) in
          let many : length on.0 ≡ others = omega (arith, ap length on.1, length-append done on.0) in
          on.1 ∙ ap (λ xs. done ++ xs) (all_zeros on.0 none ∙ ap (λ k. replicate k 0) many);
    }

-- bits of a table with nothing after them
pub alone : (precision count : ℕ) (bits : List ℕ) → BeginsWithWeights precision count bits → BeginsWithWeights precision count (bits ++ [])
alone precision count bits table = subst (BeginsWithWeights precision count) (sym (append-nil bits)) table

-- ---- one list of weights

weight_bits_first : (weights rest : List ℕ) (first : FirstWeight weights)
    → weight_bits 0 weights ++ rest ≡ entry_bits first.run first.weight ++ (weight_bits 0 first.rest ++ rest)
weight_bits_first weights rest first =
    ap (λ xs. weight_bits 0 xs ++ rest) first.weights_are
    ∙ ap (λ xs. xs ++ rest) (weight_bits-entry first.run first.weight first.rest first.some)
    ∙ append_assoc (entry_bits first.run first.weight) (weight_bits 0 first.rest) rest

length_first : (weights : List ℕ) (first : FirstWeight weights) → length weights ≡ first.run + suc (length first.rest)
length_first weights first =
    omega (
      arith,
      ap length first.weights_are,
      length-append (replicate first.run 0) (first.weight ∷ first.rest),
      length-replicate {A = ℕ} first.run 0,
    )

-- Lists of weights with one total, as long as one another, of which bits begin with the one and with the other, are one. The length goes
-- down at each entry.
pub same_weights : (fuel : ℕ) (xs ys r s : List ℕ) → length xs ≤ fuel → length xs ≤ 2 ^ 15 → sum xs < 2 ^ 15 → length xs ≡ length ys
    → sum xs ≡ sum ys
    → weight_bits 0 xs ++ r ≡ weight_bits 0 ys ++ s → xs ≡ ys
same_weights zero xs ys r s short few small many total e =
    let left : xs ≡ [] = nil_from_length xs (omega arith) in
    let right : ys ≡ [] = nil_from_length ys (omega arith) in
    left ∙ sym right
same_weights (suc fuel) xs ys r s short few small many total e =
    elim (cases_lt 0 (sum xs)) [
      | inl some ↦
          let a = first_weight xs some in
          let b = first_weight ys (omega arith) in
          let a-bits = weight_bits_first xs r a in
          let b-bits = weight_bits_first ys s b in
          let a-length = length_first xs a in
          let b-length = length_first ys b in
          let a-sum = ap sum a.weights_are ∙ sum-run a.run a.weight a.rest in
          let b-sum = ap sum b.weights_are ∙ sum-run b.run b.weight b.rest in
          let b-some = b.some in
          let entry : BeginsWithEntry (weight_bits 0 ys ++ s) = record {
            run = b.run;
            weight = b.weight;
            rest = weight_bits 0 b.rest ++ s;
            run_fits = omega arith;
            some = b.some;
            weight_fits = omega arith;
            bits_are = b-bits;
          } in
          let same = same_entry (weight_bits 0 ys ++ s) (weight_bits 0 a.rest ++ r) a.run a.weight (omega arith) a.some (omega arith)
          (sym e ∙ a-bits) entry in
          let rests = same_weights fuel a.rest b.rest r s (omega arith) (omega arith) (omega arith) (omega (arith, same.0))
          (omega (arith, same.1)) same.2 in
          a.weights_are ∙ ap (λ k. replicate k 0 ++ a.weight ∷ a.rest) same.0 ∙ ap (λ k. replicate b.run 0 ++ k ∷ a.rest) same.1
          ∙ ap (λ k. replicate b.run 0 ++ b.weight ∷ k) rests ∙ sym b.weights_are
      | inr none ↦
          all_zeros xs (omega arith) ∙ ap (λ k. replicate k 0) many ∙ sym (all_zeros ys (omega arith))
    ]
