use Rattle.std.proofs.Common.{◌≡◌, ℕ, ◌-◌, ◌≤◌, List, [], ◌++◌, length, take, drop, ap, sym, ◌∙◌, arith, rules, append-nil, length-take}
use Rattle.std.proofs.lemmas.List.{drop_at, take_rest}
use Rattle.constriction_stored_weights.specs.Tables.{BeginsWithTable}
use Rattle.constriction_coders_tests.proofs.callers.tables.second_of_two.Goals as goal

-- what is left when as many bytes are taken as a front has
left_after : (bytes front rest : List ℕ) (taken : ℕ) → bytes ≡ front ++ rest → taken ≤ length bytes → front ≡ take taken bytes
    → drop taken bytes ≡ rest
left_after bytes front rest taken e within is =
    let long : length front ≡ taken = omega (arith, ap length is, length-take taken bytes) in
    ap (drop taken) e ∙ drop_at front rest taken long

pub returns : goal.returns
returns c =
    let one = c.in-Ok.ensures.ok in
    let two = c.in-Ok-write_table.ensures.ok in
    let taken = c.in-Ok-read_table.taken in
    let whole : c.write_table-2.new.bytes.items ≡ one.0 ++ two.0 =
    two.1 ∙ ap (λ xs. xs ++ two.0) (one.1 ∙ ap (λ xs. xs ++ one.0) c.new-bytes.ensures.items) in
    let first : BeginsWithTable 12 256 c.deref.result.now = record {
      weights = c.args.first.now;
      text = one.0;
      rest = two.0;
      is_table = c.in-Ok.ensures.table;
      counted = search rules;
      is_text = one.2;
      bytes_are = c.deref.ensures.value ∙ whole;
    } in
    let left : drop taken c.deref-2.result.now ≡ two.0 =
    ap (drop taken) (c.deref-2.ensures.value ∙ sym c.deref.ensures.value)
    ∙ left_after c.deref.result.now one.0 two.0 taken (c.deref.ensures.value ∙ whole) c.in-Ok-read_table.ensures.ok.2
    (c.in-Ok-read_table.ensures.only first).1 in
    let after = take (length c.deref-2.result.now - taken) (drop taken c.deref-2.result.now) in
    let second : BeginsWithTable 12 256 after = record {
      weights = c.args.second.now;
      text = two.0;
      rest = [];
      is_table = c.in-Ok-write_table.ensures.table;
      counted = search rules;
      is_text = two.2;
      bytes_are = take_rest c.deref-2.result.now taken ∙ left ∙ sym (append-nil two.0);
    } in
    sym (c.in-Ok-read_table-2.ensures.only second).0
