use Rattle.std.proofs.Common.{◌≡◌, length, get_or, ap, ◌∙◌, arith}
use Rattle.std.proofs.lemmas.List.{with_items_is}
use Rattle.constriction_adaptive.proofs.mixer.tables.Tables.new.Goals as goal

pub invariant_of-result : goal.invariant_of-result
invariant_of-result c =
    let strengths = with_items_is c.in_ok-strengths.strengths c.fill_strengths.new.table (omega arith) in
    let squashes = with_items_is c.in_ok-squashes.squashes c.fill_squashes.new.table (omega arith) in
    let many : length c.fill_strengths.new.table ≡ 4096 = omega (arith, c.in_ok-strengths.ensures.len) in
    let as_many : length c.fill_squashes.new.table ≡ 4096 = omega (arith, c.in_ok-squashes.ensures.len) in
    record {
      many_strengths = ap length strengths ∙ many;
      many_squashes = ap length squashes ∙ as_many;
      are_strengths = λ k h. ap (λ xs. get_or xs k 0) strengths ∙ c.fill_strengths.ensures k h;
      are_squashes = λ k h. ap (λ xs. get_or xs k 0) squashes ∙ c.fill_squashes.ensures k h;
    }
