use Rattle.std.proofs.Common.{◌∷◌, [], refl}
use Rattle.std.specs.Prelude.{nat_eq}
use Rattle.std.specs.List.{IsDistinct}
use Rattle.constriction_models_tests.proofs.distinct_symbols.numbers_that_are_known_to_differ_are_decoded.Goals as goal

-- the four numbers differ
differ : IsDistinct nat_eq (7 ∷ 3 ∷ 9 ∷ 5 ∷ [])
unfolding IsDistinct
differ = ((refl, (refl, (refl, tt))), ((refl, (refl, tt)), ((refl, tt), (tt, tt))))

pub of_distinct-requires : goal.of_distinct-requires
of_distinct-requires g c = differ
