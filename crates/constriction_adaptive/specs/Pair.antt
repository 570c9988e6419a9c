-- Symbols in pairs: one of a left predictor, and then one of the right predictor whose context the left symbols tell.
use Rattle.std.specs.Prelude.{ℕ, Bool, true, false, List, map, if◌then◌else◌}
use Rattle.constriction_model.specs.Rows.{Row}
use Rattle.either.specs.declared.Either.{Either}
use Rattle.either.specs.declared.Either.TheVariants.{Left, Right}
use Rattle.constriction_adaptive.specs.ByContext.{ByContexts, learned_in, rows_by_context, context_state}

-- what the left predictor knows, what the right ones and their context do, and whether a right symbol is next
pub record PairState (L R Context : Type 0) : Type 0 where
  pub left : L
  pub right : ByContexts R Context
  pub is_right : Bool

-- the same, from its parts
abbrev pub pair_state : {L R Context : Type 0} → L → ByContexts R Context → Bool → PairState L R Context
pair_state left right is_right = record { left = left; right = right; is_right = is_right }

-- the same rows, with other symbols
abbrev pub with_symbols : {S T : Type 0} → (S → T) → List (Row S) → List (Row T)
with_symbols f rows = map (λ r. record { symbol = f r.symbol; left = r.left; weight = r.weight }) rows

-- the same rows, without their symbols
abbrev pub without_symbols : {S : Type 0} → List (Row S) → List (Row (Unit {0}))
without_symbols rows = with_symbols (λ _. tt) rows

-- whether two symbols are of one side, and equal there
abbrev pub equal_on_sides : {A B : Type 0} → (A → A → Bool) → (B → B → Bool) → Either A B → Either A B → Bool
equal_on_sides eq_left eq_right (Left a) (Left b) = eq_left a b
equal_on_sides eq_left eq_right (Right a) (Right b) = eq_right a b
equal_on_sides eq_left eq_right (Left a) (Right b) = false
equal_on_sides eq_left eq_right (Right a) (Left b) = false

module _ {L R Context A B : Type 0} where
  -- the rows of the predictor that is next, whose symbols are of its side
  abbrev pub rows_of_side : (L → List (Row A)) → (R → List (Row B)) → (Context → ℕ) → PairState L R Context → List (Row (Either A B))
  rows_of_side left_rows right_rows number s =
      if s.is_right then with_symbols Right (rows_by_context right_rows number s.right) else with_symbols Left (left_rows s.left)

  -- The predictor that is next learns its symbol, and the context a left one. A symbol of the other side has no entry, and changes nothing.
  abbrev pub after_side : (L → A → L) → (R → B → R) → (Context → ℕ) → (Context → A → Context) → PairState L R Context → Either A B
      → PairState L R Context
  after_side next_left next_right number after s (Left a) =
      if s.is_right then s else pair_state (next_left s.left a) (context_state s.right.predictors (after s.right.context a)) true
  after_side next_left next_right number after s (Right b) =
      if s.is_right then pair_state s.left (learned_in next_right number (λ context _. context) s.right b) false else s
