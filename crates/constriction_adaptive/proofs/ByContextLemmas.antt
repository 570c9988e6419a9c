-- One predictor of many is replaced: what the others know stays.
use Rattle.std.specs.Prelude.{Some, slice_get}
use Rattle.std.specs.Option.{option_map}
use Rattle.std.proofs.Common.{◌≡◌, ℕ, ◌<◌, List, length, map, get_or, set, ap, sym, ◌∙◌}
use Rattle.std.proofs.Math.Seq.{map-set_same}
use Rattle.std.proofs.lemmas.List.{map-set}
use Rattle.std.proofs.lemmas.Option.{slice_get-map, slice_get_read}
use Rattle.constriction_adaptive.specs.ByContext.{learned_in, context_state, with_state}

module _ {P Context : Type 0} (xs : List P) (i : ℕ) (x : P) (at : x ≡ get_or xs i x) (number : Context → ℕ) (c : Context) (n : ℕ)
    (is : i ≡ number c) (many : n ≡ length xs) (below : i < n) where
  -- the predictor of the context
  pub item-found : slice_get xs (number c) ≡ Some x
  item-found = ap (slice_get xs) (sym is) ∙ slice_get_read xs n i x many below at

  -- what it knows
  pub state-found : {State : Type 0} (state : P → State) → slice_get (map state xs) (number c) ≡ Some (state x)
  state-found state = slice_get-map state xs (number c) ∙ ap (option_map state) item-found

module _ {P State : Type 0} (state : P → State) (xs : List P) (i : ℕ) (x y : P) (at : x ≡ get_or xs i x) where
  -- by one that knows the same
  pub states-stay : state y ≡ state x → map state (set xs i y) ≡ map state xs
  states-stay e = map-set_same state xs i y x (e ∙ ap state at)

  -- by one that learned a symbol, and the context learned it
  pub states-learned : {Context Symbol : Type 0} (next : State → Symbol → State) (number : Context → ℕ) (after : Context → Symbol → Context)
      (c d : Context) (symbol : Symbol) (n : ℕ) → i ≡ number c → n ≡ length xs → i < n → state y ≡ next (state x) symbol
      → d ≡ after c symbol
      → context_state (map state (set xs i y)) d ≡ learned_in next number after (context_state (map state xs) c) symbol
  states-learned next number after c d symbol n is many below learned moved =
      let found = state-found xs i x at number c n is many below state in
      ap (λ context. context_state (map state (set xs i y)) context) moved
      ∙ ap (λ states. context_state states (after c symbol))
      (map-set state xs i y ∙ ap (set (map state xs) i) learned ∙ ap (λ k. set (map state xs) k (next (state x) symbol)) is
      ∙ ap (λ f. with_state (map state xs) (number c) (option_map (λ s. next s symbol) f)) (sym found))
