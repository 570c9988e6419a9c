-- Runs of symbols in their states: they grow at the end, are joined, and stop.
use Rattle.std.proofs.Common.{◌≡◌, ℕ, ◌+◌, ◌<◌, suc, Bool, List, [], ◌∷◌, ◌++◌, fold, length, take, drop, get_or, Option, Result, Err, refl, ap, inl, inr, sym, ◌∙◌, subst}
use Rattle.std.specs.Prelude.{All}
use Rattle.std.specs.List.{AllZip}
use Rattle.std.proofs.lemmas.List.{take_more}
use Rattle.std.proofs.lemmas.List.Elements.{All-append, All-cons, All-nil}
use Rattle.std.proofs.lemmas.List.Sums.{fold-append}
use Rattle.constriction_model.specs.Coding.{InTurn}
use Rattle.constriction_model.specs.Rows.{Row, RowsTile, entry_of}
use Rattle.constriction_words.specs.declared.CoderError.TheVariants.{Frontend, Backend}
use Rattle.constriction_coders.specs.Intervals.{Held, DecodesFromQueue, IsAboveAll}
use Rattle.constriction_coders.specs.declared.queue.range_decoder.DecoderFrontendError.TheVariants.{InvalidData, OutOfMemory}
use Rattle.constriction_coders.specs.Places.{placed, entry_at, IsDecodedAt}
use Rattle.constriction_coders.specs.Spans.{Span, IsNarrowed}
use Rattle.constriction_coders.proofs.Stopping.{split-at-symbol}
use Rattle.constriction_adaptive.specs.Predicted.{predicted_entry, AllTile, AreCoded, AdaptiveDecodingStops, AdaptiveEncodingStops, IsNotDecoded}
use Rattle.constriction_words.specs.declared.CoderError.{CoderError}

module _ {State Symbol : Type 0} (next : State → Symbol → State) where
  -- symbols after others stand in the states that the others lead to
  pub placed-append : (first : State) (xs ys : List Symbol) → placed next first (xs ++ ys)
      ≡ placed next first xs ++ placed next (fold next first xs) ys
  placed-append first [] ys = refl
  placed-append first (x ∷ xs) ys = ap (λ (ps : List (State × Symbol)). (first, x) ∷ ps) (placed-append (next first x) xs ys)

  module _ {C : Type 0} (Step : State × Symbol → C → C → Type 0) where
    turn-append : (first : State) (xs ys : List Symbol) (a b c : C) → InTurn Step (placed next first xs) a b
        → InTurn Step (placed next (fold next first xs) ys) b c → InTurn Step (placed next first (xs ++ ys)) a c
    turn-append first [] ys a b c p q = subst (λ (x : C). InTurn Step (placed next first ys) x c) (sym p) q
    turn-append first (x ∷ xs) ys a b c p q = (p.0, p.1, turn-append (next first x) xs ys p.0 b c p.2 q)

    -- symbols after other symbols
    pub coded-append : (xs ys : List Symbol) (first : State) (old : C) (between : State) (mid : C) (last : State) (new : C)
        → AreCoded next Step xs first old between mid → AreCoded next Step ys between mid last new
        → AreCoded next Step (xs ++ ys) first old last new
    coded-append xs ys first old between mid last new p q = record {
      led =
          turn-append first xs ys old mid new p.led
          (subst (λ (s : State). InTurn Step (placed next s ys) mid new) p.learned q.led);
      learned = q.learned ∙ ap (λ (s : State). fold next s ys) p.learned ∙ sym (fold-append next first xs ys);
    }

    -- one symbol more
    pub coded-push : (xs : List Symbol) (x : Symbol) (first : State) (old : C) (between : State) (mid : C) (last : State) (new : C)
        → AreCoded next Step xs first old between mid → Step (between, x) mid new → last ≡ next between x
        → AreCoded next Step (xs ++ x ∷ []) first old last new
    coded-push xs x first old between mid last new p step learned =
        coded-append xs (x ∷ []) first old between mid last new p (record { led = (new, step, refl); learned = learned })

    -- after some symbols the next one is not coded, and nothing changes
    pub stopped : (xs : List Symbol) (x : Symbol) (after whole : List Symbol) (first : State) (old : C) (between : State) (mid : C)
        (last : State) (new : C) {Fault : State × Symbol → C → Type 0} → whole ≡ xs ++ x ∷ after
        → AreCoded next Step xs first old between mid → Fault (between, x) mid → last ≡ between → new ≡ mid
        → AdaptiveEncodingStops next Step Fault whole first old last new
    stopped xs x after whole first old between mid last new {Fault = Fault} split coded fault unlearned same =
        subst (λ (s : State). AdaptiveEncodingStops next Step Fault whole first old s new) (sym unlearned)
        (subst (λ (c : C). AdaptiveEncodingStops next Step Fault whole first old between c) (sym same) (record {
          done = xs;
          symbol = x;
          after = after;
          split = split;
          coded = coded;
          fault = fault;
        }))

    module _ (xs : List Symbol) (i : ℕ) (x : Symbol) (less : i < length xs) (is : x ≡ get_or xs i x) (first : State) (old : C)
        (between : State) (mid : C) (coded : AreCoded next Step (take i xs) first old between mid) where
      -- the next one of some symbols
      pub coded-take : (last : State) (new : C) → Step (between, x) mid new → last ≡ next between x
          → AreCoded next Step (take (i + 1) xs) first old last new
      coded-take last new step learned =
          let more : take (i + 1) xs ≡ take i xs ++ x ∷ [] = take_more xs i x less ∙ ap (λ y. take i xs ++ y ∷ []) (sym is) in
          subst (λ (ys : List Symbol). AreCoded next Step ys first old last new) (sym more)
          (coded-push (take i xs) x first old between mid last new coded step learned)

      -- or it is not coded, and nothing changes
      pub encoding-stops : (Fault : State × Symbol → C → Type 0) (last : State) (new : C) → Fault (between, x) mid → last ≡ between
          → new ≡ mid → AdaptiveEncodingStops next Step Fault xs first old last new
      encoding-stops Fault last new fault unlearned same =
          stopped (take i xs) x (drop (suc i) xs) xs first old between mid last new (split-at-symbol xs i x less is) coded fault unlearned
          same

    -- a run that was cut short stops there
    pub decoding-stops : {Coder Fault E : Type 0} (held : Coder → C) (IsRefusal : Fault → Type 0)
        (Tells : State → Coder → Result Symbol (CoderError Fault E) → Coder → Type 0) (count : ℕ) (error : CoderError Fault E)
        (xs : List Symbol) (first : State) (old : C) (between : State) (reached : Coder) (last : State) (new : Coder)
        → AreCoded next Step xs first old between (held reached) → length xs < count
        → IsNotDecoded IsRefusal (Tells between) error reached new → last ≡ between
        → AdaptiveDecodingStops next Step held IsRefusal Tells count error first old last new
    decoding-stops held IsRefusal Tells count error xs first old between reached last new coded fewer why unlearned = record {
      done = xs;
      reached = reached;
      coded = record { led = coded.led; learned = unlearned ∙ coded.learned };
      why = inl (fewer, subst (λ (s : State). IsNotDecoded IsRefusal (Tells s) error reached new) (sym unlearned) why);
    }

  -- what comes back leads to the same state
  pub same-state : (Back : Symbol → Symbol → Type 0) → ((s : State) (x a : Symbol) → Back x a → next s a ≡ next s x) → (first : State)
      (symbols answers : List Symbol) → AllZip Back symbols answers → fold next first answers ≡ fold next first symbols
  same-state Back same first [] [] h = refl
  same-state Back same first [] (a ∷ ts) h = absurd h
  same-state Back same first (x ∷ xs) [] h = absurd h
  same-state Back same first (x ∷ xs) (a ∷ ts) h =
      ap (λ (s : State). fold next s ts) (same first x a h.0) ∙ same-state Back same (next first x) xs ts h.1

-- ---- rows that tile

module _ {State Symbol : Type 0} (rows : State → List (Row Symbol)) (next : State → Symbol → State) (precision : ℕ) where
  abbrev Tiles : State × Symbol → Type 0
  Tiles place = RowsTile 32 precision (rows place.0)

  -- symbols after other symbols
  pub tile-append : (first : State) (xs ys : List Symbol) → AllTile rows next precision first xs
      → AllTile rows next precision (fold next first xs) ys → AllTile rows next precision first (xs ++ ys)
  tile-append first xs ys p q =
      subst (λ (places : List (State × Symbol)). All Tiles places) (sym (placed-append next first xs ys))
      (All-append Tiles (placed next first xs) (placed next (fold next first xs) ys) p q)

  -- the next one of some symbols
  pub tile-take : (xs : List Symbol) (i : ℕ) (x : Symbol) → i < length xs → x ≡ get_or xs i x → (first between : State)
      → AllTile rows next precision first (take i xs) → between ≡ fold next first (take i xs) → RowsTile 32 precision (rows between)
      → AllTile rows next precision first (take (i + 1) xs)
  tile-take xs i x less is first between before learned tile =
      let more : take (i + 1) xs ≡ take i xs ++ x ∷ [] = take_more xs i x less ∙ ap (λ y. take i xs ++ y ∷ []) (sym is) in
      let last : State = fold next first (take i xs) in
      let one : AllTile rows next precision last (x ∷ []) =
      All-cons Tiles (last, x) [] (subst (λ (s : State). RowsTile 32 precision (rows s)) learned tile) (All-nil Tiles) in
      subst (λ (ys : List Symbol). AllTile rows next precision first ys) (sym more) (tile-append first (take i xs) (x ∷ []) before one)

-- ---- a symbol that is coded by a model with the rows of a state

module _ {State Symbol : Type 0} (rows : State → List (Row Symbol)) (eq : Symbol → Symbol → Bool) (precision : ℕ)
    (made : List (Row Symbol)) (state : State) (is : made ≡ rows state) where
  -- a span narrowed by a model's entry is narrowed by the entry in its state
  pub narrowed-in : (symbol : Symbol) (old new : Span) → IsNarrowed (entry_of eq made symbol) precision old new
      → IsNarrowed (entry_at (predicted_entry rows eq) (state, symbol)) precision old new
  narrowed-in symbol old new step = subst (λ (r : List (Row Symbol)). IsNarrowed (entry_of eq r symbol) precision old new) is step

  -- rows of a state that tile
  pub tile-in : RowsTile 32 precision made → RowsTile 32 precision (rows state)
  tile-in tile = subst (λ (r : List (Row Symbol)). RowsTile 32 precision r) is tile

  -- a symbol decoded by a model's rows is decoded by the rows of its state
  pub decoded-in : {C : Type 0} (Step : List (Row Symbol) → Symbol → C → C → Type 0) (symbol : Symbol) (old new : C)
      → RowsTile 32 precision made → Step made symbol old new
      → IsDecodedAt eq (predicted_entry rows eq) rows precision Step (state, symbol) old new
  decoded-in {C = C} Step symbol old new tile step = record {
    tile = tile-in tile;
    alike = λ s. refl;
    step = subst (λ (r : List (Row Symbol)). Step r symbol old new) is step;
  }

-- ---- a decoder of a queue whose data is invalid

-- has its point above all parts
pub above-all : {Symbol Coder S E : Type 0} (held : Coder → Held S) (MayRefuse : Symbol → Type 0) (rows : List (Row Symbol))
    (gives : S → Result (Option ℕ) E → S → Type 0) (precision : ℕ) (old new : Coder)
    → IsNotDecoded (λ fault. fault ≡ OutOfMemory)
    (λ from answer to. DecodesFromQueue MayRefuse rows gives precision (held from) answer (held to)) (Frontend InvalidData) old new
    → IsAboveAll precision (held old).held
above-all held MayRefuse rows gives precision old new (inl (fault, is, same, stays)) = cc
above-all held MayRefuse rows gives precision old new (inr tells) = tells.fault.0

-- failed to read a word
pub read-failed : {Symbol Coder S E : Type 0} (held : Coder → Held S) (MayRefuse : Symbol → Type 0) (rows : List (Row Symbol))
    (gives : S → Result (Option ℕ) E → S → Type 0) (precision : ℕ) (error : E) (old new : Coder)
    → IsNotDecoded (λ fault. fault ≡ OutOfMemory)
    (λ from answer to. DecodesFromQueue MayRefuse rows gives precision (held from) answer (held to)) (Backend error) old new
    → (reached : S) × (left : S) × gives reached (Err error) left
read-failed held MayRefuse rows gives precision error old new (inl (fault, is, same, stays)) = cc
read-failed held MayRefuse rows gives precision error old new (inr tells) = ((held old).source, (held new).source, tells.fault)
