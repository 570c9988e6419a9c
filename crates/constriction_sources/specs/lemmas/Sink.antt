-- Writes in a row, and counted writes. A default method and impls cite these, and a caller's proof may.
use Rattle.std.specs.Prelude.{ℕ, ◌<◌, List, [], ◌∷◌, ◌++◌, Option, Result, Ok, Err, IfErr}
use Rattle.std.proofs.Common.{subst, sym, append_assoc, append-nil, arith}
use Rattle.constriction_sources.specs.Sink.{WritesAppend, CountsWrite, TakesItems, Writes, ExtendsBy}

module _ {S W E : Type 0} (gives : S → W → Result (Unit {0}) E → S → Type 0) where
  -- one more write after others
  pub writes_more : (s : S) (ws : List W) (j : S) (w : W) (t : S) → Writes gives s ws j → gives j w (Ok tt) t
      → Writes gives s (ws ++ w ∷ []) t
  writes_more s [] j w t e h = (t, subst (λ (x : S). gives x w (Ok tt) t) (sym e) h, λ _. t)
  writes_more s (x ∷ xs) j w t p h = (p.0, p.1, writes_more p.0 xs j w t p.2 h)

  -- after writes that all succeeded, the written words are the old ones and then these
  pub writes_append_all : (tells : S → List W → Type 0)
      → ((s : S) (w : W) (r : Result (Unit {0}) E) (t : S) → gives s w r t
      → (ws : List W) → tells s ws → WritesAppend tells ws w r t)
      → (s : S) (ws : List W) (t : S) → Writes gives s ws t → (old : List W) → tells s old → tells t (old ++ ws)
  writes_append_all tells law s [] t e old h =
      subst (λ (x : S). tells x (old ++ [])) e (subst (λ (ys : List W). tells s ys) (sym (append-nil old)) h)
  writes_append_all tells law s (w ∷ ws) t p old h =
      subst (λ (ys : List W). tells t ys) (append_assoc old (w ∷ []) ws)
      (writes_append_all tells law p.0 ws t p.2 (old ++ w ∷ []) (law s w (Ok tt) p.0 p.1 old h))

  -- so are the items of an iterator, up to the first refused one
  pub extending_tells : {I : Type 0} (tells : S → List W → Type 0) (next : I → Option W → I → Type 0)
      → ((s : S) (w : W) (r : Result (Unit {0}) E) (t : S) → gives s w r t
      → (ws : List W) → tells s ws → WritesAppend tells ws w r t)
      → (s : S) (items : I) (r : Result (Unit {0}) E) (t : S) (old : List W) → ExtendsBy gives next s items r t → tells s old
      → TakesItems next items r (λ ws. tells t (old ++ ws)) (λ ws _ _. tells t (old ++ ws))
  extending_tells tells next law s items (Ok x) t old (ws, drained, written) known =
      (ws, drained, writes_append_all tells law s ws t written old known)
  extending_tells tells next law s items (Err e) t old (ws, w, rest, yielded, (j, written, refused)) known =
      (ws, w, rest, yielded, law j w (Err e) t refused (old ++ ws) (writes_append_all tells law s ws j written old known))

-- a counted write is not refused if a place is free
pub free_is_taken : {E : Type 0} (m : ℕ) (r : Result (Unit {0}) E) (n : ℕ) → CountsWrite m r n → 0 < m → IfErr r (λ _. ⊥)
free_is_taken m (Ok x) n h free = tt
free_is_taken m (Err e) n h free = absurd (let none = h.0 in omega arith)
