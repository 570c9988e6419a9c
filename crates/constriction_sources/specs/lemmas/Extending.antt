-- The written words of a sink that took the known items of an iterator. A caller's proof may cite this.
use Rattle.std.specs.Prelude.{◌≡◌, List, ◌++◌, Option, None, Result, Ok}
use Rattle.std.proofs.Common.{◌∙◌, refl, subst, sym}
use Rattle.std.proofs.lemmas.Iterator.{YieldsList}
use Rattle.std.proofs.lemmas.Iterator.Consumers.{YieldsList-end}
use Rattle.std.proofs.lemmas.List.{map-id}
use Rattle.constriction_sources.specs.Sink.{WritesAppend, ExtendsBy}
use Rattle.constriction_sources.specs.lemmas.Sink.{writes_append_all}

-- if all items were written, they come after the words that were written before
pub extended_by_all : {S W E I : Type 0} (gives : S → W → Result (Unit {0}) E → S → Type 0) (tells : S → List W → Type 0)
    (next : I → Option W → I → Type 0)
    → ((s : S) (w : W) (r : Result (Unit {0}) E) (t : S) → gives s w r t → (ws : List W) → tells s ws → WritesAppend tells ws w r t)
    → (s : S) (items : I) (all : List W) (t : S) (old : List W) → ExtendsBy gives next s items (Ok tt) t
    → YieldsList next (λ x. x) items all → tells s old → tells t (old ++ all)
extended_by_all {W = W} gives tells next law s items all t old (ws, drained, written) yields known =
    let given = YieldsList-end yields ws drained.1.0 drained.1.1 None drained.0 refl drained.1.2 in
    let same : ws ≡ all = sym (map-id ws) ∙ given.0 in
    subst (λ (ys : List W). tells t (old ++ ys)) same (writes_append_all gives tells law s ws t written old known)
