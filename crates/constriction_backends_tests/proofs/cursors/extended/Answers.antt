use Rattle.std.proofs.Common.{◌≡◌, List, ◌++◌, Option, Result, Ok, Err, ℕ, refl, rules, subst}
use Rattle.std.proofs.iter.Yields.{Copied-slice, copies, fronts}
use Rattle.std.proofs.lemmas.Iterator.{YieldsList}
use Rattle.std.specs.Iterator.{AlwaysYields}
use Rattle.std.specs.Iterator.Adapters.{copied_source}
use Rattle.std.specs.Prelude.{OnOk}
use Rattle.std.specs.Slice.Iter.{iter_rest}
use Rattle.constriction_backends.specs.Cursor.{state_of, WritesTo}
use Rattle.constriction_backends.specs.lemmas.Cursor.{Overwrites-append}
use Rattle.constriction_backends.specs.lemmas.Extending.{extended_by_all}
use Rattle.constriction_backends.specs.Sink.{ExtendsBy, WritesAppend}
use Rattle.constriction_backends_tests.proofs.cursors.extended.Goals as goal

-- if the sink took all words, it tells them after the old ones
in-order : {S W E I : Type 0} (gives : S → W → Result (Unit {0}) E → S → Type 0) (tells : S → List W → Type 0)
    (next : I → Option W → I → Type 0)
    → ((s : S) (w : W) (r : Result (Unit {0}) E) (t : S) → gives s w r t → (ws : List W) → tells s ws → WritesAppend tells ws w r t)
    → (s : S) (items : I) (all : List W) (t : S) (old : List W) (r : Result (Unit {0}) E) → ExtendsBy gives next s items r t
    → YieldsList next (λ x. x) items all → tells s old → OnOk r (tells t (old ++ all))
in-order gives tells next law s items all t old (Ok x) extends yields known =
    extended_by_all gives tells next law s items all t old extends yields known
in-order gives tells next law s items all t old (Err e) extends yields known = tt

pub returns : goal.returns
returns g c =
    let here : iter_rest (copied_source c.copied.result) ≡ c.args.added.now = search rules in
    let given : AlwaysYields (copies fronts) (λ x. x) c.copied.result c.args.added.now =
    subst (λ (ws : List ℕ). AlwaysYields (copies fronts) (λ x. x) c.copied.result ws) here (Copied-slice c.copied.result) in
    in-order (λ s w r t. WritesTo s g.Buf.SafeBufMut.with_words w r t) (λ s ws. (state_of s).before ≡ ws) (copies fronts)
    (λ s w r t h. Overwrites-append state_of s w r t h.0)
    c.args.cursor.now c.copied.result c.args.added.now c.extending_counts.new.sink (state_of c.args.cursor.now).before
    c.extending_counts.result c.extending_counts.ensures.gives (record { runs = given }) refl
