use Rattle.std.proofs.Common.{◌≡◌, ℕ, List, inl, inr, rules, subst, sym, vec_capacity}
use Rattle.std.proofs.iter.Yields.{Copied-slice, copies, fronts}
use Rattle.std.specs.Iterator.{AlwaysYields}
use Rattle.std.specs.Iterator.Adapters.{copied_source, fuse_done, fuse_source}
use Rattle.std.specs.Slice.Iter.{iter_rest}
use Rattle.constriction_backends.specs.lemmas.Items.{tells-new}
use Rattle.constriction_client_tests.proofs.SliceReading.{if-refused, pairs-if-read}
use Rattle.constriction_client_tests.proofs.adapters.read_slice.Goals as goal

pub returns-clause-pairs : goal.returns-clause-pairs
returns-clause-pairs c =
    let source = c.new-source.result in
    let here : iter_rest (copied_source c.copied.result) ≡ c.args.words.now = search rules in
    let given : AlwaysYields (copies fronts) (λ x. x) c.copied.result c.args.words.now =
    subst (λ (ws : List ℕ). AlwaysYields (copies fronts) (λ x. x) c.copied.result ws) here (Copied-slice c.copied.result) in
    let inner : fuse_source source.inner ≡ c.copied.result = c.new-source.ensures.source in
    pairs-if-read _ _ _ 6 (λ _. ⊥) (vec_capacity c.read_symbols.new.out) _ _ _ _ _ _ c.read_symbols.result
    c.args.words.now c.read_symbols.ensures.pairs
    (tells-new (copies fronts) fuse_done fuse_source source.inner c.args.words.now c.new-source.ensures.fresh
    (subst (λ (it : _). AlwaysYields (copies fronts) (λ x. x) it c.args.words.now) (sym inner) given))

-- the model refuses no row
pub returns-clause-memory : goal.returns-clause-memory
returns-clause-memory c =
    if-refused _ _ _ _ _ _ _ c.read_symbols.result c.read_symbols.ensures.pairs
    (λ word given. elim given.1 [ inl row ↦ absurd row.2 | inr full ↦ full ])
