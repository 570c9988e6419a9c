use Rattle.std.proofs.Common.{◌≡◌, List, ℕ, [], ◌++◌, Some, ap, append-nil, arith, rules}
use Rattle.constriction_pack.specs.Packed.{IsPacked}
use Rattle.constriction_pack.proofs.FileLemmas.{one_content}
use Rattle.constriction_pack.proofs.laws.file_comes_back.Goals as goal

-- what was read to the end, and what was written to nothing
whole : (P : List ℕ → List ℕ → Type 0) {all left old new xs ys : List ℕ} → all ≡ xs ++ left
    → left ≡ [] → old ≡ [] → new ≡ old ++ ys → P xs ys → P all new
whole P p q r s h = rw (p, q, append-nil, s, r) h

pub returns-in_err-unpack-clause-errors : goal.returns-in_err-unpack-clause-errors
returns-in_err-unpack-clause-errors c =
    let done = c.in_ok-pack.ensures.ok in
    let file = whole IsPacked done.2 done.3 c.new-packed.ensures.items done.4 done.5 in
    search (
      rules,
      arith,
      c.in_err-unpack.ensures.accepted c.args.bytes.now _
          (ap Some c.as_slice-reader.ensures.value) file,
    )

pub returns-clause-back : goal.returns-clause-back
returns-clause-back c =
    let done = c.in_ok-pack.ensures.ok in
    let undone = c.in_ok-unpack.ensures.ok in
    let file = whole IsPacked done.2 done.3 c.new-packed.ensures.items done.4 done.5 in
    let again = whole (λ packed bytes. IsPacked bytes packed) undone.2 undone.3
    c.new-again.ensures.items undone.4 undone.5 in
    one_content _ _ _ (rw c.as_slice-reader.ensures.value at again) file
