-- The formats of packed files: how files begin, and which contents they have.
use Rattle.std.specs.Prelude.{ℕ, ◌*◌, ◌-◌, ◌/◌, ◌^◌, ◌≤◌, List, [], ◌∷◌, ◌++◌, codes, length}
use Rattle.constriction_pack.specs.declared.format.Format.{Format}
use Rattle.constriction_pack.specs.declared.format.Format.TheVariants.{Cpk2, Cpk3}
use Rattle.constriction_pack.specs.declared.kind.Kind.{Kind}
use Rattle.constriction_pack.specs.declared.kind.Kind.TheVariants.{FewContexts, ManyContexts, Matched}

-- what a packed file begins with
abbrev pub signature : Format → List ℕ
signature Cpk2 = codes "cpk2" ++ 13 ∷ 10 ∷ 26 ∷ 10 ∷ []
signature Cpk3 = codes "cpk3" ++ 13 ∷ 10 ∷ 26 ∷ 10 ∷ []

-- a content by contexts has words of four bytes behind its first four: at least one for each
-- 2 ^ 12 bytes of its block
abbrev pub HasEnoughWords : (block content : List ℕ) → Type 0
HasEnoughWords block content = length block ≤ 2 ^ 12 * ((length content - 4) / 4)

-- a format has this content of a block
abbrev pub IsAdmitted : Format → Kind → (block content : List ℕ) → Type 0
IsAdmitted Cpk3 FewContexts block content = HasEnoughWords block content
IsAdmitted Cpk3 ManyContexts block content = HasEnoughWords block content
IsAdmitted Cpk2 Matched block content = ⊥
IsAdmitted format kind block content = Unit {0}
