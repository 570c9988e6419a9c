-- Pairs that words give are the pairs of the words.
use Rattle.std.specs.Prelude.{ℕ, List, [], ◌∷◌, Ok}
use Rattle.std.specs.List.{AllZip}
use Rattle.constriction_model.specs.Rows.{Row}
use Rattle.constriction_client.specs.Quantiles.{ArePairs, GivesPair}

-- words that give pairs, one by one, have these pairs
pub are-pairs : {Symbol Word : Type 0} (Stands : Symbol → Symbol → Type 0) (rows : List (Row Symbol)) (whole : Word → ℕ) (precision : ℕ)
    (MayLackMemory : ℕ → Type 0) (words : List Word) (pairs : List (Symbol × Word))
    → AllZip (λ word pair. GivesPair Stands rows whole precision MayLackMemory word (Ok pair)) words pairs
    → ArePairs Stands rows whole words pairs
are-pairs Stands rows whole precision MayLackMemory [] [] given = tt
are-pairs Stands rows whole precision MayLackMemory [] (pair ∷ pairs) given = absurd given
are-pairs Stands rows whole precision MayLackMemory (word ∷ words) [] given = absurd given
are-pairs Stands rows whole precision MayLackMemory (word ∷ words) (pair ∷ pairs) given =
    (given.0.1, are-pairs Stands rows whole precision MayLackMemory words pairs given.1)
