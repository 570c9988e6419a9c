-- What a source of words answers. `tells s ws` says that the words ws are still to come from s.
use Rattle.std.specs.Prelude.{◌≡◌, ◌≢◌, ℕ, ◌+◌, List, [], ◌∷◌, Option, Some, Result, Ok, MatchResult, MatchOption}

-- A read when the words ws are to come answers the first one and leaves the rest, or fails and leaves all. If there are none, it answers
-- None.
abbrev pub ReadsUpcoming : {S W E : Type 0} → (S → List W → Type 0) → List W → Result (Option W) E → S → Type 0
ReadsUpcoming {S} {W} tells ws r t =
    MatchResult r
    (λ o. MatchOption o ((ws ≡ []) × tells t []) (λ w. (rest : List W) × (ws ≡ w ∷ rest) × tells t rest))
    (λ _. (ws ≢ []) × tells t ws)

-- A read with m items left before it and n after it takes one item, or answers None if there is none.
abbrev pub CountsRead : {W E : Type 0} → ℕ → Result (Option W) E → ℕ → Type 0
CountsRead m r n = MatchResult r (λ o. MatchOption o ((m ≡ 0) × (n ≡ 0)) (λ _. m ≡ n + 1)) (λ _. m ≡ n + 1)

-- reads in a row from s gave these answers and led to t; `gives s r t` says that a read of s may answer r and leave t
abbrev pub GivesAnswers : {S W E : Type 0} → (S → Result (Option W) E → S → Type 0)
    → S → List (Result (Option W) E) → S → Type 0
GivesAnswers gives s [] t = s ≡ t
GivesAnswers {S} gives s (r ∷ rs) t = (j : S) × gives s r j × GivesAnswers gives j rs t

-- reads in order from s, which answered these words, lead to t
abbrev pub Reads : {S W E : Type 0} → (S → Result (Option W) E → S → Type 0) → S → List W → S → Type 0
Reads gives s [] t = s ≡ t
Reads {S} gives s (w ∷ ws) t = (j : S) × gives s (Ok (Some w)) j × Reads gives j ws t
