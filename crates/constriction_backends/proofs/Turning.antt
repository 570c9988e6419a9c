-- Words that are turned round, and the position with them. No public clause cites this module.
use Rattle.std.proofs.Common.{◌≡◌, ℕ, ◌-◌, ◌≤◌, List, ◌++◌, take, drop, length, reverse, sym, ◌∙◌, ap}
use Rattle.std.proofs.lemmas.List.{reverse-append, length-reverse, length-drop, take-append-drop}
use Rattle.std.proofs.Math.Seq.{take-append_seam, drop-append_seam}
use Rattle.constriction_backends.specs.CursorState.{State, state, reversal}

-- the words backwards, cut at the same place, are the reversal of the state
pub state-reverse : {W : Type 0} (xs : List W) (pos : ℕ) → pos ≤ length xs
    → state (reverse xs) (length xs - pos) ≡ reversal (state xs pos)
state-reverse {W = W} xs pos in_range =
    let front : List W = reverse (drop pos xs) in
    let back : List W = reverse (take pos xs) in
    let halves : reverse xs ≡ front ++ back =
    sym (ap reverse (take-append-drop pos xs)) ∙ reverse-append (take pos xs) (drop pos xs) in
    let len : length front ≡ length xs - pos = length-reverse (drop pos xs) ∙ length-drop pos xs in
    let before : take (length xs - pos) (reverse xs) ≡ front = rw (halves, ← len) (take-append_seam front back) in
    let after : drop (length xs - pos) (reverse xs) ≡ back = rw (halves, ← len) (drop-append_seam front back) in
    let made = λ (b a : List W). let s : State W = record { before = b; after = a } in s in
    ap (λ b. made b (drop (length xs - pos) (reverse xs))) before ∙ ap (made front) after

-- the same for words that were reversed in place
pub state-turned : {W : Type 0} (made new xs : List W) (pos : ℕ) → made ≡ new → new ≡ reverse xs → pos ≤ length xs
    → state made (length new - pos) ≡ reversal (state xs pos)
state-turned made new xs pos m n in_range = rw (m, n, length-reverse xs) (state-reverse xs pos in_range)
