-- `words_mut` of a `[Word; N]` lends its words, for every Word and N. Assumes `Logic`.
use mathlib.Core.Path.{refl}
use Prim.Native.Nat.{ℕ, ◌^◌, ◌<◌, ◌*◌}
use mathlib.Core.List.{List, [], ◌∷◌}
use seplogic.Ra.Ura.{Ura}
use mir.Syntax.{Args, Fn, named, a_type, a_number}
use mir.MapTy.{inst_fn}
use mir.Val.{Val, vptr}
use base.Logic.{SProp, ent}
use base.Fml.{Lft, GName, Share, ftrue, flft}
use prog.Memory.{Memory, size}
use prog.Routine.{Routine}
use prog.Wp.{Calls, Loops, WpFn, Tables}
use types.Logic.{Logic}
use contract.BorrowLft.{◌⊑◌}
use contract.Lifetimes.{AllOutlive}
use contract.Monad.{Fun}
use contract.Running.{tables, tables_of}
use sound.WpLaws.{WpFn-mono}
use types.Kit.{‵, ◌⊛◌, raw, given, learn, some, later, ◌$◌, ◌∵◌, !, qed, by, move, keep, drop, split, split3, join, fsplit, fjoin, use2, await, pick, rewrite, suffices, frame, done}
use types.Part.{agg}
use types.Run.{stop, addr, num_lit, and_then, no_more, returns, enter}
use types.ByLocal.{alloc_all, pass_all, free_all, look_at, get, through, sets}
use denote.Exit.{no}
use denote.Param.{param, number, layout, layouts, ArrayAt}
use denote.RattleType.{RattleType, owns}
use denote.Ref.{MutBor, MutRef, mut_vals, mut_Tells}
use denote.Signature.{plain, mut_ref_to}
use denote.Slice.{MutSlice, slice_val}
use denote.Steps.{nothing}
use denote.Through.{renamed}
use denote.Triple.Clauses.{Clauses, Ended, closing}
use denote.Triple.Entry.{on_entry}
use denote.Triple.Spec.{Meets, triple_of}
use denote.Triple.Table.{entered}
use denote.Triple.Walked.{says, Stays, stay_dropped, walk_of, ends_at, walked, Goes-spent_ref, walk_Meets}
use Rattle.constriction_buffers.proofs.Relending.{elements_lent, lends_elements}
use Rattle.constriction_buffers.specs.Buffer.{refilled}
use Rattle.constriction_buffers.specs.lemmas.Buffer.{refilled_same}
use Rattle.constriction_buffers.specs.contracts.buf.ArraySafeBufMut.words_mut as F
use Rattle.constriction_buffers.specs.contracts.buf.ArraySafeBufMut.words_mut.Key.{name as #self}
use Rattle.constriction_buffers.proofs.buf.ArraySafeBufMut.words_mut.Statement as stated
use Rattle.constriction_buffers.proofs.buf.ArraySafeBufMut.words_mut.Code as code

module _ (X : RattleType) (n : ℕ) where
  abbrev args : Args
  args = layouts (a_type ∷ a_number ∷ []) (X, (number n, tt))

  abbrev function : Fn
  function = inst_fn args code.function

  abbrev R : RattleType
  R = param 0 X

  abbrev Run : RattleType
  Run = ArrayAt R (param 1 (number n))

  abbrev ended : Ended
  ended = F.ended X (number n)

  abbrev stayed : Stays ended.signature.params ended.kept
  stayed = (stay_dropped (mut_ref_to (0 ∷ []) tt (plain (λ _. Run))) no, tt)

module _ (X : RattleType) (n : ℕ) {M : Type 1} {𝓤 : Ura M} (𝓛 : Logic 𝓤)
    (at_mem : Memory → SProp 𝓤) (run : Routine → Fun 𝓤) where
  open 𝓛 use {H}

  abbrev clauses : Clauses 𝓤 (ended X n)
  clauses = F.clauses X (number n) 𝓛 at_mem run

  module _ (C : Calls 𝓤 H) (Λ : Loops 𝓤 H) (κ κT κN : Lft) (q qT qN : Share)
      (bd : AllOutlive 3 (ended X n).signature.outlives (κ, (κT, (κN, tt))))
      (rb ro : ℕ) (γ : GName) (xs : List (R X n).Denot) where
    abbrev self : MutBor (List (R X n).Denot)
    self = record { ref_ptr = (rb, ro); ghost_name = γ; now = xs }

    abbrev bound : (walk_of 𝓛 (ended X n) (stayed X n) clauses).Ghost
    bound = (((κ, (κT, (κN, tt))), (q, (qT, (qN, tt))), bd, (self, tt), (mut_vals self, tt)), tt)

    abbrev Post : Val → SProp 𝓤
    Post = (walk_of 𝓛 (ended X n) (stayed X n) clauses).post bound

    walk : n < 2 ^ 64 → n * size (layout X) < 2 ^ 63
        → ent 𝓤 (on_entry 𝓛 (ended X n).signature (κ, (κT, (κN, tt))) (q, (qT, (qN, tt)))
        (self, tt) (mut_vals self, tt))
        (WpFn 𝓤 H C Λ (function X n) (vptr rb ro ∷ []) Post)
    walk fn small =
        qed 𝓛 ((‵ (flft κ q) ⊛ ‵ (flft κT qT) ⊛ ‵ (flft κN qN) ⊛ ‵ ftrue)
        ∷ ‵ (owns (MutRef (named 0) κ (Run X n)
        ∷ []) (self, tt) (mut_vals self, tt)) ∷ []) ∵ enter ! C Λ (function X n) (vptr rb ro ∷ []) _ $
        alloc_all ! (λ l. pass_all ! refl ((tt, tt), tt) $
        move ! (1 ∷ []) $ fsplit ! $ move ! (2 ∷ []) $ split3 ! $ move ! (3 ∷ 0 ∷ []) $
        -- [the reference; its token; the other tokens]
        sets ! (addr ! (through ! refl (stop !))) refl (tt, tt) $
        sets ! (agg ! (and_then ! (get ! refl) (and_then ! (num_lit ! (record { fits = fn })) (no_more !))))
        refl (tt, (tt, (record { fits = fn }, tt))) $
        use2 𝓛 (later (some (elements_lent 𝓛 (named 0) κ q rb ro γ (R X n) tt n xs (refilled xs) (refilled_same xs))))
        (lends_elements 𝓛 (named 0) κ q rb ro γ (R X n) tt n xs
        (refilled xs) (refilled_same xs) (fn, small) (mut_vals self)) $ await ! tt $
        pick ! (λ δ. learn ! (λ long. split3 ! $
        returns ! (look_at ! 0 refl) $ free_all ! refl $ keep ! (0 ∷ 1 ∷ 2 ∷ 3 ∷ 4 ∷ []) $
        rewrite ! 0 (λ (k : ℕ). ‵ ((MutSlice (named 0) κ (R X n)).own_val (renamed self δ) (slice_val (rb, ro) k ∷ []))) long refl $
        suffices ! _ (ends_at 𝓛 (ended X n) (stayed X n) clauses bound (slice_val (rb, ro) n) (renamed self δ) (tt, tt) (tt, tt)) $
        nothing ! $ nothing ! $ fjoin ! $ join ! $ move ! (3 ∷ 4 ∷ []) $ join ! $
        move ! (2 ∷ 0 ∷ 1 ∷ []) $ join ! $ join ! $ frame ! $
        says ! refl $ done !)))

  meets : n < 2 ^ 64 → (𝓣 : Tables 𝓤 H)
      → Meets 𝓛 (ended X n).signature (WpFn 𝓤 H 𝓣.C 𝓣.Λ (function X n)) (closing 𝓛 (ended X n) clauses)
  meets fn 𝓣 =
      walk_Meets 𝓛 (ended X n) (stayed X n) (
        Goes-spent_ref 𝓛 3 (0 ∷ []) tt (plain (λ _. Run X n)),
        tt,
      ) clauses (WpFn 𝓤 H 𝓣.C 𝓣.Λ (function X n)) (WpFn-mono 𝓤 H 𝓛.laws 𝓣 (function X n))
      (walked 𝓛 (ended X n) (stayed X n) clauses (WpFn 𝓤 H 𝓣.C 𝓣.Λ (function X n))
      (λ κs. (mut_vals, tt))
      (λ κs. (mut_Tells (named 0) κs.0 (Run X n), tt))
      (λ κs qs bounds a g are.
      let On : SProp 𝓤 = on_entry 𝓛 (ended X n).signature κs qs a (mut_vals a.0, tt) in
      qed 𝓛 (raw On ∷ (given (κs.1.0 ⊑ X.lives) (‵ ftrue) ⊛ given (κs.1.1.0 ⊑ []) (‵ ftrue)
      ⊛ given (n * size (layout X) < 2 ^ 63) (‵ ftrue) ⊛ ‵ ftrue) ∷ []) ∵
      move ! (1 ∷ []) $ split3 ! $ drop ! $ drop ! $ split ! $ learn ! (λ small. keep ! (2 ∷ []) $
      by ! (walk 𝓣.C 𝓣.Λ κs.0 κs.1.0 κs.1.1.0 qs.0 qs.1.0 qs.1.1.0 bounds
      a.0.ref_ptr.0 a.0.ref_ptr.1 a.0.ghost_name a.0.now fn small))))

pub words_mut_spec : {M : Type 1} → stated.statement M
unfolding tables_of
words_mut_spec 𝓤 𝓛 𝓜 𝓡 wired X n L fits =
    let 𝓣 : Tables 𝓤 𝓛.H = tables_of 𝓤 𝓛.H 𝓜 (tables 𝓤 𝓛.H 𝓜 𝓡 𝓡.env) in
    entered 𝓤 𝓛.H (triple_of 𝓛 (ended X n).signature (F.spec X (number n) 𝓛 𝓜.mem 𝓡.returns))
    𝓣.C 𝓣.Λ (#self (args X n)) (function X n)
    (code.unfolded 𝓤 𝓛.H 𝓜 𝓡 wired (X, (number n, tt)))
    (meets X n 𝓛 𝓜.mem 𝓡.returns fits.fits 𝓣)
