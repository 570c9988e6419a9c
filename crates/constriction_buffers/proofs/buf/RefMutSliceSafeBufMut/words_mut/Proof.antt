-- `words_mut` of a `&mut [Word]` lends its words, for every Word. Assumes `Logic`.
use mathlib.Core.Path.{◌≡◌, refl, sym, ◌∙◌}
use Prim.Native.Nat.{ℕ}
use mathlib.Core.List.{List, [], ◌∷◌, ◌++◌}
use lib.ListN.{length}
use seplogic.Ra.Ura.{Ura}
use base.Fraction.{full_share}
use mir.Syntax.{Args, Fn, Ty, named, erased, mut, a_type, ty_ref, ty_param}
use mir.MapTy.{inst_fn}
use mir.Raw.{raw as bare}
use mir.Val.{Val, vptr}
use base.Logic.{SProp, ent}
use base.Fml.{Lft, GName, Share, ftrue, flft, fat}
use prog.Memory.{Memory}
use prog.Routine.{Routine}
use prog.Wp.{Calls, Loops, WpFn, Tables}
use types.Logic.{Logic}
use contract.BorrowLft.{◌⊑◌}
use contract.Lifetimes.{AllOutlive}
use contract.Monad.{Fun}
use contract.Running.{tables, tables_of}
use sound.WpLaws.{WpFn-mono}
use types.Kit.{‵, ◌⊛◌, raw, given, some, later, ◌$◌, ◌∵◌, !, qed, by, move, keep, drop, split3, join, fsplit, fsplit3, fjoin, use1, use2, use3, await, pick, rewrite, suffices, frame, done}
use types.Part.{whole, sub, look_in, agg}
use types.Run.{stop, fld, hop, addr, load, of_opd, and_then, no_more, returns, enter}
use types.ByLocal.{alloc_all, pass_all, free_all, look_at, get, through, sets}
use denote.Array.{Array}
use denote.Exit.{no}
use denote.Follow.{follows, follows_then}
use denote.Laws.{Is, shows}
use denote.Memory.{cell_at}
use denote.Param.{param, layouts}
use denote.RattleType.{RattleType, owns}
use denote.Ref.{MutBor, MutRef, at_last, mut_vals, mut_Tells}
use denote.Signature.{plain, mut_ref_to, mut_slice_of}
use denote.Slice.{MutSlice, slice_ty, slice_val, mut_slice_vals}
use denote.Steps.{nothing, opens, closes, peeks}
use denote.Through.{renamed, lends_inner_slice}
use denote.Triple.Clauses.{Clauses, Ended, closing}
use denote.Triple.Entry.{on_entry}
use denote.Triple.Spec.{Meets, triple_of}
use denote.Triple.Table.{entered}
use denote.Triple.Walked.{says, Stays, stay_dropped, walk_of, ends_at, walked, Goes-spent_ref, walk_Meets}
use Rattle.std.proofs.Common.{append-nil}
use Rattle.constriction_buffers.proofs.Relending.{part_lent, lends_part}
use Rattle.constriction_buffers.specs.Buffer.{refilled}
use Rattle.constriction_buffers.specs.lemmas.Buffer.{refilled_same}
use Rattle.constriction_buffers.specs.contracts.buf.RefMutSliceSafeBufMut.words_mut as F
use Rattle.constriction_buffers.specs.contracts.buf.RefMutSliceSafeBufMut.words_mut.Key.{name as #self}
use Rattle.constriction_buffers.proofs.buf.RefMutSliceSafeBufMut.words_mut.Statement as stated
use Rattle.constriction_buffers.proofs.buf.RefMutSliceSafeBufMut.words_mut.Code as code

module _ (X : RattleType) where
  abbrev args : Args
  args = layouts (a_type ∷ []) (X, tt)

  abbrev function : Fn
  function = inst_fn args code.function

  abbrev R : RattleType
  R = param 0 X

  abbrev ended : Ended
  ended = F.ended X

  abbrev stayed : Stays ended.signature.params ended.kept
  stayed = (stay_dropped (mut_ref_to (0 ∷ []) tt (mut_slice_of (1 ∷ []) tt (plain (λ _. R)))) no, tt)

abbrev written : Ty
written = slice_ty (ty_ref erased mut (ty_param 0))

module _ (X : RattleType) {M : Type 1} {𝓤 : Ura M} (𝓛 : Logic 𝓤)
    (at_mem : Memory → SProp 𝓤) (run : Routine → Fun 𝓤) where
  open 𝓛 use {H}

  abbrev clauses : Clauses 𝓤 (ended X)
  clauses = F.clauses X 𝓛 at_mem run

  module _ (C : Calls 𝓤 H) (Λ : Loops 𝓤 H) (κ κ' κT : Lft) (q q' qT : Share)
      (bd : AllOutlive 3 (ended X).signature.outlives (κ, (κ', (κT, tt))))
      (rb ro : ℕ) (γ : GName) (h : MutBor (List (R X).Denot)) where
    abbrev Sl : RattleType
    Sl = MutSlice (named 1) κ' (R X)

    abbrev self : MutBor (MutBor (List (R X).Denot))
    self = record { ref_ptr = (rb, ro); ghost_name = γ; now = h }

    abbrev bound : (walk_of 𝓛 (ended X) (stayed X) clauses).Ghost
    bound = (((κ, (κ', (κT, tt))), (q, (q', (qT, tt))), bd, (self, tt), (mut_vals self, tt)), tt)

    abbrev Post : Val → SProp 𝓤
    Post = (walk_of 𝓛 (ended X) (stayed X) clauses).post bound

    walk : ent 𝓤 (on_entry 𝓛 (ended X).signature (κ, (κ', (κT, tt))) (q, (q', (qT, tt)))
        (self, tt) (mut_vals self, tt))
        (WpFn 𝓤 H C Λ (function X) (vptr rb ro ∷ []) Post)
    walk =
        let n : ℕ = length h.now in
        let word : Val = slice_val h.ref_ptr n in
        let xs : List (R X).Denot = h.now in
        let cut : xs ≡ [] ++ (xs ++ []) = sym (append-nil xs) in
        let same : (ws : List (R X).Denot) → length ws ≡ length xs → refilled xs ws ≡ [] ++ (ws ++ []) =
        λ ws e. refilled_same xs ws e
        ∙ sym (append-nil ws) in
        qed 𝓛 ((‵ (flft κ q) ⊛ ‵ (flft κ' q') ⊛ ‵ (flft κT qT) ⊛ ‵ ftrue) ∷ ‵ (owns (MutRef (named 0) κ Sl
        ∷ []) (self, tt) (mut_vals self, tt)) ∷ []) ∵ enter ! C Λ (function X) (vptr rb ro ∷ []) _ $
        alloc_all ! (λ l. pass_all ! refl ((tt, tt), tt) $
        move ! (1 ∷ []) $ fsplit ! $ fsplit3 ! $ drop ! $ move ! (3 ∷ []) $ split3 ! $ move ! (3 ∷ 4 ∷ 0 ∷ []) $
        opens ! tt Sl {h = h} rb ro (λ vs. move ! (1 ∷ []) $
        peeks ! Sl (Is Sl) (shows 𝓛 Sl) h vs (λ known.
        rewrite ! 0 (λ (us : List Val). ‵ (Sl.own_val h us)) known.0.0 refl $
        rewrite ! 1 (λ (us : List Val). ‵ (cell_at full_share Sl.mir us rb ro)) known.0.0 refl $ move ! (1 ∷ []) $
        -- [the word; the slice; the open borrow; obs γ; auth γ; the tokens]
        use1 𝓛 (‵ (fat full_share written rb ro word)) (𝓛.laws.raw_at full_share written rb ro word) $
        sets ! (of_opd ! (load ! (through ! refl (fld ! refl (stop !))) (look_in ! 0 (sub ! 1 refl (whole !)))))
        refl (tt, record { fits = known.0.1.0 }) $
        sets ! (addr ! (through ! refl (fld ! refl (hop ! (look_in ! 0 (sub ! 0 refl (whole !))) (stop !))))) refl (tt, tt) $
        sets ! (agg ! (and_then ! (get ! refl) (and_then ! (get ! refl) (no_more !))))
        refl (tt, (tt, (record { fits = known.0.1.0 }, tt))) $
        use1 𝓛 (‵ (fat full_share (bare written) rb ro word)) (𝓛.laws.at_raw full_share written rb ro word) $
        closes ! tt Sl h (word ∷ []) rb ro $
        use3 𝓛 (later (some (λ (δ : GName). ‵ ((MutSlice (named 0) κ (R X)).own_val (renamed h δ) (mut_slice_vals h))
        ⊛ ‵ (flft κ q)
        ⊛ ‵ (follows Sl (Array (R X) 0) γ δ (at_last h)))))
        (lends_inner_slice 𝓛 (R X) (named 0) (named 1) κ κ' self bd.0 known.0.1 q) $ await ! tt $ pick ! (λ δ'. split3 ! $
        use2 𝓛 (later (some (part_lent 𝓛 (named 0) κ q h.ref_ptr.0 h.ref_ptr.1 δ' (R X) xs [] xs []
        cut h.ref_ptr.1 refl (refilled xs) same)))
        (lends_part 𝓛 (named 0) κ q h.ref_ptr.0 h.ref_ptr.1 δ' (R X) xs [] xs []
        cut h.ref_ptr.1 refl (refilled xs) same known.0.1 (mut_slice_vals h)) $ await ! tt $
        pick ! (λ δ. split3 ! $
        move ! (3 ∷ 2 ∷ []) $
        use2 𝓛 (‵ (follows Sl (Array (R X) 0) γ δ (λ w. at_last h (refilled xs w))))
        (follows_then 𝓛 Sl (Array (R X) 0) (Array (R X) 0) (at_last h) (refilled xs) γ δ' δ) $
        move ! (1 ∷ 2 ∷ 0 ∷ []) $
        returns ! (look_at ! 0 refl) $ free_all ! refl $ keep ! (0 ∷ 1 ∷ 2 ∷ 3 ∷ 4 ∷ []) $
        suffices ! _ (ends_at 𝓛 (ended X) (stayed X) clauses bound word (renamed h δ) (tt, tt) (tt, tt)) $
        nothing ! $ nothing ! $ fjoin ! $ join ! $ move ! (3 ∷ 4 ∷ []) $ join ! $
        move ! (2 ∷ 0 ∷ 1 ∷ []) $ join ! $ join ! $ frame ! $
        says ! refl $ done !)))))

  meets : (𝓣 : Tables 𝓤 H)
      → Meets 𝓛 (ended X).signature (WpFn 𝓤 H 𝓣.C 𝓣.Λ (function X)) (closing 𝓛 (ended X) clauses)
  meets 𝓣 =
      walk_Meets 𝓛 (ended X) (stayed X) (
        Goes-spent_ref 𝓛 3 (0 ∷ []) tt (mut_slice_of (1
            ∷ []) tt (plain (λ _. R X))),
        tt,
      ) clauses (WpFn 𝓤 H 𝓣.C 𝓣.Λ (function X)) (WpFn-mono 𝓤 H 𝓛.laws 𝓣 (function X))
      (walked 𝓛 (ended X) (stayed X) clauses (WpFn 𝓤 H 𝓣.C 𝓣.Λ (function X))
      (λ κs. (mut_vals, tt))
      (λ κs. (mut_Tells (named 0) κs.0 (MutSlice (named 1) κs.1.0 (R X)), tt))
      (λ κs qs bounds a g are.
      let On : SProp 𝓤 = on_entry 𝓛 (ended X).signature κs qs a (mut_vals a.0, tt) in
      qed 𝓛 (raw On ∷ (given (κs.1.1.0 ⊑ X.lives) (‵ ftrue) ⊛ ‵ ftrue) ∷ []) ∵
      keep ! (0 ∷ []) $
      by ! (walk 𝓣.C 𝓣.Λ κs.0 κs.1.0 κs.1.1.0 qs.0 qs.1.0 qs.1.1.0 bounds a.0.ref_ptr.0 a.0.ref_ptr.1 a.0.ghost_name a.0.now)))

pub words_mut_spec : {M : Type 1} → stated.statement M
unfolding tables_of
words_mut_spec 𝓤 𝓛 𝓜 𝓡 wired X L =
    let 𝓣 : Tables 𝓤 𝓛.H = tables_of 𝓤 𝓛.H 𝓜 (tables 𝓤 𝓛.H 𝓜 𝓡 𝓡.env) in
    entered 𝓤 𝓛.H (triple_of 𝓛 (ended X).signature (F.spec X 𝓛 𝓜.mem 𝓡.returns))
    𝓣.C 𝓣.Λ (#self (args X)) (function X)
    (code.unfolded 𝓤 𝓛.H 𝓜 𝓡 wired (X, tt))
    (meets X 𝓛 𝓜.mem 𝓡.returns 𝓣)
