-- `part_mut` lends the words from one index up to another, for every buffer. Assumes `Logic`.
use Rattle.std.proofs.raw_atomic.Walks.{proved}
use mathlib.Core.Path.{◌≡◌, refl, sym, subst, ap, ◌∙◌}
use Prim.Native.Nat.{ℕ, zero, suc, ◌+◌, ◌-◌, ◌*◌, ◌^◌, ◌<◌, ◌≤◌}
use native.Mathlib.Nat.{mul-le-mul_right, zero-mul, suc-mul}
use native.Mathlib.Omega.{arith}
use mathlib.Core.List.{List, [], ◌∷◌, ◌++◌}
use lib.ListN.{length, take, drop as drop_list, length-drop}
use mir.Syntax.{Body, named, w64, a_type, dcons, dnil, seq, assign, place, rv_opd, copy, return}
use mir.MapTy.{inst_fn}
use mir.Val.{Val, vint}
use base.Logic.{emp, id⊢}
use base.Fml.{ftrue, flft}
use prog.Memory.{size, capped}
use prog.Capped.{capped_is}
use contract.BorrowLft.{◌⊑◌}
use contract.Monad.{fact, fact_i}
use contract.Running.{tables}
use types.Kit.{‵, ◌⊛◌, raw, some, later, at_ret, ◌$◌, ◌∵◌, !, qed, move, keep, drop, split, split3, join, fsplit, fjoin, use0, use1, use2, await, pick, rewrite, suffices, frame, done}
use types.Part.{whole, sub, agg}
use types.Run.{stop, fld, hop, from, addr, bin, of_opd, and_then, no_more, first, blocks, exec, returns, enter, size_word}
use types.ByLocal.{alloc_all, pass_all, free_all, look_at, look_in_at, get, through, sets, sets_last, lands_as, env, is}
use denote.Array.{Array}
use denote.Builtin.{usize}
use denote.Exit.{yes, no}
use denote.Follow.{follows, follows_then}
use denote.Laws.{Is, shows}
use denote.Param.{param, layout, bounded}
use denote.Plain.{uint_vals, uint_Tells}
use denote.RattleType.{RattleType, owns}
use denote.Ref.{MutBor, MutRef, mut_vals, mut_Tells}
use denote.Signature.{plain, mut_ref_to}
use denote.Slice.{MutSlice, slice_val}
use denote.Steps.{nothing, heard, peeks, only}
use denote.Triple.Call.{calls_at}
use denote.Triple.Clauses.{Lasts, lasts}
use denote.Triple.Spec.{triple_of}
use denote.Triple.Table.{framed}
use denote.Triple.Walked.{says, Stays, stay_dropped, walk_of, ends_at, Goes-dropped, Goes-spent_ref}
use borrow.Table.Elements.{at, at_mul, length-take-le}
use Rattle.constriction_buffers.proofs.Relending.{part_lent, lends_part}
use Rattle.constriction_backends.specs.private.Part.{with_part}
use Rattle.constriction_backends.proofs.Parts.{cut_part}
use Rattle.constriction_buffers.specs.contracts.buf.SafeBufMut.words_mut as callee
use Rattle.constriction_backends.specs.contracts.part.part_mut as F
use Rattle.constriction_backends.specs.contracts.part.part_mut.Key.{name as #self}
use Rattle.constriction_backends.proofs.part.part_mut.Statement.{statement}
use Rattle.constriction_backends.proofs.part.part_mut.Code as code

-- if the product fits a word, the count is zero or the size fits too
uncapped : (i k : ℕ) → i * k < 2 ^ 64 → i * capped k ≡ i * k
uncapped zero k h = zero-mul (capped k) ∙ sym (zero-mul k)
uncapped (suc i) k h = let step = suc-mul i k in ap (λ (j : ℕ). suc i * j) (capped_is k (omega arith))

abbrev rest : Body
rest = seq (assign (place 0 []) (rv_opd (copy (place 7 [])))) return

pub part_mut_spec : {M : Type 1} → statement M
part_mut_spec 𝓤 𝓛 𝓜 𝓡 wired X Y LX LY gm dm g d metm met =
    let 𝓣 = tables 𝓤 𝓛.H 𝓜 𝓡 𝓡.env in
    let c = F.clauses X Y gm dm g d 𝓛 𝓜.mem 𝓡.returns in
    let En = F.ended X Y gm dm g d in
    let args = bounded (a_type ∷ a_type ∷ []) (X, (Y, tt)) (dcons dm (dcons d dnil)) in
    let fn = inst_fn args code.function in
    let R : RattleType = param 0 X in
    let B : RattleType = param 1 Y in
    let hs : Stays En.signature.params En.kept = (
      stay_dropped (mut_ref_to (0
          ∷ []) tt (plain (λ _. B))) no,
      (stay_dropped (plain (λ _. usize)) yes, (stay_dropped (plain (λ _. usize)) yes, tt)),
    ) in
    let W = walk_of 𝓛 En hs c in
    let k = triple_of 𝓛 (callee.signature Y X) (callee.spec Y X gm dm g d 𝓛 𝓜.mem 𝓡.returns) in
    proved 𝓛 En hs c 𝓜 𝓡 (
      Goes-spent_ref 𝓛 3 (0 ∷ []) tt (plain (λ _. B)),
      (
        Goes-dropped 𝓛 3 (plain (λ _. usize)) yes (λ κs x f. refl),
        (Goes-dropped 𝓛 3 (plain (λ _. usize)) yes (λ κs x f. refl), tt),
      ),
    )
    (#self args) fn (code.unfolded 𝓤 𝓛.H 𝓜 𝓡 wired (X, (Y, tt)) dm d)
    (λ κs. (mut_vals, (uint_vals w64, (uint_vals w64, tt))))
    (λ κs. (mut_Tells (named 0) κs.0 B, (uint_Tells w64, (uint_Tells w64, tt))))
    (λ κs qs bounds a _ are.
    let κ = κs.0 in let κW = κs.1.0 in let κB = κs.1.1.0 in let q = qs.0 in let qW = qs.1.0 in let qB = qs.1.1.0 in
    let self = a.0 in let m : ℕ = a.1.0 in let t : ℕ = a.1.1.0 in let old = self.now in
    let fm : m < 2 ^ 64 = are.1.0.1 in let ft : t < 2 ^ 64 = are.1.1.0.1 in
    let vss : List Val × (List Val × (List Val × Unit {0})) = (mut_vals self, (vint w64 m ∷ [], (vint w64 t ∷ [], tt))) in
    let z : W.Ghost = ((κs, qs, bounds, a, vss), tt) in
    let y : k.Ghost = (((κ, (κB, (κW, tt))), (q, (qB, (qW, tt))), (bounds.0, (bounds.1.0, tt)), (self, tt), (mut_vals self, tt)), tt) in
    qed 𝓛 (((‵ (flft κ q) ⊛ ‵ (flft κW qW) ⊛ ‵ (flft κB qB) ⊛ ‵ ftrue)
    ⊛ ‵ (owns (MutRef (named 0) κ B ∷ usize ∷ usize ∷ []) a vss)) ∷
    (raw (fact 𝓤 (κW ⊑ X.lives)) ⊛ raw (fact 𝓤 (κB ⊑ Y.lives))
    ⊛ raw (fact 𝓤 ((m ≤ t) × (t ≤ length (g.words_of old))))) ∷ []) ∵
    split ! $ move ! (2 ∷ []) $ split3 ! $ heard ! _ (λ lw. heard ! _ (λ lb. heard ! _ (λ le.
    enter ! _ _ _ _ _ $ alloc_all ! (λ l. pass_all ! refl ((tt, tt), ((tt, record { fits = fm }), ((tt, record { fits = ft }), tt))) $
    sets ! (addr ! (through ! refl (stop !))) refl (tt, tt) $
    -- the call
    split3 ! $ move ! (2 ∷ []) $ split ! $ move ! (3 ∷ 1 ∷ []) $ join ! $
    move ! (1 ∷ 0 ∷ []) $ join ! $ move ! (1 ∷ 0 ∷ []) $ join ! $
    move ! (1 ∷ []) $ fsplit ! $ nothing ! $ move ! (1 ∷ 0 ∷ []) $ fjoin ! $ move ! (2 ∷ 0 ∷ []) $ join ! $
    nothing ! $ use0 𝓛 (raw (fact 𝓤 (κW ⊑ X.lives))) (fact_i 𝓤 (κW ⊑ X.lives) (emp 𝓤) lw) $ join ! $
    use0 𝓛 (raw (fact 𝓤 (κB ⊑ Y.lives))) (fact_i 𝓤 (κB ⊑ Y.lives) (emp 𝓤) lb) $ join ! $
    move ! (1 ∷ 0 ∷ []) $ use2 𝓛 (raw (k.pre y)) (id⊢ 𝓤 _) $
    calls_at ! (framed 𝓤 𝓛.H 𝓜 𝓣) k metm.words_mut y (and_then ! (get ! refl) (no_more !)) (λ v.
    use1 𝓛 (later (some (λ (r : MutBor (List X.Denot)). ((‵ (flft κ q) ⊛ ‵ (flft κB qB) ⊛ ‵ (flft κW qW) ⊛ ‵ ftrue)
    ⊛ ‵ ((MutSlice (named 0) κ R).own_val r (v ∷ []))) ⊛
    some (λ (ls : Lasts (callee.ended Y X gm dm g d) y.0.0 y.0.3). ‵ (lasts (callee.ended Y X gm dm g d) y.0.0 y.0.3 ls)
    ⊛ (‵ (follows B (Array R 0) self.ghost_name r.ghost_name (gm.with_words old))
    ⊛ raw (fact 𝓤 (r.now ≡ g.words_of old))))))) (id⊢ 𝓤 (k.post y v)) $
    await ! tt $ pick ! (λ r. split ! $ move ! (1 ∷ []) $ pick ! (λ _. split3 ! $ drop ! $ move ! (1 ∷ []) $
    heard ! _ (λ shown. move ! (1 ∷ []) $ split ! $ move ! (1 ∷ []) $
    -- [the slice; the tokens; what the buffer follows; nothing]
    peeks ! (MutSlice (named 0) κ R) (Is (MutSlice (named 0) κ R)) (shows 𝓛 (MutSlice (named 0) κ R)) r (v ∷ []) (λ known.
    let b : ℕ = r.ref_ptr.0 in
    let o : ℕ = r.ref_ptr.1 in
    let xs : List X.Denot = r.now in
    let s : ℕ = size (layout X) in
    let mt : m ≤ t = le.0 in
    let tl : t ≤ length xs = subst (λ (ws : List X.Denot). t ≤ length ws) (sym shown) le.1 in
    let fit : length xs * s < 2 ^ 63 = known.0.1.1 in
    let within : m * s ≤ length xs * s = mul-le-mul_right s (omega arith) in
    let fs : m * s < 2 ^ 64 = omega arith in
    let fr : t - m < 2 ^ 64 = omega arith in
    let front : List X.Denot = take m xs in
    let mid : List X.Denot = take (t - m) (drop_list m xs) in
    let back : List X.Denot = drop_list t xs in
    let lf : length front ≡ m = length-take-le m xs (omega arith) in
    let lb' : length (drop_list m xs) ≡ length xs - m = length-drop m xs in
    let lm : length mid ≡ t - m = length-take-le (t - m) (drop_list m xs) (omega arith) in
    let small : length mid * s ≤ length xs * s = mul-le-mul_right s (omega arith) in
    let fn₀ : length xs < 2 ^ 64 = known.0.1.0 in
    let on : at o s (length front) ≡ m * s + o = at_mul o s (length front) ∙ ap (λ (j : ℕ). j * s + o) lf in
    let cut : xs ≡ front ++ (mid ++ back) = sym (cut_part xs m t mt tl) in
    let same : (ws : List X.Denot) → length ws ≡ length mid → with_part xs m t ws ≡ front ++ (ws ++ back) = λ ws e. refl in
    rewrite ! 0 (λ (us : List Val). ‵ ((MutSlice (named 0) κ R).own_val r us)) known.0.0 refl $
    lands_as ! (ap only known.0.0) refl (tt, (tt, (record { fits = fn₀ }, tt))) $
    sets ! (addr ! (from ! (fld ! refl (hop ! (look_in_at ! 4 (sub ! 0 refl (whole !))) (stop !))))) refl (tt, tt) $
    first ! $ blocks ! $
    sets ! (is ! (bin ! (get ! refl) (size_word !)
    (record { fits = subst (λ (j : ℕ). j < 2 ^ 64) (sym (uncapped m s fs)) fs }))
    (ap (vint w64) (uncapped m s fs)))
    refl (tt, record { fits = fs }) $
    sets ! (bin ! (get ! refl) (get ! refl) tt) refl (tt, tt) $
    sets ! (bin ! (get ! refl) (get ! refl) mt) refl (tt, record { fits = fr }) $
    sets_last ! (agg ! (and_then ! (get ! refl) (and_then ! (get ! refl) (no_more !)))) refl (tt, (tt, (record { fits = fr }, tt))) $
    exec ! 𝓣.C 𝓣.Λ (env fn.locals l) rest (at_ret _ (W.post z)) $
    sets ! (of_opd ! (get ! refl)) refl (tt, (tt, (record { fits = fr }, tt))) $
    -- the part in the place of the whole
    move ! (1 ∷ []) $ split3 ! $ move ! (3 ∷ 0 ∷ []) $
    use2 𝓛 (later (some (part_lent 𝓛 (named 0) κ q b o r.ghost_name R xs front mid back cut
    (m * s + o) on (with_part xs m t) same)))
    (lends_part 𝓛 (named 0) κ q b o r.ghost_name R xs front mid back cut
    (m * s + o) on (with_part xs m t) same (omega arith, omega arith)
    (slice_val r.ref_ptr (length xs) ∷ [])) $ await ! tt $
    pick ! (λ δ. split3 ! $
    let out : MutBor (List X.Denot) = record { ref_ptr = (b, m * s + o); ghost_name = δ; now = mid } in
    move ! (5 ∷ 2 ∷ []) $
    use2 𝓛 (‵ (follows B (Array R 0) self.ghost_name δ (λ (ws : List X.Denot). gm.with_words old (with_part xs m t ws))))
    (follows_then 𝓛 B (Array R 0) (Array R 0) (gm.with_words old) (with_part xs m t)
    self.ghost_name r.ghost_name δ) $
    rewrite ! 0 (λ (j : List X.Denot). ‵ (follows B (Array R 0) self.ghost_name δ
    (λ (ws : List X.Denot). gm.with_words old (with_part j m t ws))))
    shown refl $
    rewrite ! 1 (λ (j : ℕ). ‵ ((MutSlice (named 0) κ R).own_val out (slice_val (b, m * s + o) j ∷ []))) lm refl $
    returns ! (look_at ! 0 refl) $ free_all ! refl $ keep ! (0 ∷ 1 ∷ 2 ∷ 3 ∷ 4 ∷ []) $
    -- [what the buffer follows; the part; the tokens]
    move ! (4 ∷ []) $ split ! $ move ! (5 ∷ 1 ∷ []) $ join ! $ move ! (1 ∷ 0 ∷ []) $ join ! $ move ! (3 ∷ 0 ∷ []) $ join ! $
    suffices ! _ (ends_at 𝓛 En hs c z (slice_val (b, m * s + o) (t - m)) out (tt, (tt, (tt, tt))) (tt, (tt, (tt, tt)))) $
    nothing ! $ nothing ! $ fjoin ! $ nothing ! $ fjoin ! $ nothing ! $ fjoin ! $
    move ! (0 ∷ 3 ∷ []) $ join ! $ move ! (1 ∷ 0 ∷ []) $
    join ! $ frame ! $
    says ! (ap (λ (j : List X.Denot). take (t - m) (drop_list m j)) shown) $ done !)))))))))))
