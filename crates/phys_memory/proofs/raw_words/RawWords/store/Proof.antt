-- `store` meets its contract. Assumes `Logic`.
use Rattle.std.proofs.Common.{ℕ, ◌+◌, ◌*◌, ◌^◌, ◌<◌, List, [], ◌∷◌, length, get_or, set, sym, refl, ap, ◌∙◌, subst, arith, length-set, w64}
use base.Fraction.{full_share}
use base.Logic.{id⊢}
use base.Fml.{ftrue, fat, flft, froom}
use mir.Syntax.{ty_int, named}
use mir.Val.{Val, vunit, vint}
use contract.Monad.{fact}
use contract.Running.{tables}
use types.Kit.{‵, raw, ◌⊛◌, at_ret, ◌$◌, ◌∵◌, !, qed, move, keep, use1, use2, split, join, fsplit, fsplit3, fjoin, feq_i, flt_l, flt_i, rewrite, suffices, frame, group, done}
use types.Part.{whole, sub, look_in}
use types.Run.{store, stop, fld, load, lit, unit_lit, of_opd, bin, assigns_last, first, blocks, exec, returns, enter}
use types.ByLocal.{alloc_all, pass_all, free_all, look_at, get, through, sets, env}
use denote.Builtin.{u64, usize}
use denote.Exit.{yes}
use denote.Index.{row}
use denote.Laws.{shows}
use denote.Memory.{cell_at}
use denote.Plain.{uint_vals, uint_Tells}
use denote.RattleType.{owns}
use denote.RawPtr.{Ptr, in_a_block}
use denote.Ref.{MutRef, mut_vals, mut_Tells}
use denote.Signature.{plain}
use denote.Steps.{nothing, opens, closes, peeks, heard}
use denote.Triple.Walked.{Stays, walk_of, stay_dropped, stay_ref, Goes-dropped, Goes-ref, ends_at}
use Rattle.std.proofs.mem.Facts.{says_two}
use Rattle.std.proofs.raw_atomic.Walks.{proved}
use Rattle.std.proofs.VecSteps.Shapes.{after}
use Rattle.phys_memory.specs.RawWords.{block_type, words_owned}
use Rattle.phys_memory.proofs.Rows.{besides, word_out, word_in}
use Rattle.phys_memory.specs.contracts.raw_words.RawWords.{the_row as R}
use Rattle.phys_memory.proofs.raw_words.RawWords.TheLaws.{lowers}
use Rattle.phys_memory.specs.contracts.raw_words.RawWords.store as f
use Rattle.phys_memory.proofs.raw_words.RawWords.store.Statement.{statement}
use Rattle.phys_memory.proofs.raw_words.RawWords.store.Code as code

abbrev stayed : Stays f.ended.signature.params f.ended.kept
stayed = (stay_ref (0 ∷ []) tt (plain (λ _. R)), (stay_dropped (plain (λ _. usize)) yes, (stay_dropped (plain (λ _. u64)) yes, tt)))

pub store_spec : {M : Type 1} → statement M
store_spec 𝓤 𝓛 𝓜 𝓡 wired =
    let c = f.clauses 𝓛 𝓜.mem 𝓡.returns in let W = walk_of 𝓛 f.ended stayed c in let 𝓣 = tables 𝓤 𝓛.H 𝓜 𝓡 𝓡.env in
    proved 𝓛 f.ended stayed c 𝓜 𝓡 (Goes-ref 𝓛 1 0 tt (plain (λ _. R)), (Goes-dropped 𝓛 1 (plain (λ _. usize)) yes (λ κs x f. refl), (Goes-dropped 𝓛 1 (plain (λ _. u64)) yes (λ κs x f. refl), tt)))
    f.Key.name code.function (code.unfolded 𝓤 𝓛.H 𝓜 𝓡 wired)
    (λ κs. (mut_vals, (uint_vals w64, (uint_vals w64, tt)))) (λ κs. (mut_Tells (named 0) κs.0 R, (uint_Tells w64, (uint_Tells w64, tt)))) (λ κs qs bounds a _ are.
    let rb = a.0.ref_ptr.0 in let ro = a.0.ref_ptr.1 in let h = a.0.now in let vs = mut_vals a.0 in let i = a.1.0 in let v = a.1.1.0 in
    let new = set h.words i v in
    let y : W.Ghost = ((κs, qs, bounds, a, (vs, (uint_vals w64 i, (uint_vals w64 v, tt)))), tt) in
    qed 𝓛 (((‵ (flft κs.0 qs.0) ⊛ ‵ ftrue) ⊛ ‵ (owns (MutRef (named 0) κs.0 R ∷ usize ∷ u64 ∷ []) a y.0.4)) ∷ raw (fact 𝓤 (i < length h.words)) ∷ []) ∵
    move ! (1 ∷ []) $ heard ! (i < length h.words) (λ inside.
    split ! $ split ! $ move ! (2 ∷ []) $ fsplit ! $ keep ! (0 ∷ 2 ∷ []) $
    enter ! _ _ _ _ _ $ alloc_all ! (λ l. pass_all ! refl ((tt, tt), ((tt, record { fits = are.1.0.1 }), ((tt, record { fits = are.1.1.0.1 }), tt))) $
    fsplit3 ! $ move ! (1 ∷ 2 ∷ 3 ∷ []) $ opens ! tt R rb ro (λ us.
    move ! (1 ∷ []) $ peeks ! R _ (shows 𝓛 R) h us (λ is. fsplit ! $ move ! (1 ∷ []) $
    in_a_block ! h.ptr (λ p. words_owned p h.words h.left) (id⊢ 𝓤 _) (λ b o e. fsplit ! $ flt_l ! (λ small. fsplit ! $
    let far : i * 8 < 2 ^ 64 = omega arith in
    let word = lowers.val_is h us is ∙ ap (λ (p : Ptr). lowers.lowered (record h { ptr = p }) ∷ []) e in
    let Cell = λ (ws : List Val). ‵ (cell_at full_share R.mir ws rb ro) in
    use1 𝓛 (‵ (fat full_share (ty_int w64) b (i * 8 + o) (vint w64 (get_or h.words i 0))) ⊛ ‵ (besides 𝓛 b o h.words i)) (word_out 𝓛 b o h.words i inside) $ split ! $
    rewrite ! 4 Cell word refl $
    -- [the word; the others; the room; what the fields own; the struct's cell; the open borrow, in three entries]
    first ! $ blocks ! $
    sets ! (of_opd ! (load ! (through ! refl (fld ! refl (stop !))) (look_in ! 4 (sub ! 0 refl (whole !))))) refl (tt, tt) $
    sets ! (bin ! (get ! refl) (lit ! tt) (record { fits = far })) refl (tt, record { fits = far }) $
    sets ! (bin ! (get ! refl) (get ! refl) tt) refl (tt, tt) $
    assigns_last ! (of_opd ! (get ! refl)) (through ! refl (stop !)) (store ! 0 refl (tt, record { fits = are.1.1.0.1 })) $
    exec ! 𝓣.C 𝓣.Λ (env code.Mir.locals l) (after 1 (code.function).body) (at_ret _ (W.post y)) $
    sets ! (of_opd ! (unit_lit !)) refl (tt, tt) $
    use2 𝓛 (‵ (row u64 full_share new b o)) (word_in 𝓛 b o h.words i inside v) $
    let long = length-set h.words i v in
    move ! (1 ∷ []) $ rewrite ! 0 (λ (n : ℕ). ‵ (froom (block_type h.left) b (n * 8 + o))) (sym long) refl $ move ! (1 ∷ 0 ∷ []) $ fjoin ! $
    flt_i ! ((length new + h.left) * 8) (2 ^ 63) (subst (λ (n : ℕ). (n + h.left) * 8 < 2 ^ 63) (sym long) small) $ fjoin ! $
    rewrite ! 0 (λ (p : Ptr). ‵ (words_owned p new h.left)) (sym e) refl $ rewrite ! 2 Cell (sym word) refl $
    move ! (1 ∷ []) $ fjoin ! $ move ! (1 ∷ []) $ closes ! tt R (record h { words = new }) us rb ro $
    returns ! (look_at ! 0 refl) $ free_all ! refl $
    -- [two parts of self; the token; self's first part]
    move ! (3 ∷ []) $
    suffices ! _ (ends_at 𝓛 f.ended stayed c y vunit tt (record h { words = new }, (tt, (tt, tt))) (tt, (tt, (tt, tt)))) $ says_two ! (refl, (refl, refl)) $
    group ! 3 $ nothing ! $ nothing ! $ join ! $ nothing ! $ join ! $ move ! (1 ∷ 0 ∷ []) $ join ! $ nothing ! $ move ! (2 ∷ 0 ∷ []) $ join ! $ frame ! $ frame ! $
    feq_i ! _ (vunit ∷ []) _ refl $ done !)))))))
