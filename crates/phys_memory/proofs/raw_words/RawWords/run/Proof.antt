-- `run` meets its contract. Assumes `Logic`.
use Rattle.std.proofs.Common.{◌≡◌, ℕ, ◌+◌, ◌*◌, ◌^◌, ◌<◌, ◌≤◌, List, [], ◌∷◌, length, take, refl, ap, sym, arith, length-take-le, length-drop, w64}
use Rattle.std.proofs.Common.{drop as drop_l}
use base.Logic.{id⊢}
use base.Fml.{ftrue, flft}
use mir.Syntax.{named}
use mir.Val.{Val}
use contract.Monad.{fact}
use contract.Running.{tables}
use types.Kit.{‵, raw, ◌⊛◌, at_ret, ◌$◌, ◌∵◌, !, qed, move, keep, use1, split, join, fsplit, fjoin, drop, feq_i, flt_l, flt_i, suffices, done}
use types.Part.{agg}
use types.Run.{look, stop, fld, load, lit, of_opd, and_then, no_more, bin, first, blocks, exec, returns, enter}
use types.ByLocal.{alloc_all, pass_all, free_all, look_at, get, through, sets, sets_last, env}
use denote.Builtin.{u64, usize, RefOf}
use denote.Exit.{yes}
use denote.Memory.{hidden_shr}
use denote.Opens.{hide}
use denote.Plain.{uint_vals, uint_Tells}
use denote.RattleType.{owns}
use denote.RawPtr.{RawPtr, in_a_block}
use denote.Ref.{Bor, ShrRef, shr_vals, shr_Tells}
use denote.Signature.{plain}
use denote.Slice.{slice_val, elements_shared}
use denote.Steps.{nothing, heard}
use denote.Triple.Walked.{Stays, walk_of, says, stay_dropped, Goes-dropped, ends_at}
use Rattle.std.proofs.raw_atomic.Walks.{proved}
use Rattle.std.proofs.VecSteps.Shapes.{after}
use Rattle.phys_memory.specs.RawWords.{words_lent}
use Rattle.phys_memory.proofs.Lent.{shown, run_seen, pointer_in, pointer_out}
use Rattle.phys_memory.specs.contracts.raw_words.RawWords.{the_row as R}
use Rattle.phys_memory.specs.contracts.raw_words.RawWords.run as f
use Rattle.phys_memory.proofs.raw_words.RawWords.run.Statement.{statement}
use Rattle.phys_memory.proofs.raw_words.RawWords.run.Code as code

abbrev stayed : Stays f.ended.signature.params f.ended.kept
stayed = (stay_dropped (RefOf (0 ∷ []) tt (plain (λ _. R)) (λ _. tt)) yes, (stay_dropped (plain (λ _. usize)) yes, (stay_dropped (plain (λ _. usize)) yes, tt)))

pub run_spec : {M : Type 1} → statement M
run_spec 𝓤 𝓛 𝓜 𝓡 wired =
    let c = f.clauses 𝓛 𝓜.mem 𝓡.returns in let W = walk_of 𝓛 f.ended stayed c in let 𝓣 = tables 𝓤 𝓛.H 𝓜 𝓡 𝓡.env in
    let goes = Goes-dropped 𝓛 1 (plain (λ _. usize)) yes (λ κs x f. refl) in
    proved 𝓛 f.ended stayed c 𝓜 𝓡 (Goes-dropped 𝓛 1 (RefOf (0 ∷ []) tt (plain (λ _. R)) (λ _. tt)) yes (λ κs x f. refl), (goes, (goes, tt)))
    f.Key.name code.function (code.unfolded 𝓤 𝓛.H 𝓜 𝓡 wired)
    (λ κs. (shr_vals, (uint_vals w64, (uint_vals w64, tt)))) (λ κs. (shr_Tells (named 0) κs.0 R, (uint_Tells w64, (uint_Tells w64, tt)))) (λ κs qs bounds a _ are.
    let κ = κs.0 in let rb = a.0.ref_ptr.0 in let ro = a.0.ref_ptr.1 in let h = a.0.now in let from = a.1.0 in let count = a.1.1.0 in
    let words : List ℕ = take count (drop_l from h.words) in
    let y : W.Ghost = ((κs, qs, bounds, a, (shr_vals a.0, (uint_vals w64 from, (uint_vals w64 count, tt)))), tt) in
    qed 𝓛 (((‵ (flft κ qs.0) ⊛ ‵ ftrue) ⊛ ‵ (owns (ShrRef (named 0) κ R ∷ usize ∷ usize ∷ []) a y.0.4)) ∷ raw (fact 𝓤 (from + count ≤ length h.words)) ∷ []) ∵
    move ! (1 ∷ []) $ heard ! (from + count ≤ length h.words) (λ inside.
    let long : length words ≡ count = length-take-le count (drop_l from h.words) (omega (arith, length-drop from h.words)) in
    split ! $ split ! $ move ! (2 ∷ []) $ fsplit ! $ keep ! (0 ∷ 2 ∷ []) $ fsplit ! $ drop ! $
    use1 𝓛 (‵ (hidden_shr RawPtr κ h.ptr rb (ro + 0)) ⊛ ‵ (words_lent h.ptr h.words h.left κ)) (shown 𝓛 κ h rb ro) $ split ! $ move ! (1 ∷ []) $
    in_a_block ! h.ptr (λ p. words_lent p h.words h.left κ) (id⊢ 𝓤 _) (λ b o e. fsplit ! $ flt_l ! (λ small.
    let far : from * 8 < 2 ^ 64 = omega arith in
    use1 𝓛 (‵ (elements_shared u64 words b (from * 8 + o) κ)) (run_seen 𝓛 κ b o h.words from count (omega arith)) $ move ! (1 ∷ 2 ∷ []) $
    -- [the pointer; the token; the words]
    enter ! _ _ _ _ _ $ alloc_all ! (λ l. pass_all ! refl ((tt, tt), ((tt, record { fits = are.1.0.1 }), ((tt, record { fits = are.1.1.0.1 }), tt))) $
    first ! $ blocks ! $ pointer_in ! tt h.ptr b o e rb (ro + 0) (λ q'.
    sets ! (of_opd ! (load ! (through ! refl (fld ! refl (stop !))) (look ! 0 refl))) refl (tt, tt) $
    pointer_out ! tt h.ptr b o e rb (ro + 0) $
    sets ! (bin ! (get ! refl) (lit ! tt) (record { fits = far })) refl (tt, record { fits = far }) $
    sets ! (bin ! (get ! refl) (get ! refl) tt) refl (tt, tt) $
    sets_last ! (agg ! (and_then ! (get ! refl) (and_then ! (get ! refl) (no_more !)))) refl (tt, (tt, (record { fits = are.1.1.0.1 }, tt))) $
    exec ! 𝓣.C 𝓣.Λ (env code.Mir.locals l) (after 1 (code.function).body) (at_ret _ (W.post y)) $
    sets ! (of_opd ! (get ! refl)) refl (tt, (tt, (record { fits = are.1.1.0.1 }, tt))) $
    returns ! (look_at ! 0 refl) $ free_all ! refl $ move ! (1 ∷ 0 ∷ []) $ hide ! $
    let at : ℕ × ℕ = (b, from * 8 + o) in let r : Bor (List ℕ) = record { ref_ptr = at; now = words } in
    suffices ! _ (ends_at 𝓛 f.ended stayed c y (slice_val at count) r (tt, (tt, (tt, tt))) (tt, (tt, (tt, tt)))) $ says ! refl $
    flt_i ! (length words * 8) (2 ^ 63) (omega arith) $ flt_i ! (length words) (2 ^ 64) (omega arith) $ fjoin ! $
    feq_i ! (List Val) (slice_val at count ∷ []) (slice_val at (length words) ∷ []) (ap (λ k. slice_val at k ∷ []) (sym long)) $ fjoin ! $ fjoin ! $
    nothing ! $ nothing ! $ join ! $ nothing ! $ join ! $ nothing ! $ join ! $ nothing ! $ move ! (3 ∷ 0 ∷ []) $ join ! $ done !))))))
