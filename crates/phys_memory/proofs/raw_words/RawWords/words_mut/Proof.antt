-- `words_mut` lends the words, and the owner follows them. Assumes `Logic`.
use Rattle.std.proofs.Common.{◌≡◌, ℕ, ◌+◌, ◌*◌, ◌^◌, ◌<◌, List, [], ◌∷◌, length, drop, sym, refl, ap, ◌∙◌, subst, arith, w64, MutBor}
use lib.Seq.{take_at}
use seplogic.Ra.Ura.{Ura}
use base.Fraction.{full_share}
use base.Logic.{ent, sep, id⊢}
use base.Fml.{Fml, GName, ftrue, fsep, flft, froom}
use mir.Syntax.{named}
use mir.Val.{Val}
use contract.Monad.{fact}
use contract.Running.{tables}
use types.Kit.{‵, raw, ◌⊛◌, some, later, await, pick, at_ret, ◌$◌, ◌∵◌, !, qed, move, keep, use1, split, split3, join, group, fsplit, fsplit3, fjoin, fjoin3, fpack, flt_l, flt_i, rewrite, suffices, frame, done}
use types.Logic.{Logic, sem}
use types.Part.{whole, sub, look_in, agg}
use types.Run.{stop, fld, load, of_opd, and_then, no_more, first, blocks, exec, returns, enter}
use types.ByLocal.{alloc_all, pass_all, free_all, look_at, get, through, sets, sets_last, env}
use types.SemTy.{cells}
use denote.Array.{Array}
use denote.Builtin.{u64, usize}
use denote.Follow.{follows}
use denote.FollowSlice.{Elements, lends_Elements}
use denote.Index.{row, whole_in, whole_out}
use denote.Laws.{shows}
use denote.Memory.{mem, cell_at, part_of}
use denote.Plain.{uint_vals, uint_Tells}
use denote.RattleType.{owns}
use denote.RawPtr.{Ptr, block_ptr, in_a_block}
use denote.Ref.{MutRef, mut_vals, mut_Tells}
use denote.Signature.{plain, mut_ref_to}
use denote.Slice.{MutSlice, Room, slice_val}
use denote.Steps.{nothing, opens, peeks, heard}
use denote.Struct.Owning.{shape}
use denote.Struct.Struct.{Struct}
use denote.Triple.Walked.{Stays, walk_of, says, stay_dropped, Goes-dropped, Goes-spent_ref, ends_at}
use Rattle.std.proofs.raw_atomic.Walks.{proved}
use Rattle.std.proofs.VecSteps.Shapes.{after}
use Rattle.std.specs.List.{refill}
use Rattle.phys_memory.specs.RawWords.{block_type, words_owned}
use Rattle.phys_memory.specs.WordsLent.{with_words}
use Rattle.phys_memory.specs.contracts.raw_words.RawWords as C
use Rattle.phys_memory.specs.contracts.raw_words.RawWords.{the_row as R}
use Rattle.phys_memory.proofs.raw_words.RawWords.TheLaws.{lowers}
use Rattle.phys_memory.specs.contracts.raw_words.RawWords.words_mut as f
use Rattle.phys_memory.proofs.raw_words.RawWords.words_mut.Statement.{statement}
use Rattle.phys_memory.proofs.raw_words.RawWords.words_mut.Code as code

abbrev stayed : Stays f.ended.signature.params f.ended.kept
stayed = (stay_dropped (mut_ref_to (0 ∷ []) tt (plain (λ _. R))) f.ended.kept.0, (stay_dropped (plain (λ _. usize)) f.ended.kept.1.0, tt))

module _ {M : Type 1} {𝓤 : Ura M} (𝓛 : Logic 𝓤) (h : R.Denot) (us : List Val) (rb ro b o : ℕ) where
  -- the owner, but for the words
  abbrev Rest : Fml
  Rest = fsep (froom (block_type h.left) b (length h.words * 8 + o)) (fsep ((Struct (shape C.the_type)).own_val (h.ptr, tt) us) (cell_at full_share R.mir us rb ro))

  -- what it is where these words were written last
  abbrev new : List ℕ → R.Denot
  new ws = with_words h (refill (length h.words) h.words ws)

  back : h.ptr ≡ block_ptr b o → (length h.words + h.left) * 8 < 2 ^ 63 → (ws : List ℕ) → length ws ≡ length h.words
      → ent 𝓤 (sep 𝓤 (sem 𝓛 (cells (mem u64) ws b o)) (sem 𝓛 Rest)) (sem 𝓛 ((mem R).own_at (new ws) rb ro))
  unfolding part_of
  back e small ws same =
      let all : (new ws).words ≡ ws = take_at ws (drop (length ws) h.words) (length h.words) same in
      qed 𝓛 (‵ (cells (mem u64) ws b o) ∷ ‵ Rest ∷ []) ∵ use1 𝓛 (‵ (row u64 full_share ws b o)) (whole_out 𝓛 u64 ws b o) $
      rewrite ! 0 (λ (l : List ℕ). ‵ (row u64 full_share l b o)) (sym all) refl $
      let long = ap length all ∙ same in
      move ! (1 ∷ []) $ fsplit3 ! $ rewrite ! 0 (λ (n : ℕ). ‵ (froom (block_type h.left) b (n * 8 + o))) (sym long) refl $ move ! (3 ∷ 0 ∷ []) $ fjoin ! $
      flt_i ! ((length (new ws).words + h.left) * 8) (2 ^ 63) (subst (λ (n : ℕ). (n + h.left) * 8 < 2 ^ 63) (sym long) small) $ fjoin ! $
      rewrite ! 0 (λ (p : Ptr). ‵ (words_owned p (new ws).words h.left)) (sym e) refl $ move ! (1 ∷ 0 ∷ []) $ fjoin ! $ move ! (1 ∷ 0 ∷ []) $ fjoin ! $
      fpack ! (List Val) (λ ts. fsep (cell_at full_share R.mir ts rb ro) (R.own_val (new ws) ts)) us $ done !

pub words_mut_spec : {M : Type 1} → statement M
words_mut_spec 𝓤 𝓛 𝓜 𝓡 wired =
    let c = f.clauses 𝓛 𝓜.mem 𝓡.returns in let W = walk_of 𝓛 f.ended stayed c in let 𝓣 = tables 𝓤 𝓛.H 𝓜 𝓡 𝓡.env in
    proved 𝓛 f.ended stayed c 𝓜 𝓡 (Goes-spent_ref 𝓛 1 (0 ∷ []) tt (plain (λ _. R)), (Goes-dropped 𝓛 1 (plain (λ _. usize)) f.ended.kept.1.0 (λ κs x f. refl), tt))
    f.Key.name code.function (code.unfolded 𝓤 𝓛.H 𝓜 𝓡 wired)
    (λ κs. (mut_vals, (uint_vals w64, tt))) (λ κs. (mut_Tells (named 0) κs.0 R, (uint_Tells w64, tt))) (λ κs qs bounds a _ are.
    let κ = κs.0 in let q = qs.0 in let γ = a.0.ghost_name in
    let rb = a.0.ref_ptr.0 in let ro = a.0.ref_ptr.1 in let h = a.0.now in let vs = mut_vals a.0 in let count = a.1.0 in let xs = h.words in
    let y : W.Ghost = ((κs, qs, bounds, a, (vs, (uint_vals w64 count, tt))), tt) in
    qed 𝓛 (((‵ (flft κ q) ⊛ ‵ ftrue) ⊛ ‵ (owns (MutRef (named 0) κ R ∷ usize ∷ []) a y.0.4)) ∷ raw (fact 𝓤 (count ≡ length xs)) ∷ []) ∵
    move ! (1 ∷ []) $ heard ! (count ≡ length xs) (λ counted.
    split ! $ split ! $ move ! (2 ∷ []) $ fsplit ! $ keep ! (0 ∷ 2 ∷ []) $
    enter ! _ _ _ _ _ $ alloc_all ! (λ l. pass_all ! refl ((tt, tt), ((tt, record { fits = are.1.0.1 }), tt)) $
    fsplit3 ! $ move ! (1 ∷ 2 ∷ 3 ∷ []) $ opens ! tt R rb ro (λ us.
    move ! (1 ∷ []) $ peeks ! R _ (shows 𝓛 R) h us (λ is. fsplit ! $ move ! (1 ∷ []) $
    in_a_block ! h.ptr (λ p. words_owned p xs h.left) (id⊢ 𝓤 _) (λ b o e. fsplit ! $ flt_l ! (λ small. fsplit ! $
    let word = lowers.val_is h us is ∙ ap (λ (p : Ptr). lowers.lowered (record h { ptr = p }) ∷ []) e in
    let Cell = λ (ws : List Val). ‵ (cell_at full_share R.mir ws rb ro) in
    let way = back 𝓛 h us rb ro b o e small in
    let room : Room u64 (length xs) = (omega arith, omega arith) in
    rewrite ! 3 Cell word refl $
    -- [the words; the room; what the fields own; the struct's cell; the open borrow, in three entries]
    first ! $ blocks ! $
    sets ! (of_opd ! (load ! (through ! refl (fld ! refl (stop !))) (look_in ! 3 (sub ! 0 refl (whole !))))) refl (tt, tt) $
    sets_last ! (agg ! (and_then ! (get ! refl) (and_then ! (get ! refl) (no_more !)))) refl (tt, (tt, (record { fits = are.1.0.1 }, tt))) $
    exec ! 𝓣.C 𝓣.Λ (env code.Mir.locals l) (after 1 (code.function).body) (at_ret _ (W.post y)) $
    sets ! (of_opd ! (get ! refl)) refl (tt, (tt, (record { fits = are.1.0.1 }, tt))) $
    rewrite ! 3 Cell (sym word) refl $
    use1 𝓛 (‵ (cells (mem u64) xs b o)) (whole_in 𝓛 u64 xs b o) $ move ! (1 ∷ 2 ∷ 3 ∷ []) $ fjoin3 ! $ move ! (2 ∷ 3 ∷ 4 ∷ 1 ∷ 0 ∷ []) $ group ! 5 $
    use1 𝓛 (later (some (λ (δ : GName). raw (Elements 𝓛 R u64 (new 𝓛 h us rb ro b o) (named 0) κ q rb ro b o γ xs room (sem 𝓛 (Rest 𝓛 h us rb ro b o)) way δ))))
    (lends_Elements 𝓛 R u64 (new 𝓛 h us rb ro b o) (named 0) κ q rb ro b o γ xs room (sem 𝓛 (Rest 𝓛 h us rb ro b o)) way (R.coded.code h) (R.coded.code h)) $ await ! tt $ pick ! (λ δ.
    let r : MutBor (List ℕ) = record { ref_ptr = (b, o); ghost_name = δ; now = xs } in
    returns ! (look_at ! 0 refl) $ free_all ! refl $ keep ! (0 ∷ []) $
    use1 𝓛 (‵ ((MutSlice (named 0) κ u64).own_val r (slice_val (b, o) (length xs) ∷ [])) ⊛ ‵ (flft κ q) ⊛ ‵ (follows R (Array u64 0) γ δ (new 𝓛 h us rb ro b o))) (id⊢ 𝓤 _) $ split3 ! $
    rewrite ! 0 (λ (k : ℕ). ‵ ((MutSlice (named 0) κ u64).own_val r (slice_val (b, o) k ∷ []))) (sym counted) refl $
    suffices ! _ (ends_at 𝓛 f.ended stayed c y (slice_val (b, o) count) r (tt, (tt, tt)) (tt, (tt, tt))) $
    nothing ! $ nothing ! $ fjoin ! $ nothing ! $ fjoin ! $ join ! $ nothing ! $ move ! (2 ∷ 0 ∷ []) $ join ! $ join ! $ frame ! $ says ! refl $ done !))))))))
