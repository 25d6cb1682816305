-- What a `&` to raw words shows: its pointer, each word, and each run of words. Assumes `Logic`.
use Rattle.std.proofs.Common.{◌≡◌, ℕ, zero, suc, ◌+◌, ◌*◌, ◌<◌, ◌≤◌, ◌^◌, List, [], ◌∷◌, length, get_or, take, drop, sym, refl, ap, subst, ◌∙◌, arith}
use seplogic.Ra.Ura.{Ura}
use base.Logic.{ent, sep, id⊢, via, mono_r}
use base.Fml.{Lft, Share, fat, flft, fhide}
use mir.Syntax.{w64, ty_int, ty_ptr}
use mir.Val.{Val, vint, vptr}
use types.Kit.{Goal, Soaks, Step, step, Seq, Item, ‵, ◌⊛◌, ◌$◌, ◌∵◌, !, qed, by, move, keep, use1, split, rewrite, fsplit, fjoin, feq_l, feq_i, flt_l, flt_i, done}
use types.Kit.{drop as let_go}
use types.Logic.{Logic, sem}
use denote.Builtin.{u64}
use denote.Copied.{plain_Copied, uint_Copied}
use denote.Index.{place_is, place as nth}
use denote.Memory.{cell_at, part_at, hidden_shr, shared_of}
use denote.Opens.{Shut, unhide}
use denote.RawPtr.{Ptr, RawPtr, block_ptr, coded_ptr, ptr_own, rawptr_pure, ptr_val}
use denote.Slice.{elements_shared}
use denote.Steps.{looks, shuts}
use denote.Struct.Laws.{RawPtr-laws}
use denote.Struct.Lending.{lent_out}
use denote.Struct.Owning.{shape}
use denote.Struct.Struct.{Struct}
use Rattle.phys_memory.specs.RawWords.{words_lent}
use Rattle.phys_memory.specs.contracts.raw_words.RawWords as C

module _ {M : Type 1} {𝓤 : Ura M} (𝓛 : Logic 𝓤) (κ : Lft) where
  -- the pointer, and the words
  pub shown : (h : C.the_row.Denot) (b o : ℕ) → ent 𝓤 (sem 𝓛 (hidden_shr C.the_row κ h b o)) (sep 𝓤 (sem 𝓛 (hidden_shr RawPtr κ h.ptr b (o + 0))) (sem 𝓛 (words_lent h.ptr h.words h.left κ)))
  shown h b o =
      qed 𝓛 (‵ (hidden_shr C.the_row κ h b o) ∷ []) ∵
      use1 𝓛 (‵ (hidden_shr (Struct (shape C.the_type)) κ (h.ptr, tt) b o) ⊛ ‵ (fhide (words_lent h.ptr h.words h.left κ))) (lent_out 𝓛 C.struct C.the_codes C.the_heap C.the_lent κ h b o) $ split ! $
      unhide ! $ fsplit ! $ fsplit ! $ move ! (3 ∷ []) $ unhide ! $ move ! (1 ∷ 0 ∷ []) $ keep ! (0 ∷ 1 ∷ []) $ done !

  nth_seen : (b o : ℕ) (words : List ℕ) (i : ℕ) → i < length words → ent 𝓤 (sem 𝓛 (elements_shared u64 words b o κ)) (sem 𝓛 (hidden_shr u64 κ (get_or words i 0) b (nth 8 o i)))
  nth_seen b o [] i inside = absurd (omega arith)
  nth_seen b o (w ∷ words) zero inside = qed 𝓛 (‵ (shared_of u64 w b o κ) ∷ ‵ (elements_shared u64 words b (o + 8) κ) ∷ []) ∵ keep ! (0 ∷ []) $ done !
  nth_seen b o (w ∷ words) (suc i) inside = qed 𝓛 (‵ (shared_of u64 w b o κ) ∷ ‵ (elements_shared u64 words b (o + 8) κ) ∷ []) ∵ let_go ! $ by ! (nth_seen b (o + 8) words i (omega arith))

  pub word_seen : (b o : ℕ) (words : List ℕ) (i : ℕ) → i < length words → ent 𝓤 (sem 𝓛 (elements_shared u64 words b o κ)) (sem 𝓛 (hidden_shr u64 κ (get_or words i 0) b (i * 8 + o)))
  word_seen b o words i inside = subst (λ (k : ℕ). ent 𝓤 (sem 𝓛 (elements_shared u64 words b o κ)) (sem 𝓛 (hidden_shr u64 κ (get_or words i 0) b k))) (place_is 8 o i) (nth_seen b o words i inside)

  from_on : (b : ℕ) (words : List ℕ) (i o at : ℕ) → i ≤ length words → at ≡ i * 8 + o → ent 𝓤 (sem 𝓛 (elements_shared u64 words b o κ)) (sem 𝓛 (elements_shared u64 (drop i words) b at κ))
  from_on b words zero o at le e = let same : o ≡ at = omega arith in subst (λ (k : ℕ). ent 𝓤 (sem 𝓛 (elements_shared u64 words b o κ)) (sem 𝓛 (elements_shared u64 words b k κ))) same (id⊢ 𝓤 _)
  from_on b [] (suc i) o at le e = absurd (omega arith)
  from_on b (w ∷ words) (suc i) o at le e =
      qed 𝓛 (‵ (shared_of u64 w b o κ) ∷ ‵ (elements_shared u64 words b (o + 8) κ) ∷ []) ∵ let_go ! $ by ! (from_on b words i (o + 8) at (omega arith) (omega arith))

  up_to : (b : ℕ) (n : ℕ) (words : List ℕ) (o : ℕ) → ent 𝓤 (sem 𝓛 (elements_shared u64 words b o κ)) (sem 𝓛 (elements_shared u64 (take n words) b o κ))
  up_to b zero words o = qed 𝓛 (‵ (elements_shared u64 words b o κ) ∷ []) ∵ keep ! [] $ done !
  up_to b (suc n) [] o = id⊢ 𝓤 _
  up_to b (suc n) (w ∷ words) o = mono_r 𝓤 (sem 𝓛 (shared_of u64 w b o κ)) (up_to b n words (o + 8))

  pub run_seen : (b o : ℕ) (words : List ℕ) (i n : ℕ) → i ≤ length words → ent 𝓤 (sem 𝓛 (elements_shared u64 words b o κ)) (sem 𝓛 (elements_shared u64 (take n (drop i words)) b (i * 8 + o) κ))
  run_seen b o words i n le = via 𝓤 (sem 𝓛 (elements_shared u64 (drop i words) b (i * 8 + o) κ)) (from_on b words i o (i * 8 + o) le refl) (up_to b n (drop i words) (i * 8 + o))

module _ {M : Type 1} {𝓤 : Ura M} {𝓛 : Logic 𝓤} {K : Type 0} {Γ : List (Item 𝓤)} {G : Goal 𝓤 𝓛.H} where
  -- a word behind a `&` is looked at: [the word; the way back]
  pub word_in : K → Soaks G → {κ : Lft} {q : Share} (n b at : ℕ)
      → ((q' : Share) → n < 2 ^ 64 → Seq K 𝓛 (‵ (fat q' (ty_int w64) b at (vint w64 n)) ∷ Shut 𝓛 κ q (part_at u64 q' n b at) ∷ Γ) G) → Seq K 𝓛 (‵ (hidden_shr u64 κ n b at) ∷ ‵ (flft κ q) ∷ Γ) G
  word_in t z n b at k =
      looks t z u64 (uint_Copied 𝓛 w64).opens n b at (λ q' vs. move t (1 ∷ []) $ fsplit t $ feq_l t (λ e. flt_l t (λ fn.
      rewrite t 0 (λ (us : List Val). ‵ (cell_at q' u64.mir us b at)) e refl $ move t (2 ∷ []) $ let_go t $ k q' fn)))

  pub word_out : K → Soaks G → {κ : Lft} {q q' : Share} (n b at : ℕ) → n < 2 ^ 64
      → Step K 𝓛 (‵ (flft κ q) ∷ Γ) G (‵ (fat q' (ty_int w64) b at (vint w64 n)) ∷ Shut 𝓛 κ q (part_at u64 q' n b at) ∷ Γ) G
  word_out t z {q' = q'} n b at fn = step (λ s.
      flt_i t n (2 ^ 64) fn $ feq_i t (List Val) (vint w64 n ∷ []) (vint w64 n ∷ []) refl $ fjoin t $ move t (1 ∷ 0 ∷ []) $ shuts t z u64 q' n (vint w64 n ∷ []) b at $ s)

  -- the same of a pointer into a block
  pub pointer_in : K → Soaks G → {κ : Lft} {q : Share} (p : Ptr) (pb po : ℕ) → p ≡ block_ptr pb po → (b at : ℕ)
      → ((q' : Share) → Seq K 𝓛 (‵ (fat q' ty_ptr b at (vptr pb po)) ∷ Shut 𝓛 κ q (part_at RawPtr q' p b at) ∷ Γ) G) → Seq K 𝓛 (‵ (hidden_shr RawPtr κ p b at) ∷ ‵ (flft κ q) ∷ Γ) G
  pointer_in t z p pb po is b at k =
      looks t z RawPtr (plain_Copied 𝓛 Ptr coded_ptr (ty_ptr ∷ []) ptr_own rawptr_pure ptr_val RawPtr-laws.tells).opens p b at (λ q' vs. move t (1 ∷ []) $ feq_l t (λ e.
      rewrite t 0 (λ (us : List Val). ‵ (cell_at q' RawPtr.mir us b at)) (e ∙ ap (λ (r : Ptr). ptr_val r ∷ []) is) refl $ move t (2 ∷ []) $ let_go t $ k q'))

  pub pointer_out : K → Soaks G → {κ : Lft} {q q' : Share} (p : Ptr) (pb po : ℕ) → p ≡ block_ptr pb po → (b at : ℕ)
      → Step K 𝓛 (‵ (flft κ q) ∷ Γ) G (‵ (fat q' ty_ptr b at (vptr pb po)) ∷ Shut 𝓛 κ q (part_at RawPtr q' p b at) ∷ Γ) G
  pointer_out t z {q' = q'} p pb po is b at = step (λ s.
      feq_i t (List Val) (vptr pb po ∷ []) (ptr_val p ∷ []) (ap (λ (r : Ptr). ptr_val r ∷ []) (sym is)) $ move t (1 ∷ 0 ∷ []) $ shuts t z RawPtr q' p (vptr pb po ∷ []) b at $ s)
