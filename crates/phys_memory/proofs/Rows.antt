-- Rows of words: one word is taken out and put back, one is put behind them, and they are let go for the room that they take. Assumes `Logic`.
use Rattle.std.proofs.Common.{◌≡◌, ℕ, ◌+◌, ◌*◌, ◌<◌, List, [], ◌∷◌, ◌++◌, length, get_or, set, sym, refl, arith}
use seplogic.Ra.Ura.{Ura}
use base.Fraction.{full_share}
use base.Logic.{ent, sep}
use base.Fml.{Fml, ftrue, fat, froom}
use mir.Syntax.{w64, ty_int, ty_array}
use mir.Val.{vint}
use types.Kit.{‵, ◌⊛◌, ⋆, ◌$◌, ◌∵◌, !, qed, by, move, use1, use2, split, rewrite, fsplit, done}
use types.Logic.{Logic, sem}
use denote.Builtin.{u64}
use denote.Index.{row, others, takes, puts, place_is, place as nth}
use denote.Memory.{part_at, shares}
use denote.Plain.{uint_in, uint_out}

module _ {M : Type 1} {𝓤 : Ura M} (𝓛 : Logic 𝓤) (b o : ℕ) (words : List ℕ) (i : ℕ) where
  -- the words but for the i-th
  abbrev pub besides : Fml
  besides = others (shares u64) full_share words i b o

  pub word_out : i < length words → ent 𝓤 (⋆ 𝓛 (‵ (row u64 full_share words b o) ∷ [])) (⋆ 𝓛 (‵ (fat full_share (ty_int w64) b (i * 8 + o) (vint w64 (get_or words i 0))) ∷ ‵ besides ∷ []))
  word_out inside =
      qed 𝓛 (‵ (row u64 full_share words b o) ∷ []) ∵
      use1 𝓛 (‵ (part_at u64 full_share (get_or words i 0) b (nth 8 o i)) ⊛ ‵ besides) (takes (shares u64) full_share 𝓛 words i 0 b o inside) $ split ! $
      rewrite ! 0 (λ (k : ℕ). ‵ (part_at u64 full_share (get_or words i 0) b k)) (place_is 8 o i) refl $
      use1 𝓛 (‵ (fat full_share (ty_int w64) b (i * 8 + o) (vint w64 (get_or words i 0)))) (uint_out 𝓛 full_share w64 (get_or words i 0) b (i * 8 + o)) $ done !

  pub word_in : i < length words → (v : ℕ) → ent 𝓤 (⋆ 𝓛 (‵ (fat full_share (ty_int w64) b (i * 8 + o) (vint w64 v)) ∷ ‵ besides ∷ [])) (⋆ 𝓛 (‵ (row u64 full_share (set words i v) b o) ∷ []))
  word_in inside v =
      qed 𝓛 (‵ (fat full_share (ty_int w64) b (i * 8 + o) (vint w64 v)) ∷ ‵ besides ∷ []) ∵
      use1 𝓛 (‵ (part_at u64 full_share v b (i * 8 + o))) (uint_in 𝓛 full_share w64 v b (i * 8 + o)) $
      rewrite ! 0 (λ (k : ℕ). ‵ (part_at u64 full_share v b k)) (sym (place_is 8 o i)) refl $
      by ! (puts (shares u64) full_share 𝓛 words i v b o inside)

module _ {M : Type 1} {𝓤 : Ura M} (𝓛 : Logic 𝓤) (b : ℕ) where
  open 𝓛 use {H}

  -- a word v behind them
  pub one_more : (words : List ℕ) (v o at : ℕ) → length words * 8 + o ≡ at → ent 𝓤 (sep 𝓤 (sem 𝓛 (row u64 full_share words b o)) (sem 𝓛 (part_at u64 full_share v b at))) (sem 𝓛 (row u64 full_share (words ++ v ∷ []) b o))
  one_more [] v o at here =
      let same : at ≡ o = omega arith in
      qed 𝓛 (‵ ftrue ∷ ‵ (part_at u64 full_share v b at) ∷ []) ∵ move ! (1 ∷ 0 ∷ []) $ rewrite ! 0 (λ (k : ℕ). ‵ (part_at u64 full_share v b k)) same refl $ done !
  one_more (w ∷ words) v o at here =
      qed 𝓛 (‵ (row u64 full_share (w ∷ words) b o) ∷ ‵ (part_at u64 full_share v b at) ∷ []) ∵ fsplit ! $ move ! (1 ∷ 2 ∷ []) $
      use2 𝓛 (‵ (row u64 full_share (words ++ v ∷ []) b (o + 8))) (one_more words v (o + 8) at (omega arith)) $ move ! (1 ∷ 0 ∷ []) $ done !

  pub row_room : (words : List ℕ) (o : ℕ) → ent 𝓤 (sem 𝓛 (row u64 full_share words b o)) (H.room (ty_array (ty_int w64) (length words)) b o)
  row_room [] o = 𝓛.laws.room_nil (ty_int w64) b o
  row_room (w ∷ words) o =
      qed 𝓛 (‵ (part_at u64 full_share w b o) ∷ ‵ (row u64 full_share words b (o + 8)) ∷ []) ∵
      use1 𝓛 (‵ (fat full_share (ty_int w64) b o (vint w64 w))) (uint_out 𝓛 full_share w64 w b o) $
      use1 𝓛 (‵ (froom (ty_int w64) b o)) (𝓛.laws.at_room (ty_int w64) b o (vint w64 w)) $ move ! (1 ∷ []) $
      use1 𝓛 (‵ (froom (ty_array (ty_int w64) (length words)) b (o + 8))) (row_room words (o + 8)) $ move ! (1 ∷ []) $ by ! (𝓛.laws.room_cons (ty_int w64) (length words) b o)
