-- A `&` to words is made where one to a word is. Assumes `Logic`.
use Rattle.std.proofs.Common.{ℕ, ◌+◌, ◌*◌, List, [], ◌∷◌, length}
use seplogic.Ra.Ura.{Ura}
use base.Fraction.{full_share}
use base.Fml.{Lft, ftrue, ffalse, fsep, froom}
use types.Logic.{Logic}
use denote.Builtin.{u64}
use denote.Index.{row}
use denote.Memory.{part_at, shared_of}
use denote.Plain.{uint_row_laws}
use denote.RawPtr.{Ptr, block_ptr, null_ptr}
use denote.Sharing.{ShrLaws, said}
use denote.SharingLaws.{beside_shr_laws, said_shr_laws}
use denote.Slice.{elements_shared, elements_shr_laws}
use denote.Shares.{Shares}
use denote.Struct.Lending.{Lends, Lends-both, Lends-first, Lends-nothing, Lends-said, Lends-false}
use mir.Syntax.{w64}
use Rattle.phys_memory.specs.RawWords.{block_type, fit, words_owned, words_lent}

pub words_lent_laws : (p : Ptr) (words : List ℕ) (left : ℕ) → ShrLaws (words_lent p words left)
words_lent_laws (block_ptr b o) words left =
    let Fits = fit (length words + left) in
    beside_shr_laws (said Fits) (elements_shared u64 words b o) (said_shr_laws Fits tt) (elements_shr_laws u64 (uint_row_laws w64) words b o)
words_lent_laws null_ptr words left = said_shr_laws ffalse tt

module _ {M : Type 1} {𝓤 : Ura M} (𝓛 : Logic 𝓤) (l : Lft) (s : Shares 𝓛 u64 l) where
  Lends-row : (b o : ℕ) (words : List ℕ) → Lends 𝓛 (row u64 full_share words b o) (elements_shared u64 words b o) l
  Lends-row b o [] = Lends-nothing 𝓛 ftrue l
  Lends-row b o (w ∷ words) =
      Lends-both 𝓛 (part_at u64 full_share w b o) (row u64 full_share words b (o + 8)) (shared_of u64 w b o) (elements_shared u64 words b (o + 8)) l (λ κ ts. s w κ ts b o) (Lends-row b (o + 8) words)

  pub Lends-words : (p : Ptr) (words : List ℕ) (left : ℕ) → Lends 𝓛 (words_owned p words left) (words_lent p words left) l
  Lends-words (block_ptr b o) words left =
      let Fits = fit (length words + left) in let Row = row u64 full_share words b o in let Room = froom (block_type left) b (length words * 8 + o) in
      Lends-both 𝓛 Fits (fsep Row Room) (said Fits) (elements_shared u64 words b o) l (Lends-said 𝓛 Fits tt l) (Lends-first 𝓛 Row Room (elements_shared u64 words b o) l (Lends-row b o words))
  Lends-words null_ptr words left = Lends-false 𝓛 (said ffalse) l
