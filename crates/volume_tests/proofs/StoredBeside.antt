-- An inode that is stored leaves the kinds of the others.
use Rattle.std.proofs.Common.{◌≡◌, ◌≢◌, ℕ, ◌+◌, ◌-◌, ◌<◌, ◌≤◌, ◌==◌, ◌&&◌, ◌⊎◌, Bool, true, false, cond, List, slice_index, refl, sym, ap, subst, ◌∙◌, arith, inl, inr}
use Rattle.std.specs.Prelude.{nat_lt, not}
use Rattle.std.proofs.lemmas.Bool.{cases_lt}
use Rattle.std.proofs.lemmas.Bool.Decides.{Decides-eqb, nat_tests}
use Rattle.rio_base.specs.declared.places.VolumeShape.{VolumeShape}
use Rattle.rio_base.specs.Blocks.{BlockWords}
use Rattle.rio_base.specs.Layout.{IsIno, inode_block, inode_kind, inode_place}
use Rattle.rio_base.specs.Volume.{put_run}
use Rattle.inode_table.specs.Inodes.{StayUsed}

kind_beside : (f : BlockWords) (i j : ℕ) (words : List ℕ) → 1 ≤ i → 1 ≤ j → j ≢ i → inode_kind (put_run f (inode_block i) (inode_place i) 16 words) j ≡ inode_kind f j
kind_beside f i j words from start away = by (inode_block j == inode_block i) (λ same. beyond (inode_place i) (inode_place j + 0) (apart ((Decides-eqb (inode_block j) (inode_block i)).0 same)))
  where
    apart : inode_block j ≡ inode_block i → (inode_place j + 0 < inode_place i) ⊎ (inode_place i + 16 ≤ inode_place j + 0)
    apart same = elim (cases_lt j i) [
      | inl low ↦ inl (omega (arith, same, low, from, start))
      | inr high ↦ inr (omega (arith, same, high, away, from, start))
    ]

    beyond : (p w : ℕ) → (w < p) ⊎ (p + 16 ≤ w) → (not (nat_lt w p) && nat_lt w (p + 16)) ≡ false
    beyond p w (inl low) = grind (arith, nat_tests, low)
    beyond p w (inr high) = grind (arith, nat_tests, high)

    by : (t : Bool) → (t ≡ true → (not (nat_lt (inode_place j + 0) (inode_place i)) && nat_lt (inode_place j + 0) (inode_place i + 16)) ≡ false) → cond (t && (not (nat_lt (inode_place j + 0) (inode_place i)) && nat_lt (inode_place j + 0) (inode_place i + 16))) (slice_index words ((inode_place j + 0) - inode_place i)) (f (inode_block j) (inode_place j + 0)) ≡ f (inode_block j) (inode_place j + 0)
    by true out = ap (λ t. cond t (slice_index words ((inode_place j + 0) - inode_place i)) (f (inode_block j) (inode_place j + 0))) (out refl)
    by false out = refl

-- an update of that inode alone
pub stored_stay : (shape : VolumeShape) (f t g h : BlockWords) (i : ℕ) (words : List ℕ) → IsIno shape i → t ≡ f → g ≡ put_run t (inode_block i) (inode_place i) 16 words → h ≡ g → StayUsed shape i f h
stored_stay shape f t g h i words at begun stored done = λ j ino away used. subst (λ (k : BlockWords). 0 < inode_kind k j) (sym (done ∙ stored)) (subst (λ n. 0 < n) (sym (kind_beside t i j words at.from ino.from away)) (subst (λ (k : BlockWords). 0 < inode_kind k j) (sym begun) used))
