-- The blocks that the changes of one update take are the lowest free ones, all of them together.
use Rattle.request_ends.proofs.Common.{◌≡◌, ℕ, zero, suc, ◌<◌, ◌⊎◌, Bool, true, false, List, [], ◌∷◌, map, length, refl, sym, ap, subst, ◌∙◌, arith, inl, inr, Contains, Block, VolumeShape, used_bit, BlockWords, Seen, Kept, numbers, Held, IsFree, placed_at, volume_layout, bitmap_bits}
use Rattle.directories.specs.declared.changes.DirChange.{DirChange}
use Rattle.std.proofs.Common.{◌&&◌, not}
use Rattle.std.specs.List.{filter, range_with_len}
use Rattle.std.specs.Prelude.{take}
use Rattle.std.proofs.lemmas.Bool.Decides.{nat_tests}
use Rattle.rio_base.specs.Bitmap.{is_free}
use Rattle.rio_base.specs.Shapes.{IsShape}
use Rattle.rio_model.proofs.LowestBlocks.{decided, in_none, lower_free, lower_passes, lowest_taken}
use Rattle.rio_model.proofs.PlacedRules.{has_bit}
use Rattle.rio_model.specs.NodeChanges.{AreLowest, UsesLowest}
use Rattle.node_pages.proofs.Listed.{listed}
use Rattle.node_pages.proofs.Skipped.{among_none, beside_range, is_left}
use Rattle.node_pages.specs.Changes.{free_beside, is_among, wanted_blocks}
use Rattle.node_updates.specs.Changes.{AllApplied, change_update}
use Rattle.node_updates.specs.declared.changes.NodeChange.{NodeChange}
use Rattle.node_updates.proofs.Fitting.{AllFit, fits_of}
use Rattle.node_updates.proofs.Stood.{Stood}

-- the blocks that changes take
abbrev pub IsTaken : List NodeChange → ℕ → Type 0
IsTaken changes b = (c : NodeChange) × Contains changes c × Contains (numbers c.taken) b

-- with each block that they take, they take all lower ones that were free in f
pub record TakesLowest (shape : VolumeShape) (f : BlockWords) (changes : List NodeChange) : Type 0 where
  pub each : (b c : ℕ) → b < shape.blocks → IsTaken changes b → c < b → used_bit shape f c ≡ 0 → IsTaken changes c

-- ---- changes of which each does so by itself

pub record LowerToo (shape : VolumeShape) (f : BlockWords) (taken : List ℕ) : Type 0 where
  pub each : (b c : ℕ) → b < shape.blocks → Contains taken b → c < b → used_bit shape f c ≡ 0 → Contains taken c

abbrev pub AllLower : VolumeShape → BlockWords → List NodeChange → Type 0
AllLower shape f [] = Unit {0}
AllLower shape f (c ∷ changes) = LowerToo shape f (numbers c.taken) × AllLower shape f changes

lower_of : (shape : VolumeShape) (f : BlockWords) (changes : List NodeChange) (c : NodeChange) → AllLower shape f changes → Contains changes c → LowerToo shape f (numbers c.taken)
lower_of shape f [] c all (t, few, at) = absurd (omega (arith, few))
lower_of shape f (d ∷ changes) c all (zero, few, at) = subst (λ (e : NodeChange). LowerToo shape f (numbers e.taken)) at all.0
lower_of shape f (d ∷ changes) c all (suc t, few, at) = lower_of shape f changes c all.1 (t, omega (arith, few), at)

pub lowest_each : (shape : VolumeShape) (f : BlockWords) (changes : List NodeChange) → AllLower shape f changes → TakesLowest shape f changes
lowest_each shape f changes all = record { each = λ b c within taken below free. (taken.0, taken.1, (lower_of shape f changes taken.0 all taken.1).each b c within taken.2 below free) }

-- one that takes none
pub bare_lower : (shape : VolumeShape) (f : BlockWords) (c : NodeChange) → c.taken ≡ [] → LowerToo shape f (numbers c.taken)
bare_lower shape f c none = record { each = λ b d within on below free. absurd (in_none b (subst (λ (bs : List Block). Contains (numbers bs) b) none on)) }

-- a directory's plan, whose blocks were the lowest when it was made: no bit has changed since
pub stood_lower : (shape : VolumeShape) (x y : Seen) (j : Kept) (d : ℕ) (becomes : Held → Held → Type 0) (c : DirChange) → Stood shape x y j d becomes c → LowerToo shape x.words (numbers c.taken)
stood_lower shape x y j d becomes c h = record { each = λ b e within on below free. lower_free shape h.was (numbers c.taken) b e (wanted_blocks (placed_at h.was d).size h.plan.node.size, h.plan.takes.lowest) on below (sym (h.bits e (omega (arith, below, within))) ∙ free) }

-- ---- a second one that takes the lowest blocks beside those of the first

left_true : (shape : VolumeShape) (f : BlockWords) (skip : List ℕ) (c : ℕ) → used_bit shape f c ≡ 0 → (Contains skip c → ⊥) → is_left shape f skip c ≡ true
left_true shape f skip c free off = both (is_free shape f c) (is_among skip c) (test free) (among_none skip c (λ k few at. off (subst (Contains skip) at (listed skip k few))))
  where
    test : used_bit shape f c ≡ 0 → is_free shape f c ≡ true
    test h = grind (arith, nat_tests, h)

    both : (p q : Bool) → p ≡ true → q ≡ false → (p && not q) ≡ true
    both true false hp hq = refl
    both true true hp hq = sym hq
    both false q hp hq = absurd cc

beside_lower : (shape : VolumeShape) (f : BlockWords) (skip taken : List ℕ) (b c : ℕ) → (n : ℕ) × (taken ≡ take n (free_beside shape f skip)) → Contains taken b → c < b → used_bit shape f c ≡ 0 → Contains taken c ⊎ Contains skip c
beside_lower shape f skip taken b c (n, is) on below free = by (decided skip c)
  where
    all : taken ≡ take n (filter (is_left shape f skip) (range_with_len 0 shape.blocks))
    all = is ∙ ap (take n) (beside_range shape f skip)

    by : Contains skip c ⊎ (Contains skip c → ⊥) → Contains taken c ⊎ Contains skip c
    by (inl skipped) = inr skipped
    by (inr off) = inl (subst (λ xs. Contains xs c) (sym all) (lower_passes (is_left shape f skip) shape.blocks n 0 b c (subst (λ xs. Contains xs b) all on) (omega arith) below (left_true shape f skip c free off)))

pub lowest_two : (shape : VolumeShape) (f g : BlockWords) (c n : NodeChange) → IsShape shape → ((b : ℕ) → b < shape.blocks → used_bit shape g b ≡ used_bit shape f b) → AreLowest shape f (numbers c.taken) → (k : ℕ) × (numbers n.taken ≡ take k (free_beside shape g (numbers c.taken))) → TakesLowest shape f (c ∷ n ∷ [])
lowest_two shape f g c n sizes same first second = record { each = λ b e within taken below free. by b e within (split b taken) below free }
  where
    in_first : (e : ℕ) → Contains (numbers c.taken) e → IsTaken (c ∷ n ∷ []) e
    in_first e on = (c, (0, omega arith, refl), on)

    in_second : (e : ℕ) → Contains (numbers n.taken) e → IsTaken (c ∷ n ∷ []) e
    in_second e on = (n, (1, omega arith, refl), on)

    split : (b : ℕ) → IsTaken (c ∷ n ∷ []) b → Contains (numbers c.taken) b ⊎ Contains (numbers n.taken) b
    split b (d, (zero, few, at), on) = inl (subst (λ (m : NodeChange). Contains (numbers m.taken) b) (sym at) on)
    split b (d, (suc zero, few, at), on) = inr (subst (λ (m : NodeChange). Contains (numbers m.taken) b) (sym at) on)
    split b (d, (suc (suc t), few, at), on) = absurd (omega (arith, few))

    by : (b e : ℕ) → b < shape.blocks → Contains (numbers c.taken) b ⊎ Contains (numbers n.taken) b → e < b → used_bit shape f e ≡ 0 → IsTaken (c ∷ n ∷ []) e
    by b e within (inl on) below free = in_first e (lower_free shape f (numbers c.taken) b e first on below free)
    by b e within (inr on) below free = elim (beside_lower shape g (numbers c.taken) (numbers n.taken) b e second on below (same e (omega (arith, below, within)) ∙ free)) [
      | inl new ↦ in_second e new
      | inr skipped ↦ in_first e skipped
    ]

-- ---- the blocks that are used once all of them are made

taken_or_not : (changes : List NodeChange) (b : ℕ) → IsTaken changes b ⊎ (IsTaken changes b → ⊥)
taken_or_not [] b = inr (λ on. (let few = on.1.1 in omega (arith, few)))
taken_or_not (c ∷ changes) b = by (decided (numbers c.taken) b) (taken_or_not changes b)
  where
    by : Contains (numbers c.taken) b ⊎ (Contains (numbers c.taken) b → ⊥) → IsTaken changes b ⊎ (IsTaken changes b → ⊥) → IsTaken (c ∷ changes) b ⊎ (IsTaken (c ∷ changes) b → ⊥)
    by (inl here) _ = inl (c, (0, omega arith, refl), here)
    by (inr away) (inl (d, (t, few, at), on)) = inl (d, (suc t, omega (arith, few), at), on)
    by (inr away) (inr none) = inr out
      where
        out : IsTaken (c ∷ changes) b → ⊥
        out (d, (zero, few, at), on) = away (subst (λ (m : NodeChange). Contains (numbers m.taken) b) (sym at) on)
        out (d, (suc t, few, at), on) = none (d, (t, omega (arith, few), at), on)

-- one that none takes is not used, where it was not
free_stays : (shape : VolumeShape) (f g : BlockWords) (changes : List NodeChange) (b : ℕ) → AllApplied shape (map change_update changes) f g → b < bitmap_bits shape → (IsTaken changes b → ⊥) → used_bit shape f b ≡ 0 → used_bit shape g b ≡ 0
free_stays shape f g [] b is within none free = subst (λ (w : BlockWords). used_bit shape w b ≡ 0) (sym is) free
free_stays shape f g (c ∷ changes) b (h, a, rest) within none free = free_stays shape h g changes b rest within (λ on. none (on.0, (suc on.1.0, later on.1.0 on.1.1, on.1.2), on.2)) (now (decided (numbers c.freed) b))
  where
    later : (t : ℕ) → t < length changes → suc t < length (c ∷ changes)
    later t few = omega (arith, few)

    now : Contains (numbers c.freed) b ⊎ (Contains (numbers c.freed) b → ⊥) → used_bit shape h b ≡ 0
    now (inl on) = a.freed b on
    now (inr off) = a.others b within (λ on. none (c, (0, omega arith, refl), on)) off ∙ free

-- one that was free before all, and is used, stays used
used_stays : (shape : VolumeShape) (y f g : BlockWords) (changes : List NodeChange) (b : ℕ) → AllFit shape y changes → AllApplied shape (map change_update changes) f g → IsFree (volume_layout shape y) b → b < bitmap_bits shape → used_bit shape f b ≡ 1 → used_bit shape g b ≡ 1
used_stays shape y f g [] b all is free within used = subst (λ (w : BlockWords). used_bit shape w b ≡ 1) (sym is) used
used_stays shape y f g (c ∷ changes) b all (h, a, rest) free within used = used_stays shape y h g changes b all.1 rest free within (now (decided (numbers c.taken) b))
  where
    now : Contains (numbers c.taken) b ⊎ (Contains (numbers c.taken) b → ⊥) → used_bit shape h b ≡ 1
    now (inl on) = a.taken b on
    now (inr off) = a.others b within off (λ on. free.free (all.0.frees b on)) ∙ used

taken_used : (shape : VolumeShape) (y f g : BlockWords) (changes : List NodeChange) (b : ℕ) (c : NodeChange) → AllFit shape y changes → AllApplied shape (map change_update changes) f g → IsFree (volume_layout shape y) b → b < bitmap_bits shape → Contains changes c → Contains (numbers c.taken) b → used_bit shape g b ≡ 1
taken_used shape y f g [] b c all is free within (t, few, at) on = absurd (omega (arith, few))
taken_used shape y f g (d ∷ changes) b c all (h, a, rest) free within (zero, few, at) on = used_stays shape y h g changes b all.1 rest free within (a.taken b (subst (λ (m : NodeChange). Contains (numbers m.taken) b) (sym at) on))
taken_used shape y f g (d ∷ changes) b c all (h, a, rest) free within (suc t, few, at) on = taken_used shape y h g changes b c all.1 rest free within (t, omega (arith, few), at) on

-- so they are the lowest that were free in f, whose bits are those of y, over which the changes are prepared
pub uses_lowest : (shape : VolumeShape) (f y g : BlockWords) (changes : List NodeChange) → IsShape shape → ((b : ℕ) → b < shape.blocks → used_bit shape y b ≡ used_bit shape f b) → AllFit shape y changes → TakesLowest shape f changes → AllApplied shape (map change_update changes) y g → UsesLowest shape f g
uses_lowest shape f y g changes sizes same all lowest applied = lowest_taken shape f g (IsTaken changes) (λ b within free used. only b within free used (taken_or_not changes b)) used lowest.each
  where
    only : (b : ℕ) → b < shape.blocks → used_bit shape f b ≡ 0 → used_bit shape g b ≡ 1 → IsTaken changes b ⊎ (IsTaken changes b → ⊥) → IsTaken changes b
    only b within free used (inl on) = on
    only b within free used (inr off) = absurd (let none = free_stays shape y g changes b applied (has_bit shape b sizes within) off (same b within ∙ free) in omega (arith, none, used))

    used : (b : ℕ) → IsTaken changes b → used_bit shape g b ≡ 1
    used b (c, has, on) =
        let free = (fits_of shape y changes c all has).takes b on in
        taken_used shape y y g changes b c all applied free (has_bit shape b sizes free.to) has on
