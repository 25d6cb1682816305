-- Blocks that are taken into use are the lowest free ones: what keeps that, and that an update which takes them does it.
use Rattle.rio_model.proofs.Common.{◌≡◌, ◌≢◌, ℕ, zero, suc, ◌+◌, ◌%◌, ◌/◌, ◌<◌, ◌≤◌, ◌⊎◌, Bool, true, false, cond, List, [], ◌∷◌, refl, sym, ap, subst, ◌∙◌, arith, inl, inr, filter, bit_at, range_with_len, cases_eq, nat_tests, VolumeShape, used_bit, BlockWords, reserved}
use Rattle.std.specs.Prelude.{take}
use Rattle.std.specs.List.{Contains}
use Rattle.rio_base.specs.Bitmap.{bitmap_block, is_free}
use Rattle.rio_base.specs.Shapes.{IsShape}
use Rattle.rio_model.specs.NodeChanges.{AreLowest, UsesLowest}
use Rattle.rio_model.proofs.PlacedRules.{bits_low, has_bit}
use Rattle.rio_model.specs.Updates.{Applied, Update}

-- ---- members of a list

pub in_head : (x b : ℕ) (xs : List ℕ) → Contains (x ∷ xs) b → (x ≡ b) ⊎ Contains xs b
in_head x b xs (zero, few, at) = inl at
in_head x b xs (suc t, few, at) = inr (t, omega (arith, few), at)

in_tail : (x b : ℕ) (xs : List ℕ) → Contains xs b → Contains (x ∷ xs) b
in_tail x b xs (t, few, at) = (suc t, omega (arith, few), at)

pub in_none : (b : ℕ) → Contains [] b → ⊥
in_none b (t, few, at) = omega (arith, few)

pub decided : (xs : List ℕ) (b : ℕ) → Contains xs b ⊎ (Contains xs b → ⊥)
decided [] b = inr (in_none b)
decided (x ∷ xs) b = by (cases_eq x b) (decided xs b)
  where
    by : (x ≡ b) ⊎ (x ≢ b) → Contains xs b ⊎ (Contains xs b → ⊥) → Contains (x ∷ xs) b ⊎ (Contains (x ∷ xs) b → ⊥)
    by (inl here) _ = inl (0, omega arith, here)
    by (inr away) (inl on) = inl (in_tail x b xs on)
    by (inr away) (inr none) = inr (λ on. elim (in_head x b xs on) [ inl here ↦ away here | inr later ↦ none later ])

-- ---- the first of the numbers that pass a test: with one of them, each lower one that passes

pub lower_passes : (p : ℕ → Bool) (n k a b c : ℕ) → Contains (take k (filter p (range_with_len a n))) b → a ≤ c → c < b → p c ≡ true → Contains (take k (filter p (range_with_len a n))) c
lower_passes p zero zero a b c on from below passes = absurd (in_none b on)
lower_passes p zero (suc k) a b c on from below passes = absurd (in_none b on)
lower_passes p (suc n) k a b c on from below passes = by (p a) refl k on (cases_eq a c) (λ k later past. lower_passes p n k (a + 1) b c later past below passes)
  where
    rest : List ℕ
    rest = filter p (range_with_len (a + 1) n)

    by : (q : Bool) → p a ≡ q → (k : ℕ) → Contains (take k (cond q (a ∷ rest) rest)) b → (a ≡ c) ⊎ (a ≢ c) → ((k : ℕ) → Contains (take k rest) b → a + 1 ≤ c → Contains (take k rest) c) → Contains (take k (cond q (a ∷ rest) rest)) c
    by true e zero on at later = absurd (in_none b on)
    by true e (suc k) on (inl here) later = (0, omega arith, here)
    by true e (suc k) on (inr away) later = elim (in_head a b (take k rest) on) [
      | inl first ↦ absurd (omega (arith, first, from, below))
      | inr behind ↦ in_tail a c (take k rest) (later k behind (omega (arith, from, away)))
    ]
    by false e k on (inl here) later = absurd (no (sym e ∙ ap p here ∙ passes))
      where
        no : false ≡ true → ⊥
        no h = cc
    by false e k on (inr away) later = later k on (omega (arith, from, away))

bit_free : (shape : VolumeShape) (f : BlockWords) (b : ℕ) → used_bit shape f b ≡ 0 → is_free shape f b ≡ true
bit_free shape f b h = grind (arith, nat_tests, h)

-- so it is of the lowest free blocks
pub lower_free : (shape : VolumeShape) (f : BlockWords) (taken : List ℕ) (b c : ℕ) → AreLowest shape f taken → Contains taken b → c < b → used_bit shape f c ≡ 0 → Contains taken c
lower_free shape f taken b c (n, is) on below free = subst (λ xs. Contains xs c) (sym is) (lower_passes (is_free shape f) shape.blocks n 0 b c (subst (λ xs. Contains xs b) is on) (omega arith) below (bit_free shape f c free))

-- ---- bits that stay

pub bits_agree : (shape : VolumeShape) (f g : BlockWords) → IsShape shape → ((b w : ℕ) → b < reserved shape → g b w ≡ f b w) → (b : ℕ) → b < shape.blocks → used_bit shape g b ≡ used_bit shape f b
bits_agree shape f g sizes low b within = ap (λ x. bit_at x (b % 64)) (low (bitmap_block shape b) (b % 32768 / 64) (bits_low shape b (has_bit shape b sizes within)))

pub lowest_same : (shape : VolumeShape) (f g : BlockWords) → ((b : ℕ) → b < shape.blocks → used_bit shape g b ≡ used_bit shape f b) → UsesLowest shape f g
lowest_same shape f g same = record { each = λ b c below within free used was. absurd (let e = sym free ∙ sym (same b within) ∙ used in omega (arith, e)) }

pub lowest_on : (shape : VolumeShape) (f g k : BlockWords) → UsesLowest shape f g → ((b : ℕ) → b < shape.blocks → used_bit shape k b ≡ used_bit shape g b) → UsesLowest shape f k
lowest_on shape f g k h same = record { each = λ b c below within free used was. same c (omega (arith, below, within)) ∙ h.each b c below within free (sym (same b within) ∙ used) was }

-- ---- blocks that are taken

-- from f to g these are taken: no other that was free is used, and all of them are. With each one, the lower free ones
pub lowest_taken : (shape : VolumeShape) (f g : BlockWords) (taken : ℕ → Type 0) → ((b : ℕ) → b < shape.blocks → used_bit shape f b ≡ 0 → used_bit shape g b ≡ 1 → taken b) → ((b : ℕ) → taken b → used_bit shape g b ≡ 1) → ((b c : ℕ) → b < shape.blocks → taken b → c < b → used_bit shape f c ≡ 0 → taken c) → UsesLowest shape f g
lowest_taken shape f g taken only all lower = record { each = λ b c below within free used was. all c (lower b c within (only b within free used) below was) }

-- an update of blocks g, whose bits are those of f
pub lowest_applied : (shape : VolumeShape) (f g k : BlockWords) (u : Update) → IsShape shape → ((b : ℕ) → b < shape.blocks → used_bit shape g b ≡ used_bit shape f b) → AreLowest shape f u.taken → Applied shape u g k → UsesLowest shape f k
lowest_applied shape f g k u sizes same lowest a = lowest_taken shape f k (Contains u.taken) (λ b within free used. only b within free used (decided u.taken b) (decided u.freed b)) a.taken (λ b c within on below free. lower_free shape f u.taken b c lowest on below free)
  where
    only : (b : ℕ) → b < shape.blocks → used_bit shape f b ≡ 0 → used_bit shape k b ≡ 1 → Contains u.taken b ⊎ (Contains u.taken b → ⊥) → Contains u.freed b ⊎ (Contains u.freed b → ⊥) → Contains u.taken b
    only b within free used (inl on) _ = on
    only b within free used (inr off) (inl freed) = absurd (let e = sym (a.freed b freed) ∙ used in omega (arith, e))
    only b within free used (inr off) (inr stays) = absurd (let e = sym free ∙ sym (same b within) ∙ sym (a.others b (has_bit shape b sizes within) off stays) ∙ used in omega (arith, e))
