-- Which entry is found for a block, and the words of a cover with it and without one.
use Rattle.std.specs.Prelude.{◌≡◌, ℕ, zero, suc, ◌+◌, ◌*◌, ◌<◌, ◌≤◌, Bool, true, false, if◌then◌else◌, ◌⊎◌, List, slice_index, Option, Some, None, refl}
use Rattle.std.proofs.Common.{◌∙◌, sym, subst, inl, inr, arith}
use Rattle.std.proofs.lemmas.Bool.{and_parts, eqb-true, lt-ltb, le-ltb}
use Rattle.rio_base.specs.Rules.{none_some}
use Rattle.rio_model.specs.Registry.{IsValid, frames_of, tag_at, tag_block}
use Rattle.rio_model.specs.Cover.{cover_by, entry_of_block, holds, home_word, last_of}

some_inj : (x y : ℕ) → Some x ≡ Some y → x ≡ y
some_inj x y e = cc

-- ---- the last number that passes a test

found_step : (t : ℕ → Bool) (n k : ℕ) (b : Bool) → t n ≡ b → (if b then Some n else last_of t n) ≡ Some k → (last_of t n ≡ Some k → (k < n) × (t k ≡ true)) → (k < suc n) × (t k ≡ true)
found_step t n k true e s r = let same : n ≡ k = some_inj n k s in (omega arith, subst (λ (j : ℕ). t j ≡ true) same e)
found_step t n k false e s r = let h = r s in (omega (arith, h.0), h.1)

pub last_found : (t : ℕ → Bool) (n k : ℕ) → last_of t n ≡ Some k → (k < n) × (t k ≡ true)
unfolding last_of
last_found t zero k e = absurd (none_some k None refl e)
last_found t (suc n) k e = found_step t n k (t n) refl e (last_found t n k)

pub holds_valid : (words : List ℕ) (b k : ℕ) → k < frames_of words → holds words b k ≡ true → IsValid words k × (tag_block (tag_at words k) ≡ b)
holds_valid words b k within h = let parts = and_parts _ _ h in (record { within = within; valid = parts.0 }, eqb-true _ _ parts.1)

pub found_is : (words : List ℕ) (b k : ℕ) → entry_of_block words b ≡ Some k → IsValid words k × (tag_block (tag_at words k) ≡ b)
unfolding entry_of_block
found_is words b k e = let h = last_found (holds words b) (frames_of words) k e in holds_valid words b k h.0 h.1

-- ---- the words of a cover

pub cover_at : (page : ℕ → ℕ) (words : List ℕ) (disk : List (List ℕ)) (b w k : ℕ) → entry_of_block words b ≡ Some k → w < 512 → cover_by page words disk b w ≡ slice_index words (512 * page k + w)
unfolding cover_by
cover_at page words disk b w k e small = rw (lt-ltb w 512 small, e) refl

pub cover_home : (page : ℕ → ℕ) (words : List ℕ) (disk : List (List ℕ)) (b w : ℕ) → entry_of_block words b ≡ None → w < 512 → cover_by page words disk b w ≡ home_word disk b w
unfolding cover_by
cover_home page words disk b w e small = rw (lt-ltb w 512 small, e) refl

pub cover_past : (page : ℕ → ℕ) (words : List ℕ) (disk : List (List ℕ)) (b w : ℕ) → 512 ≤ w → cover_by page words disk b w ≡ 0
unfolding cover_by
cover_past page words disk b w large = rw (le-ltb w 512 large) refl

-- two covers of one block: the same page, or the same block of the disk
pub record SameAt (page : ℕ → ℕ) (words : List ℕ) (disk : List (List ℕ)) (page2 : ℕ → ℕ) (words2 : List ℕ) (disk2 : List (List ℕ)) (b : ℕ) : Type 0 where
  pub entry : entry_of_block words2 b ≡ entry_of_block words b
  pub pages : (k w : ℕ) → entry_of_block words b ≡ Some k → w < 512 → slice_index words2 (512 * page2 k + w) ≡ slice_index words (512 * page k + w)
  pub homes : (w : ℕ) → entry_of_block words b ≡ None → w < 512 → home_word disk2 b w ≡ home_word disk b w

pub cover_same : (page : ℕ → ℕ) (words : List ℕ) (disk : List (List ℕ)) (page2 : ℕ → ℕ) (words2 : List ℕ) (disk2 : List (List ℕ)) (b w : ℕ) → SameAt page words disk page2 words2 disk2 b → cover_by page2 words2 disk2 b w ≡ cover_by page words disk b w
cover_same page words disk page2 words2 disk2 b w h = from (entry_of_block words b) refl (small_or w)
  where
    small_or : (w : ℕ) → (w < 512) ⊎ (512 ≤ w)
    small_or w = grind arith

    from : (o : Option ℕ) → entry_of_block words b ≡ o → (w < 512) ⊎ (512 ≤ w) → cover_by page2 words2 disk2 b w ≡ cover_by page words disk b w
    from o e (inr large) = cover_past page2 words2 disk2 b w large ∙ sym (cover_past page words disk b w large)
    from None e (inl small) = cover_home page2 words2 disk2 b w (h.entry ∙ e) small ∙ h.homes w e small ∙ sym (cover_home page words disk b w e small)
    from (Some k) e (inl small) = cover_at page2 words2 disk2 b w k (h.entry ∙ e) small ∙ h.pages k w e small ∙ sym (cover_at page words disk b w k e small)
