-- The bits of a word: how many are 1, and the lowest of them.
use Rattle.std.proofs.Common.{◌≡◌, ℕ, zero, suc, ◌+◌, ◌-◌, ◌*◌, ◌/◌, ◌%◌, ◌^◌, ◌<◌, ◌≤◌, min, Bool, true, false, cond, List, ◌∷◌, length, refl, sym, ap, ◌∙◌, arith, ◌==◌, nat_lt, ◌&&◌, ◌⊎◌, inl, inr, bit_and, pow-suc, subst}
use Rattle.std.specs.Prelude.{count_ones}
use Rattle.std.specs.Int.{bit_at, w64, bit_not}
use Rattle.std.specs.List.{filter, range_with_len}
use Rattle.std.proofs.lemmas.Nat.{ones_cat}
use Rattle.std.proofs.lemmas.Nat.Bits.{bit_at_lowest, bit_at-suc, bit_at_and, bit_at_not, bit_at_ones, bit_at_ones_above, bit_at-lt}
use Rattle.std.proofs.lemmas.Bool.Decides.{nat_tests}
use Rattle.std.proofs.lemmas.Bool.{cases_order}
use Rattle.rio_base.specs.declared.places.VolumeShape.{VolumeShape}
use Rattle.rio_base.specs.Bitmap.{bitmap_block, used_bit}
use Rattle.rio_base.proofs.Bitmap.{first_bitmap}
use Rattle.rio_base.specs.Blocks.{BlockWords}
use Rattle.block_alloc.specs.Words.{counts, FreeBits}

-- the bits of x are the test p, from place s on
pub record Shows (x : ℕ) (p : ℕ → Bool) (s n : ℕ) : Type 0 where
  pub fits : x < 2 ^ n
  pub each : (i : ℕ) → i < n → bit_at x i ≡ cond (p (s + i)) 1 0

low_ones : (r : ℕ) → r < 2 → count_ones r ≡ r
unfolding lib.Count.ones
low_ones zero h = refl
low_ones (suc zero) h = refl
low_ones (suc (suc r)) h = absurd (omega arith)

half_ones : (x : ℕ) → count_ones x ≡ count_ones (x / 2) + x % 2
half_ones x =
    let whole : x ≡ x / 2 * 2 ^ 1 + x % 2 = omega arith in
    let low : count_ones (x % 2) ≡ x % 2 = low_ones (x % 2) (omega arith) in
    ap count_ones whole ∙ ones_cat 1 (x / 2) (x % 2) (omega arith) ∙ ap (λ k. count_ones (x / 2) + k) low

half_fits : (x n : ℕ) → x < 2 ^ suc n → x / 2 < 2 ^ n
half_fits x n h = let twice : 2 ^ suc n ≡ 2 ^ n * 2 = pow-suc 2 n in omega (arith, twice, h)

counted : (b : Bool) (s : ℕ) (xs : List ℕ) → length xs + cond b 1 0 ≡ length (cond b (s ∷ xs) xs)
counted true s xs = omega arith
counted false s xs = omega arith

shows_rest : (x : ℕ) (p : ℕ → Bool) (s n : ℕ) → Shows x p s (suc n) → Shows (x / 2) p (s + 1) n
shows_rest x p s n h = record {
  fits = half_fits x n h.fits;
  each = λ i within.
      let place : s + suc i ≡ (s + 1) + i = omega arith in
      sym (bit_at-suc x i) ∙ h.each (suc i) (omega arith) ∙ ap (λ j. cond (p j) 1 0) place;
}

pub count_shown : (n x s : ℕ) (p : ℕ → Bool) → Shows x p s n → count_ones x ≡ length (filter p (range_with_len s n))
count_shown zero x s p h =
    let none : x ≡ 0 = omega (arith, h.fits) in
    ap count_ones none ∙ low_ones 0 (omega arith)
count_shown (suc n) x s p h =
    let place : s + 0 ≡ s = omega arith in
    let first : x % 2 ≡ cond (p s) 1 0 = sym (bit_at_lowest x) ∙ h.each 0 (omega arith) ∙ ap (λ j. cond (p j) 1 0) place in
    half_ones x ∙ ap (λ k. k + x % 2) (count_shown n (x / 2) (s + 1) p (shows_rest x p s n h)) ∙ ap (λ k. length (filter p (range_with_len (s + 1) n)) + k) first ∙ counted (p s) s (filter p (range_with_len (s + 1) n))

-- ---- a word of the bitmap

inside : (u b n : ℕ) → u < 2 → b < n → min (1 - u) 1 ≡ cond (nat_lt b n && (u == 0)) 1 0
inside u b n small within = grind (arith, nat_tests)

outside : (u b n : ℕ) → n ≤ b → min (1 - u) 0 ≡ cond (nat_lt b n && (u == 0)) 1 0
outside u b n past = grind (arith, nat_tests)

masked : (used k i : ℕ) → used < 2 ^ 64 → i < 64 → bit_at (bit_and (bit_not w64 used) (2 ^ k - 1)) i ≡ min (1 - bit_at used i) (bit_at (2 ^ k - 1) i)
masked used k i fits within = bit_at_and (bit_not w64 used) (2 ^ k - 1) i ∙ ap (λ a. min a (bit_at (2 ^ k - 1) i)) (bit_at_not w64 used i fits within)

free_bit : (used blocks w i : ℕ) → used < 2 ^ 64 → i < 64 → (64 * w + i < blocks) ⊎ (blocks ≤ 64 * w + i) → bit_at (bit_and (bit_not w64 used) (2 ^ min (blocks - 64 * w) 64 - 1)) i ≡ cond (nat_lt (64 * w + i) blocks && (bit_at used i == 0)) 1 0
free_bit used blocks w i fits within (inl below) =
    masked used (min (blocks - 64 * w) 64) i fits within ∙ ap (λ a. min (1 - bit_at used i) a) (bit_at_ones (min (blocks - 64 * w) 64) i (omega arith)) ∙ inside (bit_at used i) (64 * w + i) blocks (bit_at-lt used i) below
free_bit used blocks w i fits within (inr past) =
    masked used (min (blocks - 64 * w) 64) i fits within ∙ ap (λ a. min (1 - bit_at used i) a) (bit_at_ones_above (min (blocks - 64 * w) 64) i (omega arith)) ∙ outside (bit_at used i) (64 * w + i) blocks past

below_or_past : (a b : ℕ) → (a ≡ b) ⊎ ((a < b) ⊎ (b < a)) → (a < b) ⊎ (b ≤ a)
below_or_past a b (inl e) = inr (omega arith)
below_or_past a b (inr (inl l)) = inl l
below_or_past a b (inr (inr g)) = inr (omega arith)

word_place : (shape : VolumeShape) (words : BlockWords) (used w i : ℕ) → used ≡ words 1 w → w < 512 → i < 64 → ◌≡◌ {A = ℕ} (cond (nat_lt (64 * w + i) shape.blocks && (bit_at used i == 0)) 1 0) (cond (counts shape words (64 * w + i)) 1 0)
word_place shape words used w i is small within =
    let b : ℕ = 64 * w + i in
    let word : w ≡ b % 32768 / 64 = omega arith in
    let place : i ≡ b % 64 = omega arith in
    let read : used ≡ words (bitmap_block shape b) (b % 32768 / 64) = is ∙ ap (words 1) word ∙ ap (λ (c : ℕ). words c (b % 32768 / 64)) (sym (first_bitmap shape b (omega arith))) in
    let bit : bit_at used i ≡ used_bit shape words b = ap (λ a. bit_at a i) read ∙ ap (bit_at (words (bitmap_block shape b) (b % 32768 / 64))) place in
    ap (λ a. cond (nat_lt b shape.blocks && (a == 0)) 1 0) bit

free_word : (shape : VolumeShape) (words : BlockWords) (used w : ℕ) → used < 2 ^ 64 → used ≡ words 1 w → w < 512 → FreeBits shape words w (bit_and (bit_not w64 used) (2 ^ min (shape.blocks - 64 * w) 64 - 1))
free_word shape words used w fits is small = record {
  each = λ i within. free_bit used shape.blocks w i fits within (below_or_past (64 * w + i) shape.blocks (cases_order (64 * w + i) shape.blocks)) ∙ word_place shape words used w i is small within;
}

pub free_masked : (shape : VolumeShape) (words : BlockWords) (used mask w : ℕ) → used < 2 ^ 64 → used ≡ words 1 w → w < 512 → mask ≡ 2 ^ min (shape.blocks - 64 * w) 64 - 1 → FreeBits shape words w (bit_and (bit_not w64 used) mask)
free_masked shape words used mask w fits is small masked = subst (λ m. FreeBits shape words w (bit_and (bit_not w64 used) m)) (sym masked) (free_word shape words used w fits is small)
