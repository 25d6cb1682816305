-- Laws of runs of equal bits, and of bits that are stored.
use Rattle.std.proofs.Common.{◌≡◌, ℕ, ◌+◌, ◌-◌, ◌*◌, ◌/◌, ◌%◌, ◌^◌, ◌<◌, ◌≤◌, ◌⊎◌, inl, inr, min, max, sym, ap, ◌∙◌, arith, bit_and}
use Rattle.std.proofs.Math.Nat.{mod-lt, pow-le-pow_right, div-le_self}
use Rattle.std.proofs.lemmas.Nat.{div-add-mod', pow_pos}
use Rattle.std.specs.Int.{bit_at, bit_not, trailing_zeros, w64}
use Rattle.std.specs.Int.RustNames.{bit_or}
use Rattle.std.specs.Int.Count.{trailing_of_zero}
use Rattle.std.proofs.lemmas.Nat.Bits.{bit_at-lt, bit_at-zero, bit_at_above, bit_at_and, bit_at_cat_high, bit_at_mask_above, bit_at_mask_below, bit_at_mask_inside, bit_at_not, bit_at_or, bit_at-trailing_zeros}
use Rattle.undo_list.specs.Bits.{IsOnes, IsZeros, WithBits}

-- the bits of a word that is shifted
shifted : (word bit i : ℕ) → bit ≤ i → bit_at word i ≡ bit_at (word / 2 ^ bit) (i - bit)
shifted word bit i low = ap (λ w. bit_at w i) (sym (div-add-mod' word (2 ^ bit))) ∙ bit_at_cat_high (word / 2 ^ bit) bit (word % 2 ^ bit) i (mod-lt word (pow_pos bit)) low

shift_fits : (word bit : ℕ) → word < 2 ^ 64 → word / 2 ^ bit < 2 ^ 64
shift_fits word bit h = by (pow_pos bit) (div-add-mod' word (2 ^ bit))
  where
    by : 0 < 2 ^ bit → word / 2 ^ bit * 2 ^ bit + word % 2 ^ bit ≡ word → word / 2 ^ bit < 2 ^ 64
    by some whole = omega (arith, div-le_self word (2 ^ bit), h)

pub zeros_is : (word bit : ℕ) → word < 2 ^ 64 → bit < 64 → IsZeros word bit (min (trailing_zeros w64 (word / 2 ^ bit)) (64 - bit))
zeros_is word bit fits small = by (grind arith)
  where
    none : word / 2 ^ bit ≡ 0 → IsZeros word bit (min (trailing_zeros w64 (word / 2 ^ bit)) (64 - bit))
    none e =
        let all : min (trailing_zeros w64 (word / 2 ^ bit)) (64 - bit) ≡ 64 - bit = ap (λ w. min (trailing_zeros w64 w) (64 - bit)) e ∙ ap (λ t. min t (64 - bit)) (trailing_of_zero 64) ∙ omega arith in
        record {
          within = omega (arith, all);
          each = λ i low high. shifted word bit i low ∙ ap (λ w. bit_at w (i - bit)) e ∙ bit_at-zero (i - bit);
          end = λ h. absurd (omega (arith, all));
        }

    some : 0 < word / 2 ^ bit → IsZeros word bit (min (trailing_zeros w64 (word / 2 ^ bit)) (64 - bit))
    some h =
        let t = bit_at-trailing_zeros w64 (word / 2 ^ bit) h (shift_fits word bit fits) in
        let one : bit_at word (bit + trailing_zeros w64 (word / 2 ^ bit)) ≡ 1 = shifted word bit (bit + trailing_zeros w64 (word / 2 ^ bit)) (omega arith) ∙ ap (bit_at (word / 2 ^ bit)) (omega arith) ∙ t.1 in
        let below : bit + trailing_zeros w64 (word / 2 ^ bit) < 64 = inside (bit + trailing_zeros w64 (word / 2 ^ bit)) one in
        let all : min (trailing_zeros w64 (word / 2 ^ bit)) (64 - bit) ≡ trailing_zeros w64 (word / 2 ^ bit) = omega (arith, below) in
        record {
          within = omega (arith, all, below);
          each = λ i low high. shifted word bit i low ∙ t.2 (i - bit) (omega (arith, all));
          end = λ h. ap (λ x. bit_at word (bit + x)) all ∙ one;
        }
      where
        inside : (i : ℕ) → bit_at word i ≡ 1 → i < 64
        inside i one = by (grind arith)
          where
            by : (i < 64) ⊎ (64 ≤ i) → i < 64
            by (inl h) = h
            by (inr h) = absurd (omega (arith, one, bit_at_above word 64 i fits h))

    by : (word / 2 ^ bit ≡ 0) ⊎ (0 < word / 2 ^ bit) → IsZeros word bit (min (trailing_zeros w64 (word / 2 ^ bit)) (64 - bit))
    by (inl e) = none e
    by (inr h) = some h

-- the bits that are 1 are those that are 0 of the word that has each other bit
pub ones_are : (word bit n : ℕ) → word < 2 ^ 64 → IsZeros (bit_not w64 word) bit n → IsOnes word bit n
ones_are word bit n fits z = record {
  within = z.within;
  each = λ i low high. let e = z.each i low high in omega (arith, e, bit_at_not w64 word i fits (omega (arith, z.within)), bit_at-lt word i);
  end = λ h. let e = z.end h in omega (arith, e, bit_at_not w64 word (bit + n) fits h, bit_at-lt word (bit + n));
}

-- a mask of the bits from one to before another
mask_is : (from to : ℕ) → from ≤ to → to ≤ 64 → 2 ^ min to 64 - 1 - (2 ^ min from 64 - 1) ≡ 2 ^ to - 2 ^ from
mask_is from to order within =
    let high : min to 64 ≡ to = omega arith in
    let low : min from 64 ≡ from = omega arith in
    ap (λ h. 2 ^ h - 1 - (2 ^ min from 64 - 1)) high ∙ ap (λ h. 2 ^ to - 1 - (2 ^ h - 1)) low ∙ omega (arith, pow_pos from, pow_pos to)

pub mask_order : (from to : ℕ) → from ≤ to → 2 ^ min from 64 - 1 ≤ 2 ^ min to 64 - 1
mask_order from to order = let grows : 2 ^ min from 64 ≤ 2 ^ min to 64 = pow-le-pow_right (omega arith) (omega arith) in omega (arith, grows)

mask_fits : (from to : ℕ) → to ≤ 64 → 2 ^ to - 2 ^ from < 2 ^ 64
mask_fits from to within = let grows : 2 ^ to ≤ 2 ^ 64 = pow-le-pow_right (omega arith) within in omega (arith, grows, pow_pos from, pow_pos to)

out_of_mask : (from to i : ℕ) → (i < from) ⊎ (to ≤ i) → bit_at (2 ^ to - 2 ^ from) i ≡ 0
out_of_mask from to i (inl h) = bit_at_mask_below from to i h
out_of_mask from to i (inr h) = bit_at_mask_above from to i h

pub bits_set : (word high low from to : ℕ) → from ≤ to → to ≤ 64 → high ≡ 2 ^ min to 64 - 1 → low ≡ 2 ^ min from 64 - 1 → WithBits word (bit_or word (high - low)) from to 1
bits_set word high low from to order within high_is low_is = record {
  inside = λ i a b. ap (λ m. bit_at (bit_or word m) i) mask ∙ bit_at_or word (2 ^ to - 2 ^ from) i ∙ ap (λ b. max (bit_at word i) b) (bit_at_mask_inside from to i a b) ∙ omega (arith, bit_at-lt word i);
  outside = λ i small out. ap (λ m. bit_at (bit_or word m) i) mask ∙ bit_at_or word (2 ^ to - 2 ^ from) i ∙ ap (λ b. max (bit_at word i) b) (out_of_mask from to i out) ∙ omega arith;
}
  where
    mask : high - low ≡ 2 ^ to - 2 ^ from
    mask = ap (λ h. h - low) high_is ∙ ap (λ l. 2 ^ min to 64 - 1 - l) low_is ∙ mask_is from to order within

pub bits_cleared : (word high low from to : ℕ) → from ≤ to → to ≤ 64 → high ≡ 2 ^ min to 64 - 1 → low ≡ 2 ^ min from 64 - 1 → WithBits word (bit_and word (bit_not w64 (high - low))) from to 0
bits_cleared word high low from to order within high_is low_is = record {
  inside = λ i a b. same i (omega (arith, within)) ∙ ap (λ b. min (bit_at word i) (1 - b)) (bit_at_mask_inside from to i a b) ∙ omega arith;
  outside = λ i small out. same i small ∙ ap (λ b. min (bit_at word i) (1 - b)) (out_of_mask from to i out) ∙ omega (arith, bit_at-lt word i);
}
  where
    mask : high - low ≡ 2 ^ to - 2 ^ from
    mask = ap (λ h. h - low) high_is ∙ ap (λ l. 2 ^ min to 64 - 1 - l) low_is ∙ mask_is from to order within

    same : (i : ℕ) → i < 64 → bit_at (bit_and word (bit_not w64 (high - low))) i ≡ min (bit_at word i) (1 - bit_at (2 ^ to - 2 ^ from) i)
    same i small = ap (λ m. bit_at (bit_and word (bit_not w64 m)) i) mask ∙ bit_at_and word (bit_not w64 (2 ^ to - 2 ^ from)) i ∙ ap (λ b. min (bit_at word i) b) (bit_at_not w64 (2 ^ to - 2 ^ from) i (mask_fits from to within) small)
