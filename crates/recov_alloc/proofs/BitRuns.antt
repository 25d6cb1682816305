-- Laws of runs of units of one page.
use Rattle.std.proofs.Common.{◌≡◌, ℕ, ◌+◌, ◌-◌, ◌^◌, ◌<◌, ◌⊎◌, inl, inr, max, sym, ap, ◌∙◌, arith}
use Rattle.std.specs.Int.{bit_at, bit_not, w64}
use Rattle.std.specs.Int.RustNames.{bit_or}
use Rattle.std.proofs.lemmas.Nat.Bits.{bit_at-lt, bit_at_not, bit_at_or}
use Rattle.undo_list.specs.Bits.{IsZeros}
use Rattle.recov_alloc.specs.Extents.{GoesOn}

-- the bits that end a block are those of free units and of starts
pub goes_on : (used starts bit n : ℕ) → used < 2 ^ 64 → IsZeros (bit_or (bit_not w64 used) starts) bit n → GoesOn used starts bit n
goes_on used starts bit n fits z = record {
  within = z.within;
  each = λ i low high. let none = sym (both i (omega (arith, z.within))) ∙ z.each i low high in (omega (arith, none, bit_at-lt used i), omega (arith, none));
  end = λ h. by h (sym (both (bit + n) h) ∙ z.end h) (grind (arith, bit_at-lt used (bit + n), bit_at-lt starts (bit + n)));
}
  where
    both : (i : ℕ) → i < 64 → bit_at (bit_or (bit_not w64 used) starts) i ≡ max (1 - bit_at used i) (bit_at starts i)
    both i small = bit_at_or (bit_not w64 used) starts i ∙ ap (λ b. max b (bit_at starts i)) (bit_at_not w64 used i fits small)

    by : bit + n < 64 → max (1 - bit_at used (bit + n)) (bit_at starts (bit + n)) ≡ 1 → (bit_at used (bit + n) ≡ 0) ⊎ ((bit_at starts (bit + n) ≡ 1) ⊎ ((bit_at used (bit + n) ≡ 1) × (bit_at starts (bit + n) ≡ 0))) → (bit_at used (bit + n) ≡ 0) ⊎ (bit_at starts (bit + n) ≡ 1)
    by h one (inl e) = inl e
    by h one (inr (inl e)) = inr e
    by h one (inr (inr e)) = absurd (omega (arith, one, e.0, e.1))
