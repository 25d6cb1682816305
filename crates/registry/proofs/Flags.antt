-- The flags of a tag, as bits and as sums.
use Rattle.std.specs.Prelude.{◌≡◌, ◌≢◌, ℕ, ◌-◌, ◌/◌, ◌%◌, ◌^◌, ◌<◌, ◌==◌, ◌⊎◌, bit_and, bit_or}
use Rattle.std.proofs.Common.{arith, ◌∙◌, sym, inl, inr, eq-eqb, ne_eqb}
use Rattle.std.specs.Int.Bits.{or_add_and}
use Rattle.std.proofs.lemmas.Bool.{cases_eq}
use Rattle.std.proofs.lemmas.Nat.{and-not, and_comm}
use Rattle.std.proofs.lemmas.Nat.Bits.{and_pow}
use Rattle.rio_model.specs.Registry.{is_data, is_dirty, is_valid, with_dirty, without_dirty}

pub or_dirty : (tag : ℕ) → bit_or tag 2 ≡ with_dirty tag
or_dirty tag = omega (arith, or_add_and tag 2, and_pow tag 1)

pub and_not_dirty : (tag : ℕ) → tag < 2 ^ 64 → bit_and tag (2 ^ 64 - 1 - 2) ≡ without_dirty tag
and_not_dirty tag h = omega (arith, and-not 64 2 tag (omega arith) h, and_comm tag (2 ^ 64 - 1 - 2), and_comm tag 2, and_pow tag 1)

-- one bit is that of a flag, or not
same_test : (bit x flag : ℕ) → (x ≡ flag → bit ≡ 1) → (bit ≡ 1 → x ≡ flag) → (x == flag) ≡ (bit == 1)
same_test bit x flag to from = by_cases (cases_eq bit 1)
  where
    by_cases : (bit ≡ 1) ⊎ (bit ≢ 1) → (x == flag) ≡ (bit == 1)
    by_cases (inl e) = eq-eqb x flag (from e) ∙ sym (eq-eqb bit 1 e)
    by_cases (inr n) = ne_eqb x flag (λ e. n (to e)) ∙ sym (ne_eqb bit 1 n)

pub valid_bit : (tag : ℕ) → (bit_and tag 1 == 1) ≡ is_valid tag
valid_bit tag = same_test (tag % 2) (bit_and tag 1) 1 (λ e. omega (arith, e, and_pow tag 0)) (λ e. omega (arith, e, and_pow tag 0))

pub dirty_bit : (tag : ℕ) → (bit_and tag 2 == 2) ≡ is_dirty tag
dirty_bit tag = same_test (tag / 2 % 2) (bit_and tag 2) 2 (λ e. omega (arith, e, and_pow tag 1)) (λ e. omega (arith, e, and_pow tag 1))

pub data_bit : (tag : ℕ) → (bit_and tag 4 == 4) ≡ is_data tag
data_bit tag = same_test (tag / 4 % 2) (bit_and tag 4) 4 (λ e. omega (arith, e, and_pow tag 2)) (λ e. omega (arith, e, and_pow tag 2))
