-- Laws of the bits of one data page: where its units go on blocks alone.
use Rattle.std.proofs.Common.{◌≡◌, ℕ, suc, ◌-◌, ◌/◌, ◌%◌, ◌^◌, ◌<◌, ◌≤◌, ◌⊎◌, inl, inr, min, sym, ap, ◌∙◌, arith}
use Rattle.std.specs.Int.{bit_at, bit_not, w64}
use Rattle.std.specs.Int.Bits.{bit_and}
use Rattle.std.proofs.lemmas.Nat.Bits.{bit_at-lt, bit_at-suc, bit_at-zero, bit_at_above, bit_at_and, bit_at_lowest, bit_at_not, same_from_bits}
use Rattle.std.proofs.lemmas.Nat.{and_le_l}
use Rattle.volume_check.specs.RegionWords.{GoOn}

pub bit_two : (n i : ℕ) → (bit_at n i ≡ 0) ⊎ (bit_at n i ≡ 1)
bit_two n i = by (bit_at n i) (bit_at-lt n i)
  where
    by : (b : ℕ) → b < 2 → (b ≡ 0) ⊎ (b ≡ 1)
    by b h = grind arith

cases_lt : (i n : ℕ) → (i < n) ⊎ (n ≤ i)
cases_lt i n = grind arith

-- the bits of one number that another has not
off_bit : (a b i : ℕ) → b < 2 ^ 64 → i < 64 → bit_at (bit_and a (bit_not w64 b)) i ≡ min (bit_at a i) (1 - bit_at b i)
off_bit a b i fits small = bit_at_and a (bit_not w64 b) i ∙ ap (λ x. min (bit_at a i) x) (bit_at_not w64 b i fits small)

-- there are none
no_bits : (a b : ℕ) → a < 2 ^ 64 → ((i : ℕ) → i < 64 → bit_at (bit_and a b) i ≡ 0) → bit_and a b ≡ 0
no_bits a b fits each = same_from_bits (bit_and a b) 0 (λ i. by i (cases_lt i 64) ∙ sym (bit_at-zero i))
  where
    by : (i : ℕ) → (i < 64) ⊎ (64 ≤ i) → bit_at (bit_and a b) i ≡ 0
    by i (inl small) = each i small
    by i (inr past) = let none = bit_at_above a 64 i fits past in bit_at_and a b i ∙ omega (arith, none)

no_bit : (n i : ℕ) → n ≡ 0 → bit_at n i ≡ 0
no_bit n i e = ap (λ x. bit_at x i) e ∙ bit_at-zero i

-- the units that go on: used, and no start
abbrev pub inner : ℕ → ℕ → ℕ
inner used starts = bit_and used (bit_not w64 starts)

inner_half : (used starts i : ℕ) → starts < 2 ^ 64 → suc i < 64 → bit_at (inner used starts / 2) i ≡ min (bit_at used (suc i)) (1 - bit_at starts (suc i))
inner_half used starts i fits small = sym (bit_at-suc (inner used starts) i) ∙ off_bit used starts (suc i) fits small

inner_low : (used starts : ℕ) → starts < 2 ^ 64 → inner used starts % 2 ≡ min (bit_at used 0) (1 - bit_at starts 0)
inner_low used starts fits = sym (bit_at_lowest (inner used starts)) ∙ off_bit used starts 0 fits (omega arith)

pub go_on_by : (used starts before : ℕ) → used < 2 ^ 64 → starts < 2 ^ 64 → bit_and starts (bit_not w64 used) ≡ 0 → bit_and (inner used starts / 2) (bit_not w64 used) ≡ 0 → inner used starts % 2 ≤ before → GoOn used starts before
go_on_by used starts before fits room off hops low = record {
  on_used = λ u small s. let none = sym (off_bit starts used u fits small) ∙ no_bit _ u off in let below = bit_at-lt used u in omega (arith, none, s, below);
  first = λ one none. let is = inner_low used starts room in let below = bit_at-lt starts 0 in omega (arith, low, is, one, none, below);
  after = λ u small one none.
      let is = sym (ap (λ x. min x (1 - bit_at used u)) (inner_half used starts u room small)) ∙ sym (off_bit (inner used starts / 2) used u fits (omega (arith, small))) ∙ no_bit _ u hops in
      let below = bit_at-lt starts (suc u) in omega (arith, is, one, none, below);
}

pub go_on_off : (used starts before : ℕ) → used < 2 ^ 64 → starts < 2 ^ 64 → GoOn used starts before → bit_and starts (bit_not w64 used) ≡ 0
go_on_off used starts before fits room h = no_bits starts (bit_not w64 used) room (λ i small. off_bit starts used i fits small ∙ by i small (bit_two starts i))
  where
    by : (i : ℕ) → i < 64 → (bit_at starts i ≡ 0) ⊎ (bit_at starts i ≡ 1) → min (bit_at starts i) (1 - bit_at used i) ≡ 0
    by i small (inl none) = omega (arith, none)
    by i small (inr one) = let used_is = h.on_used i small one in omega (arith, used_is)

pub go_on_hops : (used starts before : ℕ) → used < 2 ^ 64 → starts < 2 ^ 64 → GoOn used starts before → bit_and (inner used starts / 2) (bit_not w64 used) ≡ 0
go_on_hops used starts before fits room h = no_bits (inner used starts / 2) (bit_not w64 used) half (λ i small. off_bit (inner used starts / 2) used i fits small ∙ by i small (cases_lt (suc i) 64))
  where
    half : inner used starts / 2 < 2 ^ 64
    half = let below = and_le_l used (bit_not w64 starts) in omega (arith, below, fits)

    inside : (i : ℕ) → suc i < 64 → (bit_at used i ≡ 0) ⊎ (bit_at used i ≡ 1) → (bit_at used (suc i) ≡ 0) ⊎ (bit_at used (suc i) ≡ 1) → min (bit_at (inner used starts / 2) i) (1 - bit_at used i) ≡ 0
    inside i small (inr one) next = omega (arith, one)
    inside i small (inl none) (inl off) = let is = inner_half used starts i room small in omega (arith, is, off)
    inside i small (inl none) (inr on) = let is = inner_half used starts i room small in let start = h.after i small on none in omega (arith, is, start)

    by : (i : ℕ) → i < 64 → (suc i < 64) ⊎ (64 ≤ suc i) → min (bit_at (inner used starts / 2) i) (1 - bit_at used i) ≡ 0
    by i small (inl within) = inside i within (bit_two used i) (bit_two used (suc i))
    by i small (inr top) = let none = sym (bit_at-suc (inner used starts) i) ∙ bit_at_and used (bit_not w64 starts) (suc i) in let past = bit_at_above used 64 (suc i) fits top in omega (arith, none, past)

pub go_on_low : (used starts before : ℕ) → starts < 2 ^ 64 → before ≤ 1 → GoOn used starts before → inner used starts % 2 ≤ before
go_on_low used starts before room most h = by (bit_two used 0) (cases_lt 0 before)
  where
    by : (bit_at used 0 ≡ 0) ⊎ (bit_at used 0 ≡ 1) → (0 < before) ⊎ (before ≤ 0) → inner used starts % 2 ≤ before
    by (inl none) b = let is = inner_low used starts room in omega (arith, is, none)
    by (inr one) (inl some) = omega (arith, some)
    by (inr one) (inr none) = let is = inner_low used starts room in let start = h.first one (omega (arith, none)) in omega (arith, is, start)

-- the highest bit
pub top_bit : (n : ℕ) → n < 2 ^ 64 → n / 2 ^ 63 ≡ bit_at n 63
top_bit n fits = omega (arith, fits)
