-- There are such volumes: the one with a file, the one with a region, and the one with a directory in itself, word by word.
use Rattle.rio_model.proofs.Common.{BlockWords, List, [], ap, arith, bit_at, inl, inr, length, refl, suc, used_bit, zero, ℕ, ◌%◌, ◌*◌, ◌++◌, ◌+◌, ◌-◌, ◌/◌, ◌<◌, ◌==◌, ◌∙◌, ◌∷◌, ◌≡◌, ◌≤◌}
use Rattle.std.specs.Prelude.{if◌then◌else◌, replicate, ◌^◌}
use Rattle.std.proofs.lemmas.Nat.Bits.{bit_at-zero, bit_at_ones, bit_at_ones_above}
use Rattle.rio_base.specs.Layout.{HasSuperblock, direct_number, half, inode_kind, volume_magic}
use Rattle.rio_base.specs.Shapes.{more_bitmap}
use Rattle.rio_model.specs.Undo.{region_magic}
use Rattle.rio_model.specs.VolumeRules.{bitmap_bits}
use Rattle.rio_model.proofs.PlacedRules.{cases_lt}
use Rattle.volume_tests.proofs.FileReads.{IsFileVolume}
use Rattle.volume_tests.proofs.FileVolume.{file_shape}
use Rattle.volume_tests.proofs.LoopFails.{HasLoop}
use Rattle.volume_tests.proofs.RegionFails.{IsRegionVolume}
use Rattle.volume_tests.proofs.SmallVolumes.{IsSmall, bits_at}

-- ---- words

-- a block of these words and zeros
abbrev pub block_of : List ℕ → ℕ → ℕ
block_of [] x = 0
block_of (v ∷ vs) zero = v
block_of (v ∷ vs) (suc x) = block_of vs x

past_words : (vs : List ℕ) (x : ℕ) → length vs ≤ x → block_of vs x ≡ 0
past_words [] x past = refl
past_words (v ∷ vs) zero past = absurd (omega (arith, past))
past_words (v ∷ vs) (suc x) past = past_words vs x (omega (arith, past))

-- a volume of which the first n blocks are marked, with these inodes and these words in the blocks 3 and 4
abbrev pub made : ℕ → List ℕ → List ℕ → List ℕ → BlockWords
made n inodes third fourth b x =
    if b == 0 then block_of (volume_magic ∷ 1 ∷ 16 ∷ 32 ∷ []) x else
    if b == 1 then block_of ((2 ^ n - 1) ∷ []) x else
    if b == 2 then block_of inodes x else
    if b == 3 then block_of third x else
    if b == 4 then block_of fourth x else 0

made_superblock : (n : ℕ) (inodes third fourth : List ℕ) → HasSuperblock (made n inodes third fourth) file_shape
made_superblock n inodes third fourth = record { magic = refl; version = refl; blocks = refl; inodes = refl }

made_bit : (n : ℕ) (inodes third fourth : List ℕ) (b : ℕ) → b < bitmap_bits file_shape → used_bit file_shape (made n inodes third fourth) b ≡ bit_at (block_of ((2 ^ n - 1) ∷ []) (b % 32768 / 64)) (b % 64)
made_bit n inodes third fourth b within = ap (λ c. bit_at (made n inodes third fourth c (b % 32768 / 64)) (b % 64)) (bits_at b within)

first_word : (n b : ℕ) → b < 64 → bit_at (block_of ((2 ^ n - 1) ∷ []) (b % 32768 / 64)) (b % 64) ≡ bit_at (2 ^ n - 1) b
first_word n b few =
    let word : b % 32768 / 64 ≡ 0 = omega (arith, few) in
    let place : b % 64 ≡ b = omega (arith, few) in
    ap (λ x. bit_at (block_of ((2 ^ n - 1) ∷ []) x) (b % 64)) word ∙ ap (bit_at (2 ^ n - 1)) place

later_word : (b : ℕ) → 64 ≤ b → b < bitmap_bits file_shape → 1 ≤ b % 32768 / 64
unfolding more_bitmap
later_word b from within = omega (arith, from, within)

made_marked : (n : ℕ) (inodes third fourth : List ℕ) (b : ℕ) → n ≤ 64 → b < n → used_bit file_shape (made n inodes third fourth) b ≡ 1
made_marked n inodes third fourth b small low = made_bit n inodes third fourth b (omega (arith, small, low)) ∙ first_word n b (omega (arith, small, low)) ∙ bit_at_ones n b low

made_unmarked : (n : ℕ) (inodes third fourth : List ℕ) (b : ℕ) → n ≤ b → b < bitmap_bits file_shape → used_bit file_shape (made n inodes third fourth) b ≡ 0
made_unmarked n inodes third fourth b past within = made_bit n inodes third fourth b within ∙ elim (cases_lt b 64) [
  | inl few ↦ first_word n b few.0 ∙ bit_at_ones_above n b past
  | inr many ↦ (let from = many.0 in ap (λ w. bit_at w (b % 64)) (past_words ((2 ^ n - 1) ∷ []) (b % 32768 / 64) (later_word b from within)) ∙ bit_at-zero (b % 64))
]

-- of inodes that take two places the others are free
made_free : (n : ℕ) (inodes third fourth : List ℕ) (i : ℕ) → length inodes ≤ 32 → 2 < i → i ≤ 32 → inode_kind (made n inodes third fourth) i ≡ 0
made_free n inodes third fourth i few from to =
    let block : 2 + (i - 1) / 32 ≡ 2 = omega (arith, from, to) in
    ap (λ b. made n inodes third fourth b (16 * ((i - 1) % 32) + 0)) block ∙ past_words inodes (16 * ((i - 1) % 32) + 0) (omega (arith, few, from, to))

-- ---- with a file

-- the entry of a name of one byte
abbrev entry_of_two : ℕ → List ℕ
entry_of_two c = (2 + 2 ^ 32) ∷ c ∷ []

abbrev file_inodes : List ℕ
file_inodes = (1 ∷ 64 ∷ 3 ∷ replicate 13 0) ++ (2 ∷ 5000 ∷ (4 + 2 ^ 32 * 5) ∷ [])

pub file_made : BlockWords
file_made = made 6 file_inodes (entry_of_two 102) []

pub file_there : IsFileVolume file_made
unfolding file_made
file_there = record {
  file = record {
    root_kind = refl;
    root_size = refl;
    root_page = refl;
    kind = refl;
    size = refl;
    numbers = refl;
    others = λ i from to. made_free 6 file_inodes (entry_of_two 102) [] i (omega arith) from to;
    row = refl;
    name = refl;
  };
  superblock = made_superblock 6 file_inodes (entry_of_two 102) [];
  marked = λ b low. made_marked 6 file_inodes (entry_of_two 102) [] b (omega arith) low;
  unmarked = λ b past within. made_unmarked 6 file_inodes (entry_of_two 102) [] b past within;
}

-- ---- with a region

abbrev region_inodes : List ℕ
region_inodes = (1 ∷ 64 ∷ 3 ∷ replicate 13 0) ++ (3 ∷ 16384 ∷ (4 + 2 ^ 32 * 5) ∷ (6 + 2 ^ 32 * 7) ∷ [])

abbrev region_header : List ℕ
region_header = region_magic ∷ 1 ∷ 1 ∷ 0 ∷ []

pub region_made : BlockWords
region_made = made 8 region_inodes (entry_of_two 114) region_header

by_four : (holds : ℕ → Type 0) → holds 0 → holds 1 → holds 2 → holds 3 → (p : ℕ) → p < 4 → holds p
by_four holds a b c d zero less = a
by_four holds a b c d (suc zero) less = b
by_four holds a b c d (suc (suc zero)) less = c
by_four holds a b c d (suc (suc (suc zero))) less = d
by_four holds a b c d (suc (suc (suc (suc p)))) less = absurd (omega (arith, less))

region_small : IsSmall region_made 64 3 16384
unfolding region_made half
region_small = record {
  superblock = made_superblock 8 region_inodes (entry_of_two 114) region_header;
  two = record { root_kind = refl; root_size = refl; kind = refl; size = refl; others = λ i from to. inl (made_free 8 region_inodes (entry_of_two 114) region_header i (omega arith) from to) };
  order = record { root = refl; each = λ p within. by_four (λ x. direct_number region_made 2 x ≡ 4 + x) refl refl refl refl p within };
  marked = λ b low. made_marked 8 region_inodes (entry_of_two 114) region_header b (omega arith) low;
  unmarked = λ b past within. made_unmarked 8 region_inodes (entry_of_two 114) region_header b past within;
}

pub region_there : IsRegionVolume region_made
unfolding region_made
region_there = record {
  region = record { small = region_small; others = λ i from to. made_free 8 region_inodes (entry_of_two 114) region_header i (omega arith) from to; row = refl; name = refl };
  magic = refl;
  undo = refl;
  data_pages = refl;
  head = refl;
  map = λ w less. refl;
}

-- ---- with a directory in itself

abbrev loop_inodes : List ℕ
loop_inodes = (1 ∷ replicate 15 0) ++ (1 ∷ 64 ∷ 3 ∷ [])

pub loop_made : BlockWords
loop_made = made 4 loop_inodes (entry_of_two 102) []

pub loop_there : HasLoop loop_made
unfolding loop_made half
loop_there = record {
  superblock = made_superblock 4 loop_inodes (entry_of_two 102) [];
  root_kind = refl;
  root_size = refl;
  kind = refl;
  size = refl;
  number = refl;
  others = λ i from to. made_free 4 loop_inodes (entry_of_two 102) [] i (omega arith) from to;
  row = refl;
  name = refl;
  marked = λ b low. made_marked 4 loop_inodes (entry_of_two 102) [] b (omega arith) low;
  unmarked = λ b past within. made_unmarked 4 loop_inodes (entry_of_two 102) [] b past within;
}
