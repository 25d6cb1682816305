-- What is written into a list of zeros.
use Rattle.std.proofs.Common.{◌≡◌, ◌==◌, if◌then◌else◌, ◌<◌, ◌≤◌, ℕ, zero, suc, ◌+◌, ◌-◌, ◌*◌, ◌/◌, ◌%◌, min, List, [], ◌∷◌, length, take, set, map, replicate, get_or, slice_index, refl, sym, ap, ◌∙◌, inl, inr, arith, nat_lt, nat_le, ◌&&◌}
use Rattle.std.proofs.lemmas.Bool.{cases_eq, cases_lt}
use Rattle.std.proofs.lemmas.Nat.Bits.{bit_at_ones, bit_at_ones_above}
use Rattle.std.specs.Prelude.{codes}
use Rattle.std.specs.Int.{bit_at}
use Rattle.std.proofs.lemmas.List.{get_or-set_same, get_or-set_other, get_or-replicate, length-set, length-replicate, take_at}
use Rattle.std.proofs.lemmas.List.FromFn.{fill_by_all, get_or-map-range_with_len, length-map-range_with_len}
use Rattle.std.proofs.lemmas.Bool.Decides.{nat_tests}
use Rattle.std.specs.List.{range_with_len}
use Rattle.image_codec.specs.Image.{fresh_image_word, fresh_image_words}
use Rattle.rio_base.specs.Image.{entry_at, image_magic, image_pages, registry_pages}
use Rattle.rio_base.specs.declared.places.VolumeShape.{VolumeShape}
use Rattle.rio_base.specs.Bitmap.{bitmap_block, used_bit}
use Rattle.rio_base.proofs.Bitmap.{first_bitmap}
use Rattle.rio_base.specs.Layout.{HasSuperblock, volume_magic}
use Rattle.rio_base.specs.Shapes.{more_bitmap, reserved}
use Rattle.byteorder.specs.Endian.{little_bytes}
use Rattle.rio_base.specs.Bytes.{bytes_of}
use Rattle.image_codec.specs.Volume.{bitmap_word, block_words, fresh_shape, fresh_volume_word, fresh_volume_words}

-- a list of words with a part marked, from first on
abbrev pub IsMarked : (ℕ → ℕ) → ℕ → List ℕ → List ℕ → Type 0
IsMarked f n old new = (i : ℕ) → get_or new i 0 ≡ (if nat_le 512 i && nat_lt i (512 + n) then f (i - 512) else get_or old i 0)

-- one word more of a bitmap
pub mark_step : (f : ℕ → ℕ) (n v : ℕ) (old xs : List ℕ) → 512 + n < length xs → v ≡ f n → IsMarked f n old xs → IsMarked f (n + 1) old (set xs (512 + n) v)
mark_step f n v old xs lt is before i = elim (cases_eq i (512 + n)) [
  | inl here ↦
      let place : i - 512 ≡ n = omega arith in
      let value : f (i - 512) ≡ v = ap f place ∙ sym is in
      let read : get_or (set xs (512 + n) v) i 0 ≡ v = ap (λ (k : ℕ). get_or (set xs (512 + n) v) k 0) here ∙ get_or-set_same xs (512 + n) v 0 lt in
      grind (arith, nat_tests, value, read)
  | inr other ↦
      let read : get_or (set xs (512 + n) v) i 0 ≡ get_or xs i 0 = get_or-set_other xs (512 + n) i v 0 other in
      let was = before i in
      grind (arith, nat_tests, was, read)
]

-- a header in zeros
pub header_in_zeros : (n magic frames scratch : ℕ) → 4 ≤ n → (k : ℕ) → k < n → get_or (set (set (set (set (replicate n 0) 0 magic) 1 1) 2 frames) 3 scratch) k 0 ≡ (if k == 0 then magic else if k == 1 then 1 else if k == 2 then frames else if k == 3 then scratch else 0)
header_in_zeros n magic frames scratch four k lt = grind (arith, nat_tests, get_or-set_same, get_or-set_other, get_or-replicate, length-set, length-replicate)

zero_at : (n i : ℕ) → get_or (replicate {A = ℕ} n 0) i 0 ≡ 0
zero_at zero i = refl
zero_at (suc n) zero = refl
zero_at (suc n) (suc i) = zero_at n i

-- the words of a fresh image
pub fresh_header : (items : List ℕ) (n frames scratch : ℕ) → items ≡ replicate n 0 → n ≡ 512 * image_pages frames scratch → set (set (set (set items 0 image_magic) 1 1) 2 frames) 3 scratch ≡ fresh_image_words frames scratch
fresh_header items n frames scratch zeros count =
    let written : List ℕ → List ℕ = λ xs. set (set (set (set xs 0 image_magic) 1 1) 2 frames) 3 scratch in
    let long : length (written (replicate n 0)) ≡ n = simp (length-set, length-replicate) in
    let four : 4 ≤ n = omega arith in
    ap written zeros
    ∙ fill_by_all (fresh_image_word frames scratch) (written (replicate n 0)) n 0 long (λ k lt. header_in_zeros n image_magic frames scratch four k lt)
    ∙ ap (λ (m : ℕ). map (fresh_image_word frames scratch) (range_with_len 0 m)) count

pub registry_pages_are : (frames : ℕ) → (frames + 101) / 102 ≡ registry_pages frames
unfolding registry_pages
registry_pages_are frames = refl

-- an entry lies behind the header
behind_header : (k : ℕ) → 4 ≤ entry_at k
unfolding entry_at
behind_header k = omega arith

-- no word behind the header's first four is written
header_only : (n magic frames scratch i : ℕ) → 4 ≤ i → get_or (set (set (set (set (replicate n 0) 0 magic) 1 1) 2 frames) 3 scratch) i 0 ≡ 0
header_only n magic frames scratch i behind = grind (arith, get_or-set_other, zero_at)

pub fresh_entry : (items : List ℕ) (n frames scratch k : ℕ) → items ≡ replicate n 0 → slice_index (set (set (set (set items 0 image_magic) 1 1) 2 frames) 3 scratch) (entry_at k) ≡ 0
fresh_entry items n frames scratch k zeros =
    let behind : 4 ≤ entry_at k = behind_header k in
    ap (λ (xs : List ℕ). slice_index (set (set (set (set xs 0 image_magic) 1 1) 2 frames) 3 scratch) (entry_at k)) zeros ∙ header_only n image_magic frames scratch (entry_at k) behind

-- the words of a fresh volume, by block and word
volume_at : (f : ℕ → ℕ) (marked : List ℕ) (magic blocks inodes b w i : ℕ) → i ≡ 512 * b + w → w < 512 → 1024 < length marked → get_or marked i 0 ≡ (if nat_le 512 i && nat_lt i 1024 then f (i - 512) else 0)
    → get_or (set (set (set (set (set marked 0 magic) 1 1) 2 blocks) 3 inodes) 1024 1) i 0
    ≡ (if b == 0 then (if w == 0 then magic else if w == 1 then 1 else if w == 2 then blocks else if w == 3 then inodes else 0) else if b == 1 then f w else if b == 2 then (if w == 0 then 1 else 0) else 0)
volume_at f marked magic blocks inodes zero w i place lt long was =
    let e : i ≡ w = omega arith in
    let zeros : get_or marked i 0 ≡ 0 = grind (arith, nat_tests, was) in
    grind (arith, nat_tests, get_or-set_same, get_or-set_other, length-set)
volume_at f marked magic blocks inodes (suc zero) w i place lt long was =
    let e : i - 512 ≡ w = omega arith in
    let value : get_or marked i 0 ≡ f w = grind (arith, nat_tests, was) in
    grind (arith, nat_tests, get_or-set_other)
volume_at f marked magic blocks inodes (suc (suc zero)) zero i place lt long was =
    let e : i ≡ 1024 = omega arith in
    rw e (get_or-set_same (set (set (set (set marked 0 magic) 1 1) 2 blocks) 3 inodes) 1024 1 0 (simp length-set long))
volume_at f marked magic blocks inodes (suc (suc zero)) (suc w) i place lt long was =
    let zeros : get_or marked i 0 ≡ 0 = grind (arith, nat_tests, was) in
    grind (arith, nat_tests, get_or-set_other)
volume_at f marked magic blocks inodes (suc (suc (suc b))) w i place lt long was =
    let zeros : get_or marked i 0 ≡ 0 = grind (arith, nat_tests, was) in
    grind (arith, nat_tests, get_or-set_other)

pub fresh_volume_is : (zeros marked : List ℕ) (blocks inodes : ℕ) → zeros ≡ replicate (512 * blocks) 0 → 3 ≤ blocks → length marked ≡ length zeros → IsMarked (bitmap_word (reserved (fresh_shape blocks inodes))) 512 zeros marked
    → set (set (set (set (set marked 0 volume_magic) 1 1) 2 blocks) 3 inodes) 1024 1 ≡ fresh_volume_words blocks inodes
fresh_volume_is zeros marked blocks inodes none room same is =
    let size : length marked ≡ 512 * blocks = same ∙ ap length none ∙ length-replicate (512 * blocks) 0 in
    let long : length (set (set (set (set (set marked 0 volume_magic) 1 1) 2 blocks) 3 inodes) 1024 1) ≡ 512 * blocks = simp length-set size in
    fill_by_all (λ i. fresh_volume_word blocks inodes (i / 512) (i % 512)) (set (set (set (set (set marked 0 volume_magic) 1 1) 2 blocks) 3 inodes) 1024 1) (512 * blocks) 0 long
    (λ i lt. volume_at (bitmap_word (reserved (fresh_shape blocks inodes))) marked volume_magic blocks inodes (i / 512) (i % 512) i (omega arith) (omega arith) (omega arith)
    (is i ∙ ap (λ (z : ℕ). if nat_le 512 i && nat_lt i 1024 then bitmap_word (reserved (fresh_shape blocks inodes)) (i - 512) else z) (ap (λ (xs : List ℕ). get_or xs i 0) none ∙ zero_at (512 * blocks) i)))

-- the bits of a bitmap of used blocks
bit_of : (count q t : ℕ) → t < 64 → bit_at (bitmap_word count q) t ≡ (if nat_lt (64 * q + t) count then 1 else 0)
bit_of count q t lt = elim (cases_lt (64 * q + t) count) [
  | inl used ↦
      let below : t < min 64 (count - 64 * q) = omega arith in
      let bit = bit_at_ones (min 64 (count - 64 * q)) t below in
      grind (arith, nat_tests, bit)
  | inr free ↦
      let above : min 64 (count - 64 * q) ≤ t = omega arith in
      let bit = bit_at_ones_above (min 64 (count - 64 * q)) t above in
      grind (arith, nat_tests, bit)
]

-- a word of a fresh volume, by its block and its place there
fresh_word : (words : List ℕ) (blocks inodes b w : ℕ) → words ≡ fresh_volume_words blocks inodes → b < blocks → w < 512 → block_words words b w ≡ fresh_volume_word blocks inodes b w
fresh_word words blocks inodes b w is block lt =
    let i : ℕ = 512 * b + w in
    let own : i / 512 ≡ b = omega arith in
    let place : i % 512 ≡ w = omega arith in
    ap (λ (ws : List ℕ). slice_index ws i) is ∙ get_or-map-range_with_len (λ j. fresh_volume_word blocks inodes (j / 512) (j % 512)) 0 (512 * blocks) i i 0 (omega arith) (omega arith)
    ∙ ap (λ (c : ℕ). fresh_volume_word blocks inodes c (i % 512)) own ∙ ap (fresh_volume_word blocks inodes b) place

-- version 1 has one block of bitmap
reserved_first : (shape : VolumeShape) → shape.version ≡ 1 → reserved shape ≡ 2 + shape.inodes / 32
unfolding more_bitmap
reserved_first shape first = grind (arith, nat_tests, first)

pub reserved_fresh : (blocks inodes : ℕ) → 2 + inodes / 32 ≡ reserved (fresh_shape blocks inodes)
reserved_fresh blocks inodes = sym (reserved_first (fresh_shape blocks inodes) refl)

marked_bit : (v count next q t b : ℕ) → v ≡ bitmap_word count q → t < 64 → 64 * q + t ≡ b → count ≡ next → bit_at v t ≡ (if nat_lt b next then 1 else 0)
marked_bit v count next q t b is lt whole same = ap (λ w. bit_at w t) is ∙ bit_of count q t lt ∙ ap (λ n. if nat_lt n count then 1 else 0) whole ∙ ap (λ n. if nat_lt b n then 1 else 0) same

-- a block's bit in the bitmap of a fresh volume
pub marked_in : (words : List ℕ) (shape : VolumeShape) (b : ℕ) → words ≡ fresh_volume_words shape.blocks shape.inodes → shape.version ≡ 1 → 3 ≤ shape.blocks → b < 32768
    → used_bit shape (block_words words) b ≡ (if nat_lt b (reserved shape) then 1 else 0)
marked_in words shape b is first room lt =
    let count : ℕ = reserved (fresh_shape shape.blocks shape.inodes) in
    let word : b % 32768 / 64 ≡ b / 64 = omega arith in
    let read : block_words words (bitmap_block shape b) (b % 32768 / 64) ≡ bitmap_word count (b / 64) =
    ap (λ (c : ℕ). block_words words c (b % 32768 / 64)) (first_bitmap shape b lt) ∙ ap (block_words words 1) word ∙ fresh_word words shape.blocks shape.inodes 1 (b / 64) is (omega arith) (omega arith) in
    let same : count ≡ reserved shape = sym (reserved_fresh shape.blocks shape.inodes) ∙ sym (reserved_first shape first) in
    marked_bit _ count (reserved shape) (b / 64) (b % 64) b read (omega arith) (omega arith) same

pub superblock_in : (words : List ℕ) (shape : VolumeShape) → words ≡ fresh_volume_words shape.blocks shape.inodes → shape.version ≡ 1 → 3 ≤ shape.blocks → HasSuperblock (block_words words) shape
superblock_in words shape is first room = record {
  magic = fresh_word words shape.blocks shape.inodes 0 0 is (omega arith) (omega arith);
  version = fresh_word words shape.blocks shape.inodes 0 1 is (omega arith) (omega arith) ∙ sym first;
  blocks = fresh_word words shape.blocks shape.inodes 0 2 is (omega arith) (omega arith);
  inodes = fresh_word words shape.blocks shape.inodes 0 3 is (omega arith) (omega arith);
}

-- ---- the text of the magic words

first_bytes : (words : List ℕ) (magic : ℕ) → 0 < length words → slice_index words 0 ≡ magic → take 8 (bytes_of words) ≡ little_bytes 8 magic
first_bytes [] magic some is = absurd (omega arith)
first_bytes (w ∷ words) magic some is = take_at (little_bytes 8 w) (bytes_of words) 8 refl ∙ ap (little_bytes 8) is

pub volume_text : (words : List ℕ) (blocks inodes : ℕ) → words ≡ fresh_volume_words blocks inodes → 3 ≤ blocks → take 8 (bytes_of words) ≡ codes "RIOVOLUM"
volume_text words blocks inodes is room =
    let size : length words ≡ 512 * blocks = ap length is ∙ length-map-range_with_len (λ i. fresh_volume_word blocks inodes (i / 512) (i % 512)) 0 (512 * blocks) in
    first_bytes words volume_magic (omega arith) (fresh_word words blocks inodes 0 0 is (omega arith) (omega arith))
