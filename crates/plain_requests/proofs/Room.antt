-- How many blocks nodes take, and how many are left.
use Rattle.plain_requests.proofs.Common.{◌≡◌, ◌≢◌, ◌==◌, ℕ, suc, ◌+◌, ◌-◌, ◌*◌, ◌/◌, ◌≤◌, cond, true, false, length, map, ap, ◌∙◌, arith, sum, range_with_len, get, nat_tests, reserved, names_in, blocks_for, free_count, node_blocks, region_words, State}
use Rattle.std.specs.Int.{div_ceil}
use Rattle.rio_base.specs.Shapes.{more_bitmap}
use Rattle.rio_base.specs.declared.places.VolumeShape.{VolumeShape}
use Rattle.rio_requests.specs.Answers.{row_wanted}
use Rattle.rio_model.proofs.CountRules.{sum_last}

-- ---- what is reserved, by the version

pub reserved_second : (shape : VolumeShape) → shape.version ≡ 2 → reserved shape ≡ 2 + shape.inodes / 32 + 7
unfolding more_bitmap
reserved_second shape is = let t : (shape.version == 2) ≡ true = grind (arith, nat_tests, is) in ap (λ b. 2 + shape.inodes / 32 + cond b 7 0) t

pub reserved_first : (shape : VolumeShape) → shape.version ≢ 2 → reserved shape ≡ 2 + shape.inodes / 32
unfolding more_bitmap
reserved_first shape other = let t : (shape.version == 2) ≡ false = grind (arith, nat_tests, other) in ap (λ b. 2 + shape.inodes / 32 + cond b 7 0) t ∙ (let e : 2 + shape.inodes / 32 + 0 ≡ 2 + shape.inodes / 32 = omega arith in e)

-- ---- what is left behind each node

sum_more : (f : ℕ → ℕ) (n : ℕ) → sum (map f (range_with_len 1 (n + 1))) ≡ sum (map f (range_with_len 1 n)) + f (n + 1)
sum_more f n =
    let next : n + 1 ≡ suc n = omega arith in
    let at : 1 + n ≡ n + 1 = omega arith in
    ap (λ k. sum (map f (range_with_len 1 k))) next ∙ sum_last f n 1 ∙ ap (λ k. sum (map f (range_with_len 1 n)) + f k) at

pub left_more : (f : ℕ → ℕ) (n all left used new : ℕ) → left ≡ all - sum (map f (range_with_len 1 n)) → used ≡ f (n + 1) → new ≡ left - used → new ≡ all - sum (map f (range_with_len 1 (n + 1)))
left_more f n all left used new before is goes = let more = sum_more f n in omega (arith, before, is, goes, more)

pub left_all : (s : State) (n left : ℕ) → n ≤ s.shape.inodes → s.shape.inodes ≤ n → left ≡ s.shape.blocks - reserved s.shape - sum (map (λ i. node_blocks s i (get s.nodes i)) (range_with_len 1 n)) → left ≡ free_count s
left_all s n left to from is = let all : n ≡ s.shape.inodes = omega (arith, to, from) in is ∙ ap (λ k. s.shape.blocks - reserved s.shape - sum (map (λ i. node_blocks s i (get s.nodes i)) (range_with_len 1 k))) all

-- ---- pages and names

pub region_pages : (undo n content map : ℕ) → content ≡ n → map ≡ div_ceil content 256 → 1 + undo + map + content ≡ (8 * region_words undo n + 4095) / 4096
region_pages undo n content map is up = omega (arith, is, up)

pub row_wanted_is : (s : State) (dir count before after wants : ℕ) → count ≡ length (names_in s dir) → before ≡ blocks_for (64 * count) → after ≡ blocks_for (64 * (count + 1)) → wants ≡ after - before → wants ≡ row_wanted s dir
row_wanted_is s dir count before after wants counted was will is =
    is ∙ ap (λ n. n - before) will ∙ ap (λ n. blocks_for (64 * (count + 1)) - n) was ∙ ap (λ n. blocks_for (64 * (n + 1)) - blocks_for (64 * n)) counted
