-- Words read from blocks, one block after the other, and the inodes of a volume in them.
use Rattle.volume_check.proofs.Common.{List, [], ap, arith, inl, inr, length, slice_index, sym, cases_lt, ℕ, ◌%◌, ◌*◌, ◌++◌, ◌+◌, ◌-◌, ◌/◌, ◌<◌, ◌∙◌, ◌≡◌, ◌≤◌, get_or-append-add, get_or_append_left, length-append, BlockWords, IsIno, IsRun, inode_word, VolumeShape}
use Rattle.volume_check.specs.NodeBlocks.{PushesBlock}

-- k blocks were read, block `at 0` first
pub record HasBlocks (f : BlockWords) (at : ℕ → ℕ) (k : ℕ) (words : List ℕ) : Type 0 where
  pub len : length words ≡ 512 * k
  pub each : (y : ℕ) → y < 512 * k → slice_index words y ≡ f (at (y / 512)) (y % 512)

pub no_blocks : (f : BlockWords) (at : ℕ → ℕ) (words : List ℕ) → words ≡ [] → HasBlocks f at 0 words
no_blocks f at words none = record { len = ap length none; each = λ y less. absurd (omega (arith, less)) }

pub pushed : (f : BlockWords) (b : ℕ) (old block new : List ℕ) → length block ≡ 512 → IsRun f b 0 512 block → new ≡ old ++ block → PushesBlock f b old new
pushed f b old block new long run is = record {
  len = ap length is ∙ length-append old block ∙ ap (λ n. length old + n) long;
  front = λ y less. ap (λ xs. slice_index xs y) is ∙ get_or_append_left old block 0 y less;
  block = λ w few. ap (λ xs. slice_index xs (length old + w)) is ∙ get_or-append-add old block w 0 ∙ run.each w few ∙ (let e : 0 + w ≡ w = omega arith in ap (f b) e);
}

pub blocks_next : (f : BlockWords) (at : ℕ → ℕ) (k b : ℕ) (old new : List ℕ) → b ≡ at k → HasBlocks f at k old → PushesBlock f b old new → HasBlocks f at (k + 1) new
blocks_next f at k b old new is h p = record {
  len = (let long = h.len in let more = p.len in omega (arith, long, more));
  each = λ y less. elim (cases_lt y (512 * k)) [
    | inl low ↦ p.front y (let long = h.len in omega (arith, low, long)) ∙ h.each y low
    | inr high ↦
        let long = h.len in
        let e : length old + (y - 512 * k) ≡ y = omega (arith, high, long) in
        let q : y / 512 ≡ k = omega (arith, less, high) in
        let r : y % 512 ≡ y - 512 * k = omega (arith, less, high) in
        sym (ap (slice_index new) e) ∙ p.block (y - 512 * k) (omega (arith, less, high)) ∙ ap (λ x. f x (y - 512 * k)) is ∙ sym (λ t. f (at (q t)) (r t))
  ];
}

-- ---- inodes lie in the blocks from block 2 on

place_block : (i w : ℕ) → 1 ≤ i → w < 16 → (16 * (i - 1) + w) / 512 ≡ (i - 1) / 32
place_block i w from few = omega (arith, from, few)

place_word : (i w : ℕ) → 1 ≤ i → w < 16 → (16 * (i - 1) + w) % 512 ≡ 16 * ((i - 1) % 32) + w
place_word i w from few = omega (arith, from, few)

pub inodes_read : (f : BlockWords) (shape : VolumeShape) (words : List ℕ) (i w : ℕ) → shape.inodes % 32 ≡ 0 → HasBlocks f (λ k. 2 + k) (shape.inodes / 32) words → IsIno shape i → w < 16 → slice_index words (16 * (i - 1) + w) ≡ inode_word f i w
inodes_read f shape words i w whole h ino few =
    let from = ino.from in
    let to = ino.to in
    let q = place_block i w from few in
    let r = place_word i w from few in
    h.each (16 * (i - 1) + w) (omega (arith, whole, from, to, few)) ∙ (λ t. f (2 + q t) (r t))

pub inodes_count : (shape : VolumeShape) (n : ℕ) → shape.inodes % 32 ≡ 0 → n ≡ 512 * (shape.inodes / 32) → n ≡ 16 * shape.inodes
inodes_count shape n whole is = by shape.inodes whole is
  where
    by : (m : ℕ) → m % 32 ≡ 0 → n ≡ 512 * (m / 32) → n ≡ 16 * m
    by m whole is = omega (arith, whole, is)
