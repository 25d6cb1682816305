-- The words and the blocks that stand in bytes: each list of bytes has one.
use Rattle.std.proofs.Common.{◌≡◌, ◌<◌, ◌≤◌, ℕ, suc, ◌+◌, ◌-◌, ◌*◌, ◌/◌, ◌^◌, List, [], ◌∷◌, ◌++◌, map, length, take, drop, slice_index, ◌⊎◌, inl, inr, refl, sym, ap, subst, ◌∙◌, arith, length-drop, get_or-take, get_or-drop}
use Rattle.std.specs.List.{AllByRecursion, range_with_len}
use Rattle.std.proofs.Math.Seq.{take-add}
use Rattle.std.proofs.lemmas.Bool.{cases_lt}
use Rattle.std.proofs.lemmas.List.{drop-drop, drop-take, drop_at, ext_get_or, get_or_past, length-take-le, take_all, take_at}
use Rattle.std.proofs.lemmas.List.FromFn.{get_or-map-range_with_len, length-map-range_with_len}
use borrow.Rule.Slice.PartMut.{put_mid}
use Rattle.block_disk.proofs.FileReads.{bytes-append, mid_words}
use Rattle.byteorder.specs.Endian.{little_number}
use Rattle.byteorder.specs.Numbers.{little_from-take}
use Rattle.rio_base.specs.Bytes.{bytes_of, word_at}
use Rattle.rio_base.specs.Disks.{block_at, blocks_of}
use Rattle.rio_base.specs.Memory.{page_at}
use Rattle.rio_base.proofs.Bytes.{length-bytes_of, same_words, word_at-bytes_of}
use Rattle.rio_base.proofs.WordBlocks.{block_is, block_long, blocks_many, blocks_word}
use Rattle.pair_files.specs.Pairs.{AreBlocksIn}

-- ---- words

-- each word has 64 bits
abbrev pub AreWords : List ℕ → Type 0
AreWords words = (i : ℕ) → slice_index words i < 2 ^ 64

pub all_words : (words : List ℕ) → AreWords words → AllByRecursion (λ w. w < 2 ^ 64) words
all_words [] fit = tt
all_words (w ∷ words) fit = (fit 0, all_words words (λ i. fit (suc i)))

-- each word of bytes is read back
pub word_back : (words : List ℕ) (k : ℕ) → AreWords words → k < length words → word_at (bytes_of words) k ≡ slice_index words k
word_back words k fit less = word_at-bytes_of words k (all_words words fit) less

-- words that have the same bytes are the same
pub one_words : (bytes a b : List ℕ) → AreWords a → AreWords b → bytes ≡ bytes_of a → bytes ≡ bytes_of b → a ≡ b
one_words bytes a b fit fits is was = same_words b a bytes (all_words b fits) was is (λ k less. sym (ap (λ (bs : List ℕ). word_at bs k) is ∙ word_back a k fit less))

-- two lists that are one behind the other, and the first is as long
pub split_same : (a b x y : List ℕ) → a ++ b ≡ x ++ y → length a ≡ length x → (a ≡ x) × (b ≡ y)
split_same a b x y e long = (
  sym (take_at a b (length a) refl) ∙ ap (take (length a)) e ∙ take_at x y (length a) (sym long),
  sym (drop_at a b (length a) refl) ∙ ap (drop (length a)) e ∙ drop_at x y (length a) (sym long),
)

-- ---- blocks

-- the words that stand in bytes
abbrev pub words_in : List ℕ → List ℕ
words_in bytes = map (word_at bytes) (range_with_len 0 (length bytes / 8))

-- a whole number of blocks stands in bytes
pub blocks_in : (bytes : List ℕ) (n : ℕ) → length bytes ≡ 4096 * n → AreBlocksIn bytes (blocks_of (words_in bytes))
blocks_in bytes n long = record {
  count = omega (arith, many, long);
  whole = λ b less. ap length (block_is (words_in bytes) b (within b less)) ∙ block_long (words_in bytes) b (within b less);
  words = λ b w less small. blocks_word (words_in bytes) b w (within b less) small ∙ get_or-map-range_with_len (word_at bytes) 0 (length bytes / 8) (512 * b + w) (512 * b + w) 0 (omega (arith, within b less, words, small)) (omega arith);
}
  where
    words : length (words_in bytes) ≡ length bytes / 8
    words = length-map-range_with_len (word_at bytes) 0 (length bytes / 8)

    many : length (blocks_of (words_in bytes)) ≡ n
    many = omega (arith, blocks_many (words_in bytes), words, long)

    within : (b : ℕ) → b < length (blocks_of (words_in bytes)) → b < length (words_in bytes) / 512
    within b less = omega (arith, less, blocks_many (words_in bytes))

-- the blocks of words stand in their bytes
pub blocks_of_in : (words : List ℕ) (n : ℕ) → length words ≡ 512 * n → AreWords words → AreBlocksIn (bytes_of words) (blocks_of words)
blocks_of_in words n long fit = record {
  count = omega (arith, blocks_many words, length-bytes_of words, long);
  whole = λ b less. ap length (block_is words b (within b less)) ∙ block_long words b (within b less);
  words = λ b w less small. blocks_word words b w (within b less) small ∙ sym (word_back words (512 * b + w) fit (omega (arith, within b less, small)));
}
  where
    within : (b : ℕ) → b < length (blocks_of words) → b < length words / 512
    within b less = omega (arith, less, blocks_many words)

-- bytes have one list of blocks
pub one_blocks : (bytes : List ℕ) (a b : List (List ℕ)) → AreBlocksIn bytes a → AreBlocksIn bytes b → a ≡ b
one_blocks bytes a b h k = ext_get_or [] a b count (λ i less.
    let other : i < length b = omega (arith, less, count) in
    ext_get_or 0 (block_at a i) (block_at b i) (h.whole i less ∙ sym (k.whole i other)) (λ w small.
    let short : w < 512 = omega (arith, small, h.whole i less) in
    h.words i w less short ∙ sym (k.words i w other short)))
  where
    count : length a ≡ length b
    count = omega (arith, h.count, k.count)

-- 4,096 bytes are those of 512 words
pub block_is_long : (bytes block : List ℕ) (b : ℕ) → 4096 * b + 4096 ≤ length bytes → take 4096 (drop (4096 * b) bytes) ≡ bytes_of block → length block ≡ 512
block_is_long bytes block b fits is =
    let taken : length (take 4096 (drop (4096 * b) bytes)) ≡ 4096 = length-take-le 4096 (drop (4096 * b) bytes) (omega (arith, length-drop (4096 * b) bytes, fits)) in
    let same = ap length is in
    omega (arith, taken, same, length-bytes_of block)

-- a block whose 4,096 bytes stand in bytes as block b is that block of theirs
pub block_read : (bytes block : List ℕ) (b w : ℕ) → 4096 * b + 4096 ≤ length bytes → take 4096 (drop (4096 * b) bytes) ≡ bytes_of block → AreWords block → w < 512 → word_at bytes (512 * b + w) ≡ slice_index block w
block_read bytes block b w fits is fit small =
    ap (λ n. little_number 8 (drop n bytes)) place
    ∙ ap (little_number 8) (sym (drop-drop (8 * w) (4096 * b) bytes))
    ∙ sym (little_from-take 0 8 (4096 - 8 * w) (drop (8 * w) rest) (omega (arith, small)))
    ∙ ap (little_number 8) (sym (drop-take (8 * w) (4096 - 8 * w) rest) ∙ ap (λ n. drop (8 * w) (take n rest)) whole ∙ ap (drop (8 * w)) is)
    ∙ word_back block w fit (omega (arith, small, long))
  where
    rest : List ℕ
    rest = drop (4096 * b) bytes

    place : 8 * (512 * b + w) ≡ 4096 * b + 8 * w
    place = omega arith

    whole : 8 * w + (4096 - 8 * w) ≡ 4096
    whole = omega (arith, small)

    long : length block ≡ 512
    long = block_is_long bytes block b fits is

-- ---- a page's bytes

-- they were put into the middle of others
pub page_put : (xs ys words : List ℕ) (at n : ℕ) → n ≡ 4096 → at + 4096 ≤ length xs → length words ≡ 512 → ys ≡ bytes_of words → take 4096 (drop at (put_mid at n xs ys)) ≡ bytes_of words
page_put xs ys words at n e fits long is =
    let count = ap (λ (bs : List ℕ). length bs) is in
    ap (λ k. take k (drop at (put_mid at n xs ys))) (sym e) ∙ mid_words xs ys at n (omega (arith, count, length-bytes_of words, long, e)) (omega (arith, e, fits)) ∙ is

pub page_long : (all words : List ℕ) (p n : ℕ) → 512 * n ≡ length all → p < n → words ≡ page_at all p → length words ≡ 512
page_long all words p n long less is = ap (λ (ws : List ℕ). length ws) is ∙ length-take-le 512 (drop (512 * p) all) (omega (arith, length-drop (512 * p) all, long, less))

-- ---- pages one after the other

-- the bytes of the first p pages of these words were put over others
pub record Filled (all : List ℕ) (p : ℕ) (bytes : List ℕ) : Type 0 where
  pub count : length bytes ≡ 8 * length all
  pub front : take (4096 * p) bytes ≡ bytes_of (take (512 * p) all)
  pub fit : (i : ℕ) → i < 512 * p → slice_index all i < 2 ^ 64

pub filled_none : (all bytes : List ℕ) → length bytes ≡ 8 * length all → Filled all 0 bytes
filled_none all bytes count = record { count = count; front = refl; fit = λ i less. absurd (omega (arith, less)) }

pub filled_next : (all words old new : List ℕ) (p n : ℕ) → Filled all p old → 512 * n ≡ length all → p < n → words ≡ page_at all p → length new ≡ length old → take (4096 * p) new ≡ take (4096 * p) old → take 4096 (drop (4096 * p) new) ≡ bytes_of words → AreWords words → Filled all (p + 1) new
filled_next all words old new p n h long less is same before page fit = record {
  count = same ∙ h.count;
  front =
      ap (λ k. take k new) (let e : 4096 * (p + 1) ≡ 4096 * p + 4096 = omega arith in e)
      ∙ take-add (4096 * p) 4096 new
      ∙ ap (λ (bs : List ℕ). bs ++ take 4096 (drop (4096 * p) new)) (before ∙ h.front)
      ∙ ap (λ (bs : List ℕ). bytes_of (take (512 * p) all) ++ bs) (page ∙ ap bytes_of is)
      ∙ sym (bytes-append (take (512 * p) all) (page_at all p))
      ∙ ap bytes_of (sym (take-add (512 * p) 512 all))
      ∙ ap (λ k. bytes_of (take k all)) (let e : 512 * p + 512 ≡ 512 * (p + 1) = omega arith in e);
  fit = λ i small. at i small (cases_lt i (512 * p));
}
  where
    at : (i : ℕ) → i < 512 * (p + 1) → (i < 512 * p) ⊎ (512 * p ≤ i) → slice_index all i < 2 ^ 64
    at i small (inl low) = h.fit i low
    at i small (inr high) =
        let w : ℕ = i - 512 * p in
        let short : w < 512 = omega (arith, small, high) in
        let place : 512 * p + w ≡ i = omega (arith, high) in
        subst (λ v. v < 2 ^ 64) (ap (λ (ws : List ℕ). slice_index ws w) is ∙ get_or-take 512 (drop (512 * p) all) w 0 short ∙ get_or-drop (512 * p) all w 0 ∙ ap (slice_index all) place) (fit w)

pub filled_bytes : (all bytes : List ℕ) (n : ℕ) → 512 * n ≡ length all → Filled all n bytes → bytes ≡ bytes_of all
filled_bytes all bytes n long h = sym (take_all (4096 * n) bytes (omega (arith, h.count, long))) ∙ h.front ∙ ap bytes_of (take_all (512 * n) all (omega (arith, long)))

pub filled_fit : (all bytes : List ℕ) (n : ℕ) → 512 * n ≡ length all → Filled all n bytes → AreWords all
filled_fit all bytes n long h i = at (cases_lt i (512 * n))
  where
    none : (v : ℕ) → v ≡ 0 → v < 2 ^ 64
    none v e = omega (arith, e)

    at : (i < 512 * n) ⊎ (512 * n ≤ i) → slice_index all i < 2 ^ 64
    at (inl less) = h.fit i less
    at (inr past) = none (slice_index all i) (get_or_past all i 0 (omega (arith, past, long)))
