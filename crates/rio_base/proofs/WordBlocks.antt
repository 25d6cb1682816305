-- The blocks that words make.
use Rattle.std.specs.Prelude.{◌≡◌, ℕ, ◌+◌, ◌*◌, ◌/◌, ◌<◌, List, [], length, take, drop, slice_index}
use Rattle.std.proofs.Common.{◌∙◌, ap, arith, get_or-take, get_or-drop, length-drop, length-take-le}
use Rattle.std.proofs.lemmas.List.FromFn.{get_or-map-range_with_len, length-map-range_with_len}
use Rattle.rio_base.specs.Disks.{block_at, blocks_of}

-- the words of block b
abbrev pub block_words : List ℕ → ℕ → List ℕ
block_words words b = take 512 (drop (512 * b) words)

pub blocks_many : (words : List ℕ) → length (blocks_of words) ≡ length words / 512
blocks_many words = length-map-range_with_len (block_words words) 0 (length words / 512)

pub block_is : (words : List ℕ) (b : ℕ) → b < length words / 512 → block_at (blocks_of words) b ≡ block_words words b
block_is words b less = get_or-map-range_with_len (block_words words) 0 (length words / 512) b b [] less (omega arith)

pub block_long : (words : List ℕ) (b : ℕ) → b < length words / 512 → length (block_words words b) ≡ 512
block_long words b less = length-take-le 512 (drop (512 * b) words) (omega (arith, length-drop (512 * b) words, less))

-- each has the words from its place on
pub blocks_word : (words : List ℕ) (b w : ℕ) → b < length words / 512 → w < 512 → slice_index (block_at (blocks_of words) b) w ≡ slice_index words (512 * b + w)
blocks_word words b w less small =
    ap (λ l. slice_index l w) (block_is words b less) ∙ get_or-take 512 (drop (512 * b) words) w 0 small ∙ get_or-drop (512 * b) words w 0
