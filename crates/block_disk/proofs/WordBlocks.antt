-- The blocks that words make, each of 512 words, made one after the other.
use Rattle.std.specs.Prelude.{◌≡◌, ℕ, ◌+◌, ◌/◌, ◌<◌, List, [], ◌∷◌, ◌++◌, length, map}
use Rattle.std.specs.List.{range_with_len}
use Rattle.std.specs.declared.alloc.Global.{Global}
use Rattle.std.proofs.Common.{Vec, ◌∙◌, ap, sym, arith}
use Rattle.std.proofs.lemmas.List.FromFn.{map-range_with_len_more}
use Rattle.rio_base.specs.Disks.{blocks_of}
use Rattle.rio_base.proofs.WordBlocks.{block_is, block_long, block_words, blocks_many}
use Rattle.block_disk.specs.BlockLists.{AreWhole, rows}
use Rattle.block_disk.proofs.Rows.{rows_push}

-- each block has 512 words
pub blocks_whole : (words : List ℕ) → AreWhole (blocks_of words)
blocks_whole words b less = let within : b < length words / 512 = omega (arith, less, blocks_many words) in ap length (block_is words b within) ∙ block_long words b within

-- the first b blocks
abbrev pub blocks_below : List ℕ → ℕ → List (List ℕ)
blocks_below words b = map (block_words words) (range_with_len 0 b)

-- one block more
pub one_more : (words : List ℕ) (b : ℕ) (all : List (Vec ℕ Global)) (v : Vec ℕ Global) → rows all ≡ blocks_below words b → v.items ≡ block_words words b → rows (all ++ v ∷ []) ≡ blocks_below words (b + 1)
one_more words b all v before is = rows_push all v ∙ ap (λ (front : List (List ℕ)). front ++ v.items ∷ []) before ∙ ap (λ (last : List ℕ). blocks_below words b ++ last ∷ []) is ∙ sym (map-range_with_len_more (block_words words) 0 b b (omega arith))
