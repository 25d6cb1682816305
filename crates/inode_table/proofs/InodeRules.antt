-- Laws of inodes: each word of one, and that the blocks say an inode that is stored.
use Rattle.std.proofs.Common.{◌≡◌, ℕ, ◌+◌, ◌-◌, ◌<◌, ◌==◌, ◌&&◌, true, cond, List, slice_index, ap, ◌∙◌, arith}
use Rattle.std.specs.Prelude.{nat_lt, not}
use Rattle.std.proofs.lemmas.Bool.Decides.{nat_tests}
use Rattle.std.proofs.lemmas.List.FromFn.{get_or-map-range_with_len}
use Rattle.rio_base.specs.Blocks.{BlockWords}
use Rattle.rio_base.specs.Layout.{inode_block, inode_place, inode_word, inode_kind}
use Rattle.rio_base.specs.Volume.{put_run}
use Rattle.inode_table.specs.declared.inode.Inode.{Inode}
use Rattle.inode_table.specs.Inodes.{word_of_inode, inode_words}

pub word_of_words : (n : Inode) (w : ℕ) → w < 16 → slice_index (inode_words n) w ≡ word_of_inode n w
unfolding inode_words
word_of_words n w few = get_or-map-range_with_len (word_of_inode n) 0 16 w w 0 few (omega arith)

-- ---- an inode that is stored

pub stored_word : (f : BlockWords) (i w : ℕ) (words : List ℕ) → w < 16 → inode_word (put_run f (inode_block i) (inode_place i) 16 words) i w ≡ slice_index words w
stored_word f i w words few =
    let place : (inode_place i + w) - inode_place i ≡ w = omega arith in
    let both : ((inode_block i == inode_block i) && (not (nat_lt (inode_place i + w) (inode_place i)) && nat_lt (inode_place i + w) (inode_place i + 16))) ≡ true = within (inode_block i) (inode_place i) w few in
    ap (λ b. cond b (slice_index words ((inode_place i + w) - inode_place i)) (f (inode_block i) (inode_place i + w))) both ∙ ap (slice_index words) place
  where
    within : (b p w : ℕ) → w < 16 → ((b == b) && (not (nat_lt (p + w) p) && nat_lt (p + w) (p + 16))) ≡ true
    within b p w few = grind (arith, nat_tests, few)

-- so a stored kind reads back
pub stored_kind : (f : BlockWords) (i : ℕ) (n : Inode) → inode_kind (put_run f (inode_block i) (inode_place i) 16 (inode_words n)) i ≡ n.kind
stored_kind f i n = stored_word f i 0 (inode_words n) (omega arith) ∙ word_of_words n 0 (omega arith)
