-- A fresh volume under an image without entries: it stands for the root directory alone, none of its rules fails, and with one
-- word changed exactly the rule fails that it should, with its block.
use Rattle.rio_model.proofs.Common.{◌≡◌, ◌≢◌, ◌⊎◌, ℕ, suc, zero, nat_lt, if◌then◌else◌, ◌+◌, ◌-◌, ◌*◌, ◌/◌, ◌%◌, ◌<◌, ◌≤◌, ◌∙◌, ◌∷◌, Bool, true, false, cond, List, [], map, Option, None, Some, refl, sym, ap, subst, arith, inl, inr, cases_eq, filter, sum, range_with_len, bit_at, length, slice_index, VolumeShape, BlockWords, Contents, get, insert, is_pending, nat_cmp, put, reserved, true_false, used_bit}
use Rattle.std.specs.FinMap.{empty, entries, get-empty, keys, len-empty, len-entries}
use Rattle.rio_base.specs.Bitmap.{bitmap_block}
use Rattle.rio_base.specs.Layout.{HasSuperblock, inode_kind, volume_magic}
use Rattle.rio_base.specs.Shapes.{IsServed}
use Rattle.rio_base.specs.declared.places.PageName.{PageName}
use Rattle.rio_model.specs.declared.census.Census.{Census}
use Rattle.rio_model.specs.declared.node.Node.{Node}
use Rattle.rio_model.specs.declared.node.Node.TheVariants.{Dir}
use Rattle.rio_model.specs.Censuses.{IsCensus, is_file, is_region}
use Rattle.rio_model.specs.Cover.{MayLeave, home_word, name_at, name_in, stands_on}
use Rattle.rio_model.specs.Fresh.{IsFreshVolume, fresh_state}
use Rattle.rio_model.specs.Names.{NameKey, Names, name_cmp}
use Rattle.rio_model.specs.Nodes.{Nodes}
use Rattle.rio_model.specs.Paths.{is_dir}
use Rattle.rio_model.specs.Placed.{Layout, volume_layout}
use Rattle.rio_model.specs.Registry.{IsValid, frames_of, is_data, is_valid, page_of_entry, tag_at, tag_block}
use Rattle.rio_model.specs.Sizes.{blocks_for, node_blocks, used_blocks}
use Rattle.rio_model.specs.Standing.{Restorable, StandsFor}
use Rattle.rio_model.specs.States.{names_below}
use Rattle.rio_model.specs.VolumeFails.{FailsEntries, FailsPair, FailsVolume, SaysShape}
use Rattle.rio_model.specs.VolumeRules.{KindRule, ReservedRule}
use Rattle.rio_model.proofs.CountRules.{sum_last}
use Rattle.rio_model.proofs.FreshReads.{fresh_reads}
use Rattle.rio_model.proofs.PlacedRules.{cases_lt, root_ino}
use Rattle.rio_model.proofs.RebootClears.{stands_empty}
use Rattle.rio_model.proofs.StandingStates.{AreWhole}
use Rattle.rio_model.proofs.StateSteps.{get_here, get_there}
use Rattle.rio_model.proofs.WordRules.{put_beside, put_other}
use Rattle.rio_model.proofs.VolumeFailRules.{none_fails, none_fails_standing, one_fails}

-- ---- the pair

-- blocks have 512 words, and what lies behind them says nothing of a volume
fresh_same : (shape : VolumeShape) (f g : BlockWords) → ((b w : ℕ) → w < 512 → g b w ≡ f b w) → IsFreshVolume shape f → IsFreshVolume shape g
fresh_same shape f g same h = record {
  superblock = record {
    sizes = h.superblock.sizes;
    words = record {
      magic = same 0 0 (omega arith) ∙ h.superblock.words.magic;
      version = same 0 1 (omega arith) ∙ h.superblock.words.version;
      blocks = same 0 2 (omega arith) ∙ h.superblock.words.blocks;
      inodes = same 0 3 (omega arith) ∙ h.superblock.words.inodes;
    };
  };
  low = λ b low. bit b ∙ h.low b low;
  high = λ b from to. bit b ∙ h.high b from to;
  root_kind = same 2 (16 * ((1 - 1) % 32) + 0) (omega arith) ∙ h.root_kind;
  root_size = same 2 (16 * ((1 - 1) % 32) + 1) (omega arith) ∙ h.root_size;
  others = λ i from to. same _ (16 * ((i - 1) % 32) + 0) (omega arith) ∙ h.others i from to;
}
  where
    bit : (b : ℕ) → used_bit shape g b ≡ used_bit shape f b
    bit b = ap (λ word. bit_at word (b % 64)) (same _ (b % 32768 / 64) (omega arith))

-- memory is an image without entries, and the disk, of which nothing is pending, a fresh volume that is served
pub record IsFreshPair (c : Contents) (n : ℕ) (shape : VolumeShape) (pages scratch : ℕ) : Type 0 where
  pub whole : AreWhole c
  pub image : Restorable c n
  pub bare : (k : ℕ) → k < frames_of c.words → tag_at c.words k ≡ 0
  pub volume : IsFreshVolume shape (home_word c.disk)
  pub count : length c.disk ≡ shape.blocks
  pub told : (b : ℕ) → is_pending c.pending b ≡ false
  pub served : IsServed shape
  pub pages_are : 512 * pages ≡ length c.words + n
  pub scratch_are : 512 * scratch ≡ n

pub fresh_stands : (c : Contents) (n : ℕ) (shape : VolumeShape) (pages scratch : ℕ) → IsFreshPair c n shape pages scratch → StandsFor c n (fresh_state shape pages scratch)
fresh_stands c n shape pages scratch h = record {
  image = h.image;
  served = h.served;
  blocks = h.count;
  pages = h.pages_are;
  scratch_pages = h.scratch_are;
  each = λ disk m. record {
    reads = fresh_reads shape (stands_on c disk) pages scratch (fresh_same shape (home_word c.disk) (stands_on c disk) (λ b w less. on_disk disk m b w less) h.volume);
    entries = record { each = λ k v. absurd (true_false (sym v.valid ∙ ap is_valid (h.bare k v.within))) };
  };
}
  where
    on_disk : (disk : List (List ℕ)) → MayLeave c disk → (b w : ℕ) → w < 512 → stands_on c disk b w ≡ home_word c.disk b w
    on_disk disk m b w less = stands_empty c.words disk (page_of_entry c.words) b w h.bare less ∙ ap (λ (xs : List ℕ). slice_index xs w) (m.kept b (h.told b))

-- no rule fails
pub fresh_keeps : (c : Contents) (n : ℕ) (shape : VolumeShape) (pages scratch rule b : ℕ) → IsFreshPair c n shape pages scratch → FailsPair c rule b → ⊥
fresh_keeps c n shape pages scratch rule b h fails = none_fails_standing c n (fresh_state shape pages scratch) rule b h.whole (fresh_stands c n shape pages scratch h) fails

pub fresh_volume_keeps : (shape : VolumeShape) (f : BlockWords) (rule b : ℕ) → IsServed shape → IsFreshVolume shape f → FailsVolume f shape.blocks rule b → ⊥
fresh_volume_keeps shape f rule b served h fails = none_fails f shape.blocks (fresh_state shape 0 0) rule b served refl (fresh_reads shape f 0 0 h) fails

first_bit : (shape : VolumeShape) → bitmap_block shape 0 ≡ 1
unfolding bitmap_block
first_bit shape = refl

-- ---- its census: one directory, which has no block yet

abbrev pub fresh_census : VolumeShape → Census
fresh_census shape = record { shape = shape; dirs = 1; files = 0; regions = 0; used = 0; free = shape.blocks - reserved shape }

abbrev root_alone : Nodes
root_alone = insert empty 1 Dir

root_node : get root_alone 1 ≡ Some Dir
root_node = get_here empty 1 Dir

no_node : (i : ℕ) → i ≢ 1 → get root_alone i ≡ None
no_node i other = get_there empty 1 Dir i other ∙ get-empty nat_cmp i

nil : (es : List (NameKey × ℕ)) → length es ≡ 0 → es ≡ []
nil [] e = refl
nil (x ∷ es) e = absurd (omega (arith, e))

abbrev none_named : Names
none_named = empty

no_names : (d : ℕ) → names_below (keys none_named) d ≡ []
no_names d = ap (λ (es : List (NameKey × ℕ)). names_below (map (λ e. e.0) es) d) (nil (entries none_named) (sym (len-entries none_named) ∙ len-empty name_cmp ℕ))

none_passes : (test : ℕ → Bool) (n a : ℕ) → ((i : ℕ) → a ≤ i → test i ≡ false) → filter test (range_with_len a n) ≡ []
none_passes test zero a h = refl
none_passes test (suc n) a h = ap (λ b. cond b (a ∷ filter test (range_with_len (a + 1) n)) (filter test (range_with_len (a + 1) n))) (h a (omega arith)) ∙ none_passes test n (a + 1) (λ i less. h i (omega (arith, less)))

first_passes : (test : ℕ → Bool) (n : ℕ) → 1 ≤ n → test 1 ≡ true → ((i : ℕ) → 2 ≤ i → test i ≡ false) → length (filter test (range_with_len 1 n)) ≡ 1
first_passes test zero some one h = absurd (omega (arith, some))
first_passes test (suc n) some one h = ap (λ b. length (cond b (1 ∷ filter test (range_with_len 2 n)) (filter test (range_with_len 2 n)))) one ∙ ap (λ (xs : List ℕ). length (1 ∷ xs)) (none_passes test n 2 h)

sum_none : (count : ℕ → ℕ) (n a : ℕ) → ((i : ℕ) → count i ≡ 0) → sum (map count (range_with_len a n)) ≡ 0
sum_none count zero a h = refl
sum_none count (suc n) a h = omega (arith, sum_last count n a, h (a + n), sum_none count n a h)

pub fresh_counted : (shape : VolumeShape) (pages scratch : ℕ) → IsServed shape → IsCensus (fresh_state shape pages scratch) (fresh_census shape)
fresh_counted shape pages scratch served = record {
  shape = refl;
  dirs = sym (first_passes (λ i. is_dir (get root_alone i)) shape.inodes (let least = served.sizes.inodes_from in omega (arith, least)) (ap is_dir root_node) (λ i more. ap is_dir (no_node i (omega (arith, more)))));
  files = sym (ap (λ (xs : List ℕ). length xs) (none_passes (λ i. is_file (get root_alone i)) shape.inodes 1 (λ i from. none is_file i refl refl)));
  regions = sym (ap (λ (xs : List ℕ). length xs) (none_passes (λ i. is_region (get root_alone i)) shape.inodes 1 (λ i from. none is_region i refl refl)));
  used = sym used;
  free = let rest : shape.blocks - reserved shape ≡ shape.blocks - reserved shape - used_blocks (fresh_state shape pages scratch) = omega (arith, used) in rest;
}
  where
    none : (test : Option Node → Bool) (i : ℕ) → test (Some Dir) ≡ false → test None ≡ false → test (get root_alone i) ≡ false
    none test i dir nothing = elim (cases_eq i 1) [
      | inl root ↦ ap (λ x. test (get root_alone x)) root ∙ ap test root_node ∙ dir
      | inr other ↦ ap test (no_node i other) ∙ nothing
    ]

    blocks_at : (i : ℕ) → node_blocks (fresh_state shape pages scratch) i (get root_alone i) ≡ 0
    blocks_at i = elim (cases_eq i 1) [
      | inl root ↦ ap (λ x. node_blocks (fresh_state shape pages scratch) i (get root_alone x)) root ∙ ap (node_blocks (fresh_state shape pages scratch) i) root_node ∙ ap (λ (ns : List (List ℕ)). blocks_for (64 * length ns)) (no_names i)
      | inr other ↦ ap (node_blocks (fresh_state shape pages scratch) i) (no_node i other)
    ]

    used : used_blocks (fresh_state shape pages scratch) ≡ 0
    used = sum_none (λ i. node_blocks (fresh_state shape pages scratch) i (get root_alone i)) shape.inodes 1 blocks_at

-- ---- one word changed

-- another block is: the superblock says what it said
superblock_off : (shape : VolumeShape) (f : BlockWords) (b w v : ℕ) → 0 ≢ b → HasSuperblock f shape → HasSuperblock (put f b w v) shape
superblock_off shape f b w v off h = record {
  magic = put_other f b w v 0 0 off ∙ h.magic;
  version = put_other f b w v 0 1 off ∙ h.version;
  blocks = put_other f b w v 0 2 off ∙ h.blocks;
  inodes = put_other f b w v 0 3 off ∙ h.inodes;
}

says_off : (shape : VolumeShape) (f : BlockWords) (b w v : ℕ) → 0 ≢ b → IsServed shape → IsFreshVolume shape f → SaysShape (put f b w v) shape.blocks shape
says_off shape f b w v off served h = record { served = served; words = superblock_off shape f b w v off h.superblock.words; blocks = refl }

-- a word of the first inodes is: the bitmap is as it was
marks_off : (shape : VolumeShape) (f : BlockWords) (w v b : ℕ) → 32 ≤ shape.inodes → used_bit shape (put f 2 w v) b ≡ used_bit shape f b
unfolding bitmap_block
marks_off shape f w v b some = ap (λ word. bit_at word (b % 64)) (put_other f 2 w v _ _ (off (cases_lt b 32768)))
  where
    off : ((b < 32768) × (nat_lt b 32768 ≡ true)) ⊎ ((32768 ≤ b) × (nat_lt b 32768 ≡ false)) → (if nat_lt b 32768 then 1 else 1 + shape.inodes / 32 + b / 32768) ≢ 2
    off (inl few) e = absurd (let one = ap (λ t. cond t 1 (1 + shape.inodes / 32 + b / 32768)) few.1 in omega (arith, e, one))
    off (inr many) e = absurd (let more = ap (λ t. cond t 1 (1 + shape.inodes / 32 + b / 32768)) many.1 in let past = many.0 in omega (arith, e, more, past, some))

reserved_off : (shape : VolumeShape) (f : BlockWords) (w v : ℕ) → IsServed shape → IsFreshVolume shape f → ReservedRule shape (put f 2 w v)
reserved_off shape f w v served h =
    let rule = (fresh_reads shape f 0 0 h).mapped.reserved_marked in
    let some = served.sizes.inodes_from in
    record { marked = λ b low. marks_off shape f w v b some ∙ rule.marked b low; past = λ b past within. marks_off shape f w v b some ∙ rule.past b past within }

-- rule r fails first, with block b, and no other
abbrev pub FailsOnly : BlockWords → ℕ → ℕ → ℕ → Type 0
FailsOnly f count r b = FailsVolume f count r b × ((q c : ℕ) → FailsVolume f count q c → (q ≡ r) × (c ≡ b))

only : (f : BlockWords) (count r b : ℕ) → FailsVolume f count r b → FailsOnly f count r b
only f count r b h = (h, λ q c other. one_fails f count q r c b other h)

-- the magic of the superblock is another word
pub other_magic_fails : (shape : VolumeShape) (f : BlockWords) (v : ℕ) → v ≢ volume_magic → FailsOnly (put f 0 0 v) shape.blocks 1 0
other_magic_fails shape f v other = only (put f 0 0 v) shape.blocks 1 0 (inl (refl, refl, λ s says. other says.words.magic))

-- the mark of block 0 is cleared
pub cleared_mark_fails : (shape : VolumeShape) (f : BlockWords) (v : ℕ) → IsServed shape → IsFreshVolume shape f → bit_at v 0 ≡ 0 → FailsOnly (put f 1 0 v) shape.blocks 2 1
cleared_mark_fails shape f v served h clear = only (put f 1 0 v) shape.blocks 2 1 (inr (shape, says_off shape f 1 0 v (λ e. absurd (omega (arith, e))) served h, inl (refl, refl, λ rule. absurd (let marked = rule.marked 0 (omega arith) in omega (arith, marked, bit)))))
  where
    bit : used_bit shape (put f 1 0 v) 0 ≡ 0
    bit = ap (λ b. bit_at (put f 1 0 v b 0) 0) (first_bit shape) ∙ clear

-- the root is a file
pub other_root_fails : (shape : VolumeShape) (f : BlockWords) (v : ℕ) → IsServed shape → IsFreshVolume shape f → v ≢ 1 → FailsOnly (put f 2 0 v) shape.blocks 3 2
other_root_fails shape f v served h other = only (put f 2 0 v) shape.blocks 3 2 (inr (
  shape,
  says_off shape f 2 0 v (λ e. absurd (omega (arith, e))) served h,
  inr (
    reserved_off shape f 0 v served h,
    inl (
      refl,
      record {
        ino = 1;
        is_ino = root_ino shape served.sizes;
        fails = λ keeps. other (keeps.1 refl);
        before = λ j ino less. absurd (let from = ino.from in omega (arith, from, less));
        block = refl;
      },
    ),
  ),
))

-- the root directory has no whole number of entries
pub odd_root_fails : (shape : VolumeShape) (f : BlockWords) (v : ℕ) → IsServed shape → IsFreshVolume shape f → v % 64 ≢ 0 → FailsOnly (put f 2 1 v) shape.blocks 4 2
odd_root_fails shape f v served h odd = only (put f 2 1 v) shape.blocks 4 2 (inr (
  shape,
  says_off shape f 2 1 v (λ e. absurd (omega (arith, e))) served h,
  inr (
    reserved_off shape f 1 v served h,
    inr (
      kinds,
      inl (
        refl,
        record {
          ino = 1;
          is_ino = root_ino shape served.sizes;
          fails = λ keeps. odd ((keeps (let one = root in omega (arith, one))).directory root);
          before = λ j ino less. absurd (let from = ino.from in omega (arith, from, less));
          block = refl;
        },
      ),
    ),
  ),
))
  where
    kind : (i : ℕ) → inode_kind (put f 2 1 v) i ≡ inode_kind f i
    kind i = put_beside f 2 1 v _ (16 * ((i - 1) % 32) + 0) (omega arith)

    root : inode_kind (put f 2 1 v) 1 ≡ 1
    root = kind 1 ∙ h.root_kind

    kinds : KindRule (volume_layout shape (put f 2 1 v))
    kinds =
        let rule = (fresh_reads shape f 0 0 h).mapped.laid.kinds in
        record { each = λ i ino. (subst (λ k. k ≤ 3) (sym (kind i)) (rule.each i ino).0, λ e. subst (λ x. inode_kind (put f 2 1 v) x ≡ 1) (sym e) root) }

-- ---- one entry

-- the one valid entry names a page of a reserved block
pub named_reserved_fails : (l : Layout) (words : List ℕ) (k : ℕ) → IsValid words k → ((j : ℕ) → IsValid words j → j ≡ k) → is_data (tag_at words k) ≡ true → tag_block (tag_at words k) < reserved l.shape → FailsEntries l words (tag_block (tag_at words k))
named_reserved_fails l words k v one file low = record {
  entry = k;
  valid = v;
  is = refl;
  fails = λ fits. no_name (name_in words (Some k)) (name_at words k) (fits.named.low low) (ap (λ b. if b then Some (name_at words k) else None) file);
  before = λ j w less. absurd (let same = ap (λ x. tag_block (tag_at words x)) (one j w) in omega (arith, less, same));
}
  where
    no_name : (o : Option PageName) (name : PageName) → o ≡ None → o ≡ Some name → ⊥
    no_name o name none some = cc
