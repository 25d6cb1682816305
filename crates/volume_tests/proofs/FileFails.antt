-- The volume with one file breaks no rule, and with one thing changed exactly the rule that it should, with its block: the rules 1 to 7.
use Rattle.rio_model.proofs.Common.{BlockWords, ap, arith, bit_at, cases_eq, inl, inr, put, refl, reserved, subst, suc, sym, used_bit, zero, ℕ, ◌%◌, ◌*◌, ◌+◌, ◌-◌, ◌/◌, ◌<◌, ◌∙◌, ◌≡◌, ◌≢◌, ◌≤◌, ◌⊎◌}
use Rattle.std.specs.Prelude.{◌^◌}
use Rattle.rio_base.specs.Bitmap.{bitmap_block}
use Rattle.rio_base.specs.Layout.{HasSuperblock, IsIno, half, inode_block, inode_kind, inode_place, inode_size, volume_magic}
use Rattle.rio_model.specs.Placed.{AtPage, AtTable, HasSlot, Within, IsFree, Owns, Slot, number_at}
use Rattle.rio_model.specs.Sizes.{largest_size}
use Rattle.rio_model.specs.VolumeFails.{FailsFirst, FailsOn, FailsVolume, IsLeastTwice}
use Rattle.rio_model.specs.VolumeRules.{KindRule, MarkRule, NumberRule, ReservedRule, SizeFits, SizeRule, bitmap_bits, KindAt, NumberAt, SizeAt}
use Rattle.rio_model.proofs.FreshPair.{FailsOnly, other_magic_fails}
use Rattle.rio_model.proofs.PlacedRules.{page_page, reserved_same}
use Rattle.rio_model.proofs.VolumeFailRules.{none_fails, one_fails}
use Rattle.rio_model.proofs.WordRules.{put_beside}
use Rattle.volume_tests.proofs.FileReads.{IsFileVolume, counts_within, file_bytes, file_laid, file_mapped, file_reads}
use Rattle.volume_tests.proofs.FileState.{file_state}
use Rattle.volume_tests.proofs.FileVolume.{HasFile, file_layout, file_shape, reserved_is, second_owned, slot_block}
use Rattle.volume_tests.proofs.SmallVolumes.{HasTwo, one_page_slot, file_served, IsPage, SlotOf, bits_at, bits_off, superblock_off, two_page, two_root, two_slots}

-- no rule fails, with no block
pub no_rule_fails : (f : BlockWords) (rule b : ℕ) → IsFileVolume f → FailsVolume f 16 rule b → ⊥
no_rule_fails f rule b h fails = none_fails f 16 (file_state (file_bytes f) 0 0) rule b file_served refl (file_reads f 0 0 h) fails

-- where a rule fails no other does
only : (f : BlockWords) (count r b : ℕ) → FailsVolume f count r b → FailsOnly f count r b
only f count r b h = (h, λ q c other. one_fails f count q r c b other h)

-- behind the superblock
pub only_on : (f : BlockWords) (r b : ℕ) → HasSuperblock f file_shape → FailsOn file_shape f r b → FailsOnly f 16 r b
only_on f r b words h = only f 16 r b (inr (file_shape, record { served = file_served; words = words; blocks = refl }, h))

-- ---- rule 1

-- the first word of the superblock is another
pub other_first_word : (f : BlockWords) (v : ℕ) → v ≢ volume_magic → FailsOnly (put f 0 0 v) 16 1 0
other_first_word f v other = other_magic_fails file_shape f v other

-- the disk has one block more than the superblock says
pub other_count : (f : BlockWords) → IsFileVolume f → FailsOnly f 17 1 0
other_count f h = only f 17 1 0 (inl (refl, refl, λ shape says. absurd (let blocks = says.blocks in let said = says.words.blocks in let is = h.superblock.blocks in omega (arith, blocks, said, is))))

-- ---- rule 2

reserved_bit : (f : BlockWords) (b v : ℕ) → b < 3 → used_bit file_shape (put f 1 0 v) b ≡ bit_at v b
unfolding bitmap_block
reserved_bit f zero v low = refl
reserved_bit f (suc zero) v low = refl
reserved_bit f (suc (suc zero)) v low = refl
reserved_bit f (suc (suc (suc b))) v low = absurd (omega (arith, low))

-- the mark of a reserved block is cleared
pub reserved_unmarked : (f : BlockWords) (b v : ℕ) → IsFileVolume f → b < 3 → bit_at v b ≡ 0 → FailsOnly (put f 1 0 v) 16 2 1
reserved_unmarked f b v h low clear = only_on (put f 1 0 v) 2 1
    (record { magic = h.superblock.magic; version = h.superblock.version; blocks = h.superblock.blocks; inodes = h.superblock.inodes })
    (inl (refl, refl, λ rule. absurd (let marked = rule.marked b (omega (arith, low, reserved_is)) in let bit = reserved_bit f b v low in omega (arith, marked, bit, clear))))

-- a block past the last one is marked
pub past_marked : (f : BlockWords) (b v : ℕ) → IsFileVolume f → 16 ≤ b → b < 64 → bit_at v b ≡ 1 → FailsOnly (put f 1 0 v) 16 2 1
past_marked f b v h from to marked = only_on (put f 1 0 v) 2 1 (superblock_off f 1 0 v (λ e. omega (arith, e)) h.superblock) (inl (refl, refl, λ rule. let clear = rule.past b from within in omega (arith, clear, bit)))
  where
    within : b < bitmap_bits file_shape
    within = omega (arith, to)

    bit : used_bit file_shape (put f 1 0 v) b ≡ 1
    bit =
        let word : b % 32768 / 64 ≡ 0 = omega (arith, to) in
        let place : b % 64 ≡ b = omega (arith, to) in
        ap (λ c. bit_at (put f 1 0 v c (b % 32768 / 64)) (b % 64)) (bits_at b within) ∙ ap (λ w. bit_at (put f 1 0 v 1 w) (b % 64)) word ∙ ap (bit_at v) place ∙ marked

-- ---- where a rule on inodes fails. All inodes lie in block 2

-- at inode 1, 2 or 3
pub first_one : (keeps : ℕ → Type 0) → (keeps 1 → ⊥) → FailsFirst file_shape keeps 2
first_one keeps fails = record { ino = 1; is_ino = record { from = omega arith; to = omega arith }; fails = fails; before = λ j ino less. absurd (let from = ino.from in omega (arith, from, less)); block = refl }

pub first_two : (keeps : ℕ → Type 0) → (keeps 2 → ⊥) → keeps 1 → FailsFirst file_shape keeps 2
first_two keeps fails one = record { ino = 2; is_ino = record { from = omega arith; to = omega arith }; fails = fails; before = λ j ino less. subst keeps (let from = ino.from in omega (arith, from, less)) one; block = refl }

pub first_three : (keeps : ℕ → Type 0) → (keeps 3 → ⊥) → keeps 1 → keeps 2 → FailsFirst file_shape keeps 2
first_three keeps fails one two = record {
  ino = 3;
  is_ino = record { from = omega arith; to = omega arith };
  fails = fails;
  before = λ j ino less. elim (cases_eq j 1) [ inl e ↦ subst keeps (sym e) one | inr off ↦ subst keeps (let from = ino.from in omega (arith, from, less, off)) two ];
  block = refl;
}

-- with another word there the superblock and the bitmap say what they said
words_put : (f : BlockWords) (w v : ℕ) → HasSuperblock f file_shape → HasSuperblock (put f 2 w v) file_shape
words_put f w v words = superblock_off f 2 w v (λ e. omega (arith, e)) words

reserved_put : (f : BlockWords) (w v : ℕ) → ReservedRule file_shape f → ReservedRule file_shape (put f 2 w v)
reserved_put f w v rule = reserved_same file_shape f (put f 2 w v) file_served.sizes (λ b within. bits_off f 2 w v b (λ e. omega (arith, e)) within) rule

-- and where it is no kind, or no size, these rules stay
kinds_put : (f : BlockWords) (w v : ℕ) → ((i : ℕ) → 16 * i + 0 ≢ w) → KindRule (file_layout f) → KindRule (file_layout (put f 2 w v))
kinds_put f w v off rule = record { each = λ i ino. (subst (λ k. k ≤ 3) (sym (kind i)) (rule.each i ino).0, λ e. kind i ∙ (rule.each i ino).1 e) }
  where
    kind : (i : ℕ) → inode_kind (put f 2 w v) i ≡ inode_kind f i
    kind i = put_beside f 2 w v _ _ (off ((i - 1) % 32))

sizes_put : (f : BlockWords) (w v : ℕ) → ((i : ℕ) → 16 * i + 0 ≢ w) → ((i : ℕ) → 16 * i + 1 ≢ w) → SizeRule (file_layout f) → SizeRule (file_layout (put f 2 w v))
sizes_put f w v off beside rule = record { each = λ i ino used. subst (λ k. SizeFits k (inode_size (put f 2 w v) i)) (sym (kind i)) (subst (λ z. SizeFits (inode_kind f i) z) (sym (size i)) (rule.each i ino (subst (λ k. 0 < k) (kind i) used))) }
  where
    kind : (i : ℕ) → inode_kind (put f 2 w v) i ≡ inode_kind f i
    kind i = put_beside f 2 w v _ _ (off ((i - 1) % 32))

    size : (i : ℕ) → inode_size (put f 2 w v) i ≡ inode_size f i
    size i = put_beside f 2 w v _ _ (beside ((i - 1) % 32))

-- ---- rule 3

-- the root is no directory
pub root_no_directory : (f : BlockWords) (v : ℕ) → IsFileVolume f → v ≢ 1 → FailsOnly (put f 2 0 v) 16 3 2
root_no_directory f v h other = only_on (put f 2 0 v) 3 2 (words_put f 0 v h.superblock) (inr (reserved_put f 0 v (file_mapped f h).reserved_marked, inl (refl, first_one (KindAt (file_layout (put f 2 0 v))) (λ keeps. other (keeps.1 refl)))))

-- the file's kind is none that there is
pub unknown_kind : (f : BlockWords) (v : ℕ) → IsFileVolume f → 3 < v → FailsOnly (put f 2 16 v) 16 3 2
unknown_kind f v h past = only_on (put f 2 16 v) 3 2 (words_put f 16 v h.superblock) (inr (
  reserved_put f 16 v (file_mapped f h).reserved_marked,
  inl (refl, first_two (KindAt (file_layout (put f 2 16 v))) (λ keeps. let known : v ≤ 3 = keeps.0 in omega (arith, known, past)) (let root : inode_kind (put f 2 16 v) 1 ≡ 1 = h.file.root_kind in (omega (arith, root), λ e. root))),
))

-- ---- rule 4

-- the root's size is no whole number of entries
pub odd_root : (f : BlockWords) (v : ℕ) → IsFileVolume f → v % 64 ≢ 0 → FailsOnly (put f 2 1 v) 16 4 2
odd_root f v h odd = only_on (put f 2 1 v) 4 2 (words_put f 1 v h.superblock) (inr (
  reserved_put f 1 v (file_mapped f h).reserved_marked,
  inr (
    kinds_put f 1 v (λ i e. omega (arith, e)) (file_laid f h.file).kinds,
    inl (refl, first_one (SizeAt (file_layout (put f 2 1 v))) (λ keeps. odd ((keeps (subst (λ k. 0 < k) (sym h.file.root_kind) (omega arith))).directory h.file.root_kind))),
  ),
))

-- the file is longer than any may be
pub too_long : (f : BlockWords) (v : ℕ) → IsFileVolume f → largest_size < v → FailsOnly (put f 2 17 v) 16 4 2
too_long f v h long = only_on (put f 2 17 v) 4 2 (words_put f 17 v h.superblock) (inr (
  reserved_put f 17 v (file_mapped f h).reserved_marked,
  inr (
    kinds_put f 17 v (λ i e. omega (arith, e)) (file_laid f h.file).kinds,
    inl (
      refl,
      first_two (SizeAt (file_layout (put f 2 17 v)))
          (λ keeps. let most : v ≤ largest_size = (keeps (subst (λ k. 0 < k) (sym h.file.kind) (omega arith))).most in omega (arith, most, long))
          (λ used. (file_laid f h.file).sizes.each 1 (record { from = omega arith; to = omega arith }) used),
    ),
  ),
))

-- ---- rules 5 and 6: with other numbers of the file's two pages

-- all but the numbers is as it was
numbers_two : (f : BlockWords) (v : ℕ) → HasFile f → HasTwo (put f 2 18 v) 64 2 5000
numbers_two f v h = record {
  root_kind = h.root_kind;
  root_size = h.root_size;
  kind = h.kind;
  size = h.size;
  others = λ i from to. inl (put_beside f 2 18 v _ _ (λ e. omega (arith, e)) ∙ h.others i from to);
}

-- the blocks of the root, and of the file's two pages
numbers_root : (f : BlockWords) (v : ℕ) → HasFile f → ((file_layout (put f 2 18 v)).node 1).block (AtPage 0) ≡ 3
unfolding number_at half
numbers_root f v h = ap (λ w. w % 2 ^ 32) h.root_page

numbers_first : (f : BlockWords) (v : ℕ) → ((file_layout (put f 2 18 v)).node 2).block (AtPage 0) ≡ v % 2 ^ 32
unfolding number_at half
numbers_first f v = refl

numbers_second : (f : BlockWords) (v : ℕ) → ((file_layout (put f 2 18 v)).node 2).block (AtPage 1) ≡ v / 2 ^ 32 % 2 ^ 32
unfolding number_at half
numbers_second f v = refl

-- what counts is one of these
abbrev NumberOf : ℕ → ℕ → Slot → ℕ → Type 0
NumberOf v i s b = ((i ≡ 1) × (s ≡ AtPage 0) × (b ≡ 3)) ⊎ (((i ≡ 2) × (s ≡ AtPage 0) × (b ≡ v % 2 ^ 32)) ⊎ ((i ≡ 2) × (s ≡ AtPage 1) × (b ≡ v / 2 ^ 32 % 2 ^ 32)))

numbers_is : (f : BlockWords) (v i b : ℕ) (s : Slot) → HasFile f → Owns (file_layout (put f 2 18 v)) i s → ((file_layout (put f 2 18 v)).node i).block s ≡ b → NumberOf v i s b
numbers_is f v i b s h own is = by (two_slots (put f 2 18 v) 64 2 5000 i s (numbers_two f v h) (omega arith) (omega arith) own)
  where
    two : (x : IsPage 5000 i s) → (x.page ≡ 0) ⊎ (x.page ≢ 0) → NumberOf v i s b
    two x (inl first) = inr (inl (x.node, x.slot ∙ ap AtPage first, sym is ∙ slot_block (put f 2 18 v) i 2 s (AtPage 0) x.node (x.slot ∙ ap AtPage first) ∙ numbers_first f v))
    two x (inr more) =
        let one : x.page ≡ 1 = let few : x.page < 2 = x.within in omega (arith, few, more) in
        inr (inr (x.node, x.slot ∙ ap AtPage one, sym is ∙ slot_block (put f 2 18 v) i 2 s (AtPage 1) x.node (x.slot ∙ ap AtPage one) ∙ numbers_second f v))

    by : SlotOf 5000 i s → NumberOf v i s b
    by (inl e) = inl (e.0, e.1, sym is ∙ slot_block (put f 2 18 v) i 1 s (AtPage 0) e.0 e.1 ∙ numbers_root f v h)
    by (inr x) = two x (cases_eq x.page 0)

-- a root of one page, in block 3, keeps rule 5
root_kept : (f : BlockWords) → inode_size f 1 ≡ 64 → ((file_layout f).node 1).block (AtPage 0) ≡ 3 → NumberAt (file_layout f) 1
root_kept f size three s has = (omega (arith, is, reserved_is), omega (arith, is))
  where
    is : ((file_layout f).node 1).block s ≡ 3
    is = ap ((file_layout f).node 1).block (one_page_slot 64 s (omega arith) (subst (λ z. Within z s) size has.within)) ∙ three

number_out : (f : BlockWords) (v p b : ℕ) → IsFileVolume f → p < 2 → ((file_layout (put f 2 18 v)).node 2).block (AtPage p) ≡ b → (b < 3) ⊎ (16 ≤ b) → FailsOnly (put f 2 18 v) 16 5 2
number_out f v p b h page is out = only_on (put f 2 18 v) 5 2 (words_put f 18 v h.superblock) (inr (
  reserved_put f 18 v (file_mapped f h).reserved_marked,
  inr (
    kinds_put f 18 v (λ i e. omega (arith, e)) (file_laid f h.file).kinds,
    inr (
      sizes_put f 18 v (λ i e. omega (arith, e)) (λ i e. omega (arith, e)) (file_laid f h.file).sizes,
      inl (refl, first_two (NumberAt (file_layout (put f 2 18 v))) (λ keeps. no out (keeps (AtPage p) (two_page (put f 2 18 v) 64 2 5000 p (numbers_two f v h.file) (omega arith) page).slot)) (root_kept (put f 2 18 v) h.file.root_size (numbers_root f v h.file))),
    ),
  ),
))
  where
    no : (b < 3) ⊎ (16 ≤ b) → (reserved file_shape ≤ ((file_layout (put f 2 18 v)).node 2).block (AtPage p)) × (((file_layout (put f 2 18 v)).node 2).block (AtPage p) < 16) → ⊥
    no (inl low) kept = let from = kept.0 in omega (arith, from, is, low, reserved_is)
    no (inr high) kept = let to = kept.1 in omega (arith, to, is, high)

-- the file's first page is said to lie in a reserved block, or in none that the volume has
pub first_number_out : (f : BlockWords) (v : ℕ) → IsFileVolume f → (v % 2 ^ 32 < 3) ⊎ (16 ≤ v % 2 ^ 32) → FailsOnly (put f 2 18 v) 16 5 2
first_number_out f v h out = number_out f v 0 (v % 2 ^ 32) h (omega arith) (numbers_first f v) out

-- or its second page
pub second_number_out : (f : BlockWords) (v : ℕ) → IsFileVolume f → (v / 2 ^ 32 % 2 ^ 32 < 3) ⊎ (16 ≤ v / 2 ^ 32 % 2 ^ 32) → FailsOnly (put f 2 18 v) 16 5 2
second_number_out f v h out = number_out f v 1 (v / 2 ^ 32 % 2 ^ 32) h (omega arith) (numbers_second f v) out

-- with 25 pages the file keeps rule 4
sizes_long : (f : BlockWords) → HasFile f → SizeRule (file_layout (put f 2 17 102400))
sizes_long f h = record { each = λ i ino used. size i (cases_eq i 2) ino used }
  where
    long : BlockWords
    long = put f 2 17 102400

    size : (i : ℕ) → (i ≡ 2) ⊎ (i ≢ 2) → IsIno file_shape i → 0 < inode_kind long i → SizeFits (inode_kind long i) (inode_size long i)
    size i (inl e) ino used = subst (λ x. SizeFits (inode_kind long x) (inode_size long x)) (sym e) (subst (λ k. SizeFits k 102400) (sym h.kind) (record { most = omega arith; directory = λ d. absurd (omega (arith, d)); region = λ d. absurd (omega (arith, d)); region_pages = λ d. absurd (omega (arith, d)) }))
    size i (inr off) ino used =
        let kind : inode_kind long i ≡ inode_kind f i = put_beside f 2 17 102400 (inode_block i) (inode_place i + 0) (λ e. omega (arith, e)) in
        let same : inode_size long i ≡ inode_size f i = put_beside f 2 17 102400 (inode_block i) (inode_place i + 1) (let from = ino.from in let to = ino.to in λ e. omega (arith, e, off, from, to)) in
        subst (λ k. SizeFits k (inode_size long i)) (sym kind) (subst (λ z. SizeFits (inode_kind f i) z) (sym same) ((file_laid f h).sizes.each i ino (subst (λ k. 0 < k) kind used)))

-- the file has 25 pages, and the number of its indirect block is that of a reserved block, or of none that the volume has
pub table_number_out : (f : BlockWords) (v : ℕ) → IsFileVolume f → (v % 2 ^ 32 < 3) ⊎ (16 ≤ v % 2 ^ 32) → FailsOnly (put (put f 2 17 102400) 2 30 v) 16 5 2
unfolding number_at half
table_number_out f v h out = only_on g 5 2 (words_put long 30 v (words_put f 17 102400 h.superblock)) (inr (
  reserved_put long 30 v (reserved_put f 17 102400 (file_mapped f h).reserved_marked),
  inr (
    kinds_put long 30 v (λ i e. omega (arith, e)) (kinds_put f 17 102400 (λ i e. omega (arith, e)) (file_laid f h.file).kinds),
    inr (
      sizes_put long 30 v (λ i e. omega (arith, e)) (λ i e. omega (arith, e)) (sizes_long f h.file),
      inl (refl, first_two (NumberAt (file_layout g)) (λ keeps. by out (keeps (AtTable 0) table)) (root_kept g h.file.root_size (ap (λ w. w % 2 ^ 32) h.file.root_page))),
    ),
  ),
))
  where
    long : BlockWords
    long = put f 2 17 102400

    g : BlockWords
    g = put long 2 30 v

    table : HasSlot ((file_layout g).node 2) (AtTable 0)
    table = record { used = subst (λ k. 0 < k) (sym h.file.kind) (omega arith); within = omega arith }

    by : (v % 2 ^ 32 < 3) ⊎ (16 ≤ v % 2 ^ 32) → (reserved file_shape ≤ v % 2 ^ 32) × (v % 2 ^ 32 < 16) → ⊥
    by (inl low) kept = let from = kept.0 in omega (arith, from, low, reserved_is)
    by (inr high) kept = let to = kept.1 in omega (arith, to, high)

-- where both pages of the file lie past the reserved blocks all keep rule 5
numbers_rule : (f : BlockWords) (v : ℕ) → HasFile f → (3 ≤ v % 2 ^ 32) × (v % 2 ^ 32 < 16) → (3 ≤ v / 2 ^ 32 % 2 ^ 32) × (v / 2 ^ 32 % 2 ^ 32 < 16) → NumberRule (file_layout (put f 2 18 v))
numbers_rule f v h first second = record { each = λ i ino s has. let own : Owns (file_layout (put f 2 18 v)) i s = record { ino = ino; slot = has } in (from _ (numbers_is f v i _ s h own refl), to _ (numbers_is f v i _ s h own refl)) }
  where
    from : {i : ℕ} {s : Slot} (b : ℕ) → NumberOf v i s b → reserved file_shape ≤ b
    from b (inl (e, d, is)) = omega (arith, is, reserved_is)
    from b (inr (inl (e, d, is))) = let low = first.0 in omega (arith, is, low, reserved_is)
    from b (inr (inr (e, d, is))) = let low = second.0 in omega (arith, is, low, reserved_is)

    to : {i : ℕ} {s : Slot} (b : ℕ) → NumberOf v i s b → b < 16
    to b (inl (e, d, is)) = omega (arith, is)
    to b (inr (inl (e, d, is))) = let high = first.1 in omega (arith, is, high)
    to b (inr (inr (e, d, is))) = let high = second.1 in omega (arith, is, high)

only_twice : (f : BlockWords) (v b : ℕ) → IsFileVolume f → (3 ≤ v % 2 ^ 32) × (v % 2 ^ 32 < 16) → (3 ≤ v / 2 ^ 32 % 2 ^ 32) × (v / 2 ^ 32 % 2 ^ 32 < 16) → IsLeastTwice (file_layout (put f 2 18 v)) b → FailsOnly (put f 2 18 v) 16 6 b
only_twice f v b h first second twice = only_on (put f 2 18 v) 6 b (words_put f 18 v h.superblock) (inr (
  reserved_put f 18 v (file_mapped f h).reserved_marked,
  inr (
    kinds_put f 18 v (λ i e. omega (arith, e)) (file_laid f h.file).kinds,
    inr (sizes_put f 18 v (λ i e. omega (arith, e)) (λ i e. omega (arith, e)) (file_laid f h.file).sizes, inr (numbers_rule f v h.file first second, inl (refl, twice))),
  ),
))

root_of : (f : BlockWords) (v : ℕ) → HasFile f → Owns (file_layout (put f 2 18 v)) 1 (AtPage 0)
root_of f v h = two_root (put f 2 18 v) 64 2 5000 (numbers_two f v h) (omega arith)

page_of : (f : BlockWords) (v p : ℕ) → HasFile f → p < 2 → Owns (file_layout (put f 2 18 v)) 2 (AtPage p)
page_of f v p h page = two_page (put f 2 18 v) 64 2 5000 p (numbers_two f v h) (omega arith) page

-- the file's first page lies where the root has its page
pub shared_with_root : (f : BlockWords) → IsFileVolume f → FailsOnly (put f 2 18 (3 + 2 ^ 32 * 5)) 16 6 3
shared_with_root f h = only_twice f v 3 h (omega arith, omega arith) (omega arith, omega arith) (record {
  twice = record { i = 1; j = 2; s = AtPage 0; t = AtPage 0; one = (root_of f v h.file, numbers_root f v h.file); other = (page_of f v 0 h.file (omega arith), numbers_first f v); two = λ same. let e = same.0 in omega (arith, e) };
  least = λ c less twice. low c less (numbers_is f v _ c _ h.file twice.one.0 twice.one.1);
})
  where
    v : ℕ
    v = 3 + 2 ^ 32 * 5

    low : {i : ℕ} {s : Slot} (c : ℕ) → c < 3 → NumberOf v i s c → ⊥
    low c less (inl (e, d, is)) = omega (arith, less, is)
    low c less (inr (inl (e, d, is))) = omega (arith, less, is)
    low c less (inr (inr (e, d, is))) = omega (arith, less, is)

-- both pages of the file lie in one block
pub shared_pages : (f : BlockWords) → IsFileVolume f → FailsOnly (put f 2 18 (4 + 2 ^ 32 * 4)) 16 6 4
shared_pages f h = only_twice f v 4 h (omega arith, omega arith) (omega arith, omega arith) (record {
  twice = record { i = 2; j = 2; s = AtPage 0; t = AtPage 1; one = (page_of f v 0 h.file (omega arith), numbers_first f v); other = (page_of f v 1 h.file (omega arith), numbers_second f v); two = λ same. let e = page_page 0 1 same.1 in omega (arith, e) };
  least = λ c less twice. low c less (numbers_is f v _ c _ h.file twice.one.0 twice.one.1) (numbers_is f v _ c _ h.file twice.other.0 twice.other.1) twice.two;
})
  where
    v : ℕ
    v = 4 + 2 ^ 32 * 4

    at_root : {i : ℕ} {s : Slot} (c : ℕ) → c < 4 → NumberOf v i s c → (i ≡ 1) × (s ≡ AtPage 0)
    at_root c less (inl (e, d, is)) = (e, d)
    at_root c less (inr (inl (e, d, is))) = absurd (omega (arith, less, is))
    at_root c less (inr (inr (e, d, is))) = absurd (omega (arith, less, is))

    low : {i j : ℕ} {s t : Slot} (c : ℕ) → c < 4 → NumberOf v i s c → NumberOf v j t c → ((i ≡ j) × (s ≡ t) → ⊥) → ⊥
    low c less a b two = let x = at_root c less a in let y = at_root c less b in two (x.0 ∙ sym y.0, x.1 ∙ sym y.1)

-- ---- rule 7: what is marked is not what counts. The inodes are those of the file

-- up to rule 6 nothing fails
only_marks : (f : BlockWords) → HasFile f → HasSuperblock f file_shape → ReservedRule file_shape f → (MarkRule (file_layout f) f → ⊥) → FailsOnly f 16 7 1
only_marks f h words rule fails = let laid = file_laid f h in only_on f 7 1 words (inr (rule, inr (laid.kinds, inr (laid.sizes, inr (laid.numbers, inr (laid.once, inl (refl, refl, fails)))))))

-- the second block of the file is not marked
pub file_unmarked : (f : BlockWords) → HasFile f → HasSuperblock f file_shape → ReservedRule file_shape f → used_bit file_shape f 5 ≡ 0 → FailsOnly f 16 7 1
file_unmarked f h words rule clear = only_marks f h words rule (λ marks. absurd (let marked = marks.counts 5 (second_owned f h) in omega (arith, marked, clear)))

past_free : (f : BlockWords) (b : ℕ) → HasFile f → 6 ≤ b → b < 16 → IsFree (file_layout f) b
past_free f b h from to = record { from = omega (arith, from, reserved_is); to = to; free = λ own. absurd (let within = counts_within f b h own in let high = within.1 in omega (arith, high, from)) }

-- a block that no node has is marked
pub free_marked : (f : BlockWords) (b : ℕ) → HasFile f → HasSuperblock f file_shape → ReservedRule file_shape f → 6 ≤ b → b < 16 → used_bit file_shape f b ≡ 1 → FailsOnly f 16 7 1
free_marked f b h words rule from to marked = only_marks f h words rule (λ marks. absurd (let clear = marks.free b (past_free f b h from to) in omega (arith, marked, clear)))
