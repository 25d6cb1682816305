-- The volume with one region breaks no rule, and with one word of the region changed rule 11 fails, with the block of its inode.
use Rattle.rio_model.proofs.Common.{BlockWords, IsIno, [], ap, arith, bit_at, cases_eq, cond, inl, inr, length, nat_lt, put, refl, subst, suc, sym, ℕ, ◌%◌, ◌*◌, ◌+◌, ◌/◌, ◌<◌, ◌∙◌, ◌∷◌, ◌≡◌, ◌≢◌, ◌≤◌, ◌⊎◌}
use Rattle.std.specs.Prelude.{◌^◌, codes}
use Rattle.std.proofs.lemmas.Nat.Bits.{bit_at-zero}
use Rattle.rio_base.specs.Layout.{inode_kind, inode_size}
use Rattle.rio_model.specs.Heap.{IsSoundRegion, OfBlocks, starts, used}
use Rattle.rio_model.specs.Held.{byte_of, entry_ino, held_of}
use Rattle.rio_model.specs.Undo.{IsRegion, Links, Within, before, before_by, live, places, record_at, records_from, region_magic, region_words, taken, undo_records, undo_word, undo_words}
use Rattle.rio_model.specs.VolumeFails.{FailsVolume, TreeAt}
use Rattle.rio_model.specs.VolumeReads.{Reads}
use Rattle.rio_model.specs.VolumeRules.{EntryRule, NamesApartRule, RegionRule, TreeRule, RegionAt}
use Rattle.rio_model.proofs.FreshPair.{FailsOnly}
use Rattle.rio_model.proofs.ReadStates.{holds_within, reads_as_made}
use Rattle.rio_model.proofs.UndoRules.{records_are}
use Rattle.rio_model.proofs.VolumeFailRules.{none_fails, tree_rule}
use Rattle.rio_model.proofs.WordRules.{put_other}
use Rattle.volume_tests.proofs.EntryFails.{only_held}
use Rattle.volume_tests.proofs.FileFails.{first_two}
use Rattle.volume_tests.proofs.FileVolume.{file_shape}
use Rattle.volume_tests.proofs.SmallHeld.{RowIs, free_keeps, held_free, node_word_at, one_apart, root_alone, row_is, row_kept, rows_kept, small_read, small_reads, two_named}
use Rattle.volume_tests.proofs.SmallVolumes.{Fits, IsSmall, file_served, small_mapped, small_put}

-- ---- the volume

-- the root has one entry: the name r, of inode 2. This is a region of 4 pages, in the blocks 4 to 7. No other inode is used
pub record HasRegion (f : BlockWords) : Type 0 where
  pub small : IsSmall f 64 3 16384
  pub others : (i : ℕ) → 2 < i → i ≤ 32 → inode_kind f i ≡ 0
  pub row : f 3 0 ≡ 2 + 2 ^ 32
  pub name : f 3 1 ≡ 114

-- it has one undo page and one data page, no record, and no unit that is used
pub record IsRegionVolume (f : BlockWords) : Type 0 where
  pub region : HasRegion f
  pub magic : f 4 0 ≡ region_magic
  pub undo : f 4 1 ≡ 1
  pub data_pages : f 4 2 ≡ 1
  pub head : f 4 3 ≡ 0
  pub map : (w : ℕ) → w < 512 → f 6 w ≡ 0

region_fits : Fits 64 3 16384
region_fits = record {
  some = omega arith;
  one_page = omega arith;
  whole = refl;
  known = inr refl;
  sized = record { most = omega arith; directory = λ e. absurd (omega (arith, e)); region = λ e. refl; region_pages = λ e. omega arith };
  room = omega arith;
}

-- ---- the rules 1 to 10 hold, whatever words the region has

row : (f : BlockWords) → HasRegion f → RowIs f 0 2 (codes "r")
unfolding byte_of
row f h = row_is f 64 3 16384 0 2 114 h.small region_fits (omega arith) (omega arith) h.row h.name

entries : (f : BlockWords) → HasRegion f → EntryRule (held_of file_shape f)
entries f h = rows_kept f 64 3 16384 h.small.two region_fits (λ j within. row_kept f 64 3 16384 j 114 h.small.two region_fits (omega arith) (omega arith) (subst (λ x. RowIs f x 2 (codes "r")) (let first : 0 ≡ j = omega (arith, within) in first) (row f h)))

apart : (f : BlockWords) → HasRegion f → NamesApartRule (held_of file_shape f)
apart f h = one_apart f 3 16384 h.small.two region_fits

reads : (f : BlockWords) → HasRegion f → Reads (held_of file_shape f) (small_read f)
reads f h = small_reads f (apart f h)

tree : (f : BlockWords) → HasRegion f → TreeRule (small_read f)
tree f h = tree_rule file_shape (held_of file_shape f) (small_read f) (holds_within file_shape f) (entries f h) (reads f h) h.small.two.root_kind (λ i ino. by i ino (cases_eq i 1) (cases_eq i 2))
  where
    away : (j : ℕ) → 64 * j < 64 → entry_ino (held_of file_shape f 1) j ≢ 1
    away j within e = let one : 2 ≡ 1 = sym (row f h).ino ∙ ap (entry_ino (held_of file_shape f 1)) (let first : 0 ≡ j = omega (arith, within) in first) ∙ e in omega (arith, one)

    by : (i : ℕ) → IsIno file_shape i → (i ≡ 1) ⊎ (i ≢ 1) → (i ≡ 2) ⊎ (i ≢ 2) → TreeAt (small_read f) i
    by i ino (inl e) d = subst (TreeAt (small_read f)) (sym e) (root_alone f 64 3 16384 (small_read f) h.small.two region_fits (reads f h) away)
    by i ino (inr a) (inl e) = subst (TreeAt (small_read f)) (sym e) (two_named f 3 16384 (codes "r") (small_read f) h.small.two region_fits (reads f h) (row f h))
    by i ino (inr a) (inr b) = free_keeps f i (small_read f) (reads f h) (held_free f i (λ from to. h.others i (omega (arith, from, a, b)) to))

long : (f : BlockWords) → HasRegion f → (held_of file_shape f 2).size / 8 ≡ 2048
long f h = ap (λ z. z / 8) (ap (λ k. cond (nat_lt 0 k) (inode_size f 2) 0) h.small.two.kind ∙ h.small.two.size)

-- ---- rule 11 holds

word : (f : BlockWords) (y : ℕ) → HasRegion f → y < 2048 → (held_of file_shape f 2).word y ≡ f (4 + y / 512) (y % 512)
word f y h less = node_word_at f 64 3 16384 y h.small region_fits (omega (arith, less))

-- where there is no record the words of before are those that stand
no_records : (w : ℕ → ℕ) → w 3 ≡ 0 → undo_records w ≡ []
no_records w head = records_are w (w 3) (w 3) [] head (omega arith)

map_word : (f : BlockWords) (q : ℕ) → HasRegion f → f 4 1 ≡ 1 → f 4 3 ≡ 0 → q < 512 → before (held_of file_shape f 2).word q ≡ f 6 q
map_word f q h undo head less =
    ap (λ rs. before_by rs (live w) q) (no_records w (word f 3 h (omega arith) ∙ head))
    ∙ ap (λ u. w (512 * (1 + u) + q)) (word f 1 h (omega arith) ∙ undo)
    ∙ word f (1024 + q) h (omega (arith, less))
    ∙ ap (λ p. f (4 + p) ((1024 + q) % 512)) (let page : (1024 + q) / 512 ≡ 2 = omega (arith, less) in page)
    ∙ ap (f 6) (let place : (1024 + q) % 512 ≡ q = omega (arith, less) in place)
  where
    w : ℕ → ℕ
    w = (held_of file_shape f 2).word

unused : (l : ℕ → ℕ) (t : ℕ) → ((q : ℕ) → q < 512 → l q ≡ 0) → t < 16384 → (used l t ≡ 0) × (starts l t ≡ 0)
unfolding used starts
unused l t none less = (
  ap (λ x. bit_at x (t % 64)) (none (2 * (t / 64)) (omega (arith, less))) ∙ bit_at-zero (t % 64),
  ap (λ x. bit_at x (t % 64)) (none (2 * (t / 64) + 1) (omega (arith, less))) ∙ bit_at-zero (t % 64),
)

no_block : (l : ℕ → ℕ) → ((q : ℕ) → q < 512 → l q ≡ 0) → OfBlocks l 1
no_block l none = record {
  used_start = λ t less one. absurd (let zeros = (unused l t none (omega (arith, less))).1 in omega (arith, one, zeros));
  first = λ some one. absurd (let zeros = (unused l 0 none (omega arith)).0 in omega (arith, one, zeros));
  after = λ t less off one. absurd (let zeros = (unused l (suc t) none (omega (arith, less))).0 in omega (arith, one, zeros));
  past = λ t from to. unused l t none to;
}

sound : (f : BlockWords) → IsRegionVolume f → IsSoundRegion 2048 (held_of file_shape f 2).word
sound f h = record {
  region = record {
    magic = word f 0 h.region (omega arith) ∙ h.magic;
    undo = omega (arith, undo);
    data_pages = omega (arith, pages);
    size = sym (ap (λ u. region_words u (w 2)) undo ∙ ap (region_words 1) pages);
    links = subst (λ rs. Links w (w 3) rs) (sym (no_records w head)) head;
    room = subst (λ rs. taken rs ≤ undo_words w) (sym (no_records w head)) (omega arith);
    within = subst (λ rs. Within (places w) rs) (sym (no_records w head)) tt;
  };
  heap = subst (OfBlocks (before w)) (sym pages) (no_block (before w) (λ q less. map_word f q h.region h.undo h.head less ∙ h.map q less));
}
  where
    w : ℕ → ℕ
    w = (held_of file_shape f 2).word

    undo : w 1 ≡ 1
    undo = word f 1 h.region (omega arith) ∙ h.undo

    pages : w 2 ≡ 1
    pages = word f 2 h.region (omega arith) ∙ h.data_pages

    head : w 3 ≡ 0
    head = word f 3 h.region (omega arith) ∙ h.head

regions : (f : BlockWords) → IsRegionVolume f → RegionRule (held_of file_shape f)
regions f h = record { each = λ i three. by i three (cases_eq i 1) (cases_eq i 2) }
  where
    no : (k i : ℕ) → (held_of file_shape f i).kind ≡ k → k ≢ 3 → (held_of file_shape f i).kind ≡ 3 → ⊥
    no k i is other three = other (sym is ∙ three)

    by : (i : ℕ) → (held_of file_shape f i).kind ≡ 3 → (i ≡ 1) ⊎ (i ≢ 1) → (i ≡ 2) ⊎ (i ≢ 2) → IsSoundRegion ((held_of file_shape f i).size / 8) (held_of file_shape f i).word
    by i three (inl e) d = absurd (no 1 i (ap (λ x. (held_of file_shape f x).kind) e ∙ h.region.small.two.root_kind) (λ s. omega (arith, s)) three)
    by i three (inr a) (inl e) = subst (λ x. IsSoundRegion ((held_of file_shape f x).size / 8) (held_of file_shape f x).word) (sym e) (subst (λ n. IsSoundRegion n (held_of file_shape f 2).word) (sym (long f h.region)) (sound f h))
    by i three (inr a) (inr b) = absurd (no 0 i (held_free f i (λ from to. h.region.others i (omega (arith, from, a, b)) to)) (λ s. omega (arith, s)) three)

-- no rule fails, with no block
pub no_rule_fails : (f : BlockWords) (rule b : ℕ) → IsRegionVolume f → FailsVolume f 16 rule b → ⊥
no_rule_fails f rule b h fails = none_fails f 16 (small_read f) rule b file_served refl
    (reads_as_made file_shape 0 0 f (small_mapped f 64 3 16384 h.region.small region_fits) (entries f h.region) (apart f h.region) (tree f h.region) (regions f h)) fails

-- ---- rule 11 fails

region_fails : (f : BlockWords) → HasRegion f → (IsSoundRegion 2048 (held_of file_shape f 2).word → ⊥) → FailsOnly f 16 11 2
region_fails f h wrong = only_held f 64 3 16384 11 2 h.small region_fits (inr (
  entries f h,
  inr (
    apart f h,
    record {
      state = small_read f;
      reads = reads f h;
      fails = inr (tree f h, refl, first_two (RegionAt (held_of file_shape f)) (λ keeps. wrong (subst (λ n. IsSoundRegion n (held_of file_shape f 2).word) (long f h) (keeps h.small.two.kind))) (λ three. absurd (let root : (held_of file_shape f 1).kind ≡ 1 = h.small.two.root_kind in omega (arith, three, root))));
    },
  ),
))

-- a word of the region is another
region_put : (f : BlockWords) (c w v : ℕ) → HasRegion f → 4 ≤ c → HasRegion (put f c w v)
region_put f c w v h past = record {
  small = small_put f 64 3 16384 c w v (omega (arith, past)) (omega arith) h.small;
  others = λ i from to. put_other f c w v _ _ (λ e. omega (arith, past, to, e)) ∙ h.others i from to;
  row = put_other f c w v 3 0 (λ e. omega (arith, past, e)) ∙ h.row;
  name = put_other f c w v 3 1 (λ e. omega (arith, past, e)) ∙ h.name;
}

header : (f : BlockWords) (w v : ℕ) → HasRegion f → HasRegion (put f 4 w v)
header f w v h = region_put f 4 w v h (omega arith)

-- the first word of its header is another
pub other_region_magic : (f : BlockWords) (v : ℕ) → IsRegionVolume f → v ≢ region_magic → FailsOnly (put f 4 0 v) 16 11 2
other_region_magic f v h other = region_fails (put f 4 0 v) (header f 0 v h.region) (λ sound. other (sym (word (put f 4 0 v) 0 (header f 0 v h.region) (omega arith)) ∙ sound.region.magic))

-- the header tells no undo page
pub no_undo_page : (f : BlockWords) → IsRegionVolume f → FailsOnly (put f 4 1 0) 16 11 2
no_undo_page f h = region_fails (put f 4 1 0) (header f 1 0 h.region) (λ sound. let told = sound.region.undo in let none = word (put f 4 1 0) 1 (header f 1 0 h.region) (omega arith) in omega (arith, told, none))

-- it tells another number of data pages than there are
pub other_data_pages : (f : BlockWords) (v : ℕ) → IsRegionVolume f → v ≢ 1 → FailsOnly (put f 4 2 v) 16 11 2
other_data_pages f v h other = region_fails g r (λ sound. by _ _ sound.region.size (word g 1 r (omega arith) ∙ h.undo) (word g 2 r (omega arith)))
  where
    g : BlockWords
    g = put f 4 2 v

    r : HasRegion g
    r = header f 2 v h.region

    by : (u n : ℕ) → 2048 ≡ region_words u n → u ≡ 1 → n ≡ v → ⊥
    by u n size undo is = omega (arith, size, undo, is, other)

-- its newest record is said to begin where the undo pages have no room for one
pub head_past_undo : (f : BlockWords) (p : ℕ) → IsRegionVolume f → 510 ≤ p → FailsOnly (put f 4 3 (suc p)) 16 11 2
unfolding records_from
head_past_undo f p h past = region_fails g r (λ sound. by sound.region (ap (λ x. records_from w x x) head))
  where
    g : BlockWords
    g = put f 4 3 (suc p)

    r : HasRegion g
    r = header f 3 (suc p) h.region

    w : ℕ → ℕ
    w = (held_of file_shape g 2).word

    head : w 3 ≡ suc p
    head = word g 3 r (omega arith)

    undo : w 1 ≡ 1
    undo = word g 1 r (omega arith) ∙ h.undo

    by : IsRegion 2048 w → undo_records w ≡ record_at w p ∷ records_from w p (undo_word w p) → ⊥
    by region are =
        let link : w 3 ≡ suc (taken (records_from w p (undo_word w p))) = (subst (λ rs. Links w (w 3) rs) are region.links).0 in
        let room : taken (records_from w p (undo_word w p)) + 3 + length (record_at w p).old ≤ 512 * w 1 = subst (λ rs. taken rs ≤ undo_words w) are region.room in
        omega (arith, link, room, head, undo, past)

-- ---- the heap map

map_fails : (f : BlockWords) (w v : ℕ) → IsRegionVolume f → ((l : ℕ → ℕ) → ((q : ℕ) → q < 512 → l q ≡ put f 6 w v 6 q) → OfBlocks l 1 → ⊥) → FailsOnly (put f 6 w v) 16 11 2
map_fails f w v h wrong = region_fails g r (λ sound. wrong (before (held_of file_shape g 2).word) (λ q less. map_word g q r h.undo h.head less) (subst (OfBlocks (before (held_of file_shape g 2).word)) (word g 2 r (omega arith) ∙ h.data_pages) sound.heap))
  where
    g : BlockWords
    g = put f 6 w v

    r : HasRegion g
    r = region_put f 6 w v h.region (omega arith)

-- unit 0 is used, and no block starts there
pub used_without_start : (f : BlockWords) → IsRegionVolume f → FailsOnly (put f 6 0 1) 16 11 2
unfolding used starts
used_without_start f h = map_fails f 0 1 h (λ l is blocks. by l (is 0 (omega arith)) (is 1 (omega arith) ∙ h.map 1 (omega arith)) blocks)
  where
    by : (l : ℕ → ℕ) → l 0 ≡ 1 → l 1 ≡ 0 → OfBlocks l 1 → ⊥
    by l units none blocks = let same : 0 ≡ 1 = sym (ap (λ x. bit_at x 0) none) ∙ blocks.first (omega arith) (ap (λ x. bit_at x 0) units) in omega (arith, same)

-- a block starts at unit 0, and it is not used
pub start_without_use : (f : BlockWords) → IsRegionVolume f → FailsOnly (put f 6 1 1) 16 11 2
unfolding used starts
start_without_use f h = map_fails f 1 1 h (λ l is blocks. by l (is 0 (omega arith) ∙ h.map 0 (omega arith)) (is 1 (omega arith)) blocks)
  where
    by : (l : ℕ → ℕ) → l 0 ≡ 0 → l 1 ≡ 1 → OfBlocks l 1 → ⊥
    by l none start blocks = let same : 0 ≡ 1 = sym (ap (λ x. bit_at x 0) none) ∙ blocks.used_start 0 (omega arith) (ap (λ x. bit_at x 0) start) in omega (arith, same)

-- a unit past the last data page is used
pub used_past_data : (f : BlockWords) → IsRegionVolume f → FailsOnly (put f 6 2 1) 16 11 2
unfolding used starts
used_past_data f h = map_fails f 2 1 h (λ l is blocks. by l (is 2 (omega arith)) blocks)
  where
    by : (l : ℕ → ℕ) → l 2 ≡ 1 → OfBlocks l 1 → ⊥
    by l units blocks = let same : 1 ≡ 0 = sym (ap (λ x. bit_at x 0) units) ∙ (blocks.past 64 (omega arith) (omega arith)).0 in omega (arith, same)
