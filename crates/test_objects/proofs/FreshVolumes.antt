-- A fresh volume of the tests may be called, and so may one that is started again.
use Rattle.std.proofs.Common.{Bool, true, false, ◌≡◌, ◌≢◌, ℕ, ◌+◌, ◌-◌, ◌*◌, ◌/◌, ◌%◌, ◌^◌, ◌<◌, ◌≤◌, ◌⊎◌, ◌==◌, cond, [], ◌∷◌, refl, sym, ap, subst, ◌∙◌, arith, inl, inr}
use Rattle.std.specs.Prelude.{None, Option}
use Rattle.std.specs.Global.{Vec}
use Rattle.std.specs.Int.{bit_at}
use Rattle.std.proofs.lemmas.Bool.{cases_eq}
use Rattle.std.proofs.lemmas.Bool.Decides.{nat_tests}
use Rattle.std.proofs.lemmas.Nat.Bits.{bit_at-zero, bit_at_ones, bit_at_ones_above}
use Rattle.test_objects.specs.declared.list_volume.ListVolume.{ListVolume}
use Rattle.rio_base.specs.declared.places.VolumeShape.{VolumeShape}
use Rattle.rio_base.proofs.Bitmap.{first_bitmap}
use Rattle.rio_base.proofs.BlockRules.{metadata}
use Rattle.rio_base.specs.Bitmap.{used_bit}
use Rattle.rio_base.specs.Blocks.{BlockWords, CanName, Seen}
use Rattle.rio_base.specs.Layout.{inode_block, inode_place, volume_magic}
use Rattle.test_objects.specs.ListVolumes.{IsNew, IsRestarted, flat, list_kept, list_seen, mark_of}
use Rattle.rio_base.specs.Rules.{true_false}
use Rattle.rio_base.specs.Shapes.{HasShape, IsShape, more_bitmap, reserved}
use Rattle.rio_base.specs.Volume.{CachesStored, Firm, put, put_run, widened}
use Rattle.rio_model.specs.Fresh.{IsFreshVolume, fresh_state}
use Rattle.rio_model.specs.Placed.{volume_layout}
use Rattle.rio_model.specs.VolumeReady.{Firmly, Ready, StandsReady}
use Rattle.rio_model.specs.VolumeReads.{ReadsAs}
use Rattle.rio_model.specs.VolumeRules.{IsMapped, bitmap_bits}
use Rattle.rio_model.proofs.WordRules.{put_beside, put_here, put_other, run_same_but}
use Rattle.rio_model.proofs.FreshReads.{fresh_reads}
use Rattle.test_objects.specs.TestVolumes.{IsFresh, IsTestShape, fresh_words, marks_of}

abbrev pub IsZero : BlockWords → Type 0
IsZero f = (b w : ℕ) → f b w ≡ 0

-- how many blocks are reserved
abbrev count_of : VolumeShape → ℕ
count_of shape = 2 + shape.inodes / 32

few_of : (shape : VolumeShape) → IsTestShape shape → (count_of shape ≤ 6) × (4 ≤ count_of shape)
few_of shape h = by h.inodes
  where
    by : (shape.inodes ≡ 64) ⊎ (shape.inodes ≡ 128) → (count_of shape ≤ 6) × (4 ≤ count_of shape)
    by (inl is) = (omega (arith, is), omega (arith, is))
    by (inr is) = (omega (arith, is), omega (arith, is))

test_reserved : (shape : VolumeShape) → IsTestShape shape → reserved shape ≡ count_of shape
unfolding more_bitmap
test_reserved shape h = ap (λ v. 2 + shape.inodes / 32 + cond (v == 2) 7 0) h.version ∙ none
  where
    none : 2 + shape.inodes / 32 + 0 ≡ count_of shape
    none = omega arith

pub test_bits : (shape : VolumeShape) → IsTestShape shape → bitmap_bits shape ≡ 32768
unfolding more_bitmap
test_bits shape h = ap (λ v. 32768 * (1 + cond (v == 2) 7 0)) h.version

abbrev super_words : VolumeShape → BlockWords → BlockWords
super_words shape f = put_run f 0 0 4 (volume_magic ∷ 1 ∷ shape.blocks ∷ shape.inodes ∷ [])

-- the words of blocks 1, 2 and of those past them
bitmap_first : (shape : VolumeShape) (f : BlockWords) → fresh_words shape f 1 0 ≡ marks_of shape
bitmap_first shape f = put_other (put (super_words shape f) 1 0 (marks_of shape)) 2 0 1 1 0 (λ e. omega (arith, e)) ∙ put_here (super_words shape f) 1 0 (marks_of shape)

bitmap_later : (shape : VolumeShape) (f : BlockWords) (w : ℕ) → IsZero f → w ≢ 0 → fresh_words shape f 1 w ≡ 0
bitmap_later shape f w zero away =
    put_other (put (super_words shape f) 1 0 (marks_of shape)) 2 0 1 1 w (λ e. omega (arith, e)) ∙ put_beside (super_words shape f) 1 0 (marks_of shape) 1 w away ∙ (run_same_but f 0 0 4 (volume_magic ∷ 1 ∷ shape.blocks ∷ shape.inodes ∷ [])).others 1 w (λ e. omega (arith, e)) ∙ zero 1 w

pub inode_later : (shape : VolumeShape) (f : BlockWords) (b w : ℕ) → IsZero f → 2 ≤ b → (b ≢ 2) ⊎ (w ≢ 0) → fresh_words shape f b w ≡ 0
inode_later shape f b w zero from out =
    last out ∙ put_other (super_words shape f) 1 0 (marks_of shape) b w (λ e. omega (arith, from, e)) ∙ (run_same_but f 0 0 4 (volume_magic ∷ 1 ∷ shape.blocks ∷ shape.inodes ∷ [])).others b w (λ e. omega (arith, from, e)) ∙ zero b w
  where
    last : (b ≢ 2) ⊎ (w ≢ 0) → fresh_words shape f b w ≡ put (super_words shape f) 1 0 (marks_of shape) b w
    last (inl away) = put_other (put (super_words shape f) 1 0 (marks_of shape)) 2 0 1 b w away
    last (inr away) = put_beside (put (super_words shape f) 1 0 (marks_of shape)) 2 0 1 b w away

bit_in_first : (shape : VolumeShape) (f : BlockWords) (b : ℕ) → b < 64 → used_bit shape (fresh_words shape f) b ≡ bit_at (marks_of shape) b
bit_in_first shape f b few =
    let low : b < 32768 = omega (arith, few) in
    let word : b % 32768 / 64 ≡ 0 = omega (arith, few) in
    let place : b % 64 ≡ b = omega (arith, few) in
    ap (λ c. bit_at (fresh_words shape f c (b % 32768 / 64)) (b % 64)) (first_bitmap shape b low) ∙ ap (λ w. bit_at (fresh_words shape f 1 w) (b % 64)) word ∙ ap (λ x. bit_at x (b % 64)) (bitmap_first shape f) ∙ ap (bit_at (marks_of shape)) place

bit_later : (shape : VolumeShape) (f : BlockWords) (b : ℕ) → IsZero f → 64 ≤ b → b < 32768 → used_bit shape (fresh_words shape f) b ≡ 0
bit_later shape f b zero from low =
    ap (λ c. bit_at (fresh_words shape f c (b % 32768 / 64)) (b % 64)) (first_bitmap shape b low) ∙ ap (λ x. bit_at x (b % 64)) (bitmap_later shape f (b % 32768 / 64) zero (λ e. omega (arith, e, from, low))) ∙ bit_at-zero (b % 64)

pub fresh_volume : (shape : VolumeShape) (f : BlockWords) → IsTestShape shape → IsShape shape → IsZero f → IsFreshVolume shape (fresh_words shape f)
fresh_volume shape f h sizes zero = record {
  superblock = record { sizes = sizes; words = record { magic = refl; version = sym h.version; blocks = refl; inodes = refl } };
  low = λ b low. let in_count : b < count_of shape = subst (λ n. b < n) (test_reserved shape h) low in let few = (few_of shape h).0 in bit_in_first shape f b (omega (arith, in_count, few)) ∙ bit_at_ones (count_of shape) b in_count;
  high = λ b from to. high b (subst (λ n. n ≤ b) (test_reserved shape h) from) (subst (λ n. b < n) (test_bits shape h) to);
  root_kind = refl;
  root_size = inode_later shape f 2 1 zero (omega arith) (inr (λ e. omega (arith, e)));
  others = λ i past within. inode_later shape f (inode_block i) (inode_place i + 0) zero (omega arith) (out i past);
}
  where
    cases_low : (a b : ℕ) → (a < b) ⊎ (b ≤ a)
    cases_low a b = grind (arith, nat_tests)

    high : (b : ℕ) → count_of shape ≤ b → b < 32768 → used_bit shape (fresh_words shape f) b ≡ 0
    high b from to = elim (cases_low b 64) [
      | inl few ↦ bit_in_first shape f b few ∙ bit_at_ones_above (count_of shape) b from
      | inr many ↦ bit_later shape f b zero many to
    ]

    out : (i : ℕ) → 1 < i → (inode_block i ≢ 2) ⊎ (inode_place i + 0 ≢ 0)
    out i past = elim (cases_eq ((i - 1) / 32) 0) [
      | inl first ↦ inr (λ e. omega (arith, e, first, past))
      | inr later ↦ inl (λ e. omega (arith, e, later))
    ]

-- made of a volume of zeros
pub fresh_ready : (shape : VolumeShape) (stop_after : Option ℕ) (u v : ListVolume) → IsTestShape shape → IsNew shape.blocks stop_after u → Firm (list_kept u) (list_kept v) → HasShape shape (list_seen v) → (list_kept v).updating ≡ false → (list_seen v).words ≡ fresh_words shape (list_seen u).words → IsFresh shape (list_seen v) (list_kept v)
fresh_ready shape stop_after u v h new firm has_shape idle words = record {
  ready = record {
    order = record {
      has_shape = has_shape;
      mapped = reads.mapped;
      named = record { each = λ i ino s has on. absurd (true_false (sym on)) };
      firm = record { low = λ c low. unloose c; owned = λ i s own. unloose _ };
    };
    idle = idle;
  };
  reads = reads;
  loose = unloose;
}
  where
    reads : ReadsAs shape (list_seen v).words (fresh_state shape 0 0)
    reads = subst (λ (f : BlockWords). ReadsAs shape f (fresh_state shape 0 0)) (sym words) (fresh_reads shape (fresh_words shape (list_seen u).words) 0 0 (fresh_volume shape (list_seen u).words h has_shape.sizes new.words))

    unloose : (b : ℕ) → (list_kept v).loose b ≡ false
    unloose b = by ((list_kept v).loose b) refl
      where
        by : (x : Bool) → (list_kept v).loose b ≡ x → x ≡ false
        by false e = refl
        by true e = absurd (true_false (sym (firm.loose b e) ∙ new.loose b))

-- ---- started again

pub restarted : (shape : VolumeShape) (stop_after : Option ℕ) (v w : ListVolume) → StandsReady shape (list_seen v) (list_kept v) → IsRestarted stop_after v w → Ready shape (list_seen w) (list_kept w)
restarted shape stop_after v w stands again = record {
  order = record {
    has_shape = record { sizes = stands.has_shape.sizes; count = again.count ∙ stands.has_shape.count; unnamed = λ b low on. refl };
    mapped = subst (IsMapped shape) (sym now) stands.mapped;
    named = record { each = λ i ino s has on. absurd (true_false (sym on)) };
    firm = subst (λ f. Firmly (volume_layout shape f) (list_kept w)) (sym now) (subst (λ (loose : ℕ → Bool). Firmly (volume_layout shape (list_kept v).standing) (record (list_kept w) { loose = loose })) (sym marks) (record { low = stands.firm.low; owned = stands.firm.owned }));
  };
  idle = again.idle;
}
  where
    now : (list_seen w).words ≡ (list_kept v).standing
    now = ap flat again.words

    marks : (list_kept w).loose ≡ (list_kept v).loose
    marks = ap (λ (l : Vec Bool). mark_of l.items) again.loose

pub restarted_words : (stop_after : Option ℕ) (v w : ListVolume) → IsRestarted stop_after v w → (list_seen w).words ≡ (list_kept v).standing
restarted_words stop_after v w again = ap flat again.words

-- ---- its sizes

pub root_low : (shape : VolumeShape) → IsTestShape shape → 2 < reserved shape
root_low shape h = subst (λ n. 2 < n) (sym (test_reserved shape h)) (let few = (few_of shape h).1 in omega (arith, few))

pub new_shape : (shape : VolumeShape) (stop_after : Option ℕ) (u : ListVolume) → IsTestShape shape → IsNew shape.blocks stop_after u → HasShape shape (list_seen u)
new_shape shape stop_after u h new = record {
  sizes = sizes h.inodes;
  count = new.count;
  unnamed = λ b low on. refl;
}
  where
    sizes : (shape.inodes ≡ 64) ⊎ (shape.inodes ≡ 128) → IsShape shape
    sizes (inl is) = record {
      version = inl h.version;
      inodes_from = omega (arith, is);
      inodes_to = omega (arith, is);
      inode_blocks = omega (arith, is);
      blocks_from = h.from;
      blocks_second = λ two. absurd (let one = h.version in omega (arith, one, two));
      blocks_to = h.to;
    }
    sizes (inr is) = record {
      version = inl h.version;
      inodes_from = omega (arith, is);
      inodes_to = omega (arith, is);
      inode_blocks = omega (arith, is);
      blocks_from = h.from;
      blocks_second = λ two. absurd (let one = h.version in omega (arith, one, two));
      blocks_to = h.to;
    }

pub marks_first : (shape : VolumeShape) → shape.inodes ≡ 64 → 15 ≡ marks_of shape
marks_first shape is = ap (λ n. 2 ^ (2 + n / 32) - 1) (sym is)

pub marks_second : (shape : VolumeShape) → IsTestShape shape → (shape.inodes ≡ 64 → ⊥) → 63 ≡ marks_of shape
marks_second shape h other = by h.inodes
  where
    by : (shape.inodes ≡ 64) ⊎ (shape.inodes ≡ 128) → 63 ≡ marks_of shape
    by (inl is) = absurd (other is)
    by (inr is) = ap (λ n. 2 ^ (2 + n / 32) - 1) (sym is)

-- ---- its first words are stored

meta_stored : (shape : VolumeShape) (s t : Seen) (b : ℕ) → b < reserved shape → HasShape shape s → t.count ≡ s.count → CachesStored s t b None → HasShape shape t
meta_stored shape s t b low h count k = record {
  sizes = h.sizes;
  count = count ∙ h.count;
  unnamed = λ c within cached. at c within cached (cases_eq c b);
}
  where
    here : t.cached b ≡ true → ((s.cached b ≡ true) × (t.names b ≡ s.names b)) ⊎ (t.names b ≡ None) ⊎ ((s.cached b ≡ true) × (t.names b ≡ widened (s.names b) None)) → t.names b ≡ None
    here on (inl (was, same)) = same ∙ h.unnamed b low was
    here on (inr (inl none)) = none
    here on (inr (inr (was, wide))) = wide ∙ ap (λ name. widened name None) (h.unnamed b low was)

    at : (c : ℕ) → c < reserved shape → t.cached c ≡ true → (c ≡ b) ⊎ (c ≢ b) → t.names c ≡ None
    at c within cached (inr away) = let before = k.others c away cached in before.1 ∙ h.unnamed c within before.0
    at c within cached (inl same) = subst (λ x. t.cached x ≡ true → t.names x ≡ None) (sym same) (λ on. here on (k.named on)) cached

pub one_stored : (shape : VolumeShape) (s t : Seen) → IsTestShape shape → HasShape shape s → t.count ≡ s.count → CachesStored s t 0 None → HasShape shape t
one_stored shape s t test h ct kt = let low = root_low shape test in meta_stored shape s t 0 (omega (arith, low)) h ct kt

pub two_stored : (shape : VolumeShape) (s t u : Seen) → IsTestShape shape → HasShape shape s → t.count ≡ s.count → CachesStored s t 0 None → u.count ≡ t.count → CachesStored t u 1 None → HasShape shape u
two_stored shape s t u test h ct kt cu ku = let low = root_low shape test in meta_stored shape t u 1 (omega (arith, low)) (one_stored shape s t test h ct kt) cu ku

pub three_stored : (shape : VolumeShape) (s t u w : Seen) → IsTestShape shape → HasShape shape s → t.count ≡ s.count → CachesStored s t 0 None → u.count ≡ t.count → CachesStored t u 1 None → w.count ≡ u.count → CachesStored u w 2 None → HasShape shape w
three_stored shape s t u w test h ct kt cu ku cw kw = meta_stored shape u w 2 (root_low shape test) (two_stored shape s t u test h ct kt cu ku) cw kw

-- the first, second and third block of metadata may be named so
pub first_named : (shape : VolumeShape) (s : Seen) (b : ℕ) → IsTestShape shape → HasShape shape s → b ≤ 2 → CanName s b None
first_named shape s b test h few = let low = root_low shape test in metadata shape s b h (omega (arith, low, few))

pub first_block : (shape : VolumeShape) (s : Seen) (b : ℕ) → IsTestShape shape → HasShape shape s → b ≤ 2 → b < s.count
first_block shape s b test h few = subst (λ n. b < n) (sym h.count) (let from = test.from in omega (arith, from, few))

-- what is stored by the three calls is a fresh volume
pub three_words : (shape : VolumeShape) (f g h k : BlockWords) (marks : ℕ) → marks ≡ marks_of shape → g ≡ put_run f 0 0 4 (volume_magic ∷ 1 ∷ shape.blocks ∷ shape.inodes ∷ []) → h ≡ put g 1 0 marks → k ≡ put h 2 0 1 → k ≡ fresh_words shape f
three_words shape f g h k marks are first second third =
    let stored : h ≡ put (put_run f 0 0 4 (volume_magic ∷ 1 ∷ shape.blocks ∷ shape.inodes ∷ [])) 1 0 (marks_of shape) = second ∙ (ap (λ x. put x 1 0 marks) first ∙ ap (λ n. put (put_run f 0 0 4 (volume_magic ∷ 1 ∷ shape.blocks ∷ shape.inodes ∷ [])) 1 0 n) are) in
    third ∙ ap (λ x. put x 2 0 1) stored
