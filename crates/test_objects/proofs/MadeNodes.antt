-- Nodes without bytes are made on a fresh volume.
use Rattle.std.proofs.Common.{Bool, true, false, ◌≡◌, ◌≢◌, ℕ, ◌+◌, ◌-◌, ◌/◌, ◌%◌, ◌<◌, ◌≤◌, ◌⊎◌, ◌&&◌, cond, refl, sym, ap, subst, ◌∙◌, arith, inl, inr}
use Rattle.std.specs.Prelude.{nat_le}
use Rattle.std.specs.Int.{bit_at}
use Rattle.std.proofs.lemmas.Bool.{cases_eq}
use Rattle.std.proofs.lemmas.Bool.Decides.{nat_tests}
use Rattle.rio_base.specs.declared.places.VolumeShape.{VolumeShape}
use Rattle.rio_base.specs.Bitmap.{bitmap_block, used_bit}
use Rattle.rio_base.proofs.Bitmap.{first_bitmap}
use Rattle.rio_base.specs.Blocks.{BlockWords}
use Rattle.rio_base.specs.Layout.{inode_block, inode_kind, inode_place, IsIno}
use Rattle.test_objects.specs.ListVolumes.{list_kept, list_seen}
use Rattle.test_objects.specs.declared.list_volume.ListVolume.{ListVolume}
use Rattle.rio_base.specs.Rules.{true_false}
use Rattle.rio_base.specs.Shapes.{IsShape, HasShape}
use Rattle.rio_base.specs.Volume.{Firm}
use Rattle.inode_table.specs.declared.inode.Inode.{Inode}
use Rattle.inode_table.proofs.InodeRules.{stored_kind, word_of_words}
use Rattle.inode_table.specs.Inodes.{inode_words}
use Rattle.rio_model.specs.Held.{Held, held, held_ino, held_of, nothing}
use Rattle.rio_model.proofs.NodeChangeRules.{held_here, held_there, mapped_replaced}
use Rattle.rio_model.specs.NodeChanges.{Change}
use Rattle.rio_model.specs.Placed.{Slot, AtPage, AtTable, Placed, HasSlot, placed_at, volume_layout}
use Rattle.rio_model.proofs.PlacedRules.{inode_no_bitmap}
use Rattle.rio_model.proofs.UpdateRules.{inode_beside, inode_elsewhere, inode_stored}
use Rattle.rio_model.specs.Updates.{with_inode}
use Rattle.rio_model.specs.VolumeReady.{Ready}
use Rattle.rio_model.proofs.FreshReads.{fresh_reads}
use Rattle.test_objects.specs.TestVolumes.{HasNodes, IsTestShape, fresh_words}
use Rattle.test_objects.proofs.FreshVolumes.{IsZero, fresh_volume, inode_later, test_bits}

-- what is not an inode holds nothing
by_ino : (shape : VolumeShape) (f : BlockWords) (i : ℕ) (P : Held → Type 0) → (IsIno shape i → P (held f (placed_at f i))) → P nothing → P (held_of shape f i)
by_ino shape f i P has none = by (nat_le 1 i && nat_le i shape.inodes) refl
  where
    by : (t : Bool) → (nat_le 1 i && nat_le i shape.inodes) ≡ t → P (cond t (held f (placed_at f i)) nothing)
    by true test = has (record { from = grind (arith, nat_tests, test); to = grind (arith, nat_tests, test) })
    by false test = none

-- a node of no bytes has size 0, used or not
no_size : (f : BlockWords) (n : Placed) → n.size ≡ 0 → (held f n).size ≡ 0
no_size f n none = elim (cases_eq n.kind 0) [
  | inl free ↦ grind (arith, nat_tests, none)
  | inr used ↦ grind (arith, nat_tests, none)
]

pub many_inodes : (shape : VolumeShape) → IsTestShape shape → 64 ≤ shape.inodes
many_inodes shape h = by h.inodes
  where
    by : (shape.inodes ≡ 64) ⊎ (shape.inodes ≡ 128) → 64 ≤ shape.inodes
    by (inl is) = omega (arith, is)
    by (inr is) = omega (arith, is)

-- the root alone
pub fresh_nodes : (shape : VolumeShape) (f : BlockWords) (kind : ℕ) → IsTestShape shape → IsShape shape → IsZero f → HasNodes shape (fresh_words shape f) kind 1
fresh_nodes shape f kind h sizes zero = record {
  mapped = (fresh_reads shape g 0 0 (fresh_volume shape f h sizes zero)).mapped;
  root = ap (λ (k : Held). k.kind) (held_ino (volume_layout shape g) g 1 (record { from = omega arith; to = let many = many_inodes shape h in omega (arith, many) }));
  made = λ i from to. absurd (omega (arith, from, to));
  free = λ i past. by_ino shape g i (λ k. k.kind ≡ 0) (λ ino. inode_later shape f (inode_block i) (inode_place i + 0) zero (omega arith) (out i past)) refl;
  empty = λ i. by_ino shape g i (λ k. k.size ≡ 0) (λ ino. no_size g (placed_at g i) (inode_later shape f (inode_block i) (inode_place i + 1) zero (omega arith) (inr (λ e. omega (arith, e))))) refl;
}
  where
    g : BlockWords
    g = fresh_words shape f

    out : (i : ℕ) → 1 < i → (inode_block i ≢ 2) ⊎ (inode_place i + 0 ≢ 0)
    out i past = elim (cases_eq ((i - 1) / 32) 0) [
      | inl first ↦ inr (λ e. omega (arith, e, first, past))
      | inr later ↦ inl (λ e. omega (arith, e, later))
    ]

-- a volume with no node beside the root has none of any kind
pub root_alone : (shape : VolumeShape) (f : BlockWords) (kind other : ℕ) → HasNodes shape f kind 1 → HasNodes shape f other 1
root_alone shape f kind other h = record {
  mapped = h.mapped;
  root = h.root;
  made = λ i from to. absurd (omega (arith, from, to));
  free = h.free;
  empty = h.empty;
}

-- ---- a node made

abbrev IsEmptyKind : ℕ → Type 0
IsEmptyKind kind = (kind ≡ 1) ⊎ (kind ≡ 2)

abbrev new_node : ℕ → Placed
new_node kind = record { kind = kind; size = 0; block = λ s. 0 }

no_slot : (kind : ℕ) (s : Slot) → HasSlot (new_node kind) s → ⊥
no_slot kind (AtPage p) h = let none : p < 0 = h.within in omega (arith, none)
no_slot kind (AtTable k) h = let none : k < 0 = h.within in omega (arith, none)

stored_node : (shape : VolumeShape) (f : BlockWords) (i kind : ℕ) (n : Inode) → IsTestShape shape → IsShape shape → IsIno shape i → 1 < i → inode_kind f i ≡ 0 → IsEmptyKind kind → n.kind ≡ kind → n.size ≡ 0 → Change (volume_layout shape f) f (with_inode f i (inode_words n)) i (new_node kind)
stored_node shape f i kind n h sizes ino past free either is size =
    let g : BlockWords = with_inode f i (inode_words n) in
    record {
      ino = ino;
      does = record {
        lies = record {
          kind = stored_kind f i n ∙ is;
          size = λ used. inode_stored f i (inode_words n) 1 (omega arith) ∙ word_of_words n 1 (omega arith) ∙ size;
          blocks = λ s has. absurd (no_slot kind s has);
        };
        beside = λ w out. inode_beside f i (inode_words n) (inode_block i) w out;
        elsewhere = λ b w bitmap inode old new. inode_elsewhere f i (inode_words n) b w inode;
      };
      bits = record {
        gained = λ s has none. absurd (no_slot kind s has);
        lost = λ s has gone. absurd (let used = has.used in omega (arith, used, free));
        kept = λ s t has new e. absurd (no_slot kind t new);
        others = λ b within old new. bit b (subst (λ m. b < m) (test_bits shape h) within);
      };
      fits = record {
        kind = few either;
        size = λ used. record { most = omega arith; directory = λ e. omega arith; region = λ e. absurd (no_region either e); region_pages = λ e. absurd (no_region either e) };
        from = λ s has. absurd (no_slot kind s has);
        to = λ s has. absurd (no_slot kind s has);
        apart = λ s t has new e. absurd (no_slot kind s has);
      };
      root = λ e. absurd (omega (arith, e, past));
      from = λ s has. absurd (no_slot kind s has);
    }
  where
    few : IsEmptyKind kind → kind ≤ 3
    few (inl one) = omega (arith, one)
    few (inr two) = omega (arith, two)

    no_region : IsEmptyKind kind → kind ≡ 3 → ⊥
    no_region (inl one) e = omega (arith, one, e)
    no_region (inr two) e = omega (arith, two, e)

    bit : (b : ℕ) → b < 32768 → used_bit shape (with_inode f i (inode_words n)) b ≡ used_bit shape f b
    bit b low =
        let first = first_bitmap shape b low in
        ap (λ x. bit_at x (b % 64)) (inode_elsewhere f i (inode_words n) (bitmap_block shape b) (b % 32768 / 64) (λ e. inode_no_bitmap shape i sizes ino (inl (sym e ∙ first))))

-- one node more
pub node_made : (shape : VolumeShape) (f g : BlockWords) (i kind : ℕ) (n : Inode) → IsTestShape shape → HasNodes shape f kind (i - 1) → 2 ≤ i → i ≤ 64 → IsEmptyKind kind → n.kind ≡ kind → n.size ≡ 0 → g ≡ with_inode f i (inode_words n) → HasNodes shape g kind i
node_made shape f g i kind n h was from few either is_kind size is = subst (λ k. HasNodes shape k kind i) (sym is) (record {
  mapped = mapped_replaced shape f k i (new_node kind) was.mapped change;
  root = ap (λ (m : Held). m.kind) (there 1 (λ e. omega (arith, e, from))) ∙ was.root;
  made = λ j low to. elim (cases_eq j i) [
    | inl here ↦ ap (λ x. (held_of shape k x).kind) here ∙ ap (λ (m : Held). m.kind) own
    | inr away ↦ ap (λ (m : Held). m.kind) (there j away) ∙ was.made j low (omega (arith, to, away))
  ];
  free = λ j past. ap (λ (m : Held). m.kind) (there j (λ e. omega (arith, past, e))) ∙ was.free j (omega (arith, past));
  empty = λ j. elim (cases_eq j i) [
    | inl here ↦ ap (λ x. (held_of shape k x).size) here ∙ ap (λ (m : Held). m.size) own ∙ no_size k (new_node kind) refl
    | inr away ↦ ap (λ (m : Held). m.size) (there j away) ∙ was.empty j
  ];
})
  where
    k : BlockWords
    k = with_inode f i (inode_words n)

    ino : IsIno shape i
    ino = record { from = omega (arith, from); to = let many = many_inodes shape h in omega (arith, few, many) }

    free : inode_kind f i ≡ 0
    free = ap (λ (m : Held). m.kind) (sym (held_ino (volume_layout shape f) f i ino)) ∙ was.free i (omega (arith, from))

    change : Change (volume_layout shape f) f k i (new_node kind)
    change = stored_node shape f i kind n h was.mapped.superblock.sizes ino (omega (arith, from)) free either is_kind size

    own : held_of shape k i ≡ held k (new_node kind)
    own = held_here shape f k i (new_node kind) was.mapped change

    there : (j : ℕ) → j ≢ i → held_of shape k j ≡ held_of shape f j
    there j away = held_there shape f k i (new_node kind) was.mapped change j away

-- ---- a volume in memory, which caches nothing

pub nodes_ready : (shape : VolumeShape) (v w : ListVolume) (kind last : ℕ) → Ready shape (list_seen v) (list_kept v) → Firm (list_kept v) (list_kept w) → ((b : ℕ) → (list_kept v).loose b ≡ false) → HasShape shape (list_seen w) → (list_kept w).updating ≡ false → HasNodes shape (list_seen w).words kind last → Ready shape (list_seen w) (list_kept w)
nodes_ready shape v w kind last was firm none has_shape idle nodes = record {
  order = record {
    has_shape = has_shape;
    mapped = nodes.mapped;
    named = record { each = λ i ino s has on. absurd (true_false (sym on)) };
    firm = record { low = λ c low. kept c; owned = λ i s own. kept _ };
  };
  idle = idle;
}
  where
    kept : (b : ℕ) → (list_kept w).loose b ≡ false
    kept b = by ((list_kept w).loose b) refl
      where
        by : (t : Bool) → (list_kept w).loose b ≡ t → (list_kept w).loose b ≡ false
        by true e = absurd (true_false (sym (firm.loose b e) ∙ none b))
        by false e = e
