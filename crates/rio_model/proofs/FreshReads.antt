-- A fresh volume reads as the root directory alone.
use Rattle.rio_model.proofs.Common.{◌≡◌, ◌≢◌, ℕ, ◌+◌, ◌/◌, ◌%◌, ◌<◌, ◌≤◌, ◌&&◌, ◌⊎◌, Bool, true, false, cond, [], Option, refl, sym, ap, subst, ◌∙◌, arith, inl, inr, nat_lt, get, insert, nat_cmp, cases_eq, nat_tests, VolumeShape, BlockWords, IsIno}
use Rattle.std.proofs.Common.{Some, None, Ok}
use Rattle.std.specs.Prelude.{nat_le}
use Rattle.std.specs.FinMap.{empty, get-empty}
use Rattle.rio_base.specs.Layout.{inode_kind, inode_size}
use Rattle.rio_model.specs.declared.node.Node.TheVariants.{Dir}
use Rattle.rio_model.specs.Fresh.{IsFreshVolume, fresh_state}
use Rattle.rio_model.specs.Held.{Held, held, nothing, held_of, HasEntry}
use Rattle.rio_model.specs.Names.{name_cmp}
use Rattle.rio_model.specs.Placed.{Slot, AtPage, AtTable, Placed, HasSlot, placed_at, volume_layout, Owned}
use Rattle.rio_model.proofs.PlacedRules.{laid_by_nodes, has_bit, reserved_below}
use Rattle.rio_model.specs.VolumeReads.{ReadsAs}
use Rattle.rio_model.proofs.VolumeReadRules.{reads_none, reads_dir}
use Rattle.rio_model.specs.VolumeRules.{NodeFits}
use Rattle.rio_model.proofs.StateSteps.{get_here, get_there}

empty_slot : (n : Placed) (s : Slot) → n.size ≡ 0 → HasSlot n s → ⊥
empty_slot n (AtPage p) e h = let none : p < 0 = subst (λ z. p < (z + 4095) / 4096) e h.within in omega (arith, none)
empty_slot n (AtTable k) e h = let none : k < 0 = subst (λ z. k < cond (nat_lt 24 ((z + 4095) / 4096)) 1 0) e h.within in omega (arith, none)

no_slots : (shape : VolumeShape) (f : BlockWords) (i : ℕ) (s : Slot) → IsFreshVolume shape f → IsIno shape i → HasSlot (placed_at f i) s → ⊥
no_slots shape f i s h ino has = elim (cases_eq i 1) [
  | inl root ↦ empty_slot (placed_at f i) s (ap (inode_size f) root ∙ h.root_size) has
  | inr other ↦ (let from = ino.from in let none = h.others i (omega (arith, from, other)) ino.to in let used = has.used in omega (arith, used, none))
]

-- what an inode of a fresh volume holds: the root an empty directory, each other nothing
abbrev FreshHeld : ℕ → Held → Type 0
FreshHeld i k = ((i ≡ 1) × (k.kind ≡ 1) × (k.size ≡ 0)) ⊎ ((i ≢ 1) × (k.kind ≡ 0))

fresh_held : (shape : VolumeShape) (f : BlockWords) (i : ℕ) → IsFreshVolume shape f → FreshHeld i (held_of shape f i)
fresh_held shape f i h = elim (cases_eq i 1) [
  | inl root ↦ subst (λ x. FreshHeld x (held_of shape f x)) (sym root) (inl (refl, root_kind, root_size))
  | inr other ↦ inr (other, by_case _ refl other)
]
  where
    in_range : (nat_le 1 1 && nat_le 1 shape.inodes) ≡ true
    in_range = let fits = h.superblock.sizes.inodes_from in grind (arith, nat_tests, fits)

    root_kind : (held_of shape f 1).kind ≡ 1
    root_kind = ap (λ t. (cond t (held f (placed_at f 1)) nothing).kind) in_range ∙ h.root_kind

    root_size : (held_of shape f 1).size ≡ 0
    root_size = ap (λ t. (cond t (held f (placed_at f 1)) nothing).size) in_range ∙ ap (λ k. cond (nat_lt 0 k) (inode_size f 1) 0) h.root_kind ∙ h.root_size

    low_of : (j n : ℕ) → (nat_le 1 j && nat_le j n) ≡ true → j ≢ 1 → (1 < j) × (j ≤ n)
    low_of j n t off = let a : 1 ≤ j = grind (arith, nat_tests) in let b : j ≤ n = grind (arith, nat_tests) in (omega (arith, a, off), b)

    by_case : (t : Bool) → (nat_le 1 i && nat_le i shape.inodes) ≡ t → i ≢ 1 → (held_of shape f i).kind ≡ 0
    by_case true e off = let inside = low_of i shape.inodes e off in ap (λ t. (cond t (held f (placed_at f i)) nothing).kind) e ∙ h.others i inside.0 inside.1
    by_case false e off = ap (λ t. (cond t (held f (placed_at f i)) nothing).kind) e

no_entry : (shape : VolumeShape) (f : BlockWords) (d j : ℕ) → IsFreshVolume shape f → HasEntry (held_of shape f) d j → ⊥
no_entry shape f d j h has = elim (fresh_held shape f d h) [
  | inl root ↦ (let within = has.within in let size = root.2 in omega (arith, within, size))
  | inr other ↦ (let dir = has.dir in let kind = other.1 in omega (arith, dir, kind))
]

fresh_fits : (shape : VolumeShape) (f : BlockWords) (i : ℕ) → IsFreshVolume shape f → IsIno shape i → NodeFits shape (placed_at f i)
fresh_fits shape f i h ino = record {
  kind = elim (cases_eq i 1) [ inl root ↦ (let one = kind_at root in omega (arith, one)) | inr other ↦ (let zero = free_at other in omega (arith, zero)) ];
  size = λ used. elim (cases_eq i 1) [
    | inl root ↦ (let kind = kind_at root in let size : inode_size f i ≡ 0 = ap (inode_size f) root ∙ h.root_size in record { most = omega (arith, size); directory = λ dir. ap (λ z. z % 64) size; region = λ region. absurd (omega (arith, kind, region)); region_pages = λ region. absurd (omega (arith, kind, region)) })
    | inr other ↦ absurd (let zero = free_at other in omega (arith, zero, used))
  ];
  from = λ s has. absurd (no_slots shape f i s h ino has);
  to = λ s has. absurd (no_slots shape f i s h ino has);
  apart = λ s t hs ht e. absurd (no_slots shape f i s h ino hs);
}
  where
    kind_at : i ≡ 1 → inode_kind f i ≡ 1
    kind_at root = ap (inode_kind f) root ∙ h.root_kind

    free_at : i ≢ 1 → inode_kind f i ≡ 0
    free_at other = let from = ino.from in h.others i (omega (arith, from, other)) ino.to

no_owner : (shape : VolumeShape) (f : BlockWords) (b : ℕ) → IsFreshVolume shape f → Owned (volume_layout shape f) b → ⊥
no_owner shape f b h own = no_slots shape f own.node own.slot h own.owns.ino own.owns.slot

pub fresh_reads : (shape : VolumeShape) (f : BlockWords) (pages scratch : ℕ) → IsFreshVolume shape f → ReadsAs shape f (fresh_state shape pages scratch)
fresh_reads shape f pages scratch h = record {
  sizes = refl;
  mapped = record {
    superblock = h.superblock;
    reserved_marked = record {
      marked = h.low;
      past = λ b past within. h.high b (let least = reserved_below shape h.superblock.sizes in omega (arith, past, least)) within;
    };
    laid = laid_by_nodes (volume_layout shape f) h.superblock.sizes h.root_kind (λ i ino. fresh_fits shape f i h ino) (λ i j s t oi oj e. absurd (no_slots shape f i s h oi.ino oi.slot));
    marks = record {
      counts = λ b own. absurd (no_owner shape f b h own);
      free = λ b none. h.high b none.from (has_bit shape b h.superblock.sizes none.to);
    };
  };
  entries = record {
    each = λ d j has. (absurd (no_entry shape f d j h has), absurd (no_entry shape f d j h has));
  };
  apart = record { each = λ d j k hj hk e. absurd (no_entry shape f d j h hj) };
  tree = record {
    root = λ d name e. no_name _ (get-empty name_cmp (d, name)) e;
    one = λ c d a b i p q. absurd (no_name _ (get-empty name_cmp (c, a)) p);
    reached = λ i some. elim (cases_eq i 1) [
      | inl root ↦ ([], ap Ok (sym root))
      | inr other ↦ absurd (some (get_there empty 1 Dir i other ∙ get-empty nat_cmp i))
    ];
  };
  regions = record {
    each = λ i three. elim (fresh_held shape f i h) [
      | inl root ↦ absurd (let kind = root.1 in omega (arith, kind, three))
      | inr other ↦ absurd (let kind = other.1 in omega (arith, kind, three))
    ];
  };
  reads = record {
    nodes = λ i. elim (fresh_held shape f i h) [
      | inl root ↦ ap (get (insert empty 1 Dir)) root.0 ∙ get_here empty 1 Dir ∙ sym (reads_dir (held_of shape f i) root.1)
      | inr other ↦ get_there empty 1 Dir i other.0 ∙ get-empty nat_cmp i ∙ sym (reads_none (held_of shape f i) other.1)
    ];
    entries = λ d j has. absurd (no_entry shape f d j h has);
    names = λ d name i e. absurd (no_name _ (get-empty name_cmp (d, name)) e);
    idle = refl;
  };
}
  where
    no_name : {v : ℕ} (o : Option ℕ) → o ≡ None → o ≡ Some v → ⊥
    no_name o n e = cc
