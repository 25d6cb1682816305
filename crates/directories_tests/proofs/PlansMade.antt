-- The calls of tests keep the volume's directories.
use Rattle.directories.proofs.Common.{◌≡◌, ◌≢◌, ℕ, ◌*◌, ◌<◌, ◌⊎◌, false, List, refl, sym, ap, subst, ◌∙◌, arith, inl, inr, cases_eq, VolumeShape, CachesBy, BlockWords, Health, Looks, Seen, IsIno, HasShape, Below, Firm, Kept, Passes, Inode, IsInode, Held, HasEntry, entry_ino, entry_name, held_of, held_ino, Change, IsName, Layout, volume_layout, lays_self, Applied, AllNamed, Firmly, LeavesInUse, EntryRule, IsMapped, LooksUp, named_on, firm_on, ready_left, IsUpdated}
use Rattle.rio_model.proofs.HeldRules.{held_by, held_in_agree, same_all}
use Rattle.rio_model.specs.Placed.{Agrees}
use Rattle.rio_model.proofs.PlacedRules.{lays_agree}
use Rattle.node_pages.proofs.OrderRules.{ready_order}
use Rattle.directories.proofs.MakingRules.{SetsDir, may_begin, plan_change, plan_made}
use Rattle.directories.proofs.MakingOrder.{order_made, plan_edits}
use Rattle.directories.specs.Plans.{PlansDir, dir_update}
use Rattle.directories.specs.Reading.{CanReadDir, CanReadRows}
use Rattle.directories.specs.RowChanges.{AddsRow, RemovesRow, ReplacesRow, SetsRow}
use Rattle.directories.specs.Rows.{HasRow, NamesApart}
use Rattle.directories_tests.specs.TestDirs.{CanMake, DirsOrder, DirsReady, IsTestDir, KeepsRows}
use Rattle.directories.specs.declared.changes.DirChange.{DirChange}
use Rattle.directories.proofs.AddedRow.{held_size}
use Rattle.directories.proofs.CanRead.{can_read}

-- ---- calls that change nothing in use

pub left_held : (shape : VolumeShape) (f g : BlockWords) → IsMapped shape f → Agrees (volume_layout shape f) f g → held_of shape g ≡ held_of shape f
left_held shape f g mapped agrees = same_all (held_of shape g) (held_of shape f) (λ i. held_by l g (lays_agree l f g mapped.laid.shape_fits (lays_self shape f) agrees) i ∙ held_in_agree l f g agrees i)
  where
    l : Layout
    l = volume_layout shape f

pub dirs_left : (shape : VolumeShape) (x : Seen) (k : Kept) (y : Seen) (j : Kept) → DirsReady shape x k → LeavesInUse (volume_layout shape x.words) x k y j → DirsReady shape y j
dirs_left shape x k y j h left =
    let same = sym (left_held shape x.words y.words h.ready.order.mapped left.words) in
    record {
      ready = ready_left shape x k y j h.ready left;
      entries = subst EntryRule same h.entries;
      dirs = λ i at. subst (λ (held : ℕ → Held). (held i).kind ≡ 1) same (h.dirs i at);
      apart = λ i at. subst (λ (held : ℕ → Held). NamesApart (held i)) same (h.apart i at);
    }

pub dirs_read : (shape : VolumeShape) (s : Health) (o : Below) (t : Health) (n : Below) (x : Seen) (k : Kept) (y : Seen) (j : Kept) → DirsReady shape x k → Looks x y → HasShape shape y → AllNamed (volume_layout shape x.words) y → Passes s o k t n j → DirsReady shape y j
dirs_read shape s o t n x k y j h looks has_shape named passes = record {
  ready = record {
    order = record {
      has_shape = has_shape;
      mapped = subst (IsMapped shape) (sym looks.words) h.ready.order.mapped;
      named = subst (λ (f : BlockWords). AllNamed (volume_layout shape f) y) (sym looks.words) named;
      firm = subst (λ (f : BlockWords). Firmly (volume_layout shape f) j) (sym looks.words) (firm_on _ k j h.ready.order.firm passes.firm);
    };
    idle = passes.updating ∙ h.ready.idle;
  };
  entries = subst (λ (f : BlockWords). EntryRule (held_of shape f)) (sym looks.words) h.entries;
  dirs = λ i at. subst (λ (f : BlockWords). (held_of shape f i).kind ≡ 1) (sym looks.words) (h.dirs i at);
  apart = λ i at. subst (λ (f : BlockWords). NamesApart (held_of shape f i)) (sym looks.words) (h.apart i at);
}

pub dirs_looked : (shape : VolumeShape) (s : Health) (o : Below) (t : Health) (n : Below) (x : Seen) (k : Kept) (y : Seen) (j : Kept) → DirsReady shape x k → LooksUp shape x y → Passes s o k t n j → DirsReady shape y j
dirs_looked shape s o t n x k y j h l passes = dirs_read shape s o t n x k y j h l.looks l.still.has_shape (named_on shape x y h.ready.order.mapped h.ready.order.named l) passes

-- ---- a plan that is made

entries_set : (shape : VolumeShape) (g k : BlockWords) (d : ℕ) → EntryRule (held_of shape g) → (held_of shape g d).kind ≡ 1 → ((i : ℕ) → IsTestDir i → (held_of shape g i).kind ≡ 1) → SetsDir shape g k d KeepsRows → EntryRule (held_of shape k)
entries_set shape g k d was dir dirs set = record {
  each = λ e j has. (named e j has (cases_eq e d), used e j has (cases_eq e d));
}
  where
    still_used : (i : ℕ) → 0 < (held_of shape g i).kind → 0 < (held_of shape k i).kind
    still_used i before = elim (cases_eq i d) [
      | inl here ↦ subst (λ x. 0 < (held_of shape k x).kind) (sym here) (let own = set.own.dir in omega (arith, own))
      | inr away ↦ subst (λ (h : Held). 0 < h.kind) (sym (set.others i away)) before
    ]

    own_row : (j : ℕ) → 64 * j < (held_of shape k d).size → HasRow (held_of shape g d) (entry_name (held_of shape k d) j) (entry_ino (held_of shape k d) j) ⊎ (IsName (entry_name (held_of shape k d) j) × IsTestDir (entry_ino (held_of shape k d) j))
    own_row j within = set.own.rows _ _ (j, record { within = within; named = refl; ino = refl })

    here_named : (j : ℕ) → 64 * j < (held_of shape k d).size → IsName (entry_name (held_of shape k d) j)
    here_named j within = elim (own_row j within) [
      | inl old ↦ subst IsName old.1.named ((was.each d old.0 (record { dir = dir; within = old.1.within })).0)
      | inr new ↦ new.0
    ]

    here_used : (j : ℕ) → 64 * j < (held_of shape k d).size → 0 < (held_of shape k (entry_ino (held_of shape k d) j)).kind
    here_used j within = elim (own_row j within) [
      | inl old ↦ still_used _ (subst (λ i. 0 < (held_of shape g i).kind) old.1.ino ((was.each d old.0 (record { dir = dir; within = old.1.within })).1))
      | inr new ↦ still_used _ (let is = dirs _ new.1 in omega (arith, is))
    ]

    named : (e j : ℕ) → HasEntry (held_of shape k) e j → (e ≡ d) ⊎ (e ≢ d) → IsName (entry_name (held_of shape k e) j)
    named e j has (inl here) = subst (λ x. IsName (entry_name (held_of shape k x) j)) (sym here) (here_named j (subst (λ x. 64 * j < (held_of shape k x).size) here has.within))
    named e j has (inr away) =
        let same = set.others e away in
        subst (λ (h : Held). IsName (entry_name h j)) (sym same) ((was.each e j (record { dir = subst (λ (h : Held). h.kind ≡ 1) same has.dir; within = subst (λ (h : Held). 64 * j < h.size) same has.within })).0)

    used : (e j : ℕ) → HasEntry (held_of shape k) e j → (e ≡ d) ⊎ (e ≢ d) → 0 < (held_of shape k (entry_ino (held_of shape k e) j)).kind
    used e j has (inl here) = subst (λ x. 0 < (held_of shape k (entry_ino (held_of shape k x) j)).kind) (sym here) (here_used j (subst (λ x. 64 * j < (held_of shape k x).size) here has.within))
    used e j has (inr away) =
        let same = set.others e away in
        subst (λ (h : Held). 0 < (held_of shape k (entry_ino h j)).kind) (sym same) (still_used _ ((was.each e j (record { dir = subst (λ (h : Held). h.kind ≡ 1) same has.dir; within = subst (λ (h : Held). 64 * j < h.size) same has.within })).1))

pub ready_dirs : (shape : VolumeShape) (x : Seen) (k : Kept) → DirsReady shape x k → DirsOrder shape x k
ready_dirs shape x k h = record { order = h.ready.order; entries = h.entries; dirs = h.dirs; apart = h.apart }

pub dirs_idle : (shape : VolumeShape) (x : Seen) (k : Kept) → DirsOrder shape x k → k.updating ≡ false → DirsReady shape x k
dirs_idle shape x k h idle = record { ready = ready_order shape x k h.order idle; entries = h.entries; dirs = h.dirs; apart = h.apart }

pub plan_order : (shape : VolumeShape) (y : Seen) (j : Kept) (z : Seen) (k : Kept) (c : DirChange) → DirsOrder shape y j → CanMake shape y j c → Applied shape (dir_update c) y.words z.words → HasShape shape z → CachesBy (IsUpdated c.dir.0 c.edits) y z → Firm j k → DirsOrder shape z k
plan_order shape y j z k c h can applied has_shape caches firm = record {
  order = order_made shape y.words z.words d can.plan.node c.edits y j z k h.order change can.plan.is_dir can.plan.unnamed can.plan.firm (plan_edits shape can.old y j d KeepsRows c can.plan) has_shape caches firm;
  entries = entries_set shape y.words z.words d h.entries dir h.dirs set;
  dirs = λ i at. elim (cases_eq i d) [
    | inl here ↦ ap (λ x. (held_of shape z.words x).kind) here ∙ set.own.dir
    | inr away ↦ ap (λ (m : Held). m.kind) (set.others i away) ∙ h.dirs i at
  ];
  apart = λ i at. elim (cases_eq i d) [
    | inl here ↦ subst (λ x. NamesApart (held_of shape z.words x)) (sym here) (set.own.apart (subst (λ x. NamesApart (held_of shape y.words x)) here (h.apart i at)))
    | inr away ↦ subst (λ (m : Held). NamesApart m) (sym (set.others i away)) (h.apart i at)
  ];
}
  where
    d : ℕ
    d = c.dir.0

    change : Change (volume_layout shape y.words) y.words z.words d can.plan.node
    change = plan_change shape can.old y j d KeepsRows c y.words z.words can.plan can.may applied

    set : SetsDir shape y.words z.words d KeepsRows
    set = plan_made shape can.old y j d KeepsRows c y.words z.words can.plan h.order.mapped can.still can.may applied

    dir : (held_of shape y.words d).kind ≡ 1
    dir = ap (λ (m : Held). m.kind) (can.still ∙ held_ino (volume_layout shape can.old) can.old d can.ino) ∙ can.plan.was_dir

-- ---- a plan that may be made next

pub can_make : (shape : VolumeShape) (x : Seen) (k : Kept) (y : Seen) (j : Kept) (d : ℕ) (becomes : Held → Held → Type 0) (c : DirChange) → DirsReady shape x k → IsTestDir d → IsIno shape d → LeavesInUse (volume_layout shape x.words) x k y j → ((h : Held) → becomes (held_of shape x.words d) h → KeepsRows (held_of shape x.words d) h) → PlansDir shape x.words y j d becomes c → CanMake shape y j c
can_make shape x k y j d becomes c h at ino left keeps p = record {
  old = x.words;
  ino = here;
  plan = q;
  still = ap (λ (held : ℕ → Held). held c.dir.0) (left_held shape x.words y.words h.ready.order.mapped left.words);
  may = may_begin shape x k y j c.dir.0 KeepsRows c q here h.ready left;
}
  where
    here : IsIno shape c.dir.0
    here = subst (IsIno shape) (sym p.dir) ino

    kept : PlansDir shape x.words y j d KeepsRows c
    kept = record { dir = p.dir; node = p.node; holds = p.holds; turns = p.turns; from = p.from; takes = p.takes; made = p.made; was_dir = p.was_dir; is_dir = p.is_dir; does = keeps p.holds p.does; words = p.words; few = p.few; firm = p.firm; unnamed = p.unnamed }

    q : PlansDir shape x.words y j c.dir.0 KeepsRows c
    q = subst (λ e. PlansDir shape x.words y j e KeepsRows c) (sym p.dir) kept

pub add_keeps : (h k : Held) (name : List ℕ) (i : ℕ) → IsName name → IsTestDir i → AddsRow name i h k → KeepsRows h k
add_keeps h k name i is at c = record {
  dir = c.dir;
  rows = λ a n row. elim (c.from a n row) [
    | inl old ↦ inl old
    | inr new ↦ inr (subst IsName (sym new.0) is, subst IsTestDir (sym new.1) at)
  ];
  apart = c.apart;
}

pub set_keeps : (h k : Held) (slot : ℕ) (name : List ℕ) (i : ℕ) → IsName name → IsTestDir i → SetsRow slot name i h k → KeepsRows h k
set_keeps h k slot name i is at c = record {
  dir = c.dir;
  rows = λ a n row. elim (c.from a n row) [
    | inl old ↦ inl old
    | inr new ↦ inr (subst IsName (sym new.0) is, subst IsTestDir (sym new.1) at)
  ];
  apart = c.apart;
}

pub remove_keeps : (h k : Held) (slot : ℕ) → RemovesRow slot h k → KeepsRows h k
remove_keeps h k slot c = record { dir = c.dir; rows = λ a n row. elim (c.from a n row) [ inl old ↦ inl old | inr none ↦ absurd none ]; apart = c.apart }

pub replace_keeps : (h k : Held) (slot i gone : ℕ) → IsName (entry_name h slot) → IsTestDir i → ReplacesRow slot i gone h k → KeepsRows h k
replace_keeps h k slot i gone is at c = record {
  dir = c.dir;
  rows = λ a n row. elim (c.from a n row) [
    | inl old ↦ inl old
    | inr new ↦ inr (subst IsName (sym new.0) is, subst IsTestDir (sym new.1) at)
  ];
  apart = c.apart;
}

-- ---- a directory that is read

-- the rows of a directory may be asked for
pub dirs_rows : {shape : VolumeShape} {x : Seen} {k : Kept} → DirsReady shape x k → CanReadRows shape x
dirs_rows h = record { has_shape = h.ready.order.has_shape; mapped = h.ready.order.mapped; named = h.ready.order.named; entries = h.entries }

pub dirs_can : (shape : VolumeShape) (x : Seen) (k : Kept) (d : ℕ) → DirsReady shape x k → IsTestDir d → CanReadDir shape x d
dirs_can shape x k d h at = can_read shape x d h.ready.order.has_shape h.ready.order.mapped h.ready.order.named h.entries (h.dirs d at)

pub size_said : (shape : VolumeShape) (x : Seen) (k : Kept) (y : Seen) (d : ℕ) (inode : Inode) → DirsReady shape x k → IsTestDir d → y.words ≡ x.words → IsInode x.words d inode → inode.size ≡ (held_of shape y.words d).size
size_said shape x k y d inode h at same is = sym (held_size shape x d inode (dirs_can shape x k d h at) is) ∙ ap (λ (f : BlockWords). (held_of shape f d).size) (sym same)
