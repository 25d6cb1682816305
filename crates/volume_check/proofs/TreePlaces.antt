-- Rule 10 of one inode, by how many names it has and whether entries lead to it.
use Rattle.rio_model.proofs.Common.{◌≡◌, ◌≢◌, ◌==◌, ℕ, ◌+◌, ◌<◌, ◌∙◌, Bool, true, false, cond, List, [], ◌∷◌, None, Some, refl, sym, ap, subst, arith, inl, inr, cases_eq, get, inode_block, IsIno, VolumeShape}
use Rattle.std.specs.Prelude.{Ok, slice_index_or}
use Rattle.std.proofs.lemmas.Bool.{eqb-true}
use Rattle.rio_model.specs.declared.node.Node.TheVariants.{Dir, File, Region}
use Rattle.rio_model.specs.declared.state.State.{State}
use Rattle.rio_model.specs.Held.{HasEntry, Held, entry_ino, entry_name, held_bytes, held_ino, held_of}
use Rattle.rio_model.specs.Paths.{is_dir, walk}
use Rattle.rio_model.specs.VolumeFails.{HasNoName, HasOneName, TreeAt}
use Rattle.rio_model.specs.VolumeReads.{Reads, node_in, region_in}
use Rattle.rio_model.specs.VolumeRules.{EntryRule, IsMapped, NamesApartRule, TreeRule}
use Rattle.rio_model.proofs.NameRules.{same_some}
use Rattle.rio_model.proofs.VolumeReadRules.{reads_dir, reads_none}
use Rattle.rio_model.proofs.Walks.{Up, turned, up_walk, walk_up}
use Rattle.rio_base.specs.Blocks.{Seen}
use Rattle.rio_model.specs.Placed.{volume_layout}
use Rattle.rio_model.proofs.PlacedRules.{root_ino}
use Rattle.rio_model.proofs.ReadStates.{holds_within, reads_made}
use Rattle.rio_model.proofs.VolumeFailRules.{tree_rule}
use Rattle.volume_check.specs.Rules.{FailsBy}
use Rattle.volume_check.specs.Inodes.{HasInodes, said}
use Rattle.volume_check.specs.Tree.{CountOf, Counted, InTree, IsAllReached, Leads, Names, state_of}
use Rattle.volume_check.specs.declared.inodes.Inodes.{Inodes}
use Rattle.volume_check.proofs.Counting.{counted_all}
use Rattle.volume_check.proofs.EntryRules.{said_is}
use Rattle.volume_check.specs.declared.name_counts.NameCount.{NameCount}
use Rattle.volume_check.specs.declared.name_counts.NameCount.TheVariants.{No, One, Several}

-- ---- rows are entries

row_names : (held : ℕ → Held) (s : State) (d : ℕ) (a : List ℕ) (i : ℕ) → Reads held s → get s.names (d, a) ≡ Some i → (j : ℕ) × Names held i d j × (entry_name (held d) j ≡ a)
row_names held s d a i r e =
    let at = r.names d a i e in
    (at.0, record { entry = at.1; ino = same_some (get s.names (d, a)) (entry_ino (held d) at.0) i (subst (λ n. get s.names (d, n) ≡ Some (entry_ino (held d) at.0)) at.2 (r.entries d at.0 at.1)) e }, at.2)

names_row : (held : ℕ → Held) (s : State) (d j i : ℕ) → Reads held s → Names held i d j → get s.names (d, entry_name (held d) j) ≡ Some i
names_row held s d j i r n = r.entries d j n.entry ∙ ap Some n.ino

-- ---- walks go by entries

dir_is : (held : ℕ → Held) (s : State) (d : ℕ) → Reads held s → (held d).kind ≡ 1 → is_dir (get s.nodes d) ≡ true
dir_is held s d r one = ap is_dir (r.nodes d ∙ reads_dir (held d) one)

up_by : (held : ℕ → Held) (s : State) (path : List (ℕ × ℕ)) (i : ℕ) → Reads held s → Leads held path i → (names : List (List ℕ)) × Up s names i
up_by held s [] i r way = ([], way)
up_by held s (p ∷ path) i r way =
    let rest = up_by held s path p.0 r way.0 in
    (entry_name (held p.0) p.1 ∷ rest.0, (p.0, rest.1, record { dir = dir_is held s p.0 r way.1.entry.dir; row = names_row held s p.0 p.1 i r way.1 }))

leads_walk : (held : ℕ → Held) (s : State) (path : List (ℕ × ℕ)) (i : ℕ) → Reads held s → Leads held path i → (names : List (List ℕ)) × (walk s 1 names ≡ Ok i)
leads_walk held s path i r way = let up = up_by held s path i r way in (turned up.0 [], walk_up s i i up.0 [] up.1 refl)

leads_by : (held : ℕ → Held) (s : State) (names : List (List ℕ)) (i : ℕ) → Reads held s → Up s names i → (path : List (ℕ × ℕ)) × Leads held path i
leads_by held s [] i r up = ([], up)
leads_by held s (a ∷ names) i r up =
    let rest = leads_by held s names up.0 r up.1 in
    let row = row_names held s up.0 a i r up.2.row in
    ((up.0, row.0) ∷ rest.0, (rest.1, row.1))

walk_leads : (held : ℕ → Held) (s : State) (names : List (List ℕ)) (i : ℕ) → Reads held s → walk s 1 names ≡ Ok i → (path : List (ℕ × ℕ)) × Leads held path i
walk_leads held s names i r e = leads_by held s (turned names []) i r (up_walk s 1 i [] names refl e)

-- ---- used inodes are nodes

node_used : (h : Held) → 0 < h.kind → node_in h ≢ None
node_used h used none = by (h.kind == 0) (h.kind == 1) (h.kind == 2) refl none
  where
    by : (x y z : Bool) → (h.kind == 0) ≡ x → cond x None (cond y (Some Dir) (cond z (Some (File (held_bytes h))) (Some (Region (region_in h.word))))) ≡ None → ⊥
    by true y z e n = let zero = eqb-true _ _ e in omega (arith, zero, used)
    by false true z e n = cc
    by false false true e n = cc
    by false false false e n = cc

used_node : (held : ℕ → Held) (s : State) (i : ℕ) → Reads held s → get s.nodes i ≢ None → 0 < (held i).kind
used_node held s i r some = elim (cases_eq (held i).kind 0) [ inl free ↦ absurd (some (r.nodes i ∙ reads_none (held i) free)) | inr used ↦ omega (arith, used) ]

-- ---- rule 10

-- some entries lead to an inode, where it is marked
abbrev pub IsMark : (ℕ → Held) → ℕ → Bool → Type 0
IsMark held i reached = (reached ≡ true → (path : List (ℕ × ℕ)) × Leads held path i) × ((path : List (ℕ × ℕ)) → Leads held path i → reached ≡ true)

no_name : (held : ℕ → Held) (s : State) (i : ℕ) (c : NameCount) → Reads held s → c ≡ No → CountOf (Names held i) c → HasNoName s i
no_name held s i c r is count d a e = let row = row_names held s d a i r e in subst (CountOf (Names held i)) is count d row.0 row.1

one_name : (held : ℕ → Held) (s : State) (i : ℕ) (c : NameCount) (reached : Bool) → Reads held s → c ≡ One → reached ≡ true → IsMark held i reached → CountOf (Names held i) c → HasOneName s i
one_name held s i c reached r is on mark count = by (subst (CountOf (Names held i)) is count)
  where
    by : CountOf (Names held i) One → HasOneName s i
    by one = record {
      dir = one.0;
      name = entry_name (held one.0) one.1;
      row = names_row held s one.0 one.1 i r one.2;
      only = λ d a e.
          let row = row_names held s d a i r e in
          let same = one.3 d row.0 row.1 in
          (same.0, sym row.2 ∙ (λ q. entry_name (held (same.0 q)) (same.1 q)));
      reached = let way = mark.0 on in leads_walk held s way.0 i r way.1;
    }

pub tree_at : (held : ℕ → Held) (s : State) (i : ℕ) (c : NameCount) (reached : Bool) → Reads held s → CountOf (Names held i) c → IsMark held i reached → InTree (held i).kind i c reached → TreeAt s i
tree_at held s i c reached r count mark h some = elim (h (used_node held s i r some)) [
  | inl root ↦ inl (root.0, no_name held s i c r root.1 count)
  | inr one ↦ inr (one.0, one_name held s i c reached r one.1 one.2 mark count)
]

-- ---- and the other way round

count_none : (held : ℕ → Held) (s : State) (i : ℕ) (c : NameCount) → Reads held s → CountOf (Names held i) c → HasNoName s i → c ≡ No
count_none held s i No r count none = refl
count_none held s i One r one none = absurd (none one.0 _ (names_row held s one.0 one.1 i r one.2))
count_none held s i Several r two none = absurd (none two.0 _ (names_row held s two.0 two.1 i r two.4))

count_one : (held : ℕ → Held) (s : State) (i : ℕ) (c : NameCount) → NamesApartRule held → Reads held s → CountOf (Names held i) c → HasOneName s i → c ≡ One
count_one held s i No apart r none h = absurd (let row = row_names held s h.dir h.name i r h.row in none h.dir row.0 row.1)
count_one held s i One apart r one h = refl
count_one held s i Several apart r two h =
    let first = h.only two.0 _ (names_row held s two.0 two.1 i r two.4) in
    let second = h.only two.2 _ (names_row held s two.2 two.3 i r two.5) in
    absurd (two.6 (first.0 ∙ sym second.0, same two.0 two.1 two.2 two.3 (first.0 ∙ sym second.0) two.4.entry two.5.entry (first.1 ∙ sym second.1)))
  where
    same : (d j e k : ℕ) → d ≡ e → HasEntry held d j → HasEntry held e k → entry_name (held d) j ≡ entry_name (held e) k → j ≡ k
    same d j e k is x y named = apart.each d j k x (subst (λ z. HasEntry held z k) (sym is) y) (named ∙ ap (λ z. entry_name (held z) k) (sym is))

pub in_tree : (held : ℕ → Held) (s : State) (i : ℕ) (c : NameCount) (reached : Bool) → NamesApartRule held → Reads held s → CountOf (Names held i) c → IsMark held i reached → TreeAt s i → InTree (held i).kind i c reached
in_tree held s i c reached apart r count mark h used = elim (h (λ none. node_used (held i) used (sym (r.nodes i) ∙ none))) [
  | inl root ↦ inl (root.0, count_none held s i c r count root.1)
  | inr one ↦ inr (one.0, count_one held s i c apart r count one.1, (let way = walk_leads held s one.1.reached.0 i r one.1.reached.1 in mark.1 way.0 way.1))
]

-- ---- all inodes, by what was counted and reached

-- names were counted, and inodes reached
pub record Placed (shape : VolumeShape) (held : ℕ → Held) (counts : List NameCount) (reached : List Bool) : Type 0 where
  pub counted : Counted shape held (shape.inodes + 1) 0 counts
  pub marked : IsAllReached shape held reached

abbrev pub InPlace : Inodes → List NameCount → List Bool → ℕ → Type 0
InPlace n counts reached i = InTree (said n i 0) i (slice_index_or counts i No) (slice_index_or reached i false)

mark_of : (shape : VolumeShape) (held : ℕ → Held) (reached : List Bool) (i : ℕ) → IsAllReached shape held reached → IsMark held i (slice_index_or reached i false)
mark_of shape held reached i h = (λ on. h.ways i on, λ path way. h.all path i way)

pub placed_tree : (s : Seen) (n : Inodes) (counts : List NameCount) (reached : List Bool) → HasInodes s n → NamesApartRule (held_of n.shape s.words) → Placed n.shape (held_of n.shape s.words) counts reached → (i : ℕ) → IsIno n.shape i → InPlace n counts reached i → TreeAt (state_of n.shape (held_of n.shape s.words)) i
placed_tree s n counts reached has apart p i ino h =
    let held = held_of n.shape s.words in
    let outside = holds_within n.shape s.words in
    tree_at held (state_of n.shape held) i (slice_index_or counts i No) (slice_index_or reached i false) (reads_made n.shape 0 0 held outside apart) (counted_all n.shape held counts i outside p.counted ino) (mark_of n.shape held reached i p.marked) (subst (λ k. InTree k i (slice_index_or counts i No) (slice_index_or reached i false)) (sym (said_is s n i (said n i 0) has ino refl)) h)

pub tree_placed : (s : Seen) (n : Inodes) (counts : List NameCount) (reached : List Bool) → HasInodes s n → NamesApartRule (held_of n.shape s.words) → Placed n.shape (held_of n.shape s.words) counts reached → (i : ℕ) → IsIno n.shape i → TreeAt (state_of n.shape (held_of n.shape s.words)) i → InPlace n counts reached i
tree_placed s n counts reached has apart p i ino h =
    let held = held_of n.shape s.words in
    let outside = holds_within n.shape s.words in
    subst (λ k. InTree k i (slice_index_or counts i No) (slice_index_or reached i false)) (said_is s n i (said n i 0) has ino refl)
    (in_tree held (state_of n.shape held) i (slice_index_or counts i No) (slice_index_or reached i false) apart (reads_made n.shape 0 0 held outside apart) (counted_all n.shape held counts i outside p.counted ino) (mark_of n.shape held reached i p.marked) h)

pub tree_all : (s : Seen) (n : Inodes) → HasInodes s n → IsMapped n.shape s.words → EntryRule (held_of n.shape s.words) → NamesApartRule (held_of n.shape s.words) → ((i : ℕ) → IsIno n.shape i → TreeAt (state_of n.shape (held_of n.shape s.words)) i) → TreeRule (state_of n.shape (held_of n.shape s.words))
tree_all s n has mapped entries apart each =
    let held = held_of n.shape s.words in
    let outside = holds_within n.shape s.words in
    let root : IsIno n.shape 1 = root_ino n.shape has.served.sizes in
    tree_rule n.shape held (state_of n.shape held) outside entries (reads_made n.shape 0 0 held outside apart) (ap (λ (h : Held). h.kind) (held_ino (volume_layout n.shape s.words) s.words 1 root) ∙ (mapped.laid.kinds.each 1 root).1 refl) each

pub tree_fails : (s : Seen) (n : Inodes) (counts : List NameCount) (reached : List Bool) (i : ℕ) → HasInodes s n → NamesApartRule (held_of n.shape s.words) → Placed n.shape (held_of n.shape s.words) counts reached → IsIno n.shape i → ¬ InPlace n counts reached i → ((j : ℕ) → IsIno n.shape j → j < i → InPlace n counts reached j) → FailsBy 10 n.shape (TreeAt (state_of n.shape (held_of n.shape s.words))) 10 (inode_block i)
tree_fails s n counts reached i has apart p ino fails before = (
  refl,
  record {
    ino = i;
    is_ino = ino;
    fails = λ h. fails (tree_placed s n counts reached has apart p i ino h);
    before = λ j is less. placed_tree s n counts reached has apart p j is (before j is less);
    block = refl;
  },
)
