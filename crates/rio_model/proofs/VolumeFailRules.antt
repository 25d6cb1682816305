-- The rules of a volume inode by inode; the first that fails is one, with one block; and where all hold none fails.
use Rattle.rio_model.proofs.Common.{◌≡◌, ◌≢◌, ◌⊎◌, ℕ, ◌+◌, ◌/◌, ◌<◌, ◌≤◌, ◌==◌, ◌∙◌, ◌∷◌, Bool, true, false, cond, List, [], Option, None, Some, refl, sym, ap, subst, arith, inl, inr, cases_eq, VolumeShape, BlockWords, Contents, IsIno, get, inode_block, length}
use Rattle.std.proofs.Common.{Ok, Err}
use Rattle.std.specs.Prelude.{Result}
use Rattle.std.proofs.lemmas.Bool.{eqb-true}
use Rattle.rio_base.specs.Shapes.{IsServed}
use Rattle.rio_model.specs.declared.node.Node.TheVariants.{Dir, File, Region}
use Rattle.rio_model.specs.declared.state.State.{State}
use Rattle.rio_model.specs.Cover.{stands}
use Rattle.rio_model.specs.Held.{HasEntry, Held, entry_ino, held_bytes, held_of}
use Rattle.rio_model.specs.Paths.{from_found, is_dir, walk}
use Rattle.rio_model.specs.Placed.{Layout, volume_layout}
use Rattle.rio_model.specs.Standing.{EntriesFit, StandsFor}
use Rattle.rio_model.specs.VolumeFails.{CountsTwice, FailsEntries, FailsFirst, FailsHeld, FailsOn, FailsPair, FailsTree, FailsVolume, HasNoName, HasOneName, IsLeastTwice, TreeAt}
use Rattle.rio_model.specs.VolumeReads.{Reads, ReadsAs, node_in, region_in}
use Rattle.rio_model.specs.VolumeRules.{EntryRule, NamesApartRule, OnceRule, RegionRule, TreeRule, ApartAt, EntryAt, KindAt, NumberAt, RegionAt, SizeAt}
use Rattle.rio_model.proofs.OneReading.{one_reading}
use Rattle.rio_model.proofs.ReadStates.{HoldsWithin}
use Rattle.rio_model.proofs.StandingStates.{AreWhole, one_shape, stands_with_reads}
use Rattle.rio_model.proofs.StateSteps.{KeepsWalks, walk_kept}
use Rattle.rio_model.proofs.VolumeReadRules.{reads_none}

-- ---- rules on what is held, from each inode

pub once_each : (l : Layout) → OnceRule l → (b : ℕ) → CountsTwice l b → ⊥
once_each l h b c = c.two (h.each c.i c.j c.s c.t c.one.0 c.other.0 (c.one.1 ∙ sym c.other.1))

-- what holds something is an inode
pub ino_held : (shape : VolumeShape) (held : ℕ → Held) (i : ℕ) → HoldsWithin shape held → 0 < (held i).kind → IsIno shape i
ino_held shape held i within used = by shape.inodes refl
  where
    part : (n : ℕ) → ((i ≡ 0) ⊎ (n < i)) ⊎ ((1 ≤ i) × (i ≤ n))
    part n = grind arith

    at : ((i ≡ 0) ⊎ (shape.inodes < i)) ⊎ ((1 ≤ i) × (i ≤ shape.inodes)) → IsIno shape i
    at (inl out) = absurd (let none = within i out in omega (arith, none, used))
    at (inr ino) = record { from = ino.0; to = ino.1 }

    by : (n : ℕ) → n ≡ shape.inodes → IsIno shape i
    by n e = at (part shape.inodes)

dir_ino : (shape : VolumeShape) (held : ℕ → Held) (d j : ℕ) → HoldsWithin shape held → HasEntry held d j → IsIno shape d
dir_ino shape held d j within has = ino_held shape held d within (let one = has.dir in omega (arith, one))

pub entry_rule : (shape : VolumeShape) (held : ℕ → Held) → HoldsWithin shape held → ((d : ℕ) → IsIno shape d → EntryAt held d) → EntryRule held
entry_rule shape held within h = record { each = λ d j has. h d (dir_ino shape held d j within has) j has }

pub apart_rule : (shape : VolumeShape) (held : ℕ → Held) → HoldsWithin shape held → ((d : ℕ) → IsIno shape d → ApartAt held d) → NamesApartRule held
apart_rule shape held within h = record { each = λ d j k x y e. h d (dir_ino shape held d j within x) j k x y e }

pub region_rule : (shape : VolumeShape) (held : ℕ → Held) → HoldsWithin shape held → ((i : ℕ) → IsIno shape i → RegionAt held i) → RegionRule held
region_rule shape held within h = record { each = λ i three. h i (ino_held shape held i within (omega (arith, three))) three }

-- ---- rule 10

-- the last step of a walk goes by a name of where it ends
walk_row : (s : State) (names : List (List ℕ)) (x i : ℕ) → walk s x names ≡ Ok i → x ≢ i → (d : ℕ) × (a : List ℕ) × (get s.names (d, a) ≡ Some i)
walk_row s [] x i e ne = absurd (ne (same x i e))
  where
    same : (x y : ℕ) → ◌≡◌ {A = Result ℕ ℕ} (Ok x) (Ok y) → x ≡ y
    same x y e = cc
walk_row s (n ∷ names) x i e ne = step (is_dir (get s.nodes x)) (get s.names (x, n)) refl e (λ y way away. walk_row s names y i way away)
  where
    lost : (c i : ℕ) → ◌≡◌ {A = Result ℕ ℕ} (Err c) (Ok i) → ⊥
    lost c i e = cc

    step : (t : Bool) (o : Option ℕ) → get s.names (x, n) ≡ o → cond t (from_found o (λ y. walk s y names)) (Err 4) ≡ Ok i → ((y : ℕ) → walk s y names ≡ Ok i → y ≢ i → (d : ℕ) × (a : List ℕ) × (get s.names (d, a) ≡ Some i)) → (d : ℕ) × (a : List ℕ) × (get s.names (d, a) ≡ Some i)
    step false o at e further = absurd (lost 4 i e)
    step true None at e further = absurd (lost 2 i e)
    step true (Some y) at e further = elim (cases_eq y i) [
      | inl here ↦ (x, n, at ∙ ap Some here)
      | inr away ↦ further y e away
    ]

pub tree_each : (s : State) → TreeRule s → (i : ℕ) → TreeAt s i
tree_each s h i some = elim (cases_eq i 1) [
  | inl root ↦ inl (root, λ d a e. h.root d a (e ∙ ap Some root))
  | inr away ↦ (let way = h.reached i some in
      let row = walk_row s way.0 1 i way.1 (λ e. away (sym e)) in
      inr (away, record { dir = row.0; name = row.1; row = row.2; only = λ d a e. h.one d row.0 a row.1 i e row.2; reached = way }))
]

used_node : (h : Held) → node_in h ≢ None → 0 < h.kind
used_node h some = elim (cases_eq h.kind 0) [ inl free ↦ absurd (some (reads_none h free)) | inr used ↦ omega (arith, used) ]

node_used : (h : Held) → 0 < h.kind → node_in h ≢ None
node_used h used none = by (h.kind == 0) (h.kind == 1) (h.kind == 2) refl none
  where
    by : (x y z : Bool) → (h.kind == 0) ≡ x → cond x None (cond y (Some Dir) (cond z (Some (File (held_bytes h))) (Some (Region (region_in h.word))))) ≡ None → ⊥
    by true y z e n = let zero = eqb-true _ _ e in omega (arith, zero, used)
    by false true z e n = cc
    by false false true e n = cc
    by false false false e n = cc

pub tree_rule : (shape : VolumeShape) (held : ℕ → Held) (s : State) → HoldsWithin shape held → EntryRule held → Reads held s → (held 1).kind ≡ 1 → ((i : ℕ) → IsIno shape i → TreeAt s i) → TreeRule s
tree_rule shape held s within entries reads root_kind h = record {
  root = λ d a e. no_root 1 d a refl e (tree 1 (omega (arith, root_kind)));
  one = λ c d a b i p q. one c d a b i p q (tree i (named c a i p));
  reached = λ i some. reached i (tree i (used_node (held i) (λ none. some (reads.nodes i ∙ none))));
}
  where
    tree : (i : ℕ) → 0 < (held i).kind → ((i ≡ 1) × HasNoName s i) ⊎ ((i ≢ 1) × HasOneName s i)
    tree i used = h i (ino_held shape held i within used) (λ none. node_used (held i) used (sym (reads.nodes i) ∙ none))

    -- a row names a used inode
    named : (d : ℕ) (a : List ℕ) (i : ℕ) → get s.names (d, a) ≡ Some i → 0 < (held i).kind
    named d a i e =
        let at = reads.names d a i e in
        subst (λ x. 0 < (held x).kind) (same (entry_ino (held d) at.0) i (sym (reads.entries d at.0 at.1) ∙ ap (λ x. get s.names (d, x)) at.2 ∙ e)) (entries.each d at.0 at.1).1
      where
        same : (x y : ℕ) → Some x ≡ Some y → x ≡ y
        same x y e = cc

    no_root : (i d : ℕ) (a : List ℕ) → i ≡ 1 → get s.names (d, a) ≡ Some i → ((i ≡ 1) × HasNoName s i) ⊎ ((i ≢ 1) × HasOneName s i) → ⊥
    no_root i d a root e (inl none) = none.1 d a e
    no_root i d a root e (inr other) = other.0 root

    one : (c d : ℕ) (a b : List ℕ) (i : ℕ) → get s.names (c, a) ≡ Some i → get s.names (d, b) ≡ Some i → ((i ≡ 1) × HasNoName s i) ⊎ ((i ≢ 1) × HasOneName s i) → (c ≡ d) × (a ≡ b)
    one c d a b i p q (inl none) = absurd (none.1 c a p)
    one c d a b i p q (inr once) = let x = once.1.only c a p in let y = once.1.only d b q in (x.0 ∙ sym y.0, x.1 ∙ sym y.1)

    reached : (i : ℕ) → ((i ≡ 1) × HasNoName s i) ⊎ ((i ≢ 1) × HasOneName s i) → (names : List (List ℕ)) × (walk s 1 names ≡ Ok i)
    reached i (inl root) = ([], ap Ok (sym root.0))
    reached i (inr once) = once.1.reached

-- what a state says of a node depends on its names and nodes alone
tree_on : (s t : State) → s.names ≡ t.names → s.nodes ≡ t.nodes → (i : ℕ) → TreeAt s i → TreeAt t i
tree_on s t names nodes i h some = by (h (λ none. some (ap (λ m. get m i) (sym nodes) ∙ none)))
  where
    keeps : KeepsWalks s t
    keeps = record { dirs = λ x e. ap (λ m. is_dir (get m x)) (sym nodes) ∙ e; names = λ k v e. ap (λ m. get m k) (sym names) ∙ e }

    by : ((i ≡ 1) × HasNoName s i) ⊎ ((i ≢ 1) × HasOneName s i) → ((i ≡ 1) × HasNoName t i) ⊎ ((i ≢ 1) × HasOneName t i)
    by (inl root) = inl (root.0, λ d a e. root.1 d a (ap (λ m. get m (d, a)) names ∙ e))
    by (inr once) = inr (
      once.0,
      record {
        dir = once.1.dir;
        name = once.1.name;
        row = ap (λ m. get m (once.1.dir, once.1.name)) (sym names) ∙ once.1.row;
        only = λ d a e. once.1.only d a (ap (λ m. get m (d, a)) names ∙ e);
        reached = let way = once.1.reached in (way.0, walk_kept s t keeps way.0 1 i way.1);
      },
    )

-- two readings of what is held have the same names and nodes
same_reading : (held : ℕ → Held) (s t : State) → Reads held s → Reads held t → s ≡ record t { shape = s.shape; pages = s.pages; scratch = s.scratch }
same_reading held s t h k = one_reading held s (record t { shape = s.shape; pages = s.pages; scratch = s.scratch }) h (record { nodes = k.nodes; entries = k.entries; names = k.names; idle = k.idle }) refl refl refl

tree_read : (held : ℕ → Held) (s t : State) → Reads held s → Reads held t → (i : ℕ) → TreeAt s i → TreeAt t i
tree_read held s t h k = let same = same_reading held s t h k in tree_on s t (ap (λ (x : State). x.names) same) (ap (λ (x : State). x.nodes) same)

-- ---- where all rules hold none fails

none_first : (shape : VolumeShape) (keeps : ℕ → Type 0) (b : ℕ) → FailsFirst shape keeps b → ((i : ℕ) → IsIno shape i → keeps i) → ⊥
none_first shape keeps b h all = h.fails (all h.ino h.is_ino)

none_held : (shape : VolumeShape) (f : BlockWords) (s : State) (rule b : ℕ) → ReadsAs shape f s → FailsHeld shape (held_of shape f) rule b → ⊥
none_held shape f s rule b h (inl x) = none_first shape _ b x.1 (λ i ino. h.entries.each i)
none_held shape f s rule b h (inr (_, inl x)) = none_first shape _ b x.1 (λ i ino. h.apart.each i)
none_held shape f s rule b h (inr (_, inr (_, x))) = by x.fails
  where
    by : ((rule ≡ 10) × FailsFirst shape (TreeAt x.state) b) ⊎ (TreeRule x.state × (rule ≡ 11) × FailsFirst shape (RegionAt (held_of shape f)) b) → ⊥
    by (inl t) = none_first shape _ b t.1 (λ i ino. tree_read (held_of shape f) s x.state h.reads x.reads i (tree_each s h.tree i))
    by (inr r) = none_first shape _ b r.2 (λ i ino. h.regions.each i)

none_on : (shape : VolumeShape) (f : BlockWords) (s : State) (rule b : ℕ) → ReadsAs shape f s → FailsOn shape f rule b → ⊥
none_on shape f s rule b h (inl x) = x.2 h.mapped.reserved_marked
none_on shape f s rule b h (inr (_, inl x)) = none_first shape _ b x.1 h.mapped.laid.kinds.each
none_on shape f s rule b h (inr (_, inr (_, inl x))) = none_first shape _ b x.1 h.mapped.laid.sizes.each
none_on shape f s rule b h (inr (_, inr (_, inr (_, inl x)))) = none_first shape _ b x.1 h.mapped.laid.numbers.each
none_on shape f s rule b h (inr (_, inr (_, inr (_, inr (_, inl x))))) = once_each (volume_layout shape f) h.mapped.laid.once b x.1.twice
none_on shape f s rule b h (inr (_, inr (_, inr (_, inr (_, inr (_, inl x)))))) = x.2 h.mapped.marks
none_on shape f s rule b h (inr (_, inr (_, inr (_, inr (_, inr (_, inr (_, x))))))) = none_held shape f s rule b h x

-- blocks that read as a state, of a shape that is served, with as many blocks as the disk has
pub none_fails : (f : BlockWords) (count : ℕ) (s : State) (rule b : ℕ) → IsServed s.shape → count ≡ s.shape.blocks → ReadsAs s.shape f s → FailsVolume f count rule b → ⊥
none_fails f count s rule b served blocks h (inl x) = x.2 s.shape (record { served = served; words = h.mapped.superblock.words; blocks = blocks })
none_fails f count s rule b served blocks h (inr (shape, says, x)) = none_on s.shape f s rule b h (subst (λ sh. FailsOn sh f rule b) (one_shape f shape s.shape says.words h.mapped.superblock.words) x)

none_entries : (l : Layout) (words : List ℕ) (b : ℕ) → EntriesFit l words → FailsEntries l words b → ⊥
none_entries l words b h x = x.fails (h.each x.entry x.valid)

-- memory and disk that stand for a state break none of the rules 1 to 12
pub none_fails_standing : (c : Contents) (n : ℕ) (s : State) (rule b : ℕ) → AreWhole c → StandsFor c n s → FailsPair c rule b → ⊥
none_fails_standing c n s rule b whole h (inl x) = none_fails (stands c) (length c.disk) s rule b h.served h.blocks (stands_with_reads c n s whole h).reads x
none_fails_standing c n s rule b whole h (inr (t, says, reads, _, x)) =
    let with_reads = stands_with_reads c n s whole h in
    none_entries _ c.words b with_reads.entries (subst (λ (sh : VolumeShape). FailsEntries (volume_layout sh (stands c)) c.words b) (one_shape (stands c) t.shape s.shape says.words with_reads.reads.mapped.superblock.words) x)

-- a disk of fewer blocks than any volume has, or of more, breaks rule 1 whatever it holds
pub other_count_fails : (f : BlockWords) (count : ℕ) → (count < 4) ⊎ (32768 < count) → FailsVolume f count 1 0
other_count_fails f count out = inl (refl, refl, λ shape says. no shape.inodes shape.blocks says.blocks says.served.sizes.inodes_from says.served.sizes.blocks_from says.served.sizes.blocks_to out)
  where
    no : (inodes blocks : ℕ) → count ≡ blocks → 32 ≤ inodes → 3 + inodes / 32 ≤ blocks → blocks ≤ 32768 → (count < 4) ⊎ (32768 < count) → ⊥
    no inodes blocks same some from to (inl few) = omega (arith, same, some, from, few)
    no inodes blocks same some from to (inr many) = omega (arith, same, to, many)

-- ---- the first that fails is one, with one block

order : (a b : ℕ) → (a < b) ⊎ (a ≡ b) ⊎ (b < a)
order a b = grind arith

once_first : (shape : VolumeShape) (keeps holds : ℕ → Type 0) (a b : ℕ) → ((i : ℕ) → keeps i → holds i) → ((i : ℕ) → holds i → keeps i) → FailsFirst shape keeps a → FailsFirst shape holds b → a ≡ b
once_first shape keeps holds a b forth back h k = by (order h.ino k.ino)
  where
    by : (h.ino < k.ino) ⊎ (h.ino ≡ k.ino) ⊎ (k.ino < h.ino) → a ≡ b
    by (inl less) = absurd (h.fails (back h.ino (k.before h.ino h.is_ino less)))
    by (inr (inl same)) = h.block ∙ ap inode_block same ∙ sym k.block
    by (inr (inr more)) = absurd (k.fails (forth k.ino (h.before k.ino k.is_ino more)))

once_here : (shape : VolumeShape) (keeps : ℕ → Type 0) (a b : ℕ) → FailsFirst shape keeps a → FailsFirst shape keeps b → a ≡ b
once_here shape keeps a b h k = once_first shape keeps keeps a b (λ i x. x) (λ i x. x) h k

once_twice : (l : Layout) (a b : ℕ) → IsLeastTwice l a → IsLeastTwice l b → a ≡ b
once_twice l a b h k = by (order a b)
  where
    by : (a < b) ⊎ (a ≡ b) ⊎ (b < a) → a ≡ b
    by (inl less) = absurd (k.least a less h.twice)
    by (inr (inl same)) = same
    by (inr (inr more)) = absurd (h.least b more k.twice)

pub once_entries : (l : Layout) (words : List ℕ) (a b : ℕ) → FailsEntries l words a → FailsEntries l words b → a ≡ b
once_entries l words a b h k = by (order a b)
  where
    by : (a < b) ⊎ (a ≡ b) ⊎ (b < a) → a ≡ b
    by (inl less) = absurd (h.fails (k.before h.entry h.valid (subst (λ x. x < b) (sym h.is) less)))
    by (inr (inl same)) = same
    by (inr (inr more)) = absurd (k.fails (h.before k.entry k.valid (subst (λ x. x < a) (sym k.is) more)))

once_tree : (shape : VolumeShape) (held : ℕ → Held) (p q a b : ℕ) → FailsTree shape held p a → FailsTree shape held q b → (p ≡ q) × (a ≡ b)
once_tree shape held p q a b h k = by h.fails k.fails
  where
    forth : (i : ℕ) → TreeAt h.state i → TreeAt k.state i
    forth = tree_read held h.state k.state h.reads k.reads

    back : (i : ℕ) → TreeAt k.state i → TreeAt h.state i
    back = tree_read held k.state h.state k.reads h.reads

    by : ((p ≡ 10) × FailsFirst shape (TreeAt h.state) a) ⊎ (TreeRule h.state × (p ≡ 11) × FailsFirst shape (RegionAt held) a) → ((q ≡ 10) × FailsFirst shape (TreeAt k.state) b) ⊎ (TreeRule k.state × (q ≡ 11) × FailsFirst shape (RegionAt held) b) → (p ≡ q) × (a ≡ b)
    by (inl x) (inl y) = (x.0 ∙ sym y.0, once_first shape _ _ a b forth back x.1 y.1)
    by (inl x) (inr y) = absurd (none_first shape _ a x.1 (λ i ino. back i (tree_each k.state y.0 i)))
    by (inr x) (inl y) = absurd (none_first shape _ b y.1 (λ i ino. forth i (tree_each h.state x.0 i)))
    by (inr x) (inr y) = (x.1 ∙ sym y.1, once_here shape _ a b x.2 y.2)

once_held : (shape : VolumeShape) (held : ℕ → Held) (p q a b : ℕ) → FailsHeld shape held p a → FailsHeld shape held q b → (p ≡ q) × (a ≡ b)
once_held shape held p q a b (inl x) (inl y) = (x.0 ∙ sym y.0, once_here shape _ a b x.1 y.1)
once_held shape held p q a b (inl x) (inr y) = absurd (none_first shape _ a x.1 (λ i ino. y.0.each i))
once_held shape held p q a b (inr x) (inl y) = absurd (none_first shape _ b y.1 (λ i ino. x.0.each i))
once_held shape held p q a b (inr (_, inl x)) (inr (_, inl y)) = (x.0 ∙ sym y.0, once_here shape _ a b x.1 y.1)
once_held shape held p q a b (inr (_, inl x)) (inr (_, inr y)) = absurd (none_first shape _ a x.1 (λ i ino. y.0.each i))
once_held shape held p q a b (inr (_, inr x)) (inr (_, inl y)) = absurd (none_first shape _ b y.1 (λ i ino. x.0.each i))
once_held shape held p q a b (inr (_, inr x)) (inr (_, inr y)) = once_tree shape held p q a b x.1 y.1

-- of two sums, each of a failure or of a rule that holds and what is behind it
fork : {F H N J M G : Type 0} → (F → J → G) → (F → H → ⊥) → (J → H → ⊥) → (N → M → G) → F ⊎ (H × N) → J ⊎ (H × M) → G
fork both left right further (inl x) (inl y) = both x y
fork both left right further (inl x) (inr y) = absurd (left x y.0)
fork both left right further (inr x) (inl y) = absurd (right y x.0)
fork both left right further (inr x) (inr y) = further x.1 y.1

-- two failures by a rule on inodes
once_rule : (shape : VolumeShape) (keeps : ℕ → Type 0) (r p q a b : ℕ) → (p ≡ r) × FailsFirst shape keeps a → (q ≡ r) × FailsFirst shape keeps b → (p ≡ q) × (a ≡ b)
once_rule shape keeps r p q a b x y = (x.0 ∙ sym y.0, once_here shape keeps a b x.1 y.1)

once_on : (shape : VolumeShape) (f : BlockWords) (p q a b : ℕ) → FailsOn shape f p a → FailsOn shape f q b → (p ≡ q) × (a ≡ b)
once_on shape f p q a b =
    fork (λ x y. (x.0 ∙ sym y.0, x.1 ∙ sym y.1)) (λ x h. x.2 h) (λ y h. y.2 h) (
    fork (once_rule shape (KindAt l) 3 p q a b) (λ x h. none_first shape _ a x.1 h.each) (λ y h. none_first shape _ b y.1 h.each) (
    fork (once_rule shape (SizeAt l) 4 p q a b) (λ x h. none_first shape _ a x.1 h.each) (λ y h. none_first shape _ b y.1 h.each) (
    fork (once_rule shape (NumberAt l) 5 p q a b) (λ x h. none_first shape _ a x.1 h.each) (λ y h. none_first shape _ b y.1 h.each) (
    fork (λ x y. (x.0 ∙ sym y.0, once_twice l a b x.1 y.1)) (λ x h. once_each l h a x.1.twice) (λ y h. once_each l h b y.1.twice) (
    fork (λ x y. (x.0 ∙ sym y.0, x.1 ∙ sym y.1)) (λ x h. x.2 h) (λ y h. y.2 h) (
    once_held shape (held_of shape f) p q a b))))))
  where
    l : Layout
    l = volume_layout shape f

-- of a volume
pub one_fails : (f : BlockWords) (count p q a b : ℕ) → FailsVolume f count p a → FailsVolume f count q b → (p ≡ q) × (a ≡ b)
one_fails f count p q a b (inl x) (inl y) = (x.0 ∙ sym y.0, x.1 ∙ sym y.1)
one_fails f count p q a b (inl x) (inr y) = absurd (x.2 y.0 y.1)
one_fails f count p q a b (inr x) (inl y) = absurd (y.2 x.0 x.1)
one_fails f count p q a b (inr (shape, says, x)) (inr (other, tells, y)) = once_on shape f p q a b x (subst (λ sh. FailsOn sh f q b) (one_shape f other shape tells.words says.words) y)

-- and of memory and disk
pub one_fails_pair : (c : Contents) (p q a b : ℕ) → FailsPair c p a → FailsPair c q b → (p ≡ q) × (a ≡ b)
one_fails_pair c p q a b (inl x) (inl y) = one_fails (stands c) (length c.disk) p q a b x y
one_fails_pair c p q a b (inl x) (inr (s, says, reads, _, _)) = absurd (none_fails (stands c) (length c.disk) s p a says.served says.blocks reads x)
one_fails_pair c p q a b (inr (s, says, reads, _, _)) (inl y) = absurd (none_fails (stands c) (length c.disk) s q b says.served says.blocks reads y)
one_fails_pair c p q a b (inr (s, says, reads, x, first)) (inr (t, tells, others, y, second)) =
    (x ∙ sym y, once_entries _ c.words a b first (subst (λ (sh : VolumeShape). FailsEntries (volume_layout sh (stands c)) c.words b) (one_shape (stands c) t.shape s.shape tells.words says.words) second))
