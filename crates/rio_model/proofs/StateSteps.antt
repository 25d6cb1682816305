-- A file that is set in the blocks is set in the state.
use Rattle.rio_model.proofs.Common.{◌≡◌, ◌≢◌, ℕ, ◌*◌, ◌/◌, ◌<◌, Bool, true, false, cond, List, [], ◌∷◌, Option, refl, sym, ap, subst, ◌∙◌, arith, inl, inr, nat_cmp_total, get, insert, nat_cmp, eq_by_cmp, cases_eq, true_false, VolumeShape, BlockWords}
use Rattle.std.proofs.Common.{Some, None, Ok, Err}
use Rattle.std.specs.FinMap.{get-insert}
use Rattle.rio_model.specs.declared.node.Node.{Node}
use Rattle.rio_model.specs.declared.node.Node.TheVariants.{File}
use Rattle.rio_model.specs.declared.state.State.{State}
use Rattle.rio_model.specs.States.{with_node}
use Rattle.rio_model.specs.Heap.{IsSoundRegion}
use Rattle.rio_model.specs.Held.{Held, held_of, held_bytes, entry_ino, entry_name, HasEntry}
use Rattle.rio_model.specs.Names.{NameKey}
use Rattle.rio_model.specs.NodeChanges.{SetsFile}
use Rattle.rio_model.specs.Nodes.{Nodes}
use Rattle.rio_model.specs.Paths.{IsName, is_dir, from_found, walk}
use Rattle.rio_model.specs.VolumeReads.{node_in, Reads, ReadsAs}
use Rattle.rio_model.proofs.VolumeReadRules.{reads_file}
use Rattle.rio_model.specs.VolumeRules.{EntryRule, NamesApartRule, TreeRule}
use Rattle.rio_model.proofs.WordRules.{differs, itself}
use Rattle.rio_model.proofs.NameOrder.{nat_tied}

-- ---- nodes of a state

pub get_here : (m : Nodes) (i : ℕ) (n : Node) → get (insert m i n) i ≡ Some n
get_here m i n = let same : eq_by_cmp nat_cmp i i ≡ true = nat_tied i i ∙ itself i in get-insert nat_cmp_total m i n i ∙ ap (λ b. cond b (Some n) (get m i)) same

pub get_there : (m : Nodes) (i : ℕ) (n : Node) (j : ℕ) → j ≢ i → get (insert m i n) j ≡ get m j
get_there m i n j away = let other : eq_by_cmp nat_cmp j i ≡ false = nat_tied j i ∙ differs j i away in get-insert nat_cmp_total m i n j ∙ ap (λ b. cond b (Some n) (get m j)) other

-- ---- walks that still lead where they led

pub record KeepsWalks (s t : State) : Type 0 where
  pub dirs : (x : ℕ) → is_dir (get s.nodes x) ≡ true → is_dir (get t.nodes x) ≡ true
  pub names : (k : NameKey) (v : ℕ) → get s.names k ≡ Some v → get t.names k ≡ Some v

step_kept : (s t : State) → KeepsWalks s t → (n : List ℕ) (ns : List (List ℕ)) (x j : ℕ) (b : Bool) (o : Option ℕ) → is_dir (get s.nodes x) ≡ b → get s.names (x, n) ≡ o → cond b (from_found o (λ y. walk s y ns)) (Err 4) ≡ Ok j → ((y : ℕ) → walk s y ns ≡ Ok j → walk t y ns ≡ Ok j) → walk t x (n ∷ ns) ≡ Ok j
step_kept s t k n ns x j true (Some y) d o e rec = ap (λ b. cond b (from_found (get t.names (x, n)) (λ z. walk t z ns)) (Err 4)) (k.dirs x d) ∙ ap (λ q. from_found q (λ z. walk t z ns)) (k.names (x, n) y o) ∙ rec y e
step_kept s t k n ns x j true None d o e rec = absurd (cc (e))
step_kept s t k n ns x j false o d is e rec = absurd (cc (e))

pub walk_kept : (s t : State) → KeepsWalks s t → (ns : List (List ℕ)) (x j : ℕ) → walk s x ns ≡ Ok j → walk t x ns ≡ Ok j
walk_kept s t k [] x j h = h
walk_kept s t k (n ∷ ns) x j h = step_kept s t k n ns x j _ _ refl refl h (λ y e. walk_kept s t k ns y j e)

-- ---- a node that is no directory, set to another that is none

pub tree_set : (s : State) (i : ℕ) (n : Node) → TreeRule s → is_dir (get s.nodes i) ≡ false → get s.nodes i ≢ None → TreeRule (with_node s i n)
tree_set s i n h none some = record {
  root = h.root;
  one = h.one;
  reached = λ j e. elim (cases_eq j i) [
    | inl here ↦ (let way = h.reached i some in (way.0, subst (λ x. walk (with_node s i n) 1 way.0 ≡ Ok x) (sym here) (walk_kept s (with_node s i n) keeps way.0 1 i way.1)))
    | inr away ↦ (let way = h.reached j (λ z. e (get_there s.nodes i n j away ∙ z)) in (way.0, walk_kept s (with_node s i n) keeps way.0 1 j way.1))
  ];
}
  where
    keeps : KeepsWalks s (with_node s i n)
    keeps = record {
      dirs = λ x e. elim (cases_eq x i) [
        | inl here ↦ absurd (true_false (sym e ∙ ap (λ z. is_dir (get s.nodes z)) here ∙ none))
        | inr away ↦ ap is_dir (get_there s.nodes i n x away) ∙ e
      ];
      names = λ k v e. e;
    }

-- what is held differs at one inode alone, which holds no directory before or after
pub record SetsNode (h k : ℕ → Held) (i : ℕ) : Type 0 where
  pub others : (j : ℕ) → j ≢ i → k j ≡ h j
  pub no_dir : (h i).kind ≢ 1
  pub still_none : (k i).kind ≢ 1
  pub used : 0 < (k i).kind

entry_back : (h k : ℕ → Held) (i d j : ℕ) → SetsNode h k i → HasEntry k d j → (d ≢ i) × HasEntry h d j
entry_back h k i d j s has = elim (cases_eq d i) [
  | inl here ↦ absurd (s.still_none (subst (λ x. (k x).kind ≡ 1) here has.dir))
  | inr away ↦ (away, record { dir = sym (ap (λ (x : Held). x.kind) (s.others d away)) ∙ has.dir; within = subst (λ (x : Held). 64 * j < x.size) (s.others d away) has.within })
]

entry_on : (h k : ℕ → Held) (i d j : ℕ) → SetsNode h k i → HasEntry h d j → (d ≢ i) × HasEntry k d j
entry_on h k i d j s has = elim (cases_eq d i) [
  | inl here ↦ absurd (s.no_dir (subst (λ x. (h x).kind ≡ 1) here has.dir))
  | inr away ↦ (away, record { dir = ap (λ (x : Held). x.kind) (s.others d away) ∙ has.dir; within = subst (λ (x : Held). 64 * j < x.size) (sym (s.others d away)) has.within })
]

pub entries_set : (h k : ℕ → Held) (i : ℕ) → SetsNode h k i → EntryRule h → EntryRule k
entries_set h k i s r = record {
  each = λ d j has. ((let was = entry_back h k i d j s has in subst (λ (x : Held). IsName (entry_name x j)) (sym (s.others d was.0)) (r.each d j was.1).0), (let was = entry_back h k i d j s has in by_ino (entry_ino (k d) j) (entry_ino (h d) j) (ap (λ (x : Held). entry_ino x j) (s.others d was.0)) (r.each d j was.1).1));
}
  where
    by_ino : (a b : ℕ) → a ≡ b → 0 < (h b).kind → 0 < (k a).kind
    by_ino a b e was = elim (cases_eq a i) [
      | inl here ↦ subst (λ x. 0 < (k x).kind) (sym here) s.used
      | inr away ↦ subst (λ (x : Held). 0 < x.kind) (sym (s.others a away)) (subst (λ x. 0 < (h x).kind) (sym e) was)
    ]

pub apart_set : (h k : ℕ → Held) (i : ℕ) → SetsNode h k i → NamesApartRule h → NamesApartRule k
apart_set h k i s r = record {
  each = λ d j l hj hl e. let one = entry_back h k i d j s hj in let two = entry_back h k i d l s hl in r.each d j l one.1 two.1 (ap (λ (x : Held). entry_name x j) (sym (s.others d one.0)) ∙ e ∙ ap (λ (x : Held). entry_name x l) (s.others d one.0));
}

pub reads_set : (h k : ℕ → Held) (s : State) (i : ℕ) (n : Node) → SetsNode h k i → Reads h s → node_in (k i) ≡ Some n → Reads k (with_node s i n)
reads_set h k s i n e r new = record {
  nodes = λ j. elim (cases_eq j i) [
    | inl here ↦ ap (get (insert s.nodes i n)) here ∙ get_here s.nodes i n ∙ sym new ∙ sym (ap (λ x. node_in (k x)) here)
    | inr away ↦ get_there s.nodes i n j away ∙ r.nodes j ∙ sym (ap node_in (e.others j away))
  ];
  entries = λ d j has. let was = entry_back h k i d j e has in subst (λ (x : Held). get s.names (d, entry_name x j) ≡ Some (entry_ino x j)) (sym (e.others d was.0)) (r.entries d j was.1);
  names = λ d name x is. let at = r.names d name x is in let now = entry_on h k i d at.0 e at.1 in (at.0, now.1, ap (λ (y : Held). entry_name y at.0) (e.others d now.0) ∙ at.2);
  idle = r.idle;
}

-- ---- a file

dir_file : (o : Option Node) (bytes : List ℕ) → o ≡ Some (File bytes) → is_dir o ≡ false
dir_file o bytes e = ap is_dir e

some_file : (o : Option Node) (bytes : List ℕ) → o ≡ Some (File bytes) → o ≢ None
some_file o bytes e z = cc (e, z)

pub file_set : (shape : VolumeShape) (f g : BlockWords) (s : State) (i : ℕ) (bytes : List ℕ) → ReadsAs shape f s → SetsFile shape f g i bytes → (held_of shape f i).kind ≡ 2 → ReadsAs shape g (with_node s i (File bytes))
file_set shape f g s i bytes h c was = record {
  sizes = h.sizes;
  mapped = c.mapped;
  entries = entries_set _ _ i sets h.entries;
  apart = apart_set _ _ i sets h.apart;
  tree = tree_set s i (File bytes) h.tree (dir_file _ _ is_file) (some_file _ _ is_file);
  regions = record {
    each = λ j three. elim (cases_eq j i) [
      | inl here ↦ absurd (let kind = c.kind in let same : (held_of shape g i).kind ≡ 3 = subst (λ x. (held_of shape g x).kind ≡ 3) here three in omega (arith, kind, same))
      | inr away ↦ region j away three
    ];
  };
  reads = reads_set _ _ s i (File bytes) sets h.reads (reads_file (held_of shape g i) c.kind ∙ ap (λ b. Some (File b)) c.own);
}
  where
    sets : SetsNode (held_of shape f) (held_of shape g) i
    sets = record {
      others = c.others;
      no_dir = λ e. omega (arith, was, e);
      still_none = λ e. let kind = c.kind in omega (arith, kind, e);
      used = let kind = c.kind in omega (arith, kind);
    }

    is_file : get s.nodes i ≡ Some (File (held_bytes (held_of shape f i)))
    is_file = h.reads.nodes i ∙ reads_file (held_of shape f i) was

    region : (j : ℕ) → j ≢ i → (held_of shape g j).kind ≡ 3 → IsSoundRegion ((held_of shape g j).size / 8) (held_of shape g j).word
    region j away three = subst (λ (x : Held). IsSoundRegion (x.size / 8) x.word) (sym (c.others j away)) (h.regions.each j (sym (ap (λ (x : Held). x.kind) (c.others j away)) ∙ three))
