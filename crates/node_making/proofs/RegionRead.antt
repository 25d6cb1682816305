-- A region that is made, and its row, are so in the state that is read.
use Rattle.request_ends.proofs.Common.{◌≡◌, ◌≢◌, ℕ, ◌/◌, ◌≤◌, List, sym, ap, subst, ◌∙◌, arith, inl, inr, get, none-some, VolumeShape, BlockWords, Node, Region, State, with_new, IsSoundRegion, Held, held_of, NameKey, IsName, node_in, ReadsAs, IsMapped, TreeRule, name_get_other, get_here, get_there}
use Rattle.directories.specs.RowChanges.{AddsRow}
use Rattle.rio_requests.specs.Answers.{new_region}
use Rattle.std.proofs.Common.{None}
use Rattle.file_tree.proofs.NameSteps.{by_two, dirs_apart, insert_back, insert_some, row_comes}
use Rattle.node_making.specs.NewNodes.{new_held}
use Rattle.file_tree.proofs.RowReads.{EachReads, OneReads, SoundReads, bare_names, by_each, of_each, one_changes, one_stays, sound_of}
use Rattle.node_making.proofs.NewRegionWords.{new_reads, new_sound}

-- a region comes in inode i, and its row in directory d
pub record MakesRegion (h k : ℕ → Held) (d : ℕ) (name : List ℕ) (i undo pages : ℕ) : Type 0 where
  pub dir : (h d).kind ≡ 1
  pub free : (h i).kind ≡ 0
  pub row : AddsRow name i (h d) (k d)
  pub made : k i ≡ new_held undo pages
  pub others : (x : ℕ) → x ≢ d → x ≢ i → k x ≡ h x

-- a node that is no directory has no rows
one_leaf : (k : Held) (t : State) (x : ℕ) → k.kind ≢ 1 → get t.nodes x ≡ node_in k → ((name : List ℕ) → get t.names (x, name) ≡ None) → OneReads k t x
one_leaf k t x leaf node none = record {
  node = node;
  rows = record {
    on = λ name i dir has. absurd (leaf dir);
    back = λ name i e. absurd (none-some i (sym (none name) ∙ e));
  };
  apart = λ dir. absurd (leaf dir);
}

region_kind : (h k : ℕ → Held) (d : ℕ) (name : List ℕ) (i undo pages : ℕ) → MakesRegion h k d name i undo pages → (k i).kind ≡ 3
region_kind h k d name i undo pages c = ap (λ (n : Held). n.kind) c.made

pub row_region : (h k : ℕ → Held) (s : State) (d : ℕ) (name : List ℕ) (i undo pages : ℕ) → SoundReads h s → get s.names (d, name) ≡ None → IsName name → MakesRegion h k d name i undo pages → SoundReads k (with_new s d name i (Region (new_region pages undo)))
row_region h k s d name i undo pages r free named c = of_each k t (record {
  each = λ x. by_two (λ y. OneReads (k y) t y) i d x new dir (away x);
  named = λ x n v e. elim (insert_back s.names (d, name) i (x, n) v e) [
    | inl at ↦ subst IsName (sym (ap (λ (q : NameKey). q.1) at.0)) named
    | inr old ↦ p.named x n v old.1
  ];
  used = λ x n v e. insert_some s.nodes i node v (λ other. elim (insert_back s.names (d, name) i (x, n) v e) [
    | inl at ↦ absurd (other at.1)
    | inr old ↦ p.used x n v old.1
  ]);
  idle = p.idle;
})
  where
    node : Node
    node = Region (new_region pages undo)

    t : State
    t = with_new s d name i node

    p : EachReads h s
    p = by_each h s r

    apart : i ≢ d
    apart same = let dir = c.dir in let free = ap (λ x. (h x).kind) (sym same) ∙ c.free in omega (arith, dir, free)

    new : OneReads (k i) t i
    new = one_leaf (k i) t i (λ one. (let three = region_kind h k d name i undo pages c in omega (arith, one, three))) (get_here s.nodes i node ∙ sym (ap node_in c.made ∙ new_reads undo pages)) (λ n. name_get_other s.names (d, name) i (i, n) (dirs_apart i d n name apart) ∙ bare_names (h i) s i (p.each i) (λ dir. let free = c.free in absurd (omega (arith, free, dir))) n)

    dir : OneReads (k d) t d
    dir = one_changes (h d) (k d) s t d _ _ _ c.dir c.row (get_there s.nodes i node d (λ same. apart (sym same))) (row_comes s.names d name i free) (p.each d)

    away : (x : ℕ) → x ≢ i → x ≢ d → OneReads (k x) t x
    away x not_i not_d = one_stays (h x) (k x) s t x (c.others x not_d not_i) (get_there s.nodes i node x not_i) (λ n. name_get_other s.names (d, name) i (x, n) (dirs_apart x d n name not_d)) (p.each x)

-- ---- of a volume

pub region_as : (shape : VolumeShape) (f g : BlockWords) (s : State) (d : ℕ) (name : List ℕ) (i undo pages : ℕ) → ReadsAs shape f s → IsMapped shape g → TreeRule (with_new s d name i (Region (new_region pages undo))) → 1 ≤ undo → 1 ≤ pages → get s.names (d, name) ≡ None → IsName name → MakesRegion (held_of shape f) (held_of shape g) d name i undo pages → ReadsAs shape g (with_new s d name i (Region (new_region pages undo)))
region_as shape f g s d name i undo pages r mapped tree some any free named c = record {
  sizes = r.sizes;
  mapped = mapped;
  entries = sound.entries;
  apart = sound.apart;
  tree = tree;
  regions = record { each = λ x. by_two (λ y. (k y).kind ≡ 3 → IsSoundRegion ((k y).size / 8) (k y).word) i d x new dir (away x) };
  reads = sound.reads;
}
  where
    k : ℕ → Held
    k = held_of shape g

    sound : SoundReads k (with_new s d name i (Region (new_region pages undo)))
    sound = row_region (held_of shape f) k s d name i undo pages (sound_of shape f s r) free named c

    new : (k i).kind ≡ 3 → IsSoundRegion ((k i).size / 8) (k i).word
    new _ = subst (λ (n : Held). IsSoundRegion (n.size / 8) n.word) (sym c.made) (new_sound undo pages some any)

    dir : (k d).kind ≡ 3 → IsSoundRegion ((k d).size / 8) (k d).word
    dir region = absurd (let one = c.row.dir in omega (arith, one, region))

    away : (x : ℕ) → x ≢ i → x ≢ d → (k x).kind ≡ 3 → IsSoundRegion ((k x).size / 8) (k x).word
    away x not_i not_d region =
        let same = c.others x not_d not_i in
        subst (λ (n : Held). IsSoundRegion (n.size / 8) n.word) (sym same) (r.regions.each x (sym (ap (λ (n : Held). n.kind) same) ∙ region))
