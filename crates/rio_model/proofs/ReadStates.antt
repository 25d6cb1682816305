-- What inodes hold reads as the state that is made of it, where no directory has two equal names.
use Rattle.rio_model.proofs.Common.{◌≡◌, ◌≢◌, ◌⊎◌, ℕ, suc, zero, ◌<◌, ◌≤◌, ◌==◌, ◌&&◌, ◌∙◌, Bool, true, false, cond, List, Option, None, Some, refl, sym, ap, subst, arith, inl, inr, cases_Bool, cases_eq, eq-eqb, nat_tests, VolumeShape, BlockWords, get, nat_cmp}
use Rattle.std.proofs.lemmas.Bool.{eqb-true}
use Rattle.std.specs.Prelude.{nat_le}
use Rattle.std.specs.FinMap.{get-empty}
use Rattle.rio_model.specs.declared.node.Node.{Node}
use Rattle.rio_model.specs.Held.{HasEntry, Held, entry_ino, entry_name, held, held_of, nothing}
use Rattle.rio_model.specs.Names.{NameKey, Names, name_cmp}
use Rattle.rio_model.specs.Nodes.{Nodes}
use Rattle.rio_model.specs.Placed.{placed_at}
use Rattle.rio_model.specs.ReadState.{entry_count, names_held, nodes_held, read_state, with_entries, with_names, with_some}
use Rattle.rio_model.specs.VolumeReads.{Reads, ReadsAs, node_in}
use Rattle.rio_model.specs.VolumeRules.{EntryRule, IsMapped, NamesApartRule, RegionRule, TreeRule}
use Rattle.rio_model.proofs.NameOrder.{name_get_other, name_get_same}
use Rattle.rio_model.proofs.NameRules.{cases_key}
use Rattle.rio_model.proofs.StateSteps.{get_here, get_there}
use Rattle.rio_model.proofs.VolumeReadRules.{reads_none}

none_some : (o : Option ℕ) (i : ℕ) → o ≡ None → o ≡ Some i → ⊥
none_some o i none some = cc (none, some)

same_some : (o : Option ℕ) (i j : ℕ) → o ≡ Some i → o ≡ Some j → i ≡ j
same_some o i j x y = cc (x, y)

-- ---- the first n entries of one directory

abbrev Apart : Held → ℕ → Type 0
Apart h n = (a b : ℕ) → a < n → b < n → entry_name h a ≡ entry_name h b → a ≡ b

entries_off : (h : Held) (d n : ℕ) (m : Names) (q : NameKey) → q.0 ≢ d → get (with_entries h d n m) q ≡ get m q
entries_off h d zero m q away = refl
entries_off h d (suc n) m q away = name_get_other (with_entries h d n m) (d, entry_name h n) (entry_ino h n) q (λ e. away (ap (λ (k : NameKey). k.0) e)) ∙ entries_off h d n m q away

entries_here : (h : Held) (d n j : ℕ) (m : Names) → Apart h n → j < n → get (with_entries h d n m) (d, entry_name h j) ≡ Some (entry_ino h j)
entries_here h d zero j m apart less = absurd (omega (arith, less))
entries_here h d (suc n) j m apart less = elim (cases_eq j n) [
  | inl e ↦ subst (λ x. get (with_entries h d (suc n) m) (d, entry_name h x) ≡ Some (entry_ino h x)) (sym e) (name_get_same (with_entries h d n m) (d, entry_name h n) (entry_ino h n))
  | inr ne ↦ (name_get_other (with_entries h d n m) (d, entry_name h n) (entry_ino h n) (d, entry_name h j) (λ e. ne (apart j n less (omega arith) (ap (λ (k : NameKey). k.1) e)))
      ∙ entries_here h d n j m (λ a b x y. apart a b (omega (arith, x)) (omega (arith, y))) (omega (arith, less, ne)))
]

abbrev EntryOf : Held → ℕ → List ℕ → ℕ → Type 0
EntryOf h n name i = (j : ℕ) × (j < n) × (entry_name h j ≡ name) × (entry_ino h j ≡ i)

entries_back : (h : Held) (d n : ℕ) (m : Names) (name : List ℕ) (i : ℕ) → get (with_entries h d n m) (d, name) ≡ Some i → (get m (d, name) ≡ Some i) ⊎ EntryOf h n name i
entries_back h d zero m name i e = inl e
entries_back h d (suc n) m name i e = elim (cases_key (d, name) (d, entry_name h n)) [
  | inl same ↦ inr (n, omega arith, sym (ap (λ (k : NameKey). k.1) same), same_some _ (entry_ino h n) i (ap (get (with_entries h d (suc n) m)) same ∙ name_get_same (with_entries h d n m) (d, entry_name h n) (entry_ino h n)) e)
  | inr away ↦ (elim (entries_back h d n m name i (sym (name_get_other (with_entries h d n m) (d, entry_name h n) (entry_ino h n) (d, name) away) ∙ e)) [
    | inl old ↦ inl old
    | inr at ↦ inr (at.0, (let less = at.1 in omega (arith, less)), at.2, at.3)
  ])
]

-- ---- all directories

names_off : (h : Held) (d : ℕ) (m : Names) (q : NameKey) → q.0 ≢ d → get (with_names h d m) q ≡ get m q
names_off h d m q away = by (h.kind == 1)
  where
    by : (b : Bool) → get (cond b (with_entries h d (entry_count h) m) m) q ≡ get m q
    by true = entries_off h d (entry_count h) m q away
    by false = refl

names_of_dir : (h : Held) (d : ℕ) (m : Names) → h.kind ≡ 1 → with_names h d m ≡ with_entries h d (entry_count h) m
names_of_dir h d m one = ap (λ b. cond b (with_entries h d (entry_count h) m) m) (eq-eqb _ _ one)

names_past : (held : ℕ → Held) (n : ℕ) (q : NameKey) → n < q.0 → get (names_held held n) q ≡ None
names_past held zero q past = get-empty name_cmp q
names_past held (suc n) q past = names_off (held (suc n)) (suc n) (names_held held n) q (λ e. omega (arith, e, past)) ∙ names_past held n q (omega (arith, past))

dir_apart : (held : ℕ → Held) (d : ℕ) → NamesApartRule held → (held d).kind ≡ 1 → Apart (held d) (entry_count (held d))
dir_apart held d rule one a b x y e = rule.each d a b (record { dir = one; within = omega (arith, x) }) (record { dir = one; within = omega (arith, y) }) e

names_here : (held : ℕ → Held) (n d j : ℕ) → NamesApartRule held → 1 ≤ d → d ≤ n → HasEntry held d j → get (names_held held n) (d, entry_name (held d) j) ≡ Some (entry_ino (held d) j)
names_here held zero d j rule from to h = absurd (omega (arith, from, to))
names_here held (suc n) d j rule from to h = elim (cases_eq d (suc n)) [
  | inl e ↦ subst (λ x. get (with_names (held x) x (names_held held n)) (d, entry_name (held d) j) ≡ Some (entry_ino (held d) j)) e
      (ap (λ (m : Names). get m (d, entry_name (held d) j)) (names_of_dir (held d) d (names_held held n) h.dir) ∙ entries_here (held d) d (entry_count (held d)) j (names_held held n) (dir_apart held d rule h.dir) (let within = h.within in omega (arith, within)))
  | inr ne ↦ (names_off (held (suc n)) (suc n) (names_held held n) (d, entry_name (held d) j) ne ∙ names_here held n d j rule from (omega (arith, to, ne)) h)
]

abbrev RowAt : (ℕ → Held) → ℕ → List ℕ → ℕ → Type 0
RowAt held d name i = (j : ℕ) × HasEntry held d j × (entry_name (held d) j ≡ name) × (entry_ino (held d) j ≡ i)

names_back : (held : ℕ → Held) (n d : ℕ) (name : List ℕ) (i : ℕ) → get (names_held held n) (d, name) ≡ Some i → RowAt held d name i
names_back held zero d name i e = absurd (none_some _ i (get-empty name_cmp (d, name)) e)
names_back held (suc n) d name i e = elim (cases_eq d (suc n)) [
  | inl same ↦ here same (cases_Bool ((held d).kind == 1))
  | inr ne ↦ names_back held n d name i (sym (names_off (held (suc n)) (suc n) (names_held held n) (d, name) ne) ∙ e)
]
  where
    old : d ≡ suc n → get (names_held held n) (d, name) ≡ None
    old same = names_past held n (d, name) (omega (arith, same))

    at : d ≡ suc n → get (with_names (held d) d (names_held held n)) (d, name) ≡ Some i
    at same = subst (λ x. get (with_names (held x) x (names_held held n)) (d, name) ≡ Some i) (sym same) e

    here : d ≡ suc n → ((held d).kind == 1 ≡ true) ⊎ ((held d).kind == 1 ≡ false) → RowAt held d name i
    here same (inr other) = absurd (none_some _ i (ap (λ b. get (cond b (with_entries (held d) d (entry_count (held d)) (names_held held n)) (names_held held n)) (d, name)) other ∙ old same) (at same))
    here same (inl kind) = elim (entries_back (held d) d (entry_count (held d)) (names_held held n) name i (sym (ap (λ (m : Names). get m (d, name)) (names_of_dir (held d) d (names_held held n) (eqb-true _ _ kind))) ∙ at same)) [
      | inl before ↦ absurd (none_some _ i (old same) before)
      | inr r ↦ (r.0, record { dir = eqb-true _ _ kind; within = (let less = r.1 in omega (arith, less)) }, r.2, r.3)
    ]

-- ---- nodes

some_there : (o : Option Node) (i j : ℕ) (m : Nodes) → j ≢ i → get (with_some o i m) j ≡ get m j
some_there None i j m away = refl
some_there (Some n) i j m away = get_there m i n j away

some_here : (o : Option Node) (i : ℕ) (m : Nodes) → get m i ≡ None → get (with_some o i m) i ≡ o
some_here None i m none = none
some_here (Some n) i m none = get_here m i n

nodes_past : (held : ℕ → Held) (n i : ℕ) → n < i → get (nodes_held held n) i ≡ None
nodes_past held zero i past = get-empty nat_cmp i
nodes_past held (suc n) i past = some_there (node_in (held (suc n))) (suc n) i (nodes_held held n) (λ e. omega (arith, e, past)) ∙ nodes_past held n i (omega (arith, past))

nodes_here : (held : ℕ → Held) (n i : ℕ) → 1 ≤ i → i ≤ n → get (nodes_held held n) i ≡ node_in (held i)
nodes_here held zero i from to = absurd (omega (arith, from, to))
nodes_here held (suc n) i from to = elim (cases_eq i (suc n)) [
  | inl e ↦ subst (λ x. get (with_some (node_in (held x)) x (nodes_held held n)) i ≡ node_in (held i)) e (some_here (node_in (held i)) i (nodes_held held n) (nodes_past held n i (omega (arith, e))))
  | inr ne ↦ (some_there (node_in (held (suc n))) (suc n) i (nodes_held held n) ne ∙ nodes_here held n i from (omega (arith, to, ne)))
]

nodes_zero : (held : ℕ → Held) (n : ℕ) → get (nodes_held held n) 0 ≡ None
nodes_zero held zero = get-empty nat_cmp 0
nodes_zero held (suc n) = some_there (node_in (held (suc n))) (suc n) 0 (nodes_held held n) (λ e. omega (arith, e)) ∙ nodes_zero held n

-- ---- the state

-- a number that is no inode's holds nothing
abbrev pub HoldsWithin : VolumeShape → (ℕ → Held) → Type 0
HoldsWithin shape held = (i : ℕ) → (i ≡ 0) ⊎ (shape.inodes < i) → (held i).kind ≡ 0

pub holds_within : (shape : VolumeShape) (f : BlockWords) → HoldsWithin shape (held_of shape f)
holds_within shape f i out = by (nat_le 1 i && nat_le i shape.inodes) refl out
  where
    no : (n m : ℕ) → (nat_le 1 n && nat_le n m) ≡ true → (n ≡ 0) ⊎ (m < n) → ⊥
    no n m e (inl z) = let from : 1 ≤ n = grind (arith, nat_tests) in omega (arith, from, z)
    no n m e (inr past) = let to : n ≤ m = grind (arith, nat_tests) in omega (arith, to, past)

    by : (b : Bool) → (nat_le 1 i && nat_le i shape.inodes) ≡ b → (i ≡ 0) ⊎ (shape.inodes < i) → (held_of shape f i).kind ≡ 0
    by true e o = absurd (no i shape.inodes e o)
    by false e o = ap (λ t. (cond t (held f (placed_at f i)) nothing).kind) e

pub reads_made : (shape : VolumeShape) (pages scratch : ℕ) (held : ℕ → Held) → HoldsWithin shape held → NamesApartRule held → Reads held (read_state shape pages scratch held)
reads_made shape pages scratch held outside rule = record {
  nodes = λ i. node i (cases i);
  entries = λ d j h. entry d j h (cases d);
  names = λ d name i e. let at = names_back held shape.inodes d name i e in (at.0, at.1, at.2);
  idle = refl;
}
  where
    cases : (i : ℕ) → ((i ≡ 0) ⊎ (shape.inodes < i)) ⊎ ((1 ≤ i) × (i ≤ shape.inodes))
    cases i = by (shape.inodes)
      where
        by : (n : ℕ) → ((i ≡ 0) ⊎ (n < i)) ⊎ ((1 ≤ i) × (i ≤ n))
        by n = grind arith

    node : (i : ℕ) → ((i ≡ 0) ⊎ (shape.inodes < i)) ⊎ ((1 ≤ i) × (i ≤ shape.inodes)) → get (nodes_held held shape.inodes) i ≡ node_in (held i)
    node i (inr within) = nodes_here held shape.inodes i within.0 within.1
    node i (inl (inl zero_is)) = subst (λ x. get (nodes_held held shape.inodes) x ≡ node_in (held x)) (sym zero_is) (nodes_zero held shape.inodes ∙ sym (reads_none (held 0) (outside 0 (inl refl))))
    node i (inl (inr past)) = nodes_past held shape.inodes i past ∙ sym (reads_none (held i) (outside i (inr past)))

    entry : (d j : ℕ) → HasEntry held d j → ((d ≡ 0) ⊎ (shape.inodes < d)) ⊎ ((1 ≤ d) × (d ≤ shape.inodes)) → get (names_held held shape.inodes) (d, entry_name (held d) j) ≡ Some (entry_ino (held d) j)
    entry d j h (inr within) = names_here held shape.inodes d j rule within.0 within.1 h
    entry d j h (inl off) = absurd (let none = outside d off in let one = h.dir in omega (arith, none, one))

-- blocks that keep the rules 1 to 11 read as it. Rule 10 is looked at over it
pub reads_as_made : (shape : VolumeShape) (pages scratch : ℕ) (f : BlockWords) → IsMapped shape f → EntryRule (held_of shape f) → NamesApartRule (held_of shape f) → TreeRule (read_state shape pages scratch (held_of shape f)) → RegionRule (held_of shape f) → ReadsAs shape f (read_state shape pages scratch (held_of shape f))
reads_as_made shape pages scratch f mapped entries apart tree regions = record {
  sizes = refl;
  mapped = mapped;
  entries = entries;
  apart = apart;
  tree = tree;
  regions = regions;
  reads = reads_made shape pages scratch (held_of shape f) (holds_within shape f) apart;
}
