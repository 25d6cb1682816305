-- Rows that are held, and the names of a state: one directory at a time, and what follows of the whole.
use Rattle.request_ends.proofs.Common.{◌≡◌, ◌≢◌, ◌==◌, ℕ, ◌/◌, ◌<◌, ◌⊎◌, Bool, true, false, cond, List, [], Option, refl, sym, ap, subst, ◌∙◌, arith, inl, inr, get, cases_eq, none-some, true_false, Ino, VolumeShape, BlockWords, Node, File, Region, State, IsSoundRegion, Held, held_of, held_bytes, entry_ino, entry_name, HasEntry, Names, IsName, is_dir, node_in, region_in, Reads, ReadsAs, reads_none, reads_dir, EntryRule, IsMapped, NamesApartRule, TreeRule, differs, is_some, found}
use Rattle.directories.specs.Rows.{Finds, HasRow, IsEntry, NamesApart}
use Rattle.std.proofs.Common.{Some, None}
use Rattle.std.proofs.lemmas.Option.{same_Some}
use Rattle.rio_model.specs.declared.node.Node.TheVariants.{Dir}
use Rattle.file_tree.proofs.NameSteps.{ChangesNames, no_value}
use Rattle.directories.specs.RowChanges.{ChangesRows}

-- the rows of all directories are the names of a state
pub record SameRows (h : ℕ → Held) (s : State) : Type 0 where
  pub on : (d : ℕ) (name : List ℕ) (i : ℕ) → (h d).kind ≡ 1 → HasRow (h d) name i → get s.names (d, name) ≡ Some i
  pub back : (d : ℕ) (name : List ℕ) (i : ℕ) → get s.names (d, name) ≡ Some i → ((h d).kind ≡ 1) × HasRow (h d) name i

pub rows_of_reads : (h : ℕ → Held) (s : State) → Reads h s → SameRows h s
rows_of_reads h s r = record {
  on = λ d name i dir has. ap (λ n. get s.names (d, n)) (sym has.1.named) ∙ r.entries d has.0 (record { dir = dir; within = has.1.within }) ∙ ap Some has.1.ino;
  back = λ d name i e. let at = r.names d name i e in (at.1.dir, (at.0, record { within = at.1.within; named = at.2; ino = same_Some _ _ (sym (r.entries d at.0 at.1) ∙ ap (λ n. get s.names (d, n)) at.2 ∙ e) }));
}

pub reads_of_rows : (h : ℕ → Held) (s : State) → ((i : ℕ) → get s.nodes i ≡ node_in (h i)) → SameRows h s → s.txns ≡ [] → Reads h s
reads_of_rows h s nodes rows idle = record {
  nodes = nodes;
  entries = λ d j has. rows.on d _ _ has.dir (j, record { within = has.within; named = refl; ino = refl });
  names = λ d name i e. let at = rows.back d name i e in (at.1.0, record { dir = at.0; within = at.1.1.within }, at.1.1.named);
  idle = idle;
}

pub finds_some : (h : ℕ → Held) (s : State) (d : ℕ) (name : List ℕ) (found : Ino × ℕ) → Reads h s → (h d).kind ≡ 1 → Finds (h d) name (Some found) → get s.names (d, name) ≡ Some found.0.0
finds_some h s d name found r dir at = (rows_of_reads h s r).on d name found.0.0 dir (found.1, at)

-- what is held keeps the rules of entries, and reads as a state
pub record SoundReads (h : ℕ → Held) (s : State) : Type 0 where
  pub reads : Reads h s
  pub entries : EntryRule h
  pub apart : NamesApartRule h

-- ---- one directory at a time

-- the rows of one inode are the names of directory d
pub record DirRows (h : Held) (m : Names) (d : ℕ) : Type 0 where
  pub on : (name : List ℕ) (i : ℕ) → h.kind ≡ 1 → HasRow h name i → get m (d, name) ≡ Some i
  pub back : (name : List ℕ) (i : ℕ) → get m (d, name) ≡ Some i → (h.kind ≡ 1) × HasRow h name i

-- inode x is read as its node, and its rows as names, none of them twice
pub record OneReads (h : Held) (s : State) (x : ℕ) : Type 0 where
  pub node : get s.nodes x ≡ node_in h
  pub rows : DirRows h s.names x
  pub apart : h.kind ≡ 1 → NamesApart h

-- what `SoundReads` says, inode by inode
pub record EachReads (h : ℕ → Held) (s : State) : Type 0 where
  pub each : (x : ℕ) → OneReads (h x) s x
  pub named : (x : ℕ) (name : List ℕ) (v : ℕ) → get s.names (x, name) ≡ Some v → IsName name
  pub used : (x : ℕ) (name : List ℕ) (v : ℕ) → get s.names (x, name) ≡ Some v → get s.nodes v ≢ None
  pub idle : s.txns ≡ []

-- a node by its tests
abbrev node_by : Held → Bool → Bool → Bool → Option Node
node_by h free dir file = cond free None (cond dir (Some Dir) (cond file (Some (File (held_bytes h))) (Some (Region (region_in h.word)))))

-- a node is in use where the state has one
node_some : (h : Held) (o : Option Node) → o ≡ node_in h → 0 < h.kind → o ≢ None
node_some h o e used none = some (h.kind == 1) (h.kind == 2) (sym (ap (λ b. node_by h b (h.kind == 1) (h.kind == 2)) (differs h.kind 0 (λ z. omega (arith, z, used)))) ∙ sym e ∙ none)
  where
    some : (dir file : Bool) → node_by h false dir file ≢ None
    some true file z = none-some _ (sym z)
    some false true z = none-some _ (sym z)
    some false false z = none-some _ (sym z)

some_node : (h : Held) (o : Option Node) → o ≡ node_in h → o ≢ None → 0 < h.kind
some_node h o e some = elim (cases_eq h.kind 0) [
  | inl zero_kind ↦ absurd (some (e ∙ reads_none h zero_kind))
  | inr used ↦ omega (arith, used)
]

-- and holds a directory where the state has one
pub dir_kind : (h : ℕ → Held) (s : State) (i : ℕ) → Reads h s → is_dir (get s.nodes i) ≡ true → (h i).kind ≡ 1
dir_kind h s i r is = elim (cases_eq (h i).kind 1) [
  | inl dir ↦ dir
  | inr other ↦ absurd (true_false (sym is ∙ ap is_dir (r.nodes i) ∙ ap (λ b. is_dir (node_by (h i) ((h i).kind == 0) b ((h i).kind == 2))) (differs (h i).kind 1 other) ∙ no_dir ((h i).kind == 0) ((h i).kind == 2)))
]
  where
    no_dir : (free file : Bool) → is_dir (node_by (h i) free false file) ≡ false
    no_dir true file = refl
    no_dir false true = refl
    no_dir false false = refl

pub by_each : (h : ℕ → Held) (s : State) → SoundReads h s → EachReads h s
by_each h s r = record {
  each = λ x. record {
    node = r.reads.nodes x;
    rows = record { on = rows.on x; back = rows.back x };
    apart = λ dir a b in_a in_b. r.apart.each x a b (record { dir = dir; within = in_a }) (record { dir = dir; within = in_b });
  };
  named = λ x name v e. let at = rows.back x name v e in subst IsName at.1.1.named (r.entries.each x at.1.0 (entry_of x name v at)).0;
  used = λ x name v e. let at = rows.back x name v e in node_some (h v) (get s.nodes v) (r.reads.nodes v) (subst (λ i. 0 < (h i).kind) at.1.1.ino (r.entries.each x at.1.0 (entry_of x name v at)).1);
  idle = r.reads.idle;
}
  where
    rows : SameRows h s
    rows = rows_of_reads h s r.reads

    entry_of : (x : ℕ) (name : List ℕ) (v : ℕ) → (at : ((h x).kind ≡ 1) × HasRow (h x) name v) → HasEntry h x at.1.0
    entry_of x name v at = record { dir = at.0; within = at.1.1.within }

pub of_each : (h : ℕ → Held) (s : State) → EachReads h s → SoundReads h s
of_each h s r = record {
  reads = reads_of_rows h s (λ x. (r.each x).node) (record { on = λ d. (r.each d).rows.on; back = λ d. (r.each d).rows.back }) r.idle;
  entries = record {
    each = λ d j has. (r.named d _ _ (name_at d j has), some_node (h (entry_ino (h d) j)) _ (r.each _).node (r.used d _ _ (name_at d j has)));
  };
  apart = record { each = λ d a b in_a in_b. (r.each d).apart in_a.dir a b in_a.within in_b.within };
}
  where
    name_at : (d j : ℕ) → HasEntry h d j → get s.names (d, entry_name (h d) j) ≡ Some (entry_ino (h d) j)
    name_at d j has = (r.each d).rows.on _ _ has.dir (j, record { within = has.within; named = refl; ino = refl })

-- ---- an inode after a change

-- one that stays
pub one_stays : (h k : Held) (s t : State) (x : ℕ) → k ≡ h → get t.nodes x ≡ get s.nodes x → ((name : List ℕ) → get t.names (x, name) ≡ get s.names (x, name)) → OneReads h s x → OneReads k t x
one_stays h k s t x same node names was = record {
  node = node ∙ was.node ∙ sym (ap node_in same);
  rows = record {
    on = λ name i dir has. names name ∙ was.rows.on name i (subst (λ (n : Held). n.kind ≡ 1) same dir) (subst (λ n. HasRow n name i) same has);
    back = λ name i e. subst (λ (n : Held). (n.kind ≡ 1) × HasRow n name i) (sym same) (was.rows.back name i (sym (names name) ∙ e));
  };
  apart = subst (λ (n : Held). n.kind ≡ 1 → NamesApart n) (sym same) was.apart;
}

dir_changed : (h k : Held) (l m : Names) (d size : ℕ) (gone : List ℕ → Type 0) (new : List ℕ → ℕ → Type 0) → h.kind ≡ 1 → NamesApart h → ChangesRows h k size gone new → ChangesNames l m d gone new → DirRows h l d → DirRows k m d
dir_changed h k l m d size gone new dir apart rows names was = record {
  on = λ name i _ has. elim (rows.from name i has) [
    | inl old ↦ elim (names.known name) [
      | inl goes ↦ names.came name i (rows.went apart name i goes has)
      | inr stays ↦ names.kept name i stays (was.on name i dir old)
    ]
    | inr new_row ↦ names.came name i new_row
  ];
  back = λ name i e. (
    rows.dir,
    elim (names.from name i e) [
      | inl new_row ↦ rows.come name i new_row
      | inr old ↦ rows.stay name i (was.back name i old.1).1 old.0
    ],
  );
}

-- a directory whose rows and names change alike
pub one_changes : (h k : Held) (s t : State) (d size : ℕ) (gone : List ℕ → Type 0) (new : List ℕ → ℕ → Type 0) → h.kind ≡ 1 → ChangesRows h k size gone new → get t.nodes d ≡ get s.nodes d → ChangesNames s.names t.names d gone new → OneReads h s d → OneReads k t d
one_changes h k s t d size gone new dir rows node names was = record {
  node = node ∙ was.node ∙ reads_dir h dir ∙ sym (reads_dir k rows.dir);
  rows = dir_changed h k s.names t.names d size gone new dir (was.apart dir) rows names was.rows;
  apart = λ _. rows.apart (was.apart dir);
}

-- one that has no rows
pub one_bare : (k : Held) (t : State) (x : ℕ) → k.size ≡ 0 → get t.nodes x ≡ node_in k → ((name : List ℕ) → get t.names (x, name) ≡ None) → OneReads k t x
one_bare k t x size node none = record {
  node = node;
  rows = record {
    on = λ name i dir has. let within = has.1.within in absurd (omega (arith, size, within));
    back = λ name i e. absurd (none-some i (sym (none name) ∙ e));
  };
  apart = λ dir a b in_a in_b e. omega (arith, size, in_a);
}

-- and so no names
pub bare_names : (h : Held) (s : State) (x : ℕ) → OneReads h s x → (h.kind ≡ 1 → h.size ≡ 0) → (name : List ℕ) → get s.names (x, name) ≡ None
bare_names h s x r bare name = no_value _ (λ v e. let at = r.rows.back name v e in let size = bare at.0 in let within = at.1.1.within in omega (arith, size, within))

-- a slot's row is a name
pub row_named : (h : ℕ → Held) (s : State) (d j : ℕ) (name : List ℕ) (i : ℕ) → EachReads h s → (h d).kind ≡ 1 → IsEntry (h d) j name i → get s.names (d, name) ≡ Some i
row_named h s d j name i r dir entry = (r.each d).rows.on name i dir (j, entry)

-- ---- the whole

-- an inode holds what it held, or no region
abbrev pub Stays : (ℕ → Held) → (ℕ → Held) → ℕ → Type 0
Stays h k x = (k x ≡ h x) ⊎ ((k x).kind ≢ 3)

pub sound_of : (shape : VolumeShape) (f : BlockWords) (s : State) → ReadsAs shape f s → SoundReads (held_of shape f) s
sound_of shape f s r = record { reads = r.reads; entries = r.entries; apart = r.apart }

pub reads_as : (shape : VolumeShape) (f g : BlockWords) (s t : State) → ReadsAs shape f s → IsMapped shape g → t.shape ≡ s.shape → TreeRule t → ((x : ℕ) → Stays (held_of shape f) (held_of shape g) x) → SoundReads (held_of shape g) t → ReadsAs shape g t
reads_as shape f g s t r mapped sizes tree regions sound = record {
  sizes = sizes ∙ r.sizes;
  mapped = mapped;
  entries = sound.entries;
  apart = sound.apart;
  tree = tree;
  regions = record {
    each = λ x region. elim (regions x) [
      | inl same ↦ subst (λ (n : Held). IsSoundRegion (n.size / 8) n.word) (sym same) (r.regions.each x (sym (ap (λ (n : Held). n.kind) same) ∙ region))
      | inr other ↦ absurd (other region)
    ];
  };
  reads = sound.reads;
}

-- no row of a name that is not found
pub none_found : (h : Held) (name : List ℕ) (o : Option (Ino × ℕ)) → Finds h name o → is_some o ≡ false → (n : ℕ) → HasRow h name n → ⊥
none_found h name None finds e = finds
none_found h name (Some found) finds e = absurd (true_false e)

-- a directory is no region
pub dir_not_3 : {kind : ℕ} → kind ≡ 1 → kind ≢ 3
dir_not_3 dir is = omega (arith, dir, is)
