-- A change of the rows of directories, and of the node that goes with them, is one of the state that is read.
use Rattle.request_ends.proofs.Common.{◌≡◌, ◌≢◌, ℕ, ◌⊎◌, List, refl, sym, ap, subst, ◌∙◌, arith, inl, inr, get, VolumeShape, BlockWords, State, Held, held_of, entry_name, NameKey, IsName, node_in, ReadsAs, IsMapped, TreeRule}
use Rattle.directories.specs.Rows.{IsEntry}
use Rattle.rio_requests.specs.Answers.{moved, replaced, without}
use Rattle.std.specs.FinMap.{remove}
use Rattle.std.proofs.Common.{Some, None}
use Rattle.node_updates.proofs.EmptyHeld.{empty_held}
use Rattle.file_tree.proofs.NameSteps.{ChangesNames, by_one, by_two, dirs_apart, same_name}
use Rattle.node_moving.proofs.NameMoves.{by_three, gone_here, gone_there, moved_back, moved_other, remove_back, remove_other, remove_some, row_arrives, row_changes, row_leaves, row_removed}
use Rattle.directories.specs.RowChanges.{NameAt, NoName, TheRow, AddsRow, RemovesRow, ReplacesRow, SetsRow}
use Rattle.file_tree.proofs.RowReads.{EachReads, OneReads, SoundReads, Stays, bare_names, by_each, of_each, one_bare, one_changes, one_stays, reads_as, row_named, sound_of, dir_not_3}

-- ---- what changes: all but the inodes that are named stay

-- node i, which has no rows, goes, and its row, slot j of directory d
pub record DropsRow (h k : ℕ → Held) (d j : ℕ) (name : List ℕ) (i : ℕ) : Type 0 where
  pub dir : (h d).kind ≡ 1
  pub entry : IsEntry (h d) j name i
  pub bare : (h i).kind ≡ 1 → (h i).size ≡ 0
  pub row : RemovesRow j (h d) (k d)
  pub gone : k i ≡ empty_held 0
  pub others : (x : ℕ) → x ≢ d → x ≢ i → k x ≡ h x

-- slot j of directory d, which had the row a of node i, has its row b
pub record RenamesRow (h k : ℕ → Held) (d j : ℕ) (a b : List ℕ) (i : ℕ) : Type 0 where
  pub dir : (h d).kind ≡ 1
  pub entry : IsEntry (h d) j a i
  pub row : SetsRow j b i (h d) (k d)
  pub others : (x : ℕ) → x ≢ d → k x ≡ h x

-- node i has a row in directory e in place of slot j of directory d
pub record MovesRow (h k : ℕ → Held) (d j : ℕ) (a : List ℕ) (e : ℕ) (b : List ℕ) (i : ℕ) : Type 0 where
  pub apart : d ≢ e
  pub from_dir : (h d).kind ≡ 1
  pub to_dir : (h e).kind ≡ 1
  pub entry : IsEntry (h d) j a i
  pub left : RemovesRow j (h d) (k d)
  pub came : AddsRow b i (h e) (k e)
  pub others : (x : ℕ) → x ≢ d → x ≢ e → k x ≡ h x

-- node i has the row of node j, a file or region that goes, in place of its own: slots `from` and `to` of directory d
pub record ReplacesWithin (h k : ℕ → Held) (d from to : ℕ) (a b : List ℕ) (i j : ℕ) : Type 0 where
  pub dir : (h d).kind ≡ 1
  pub old : IsEntry (h d) from a i
  pub over : IsEntry (h d) to b j
  pub differ : i ≢ j
  pub leaf : (h j).kind ≢ 1
  pub row : ReplacesRow to i from (h d) (k d)
  pub gone : k j ≡ empty_held 0
  pub others : (x : ℕ) → x ≢ d → x ≢ j → k x ≡ h x

-- the same where slot `to` is one of another directory
pub record ReplacesAcross (h k : ℕ → Held) (d from : ℕ) (a : List ℕ) (e to : ℕ) (b : List ℕ) (i j : ℕ) : Type 0 where
  pub apart : d ≢ e
  pub from_dir : (h d).kind ≡ 1
  pub to_dir : (h e).kind ≡ 1
  pub old : IsEntry (h d) from a i
  pub over : IsEntry (h e) to b j
  pub differ : i ≢ j
  pub leaf : (h j).kind ≢ 1
  pub left : RemovesRow from (h d) (k d)
  pub row : SetsRow to b i (h e) (k e)
  pub gone : k j ≡ empty_held 0
  pub others : (x : ℕ) → x ≢ d → x ≢ e → x ≢ j → k x ≡ h x

-- ---- what is read then

-- two rows of one node are one
one_row : (s : State) (x d : ℕ) (n name : List ℕ) (i : ℕ) → TreeRule s → get s.names (x, n) ≡ Some i → get s.names (d, name) ≡ Some i → ◌≡◌ {A = NameKey} (x, n) (d, name)
one_row s x d n name i tree one other = let same = tree.one x d n name i one other in λ z. (same.0 z, same.1 z)

pub row_gone : (h k : ℕ → Held) (s : State) (d j : ℕ) (name : List ℕ) (i : ℕ) → SoundReads h s → TreeRule s → DropsRow h k d j name i → SoundReads k (without s d name i)
row_gone h k s d j name i r tree c = of_each k t (record {
  each = λ x. by_two (λ y. OneReads (k y) t y) i d x gone dir (away x);
  named = λ x n v e. p.named x n v (remove_back s.names (d, name) (x, n) v e).1;
  used = λ x n v e. let back = remove_back s.names (d, name) (x, n) v e in remove_some s.nodes i v (λ same. back.0 (one_row s x d n name i tree (back.1 ∙ ap Some same) row)) (p.used x n v back.1);
  idle = p.idle;
})
  where
    t : State
    t = without s d name i

    p : EachReads h s
    p = by_each h s r

    row : get s.names (d, name) ≡ Some i
    row = row_named h s d j name i p c.dir c.entry

    apart : i ≢ d
    apart same = let size = ap (λ x. (h x).size) (sym same) ∙ c.bare (ap (λ x. (h x).kind) same ∙ c.dir) in let within = c.entry.within in omega (arith, size, within)

    gone : OneReads (k i) t i
    gone = one_bare (k i) t i (ap (λ (n : Held). n.size) c.gone) (gone_here s.nodes i ∙ sym (ap node_in c.gone)) (λ n. remove_other s.names (d, name) (i, n) (dirs_apart i d n name apart) ∙ bare_names (h i) s i (p.each i) c.bare n)

    dir : OneReads (k d) t d
    dir = one_changes (h d) (k d) s t d _ _ _ c.dir c.row (gone_there s.nodes i d (λ same. apart (sym same))) (row_removed s.names d name (NameAt (h d) j) (sym c.entry.named) (λ n at. at ∙ c.entry.named)) (p.each d)

    away : (x : ℕ) → x ≢ i → x ≢ d → OneReads (k x) t x
    away x not_i not_d = one_stays (h x) (k x) s t x (c.others x not_d not_i) (gone_there s.nodes i x not_i) (λ n. remove_other s.names (d, name) (x, n) (dirs_apart x d n name not_d)) (p.each x)

-- ---- a row that is moved

moved_named : (h : ℕ → Held) (s : State) (d : ℕ) (a : List ℕ) (e : ℕ) (b : List ℕ) (i : ℕ) → EachReads h s → IsName b → (x : ℕ) (n : List ℕ) (v : ℕ) → get (moved s d a e b i).names (x, n) ≡ Some v → IsName n
moved_named h s d a e b i p named x n v is = elim (moved_back s.names (d, a) (e, b) i (x, n) v is) [
  | inl at ↦ subst IsName (sym (ap (λ (q : NameKey). q.1) at.0)) named
  | inr old ↦ p.named x n v old.was
]

moved_used : (h : ℕ → Held) (s : State) (d : ℕ) (a : List ℕ) (e : ℕ) (b : List ℕ) (i : ℕ) → EachReads h s → get s.names (d, a) ≡ Some i → (x : ℕ) (n : List ℕ) (v : ℕ) → get (moved s d a e b i).names (x, n) ≡ Some v → get s.nodes v ≢ None
moved_used h s d a e b i p row x n v is = elim (moved_back s.names (d, a) (e, b) i (x, n) v is) [
  | inl at ↦ p.used d a v (row ∙ ap Some (sym at.1))
  | inr old ↦ p.used x n v old.was
]

-- and none names the node whose row it took
moved_keeps : (h : ℕ → Held) (s : State) (d : ℕ) (a : List ℕ) (e : ℕ) (b : List ℕ) (i j : ℕ) → EachReads h s → TreeRule s → get s.names (d, a) ≡ Some i → get s.names (e, b) ≡ Some j → i ≢ j → (x : ℕ) (n : List ℕ) (v : ℕ) → get (moved s d a e b i).names (x, n) ≡ Some v → get (remove s.nodes j) v ≢ None
moved_keeps h s d a e b i j p tree row over differ x n v is = remove_some s.nodes j v other (moved_used h s d a e b i p row x n v is)
  where
    other : v ≢ j
    other same = elim (moved_back s.names (d, a) (e, b) i (x, n) v is) [
      | inl at ↦ differ (sym at.1 ∙ same)
      | inr old ↦ old.not_new (one_row s x e n b j tree (old.was ∙ ap Some same) over)
    ]

pub row_renamed : (h k : ℕ → Held) (s : State) (d j : ℕ) (a b : List ℕ) (i : ℕ) → SoundReads h s → get s.names (d, b) ≡ None → IsName b → RenamesRow h k d j a b i → SoundReads k (moved s d a d b i)
row_renamed h k s d j a b i r free named c = of_each k t (record {
  each = λ x. by_one (λ y. OneReads (k y) t y) d x dir (away x);
  named = moved_named h s d a d b i p named;
  used = moved_used h s d a d b i p row;
  idle = p.idle;
})
  where
    t : State
    t = moved s d a d b i

    p : EachReads h s
    p = by_each h s r

    row : get s.names (d, a) ≡ Some i
    row = row_named h s d j a i p c.dir c.entry

    dir : OneReads (k d) t d
    dir = one_changes (h d) (k d) s t d _ _ _ c.dir c.row refl (row_changes s.names d a b i (NameAt (h d) j) (λ n. same_name n _) (sym c.entry.named) (λ n at. inl (at ∙ c.entry.named)) (λ _. free)) (p.each d)

    away : (x : ℕ) → x ≢ d → OneReads (k x) t x
    away x not_d = one_stays (h x) (k x) s t x (c.others x not_d) refl (λ n. moved_other s.names (d, a) (d, b) i (x, n) (dirs_apart x d n a not_d) (dirs_apart x d n b not_d)) (p.each x)

pub row_moved : (h k : ℕ → Held) (s : State) (d j : ℕ) (a : List ℕ) (e : ℕ) (b : List ℕ) (i : ℕ) → SoundReads h s → get s.names (e, b) ≡ None → IsName b → MovesRow h k d j a e b i → SoundReads k (moved s d a e b i)
row_moved h k s d j a e b i r free named c = of_each k t (record {
  each = λ x. by_two (λ y. OneReads (k y) t y) d e x from to (away x);
  named = moved_named h s d a e b i p named;
  used = moved_used h s d a e b i p row;
  idle = p.idle;
})
  where
    t : State
    t = moved s d a e b i

    p : EachReads h s
    p = by_each h s r

    row : get s.names (d, a) ≡ Some i
    row = row_named h s d j a i p c.from_dir c.entry

    from : OneReads (k d) t d
    from = one_changes (h d) (k d) s t d _ _ _ c.from_dir c.left refl (row_leaves s.names d a e b i (NameAt (h d) j) c.apart (sym c.entry.named) (λ n at. at ∙ c.entry.named)) (p.each d)

    to : OneReads (k e) t e
    to = one_changes (h e) (k e) s t e _ _ _ c.to_dir c.came refl (row_arrives s.names d a e b i NoName c.apart (λ n. inr (λ z. z)) (λ n z. absurd z) (λ _. free)) (p.each e)

    away : (x : ℕ) → x ≢ d → x ≢ e → OneReads (k x) t x
    away x not_d not_e = one_stays (h x) (k x) s t x (c.others x not_d not_e) refl (λ n. moved_other s.names (d, a) (e, b) i (x, n) (dirs_apart x d n a not_d) (dirs_apart x e n b not_e)) (p.each x)

-- ---- a row in place of another

-- the names of two slots
abbrev EitherAt : Held → ℕ → ℕ → List ℕ → Type 0
EitherAt n j l name = NameAt n j name ⊎ NameAt n l name

either_known : (n : Held) (j l : ℕ) (name : List ℕ) → EitherAt n j l name ⊎ (EitherAt n j l name → ⊥)
either_known n j l name = elim (same_name name (entry_name n j)) [
  | inl one ↦ inl (inl one)
  | inr not_j ↦ elim (same_name name (entry_name n l)) [
    | inl other ↦ inl (inr other)
    | inr not_l ↦ inr (λ at. elim at [ inl one ↦ not_j one | inr other ↦ not_l other ])
  ]
]

pub row_replaced_within : (h k : ℕ → Held) (s : State) (d from to : ℕ) (a b : List ℕ) (i j : ℕ) → SoundReads h s → TreeRule s → ReplacesWithin h k d from to a b i j → SoundReads k (replaced s d a d b i j)
row_replaced_within h k s d from to a b i j r tree c = of_each k t (record {
  each = λ x. by_two (λ y. OneReads (k y) t y) j d x gone dir (away x);
  named = moved_named h s d a d b i p (p.named d b j over);
  used = moved_keeps h s d a d b i j p tree row over c.differ;
  idle = p.idle;
})
  where
    t : State
    t = replaced s d a d b i j

    p : EachReads h s
    p = by_each h s r

    row : get s.names (d, a) ≡ Some i
    row = row_named h s d from a i p c.dir c.old

    over : get s.names (d, b) ≡ Some j
    over = row_named h s d to b j p c.dir c.over

    apart : j ≢ d
    apart same = c.leaf (ap (λ x. (h x).kind) same ∙ c.dir)

    gone : OneReads (k j) t j
    gone = one_bare (k j) t j (ap (λ (n : Held). n.size) c.gone) (gone_here s.nodes j ∙ sym (ap node_in c.gone)) (λ n. moved_other s.names (d, a) (d, b) i (j, n) (dirs_apart j d n a apart) (dirs_apart j d n b apart) ∙ bare_names (h j) s j (p.each j) (λ is. absurd (c.leaf is)) n)

    names : ChangesNames s.names t.names d (EitherAt (h d) to from) (TheRow b i)
    names = row_changes s.names d a b i (EitherAt (h d) to from) (either_known (h d) to from) (inr (sym c.old.named)) (λ n at. elim at [ inl is ↦ inr (is ∙ c.over.named) | inr is ↦ inl (is ∙ c.old.named) ]) (λ stays. absurd (stays (inl (sym c.over.named))))

    dir : OneReads (k d) t d
    dir = one_changes (h d) (k d) s t d _ _ _ c.dir c.row (gone_there s.nodes j d (λ same. apart (sym same))) (subst (λ n. ChangesNames s.names t.names d (EitherAt (h d) to from) (TheRow n i)) (sym c.over.named) names) (p.each d)

    away : (x : ℕ) → x ≢ j → x ≢ d → OneReads (k x) t x
    away x not_j not_d = one_stays (h x) (k x) s t x (c.others x not_d not_j) (gone_there s.nodes j x not_j) (λ n. moved_other s.names (d, a) (d, b) i (x, n) (dirs_apart x d n a not_d) (dirs_apart x d n b not_d)) (p.each x)

pub row_replaced_across : (h k : ℕ → Held) (s : State) (d from : ℕ) (a : List ℕ) (e to : ℕ) (b : List ℕ) (i j : ℕ) → SoundReads h s → TreeRule s → ReplacesAcross h k d from a e to b i j → SoundReads k (replaced s d a e b i j)
row_replaced_across h k s d from a e to b i j r tree c = of_each k t (record {
  each = λ x. by_three (λ y. OneReads (k y) t y) j d e x gone left came (away x);
  named = moved_named h s d a e b i p (p.named e b j over);
  used = moved_keeps h s d a e b i j p tree row over c.differ;
  idle = p.idle;
})
  where
    t : State
    t = replaced s d a e b i j

    p : EachReads h s
    p = by_each h s r

    row : get s.names (d, a) ≡ Some i
    row = row_named h s d from a i p c.from_dir c.old

    over : get s.names (e, b) ≡ Some j
    over = row_named h s e to b j p c.to_dir c.over

    not_dir : (x : ℕ) → (h x).kind ≡ 1 → j ≢ x
    not_dir x dir same = c.leaf (ap (λ y. (h y).kind) same ∙ dir)

    node_stays : (x : ℕ) → (h x).kind ≡ 1 → get t.nodes x ≡ get s.nodes x
    node_stays x dir = gone_there s.nodes j x (λ same. not_dir x dir (sym same))

    gone : OneReads (k j) t j
    gone = one_bare (k j) t j (ap (λ (n : Held). n.size) c.gone) (gone_here s.nodes j ∙ sym (ap node_in c.gone)) (λ n. moved_other s.names (d, a) (e, b) i (j, n) (dirs_apart j d n a (not_dir d c.from_dir)) (dirs_apart j e n b (not_dir e c.to_dir)) ∙ bare_names (h j) s j (p.each j) (λ is. absurd (c.leaf is)) n)

    left : OneReads (k d) t d
    left = one_changes (h d) (k d) s t d _ _ _ c.from_dir c.left (node_stays d c.from_dir) (row_leaves s.names d a e b i (NameAt (h d) from) c.apart (sym c.old.named) (λ n at. at ∙ c.old.named)) (p.each d)

    came : OneReads (k e) t e
    came = one_changes (h e) (k e) s t e _ _ _ c.to_dir c.row (node_stays e c.to_dir) (row_arrives s.names d a e b i (NameAt (h e) to) c.apart (λ n. same_name n _) (λ n at. at ∙ c.over.named) (λ stays. absurd (stays (sym c.over.named)))) (p.each e)

    away : (x : ℕ) → x ≢ j → x ≢ d → x ≢ e → OneReads (k x) t x
    away x not_j not_d not_e = one_stays (h x) (k x) s t x (c.others x not_d not_e not_j) (gone_there s.nodes j x not_j) (λ n. moved_other s.names (d, a) (e, b) i (x, n) (dirs_apart x d n a not_d) (dirs_apart x e n b not_e)) (p.each x)

-- ---- and of a volume

gone_not_3 : {kind : ℕ} → kind ≡ 0 → kind ≢ 3
gone_not_3 gone is = omega (arith, gone, is)

pub gone_as : (shape : VolumeShape) (f g : BlockWords) (s : State) (d j : ℕ) (name : List ℕ) (i : ℕ) → ReadsAs shape f s → IsMapped shape g → TreeRule (without s d name i) → DropsRow (held_of shape f) (held_of shape g) d j name i → ReadsAs shape g (without s d name i)
gone_as shape f g s d j name i r mapped tree c = reads_as shape f g s _ r mapped refl tree (λ x. by_two (Stays (held_of shape f) (held_of shape g)) i d x (inr (gone_not_3 (ap (λ (n : Held). n.kind) c.gone))) (inr (dir_not_3 c.row.dir)) (λ not_i not_d. inl (c.others x not_d not_i))) (row_gone (held_of shape f) (held_of shape g) s d j name i (sound_of shape f s r) r.tree c)

pub renamed_as : (shape : VolumeShape) (f g : BlockWords) (s : State) (d j : ℕ) (a b : List ℕ) (i : ℕ) → ReadsAs shape f s → IsMapped shape g → TreeRule (moved s d a d b i) → get s.names (d, b) ≡ None → IsName b → RenamesRow (held_of shape f) (held_of shape g) d j a b i → ReadsAs shape g (moved s d a d b i)
renamed_as shape f g s d j a b i r mapped tree free named c = reads_as shape f g s _ r mapped refl tree (λ x. by_one (Stays (held_of shape f) (held_of shape g)) d x (inr (dir_not_3 c.row.dir)) (λ not_d. inl (c.others x not_d))) (row_renamed (held_of shape f) (held_of shape g) s d j a b i (sound_of shape f s r) free named c)

pub moved_as : (shape : VolumeShape) (f g : BlockWords) (s : State) (d j : ℕ) (a : List ℕ) (e : ℕ) (b : List ℕ) (i : ℕ) → ReadsAs shape f s → IsMapped shape g → TreeRule (moved s d a e b i) → get s.names (e, b) ≡ None → IsName b → MovesRow (held_of shape f) (held_of shape g) d j a e b i → ReadsAs shape g (moved s d a e b i)
moved_as shape f g s d j a e b i r mapped tree free named c = reads_as shape f g s _ r mapped refl tree (λ x. by_two (Stays (held_of shape f) (held_of shape g)) d e x (inr (dir_not_3 c.left.dir)) (inr (dir_not_3 c.came.dir)) (λ not_d not_e. inl (c.others x not_d not_e))) (row_moved (held_of shape f) (held_of shape g) s d j a e b i (sound_of shape f s r) free named c)

pub replaced_within_as : (shape : VolumeShape) (f g : BlockWords) (s : State) (d from to : ℕ) (a b : List ℕ) (i j : ℕ) → ReadsAs shape f s → IsMapped shape g → TreeRule (replaced s d a d b i j) → ReplacesWithin (held_of shape f) (held_of shape g) d from to a b i j → ReadsAs shape g (replaced s d a d b i j)
replaced_within_as shape f g s d from to a b i j r mapped tree c = reads_as shape f g s _ r mapped refl tree (λ x. by_two (Stays (held_of shape f) (held_of shape g)) j d x (inr (gone_not_3 (ap (λ (n : Held). n.kind) c.gone))) (inr (dir_not_3 c.row.dir)) (λ not_j not_d. inl (c.others x not_d not_j))) (row_replaced_within (held_of shape f) (held_of shape g) s d from to a b i j (sound_of shape f s r) r.tree c)

pub replaced_across_as : (shape : VolumeShape) (f g : BlockWords) (s : State) (d from : ℕ) (a : List ℕ) (e to : ℕ) (b : List ℕ) (i j : ℕ) → ReadsAs shape f s → IsMapped shape g → TreeRule (replaced s d a e b i j) → ReplacesAcross (held_of shape f) (held_of shape g) d from a e to b i j → ReadsAs shape g (replaced s d a e b i j)
replaced_across_as shape f g s d from a e to b i j r mapped tree c = reads_as shape f g s _ r mapped refl tree (λ x. by_three (Stays (held_of shape f) (held_of shape g)) j d e x (inr (gone_not_3 (ap (λ (n : Held). n.kind) c.gone))) (inr (dir_not_3 c.left.dir)) (inr (dir_not_3 c.row.dir)) (λ not_j not_d not_e. inl (c.others x not_d not_e not_j))) (row_replaced_across (held_of shape f) (held_of shape g) s d from a e to b i j (sound_of shape f s r) r.tree c)
