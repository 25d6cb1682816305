-- What look-ups by name answer, by the state that the blocks read as.
use Rattle.request_ends.proofs.Common.{◌≡◌, ℕ, ◌<◌, true, false, cond, List, [], ◌∷◌, refl, sym, ap, subst, ◌∙◌, arith, inl, inr, Result, Ok, Err, Some, None, get, cases_Bool, Ino, VolumeShape, BlockWords, State, front_of, last_of, entry_ino, held_of, from_found, is_dir, walk, walk_to_dir, reads_dir, reads_region, ReadsAs, region_in, Inode, IsInode, found, Answered, at_inode}
use Rattle.directories.specs.Rows.{HasRow, IsEntry}
use Rattle.region_view.proofs.UsedInodes.{kind_held, used_ino}
use Rattle.std.specs.Prelude.{Option}
use Rattle.rio_model.specs.Paths.{as_dir}
use Rattle.request_ends.specs.declared.failures.FileFail.{FileFail}
use Rattle.request_ends.specs.declared.failures.FileFail.TheVariants.{Refused, Fault, Stopped, Memory}
use Rattle.request_ends.specs.Failures.{Refuses, Unrefused}
use Rattle.file_tree.proofs.RowReads.{dir_kind}
use Rattle.rio_model.proofs.Walks.{walk_on, walk_over}
use Rattle.file_tree.specs.Walks.{Comes, FileComes, RowComes, ino_in}
use Rattle.file_tree.specs.declared.walking.Row.{Row}
use Rattle.request_ends.proofs.AnsweredAt.{FailsBy}

-- ---- kinds, in the state

pub dir_read : (shape : VolumeShape) (f : BlockWords) (s : State) (i : ℕ) → ReadsAs shape f s → (held_of shape f i).kind ≡ 1 → is_dir (get s.nodes i) ≡ true
dir_read shape f s i reads dir = ap is_dir (reads.reads.nodes i ∙ reads_dir (held_of shape f i) dir)

pub leaf_read : (shape : VolumeShape) (f : BlockWords) (s : State) (i : ℕ) → ReadsAs shape f s → ((held_of shape f i).kind ≡ 1 → ⊥) → is_dir (get s.nodes i) ≡ false
leaf_read shape f s i reads away = elim (cases_Bool (is_dir (get s.nodes i))) [
  | inl is ↦ absurd (away (dir_kind (held_of shape f) s i reads.reads is))
  | inr other ↦ other
]

-- ---- a row, in the state

pub row_read : (shape : VolumeShape) (f : BlockWords) (s : State) (d j : ℕ) (name : List ℕ) (i : ℕ) → ReadsAs shape f s → (held_of shape f d).kind ≡ 1 → IsEntry (held_of shape f d) j name i → get s.names (d, name) ≡ Some i
row_read shape f s d j name i reads dir entry =
    sym (ap (λ n. get s.names (d, n)) entry.named) ∙ reads.reads.entries d j (record { dir = dir; within = entry.within }) ∙ ap Some entry.ino

pub row_used : (shape : VolumeShape) (f : BlockWords) (s : State) (d j : ℕ) (name : List ℕ) (i : ℕ) → ReadsAs shape f s → (held_of shape f d).kind ≡ 1 → IsEntry (held_of shape f d) j name i → 0 < (held_of shape f i).kind
row_used shape f s d j name i reads dir entry = subst (λ n. 0 < (held_of shape f n).kind) entry.ino (reads.entries.each d j (record { dir = dir; within = entry.within })).1

pub no_row : (shape : VolumeShape) (f : BlockWords) (s : State) (d : ℕ) (name : List ℕ) → ReadsAs shape f s → ((n : ℕ) → HasRow (held_of shape f d) name n → ⊥) → get s.names (d, name) ≡ None
no_row shape f s d name reads none = by _ refl
  where
    by : (o : Option ℕ) → get s.names (d, name) ≡ o → o ≡ None
    by None e = refl
    by (Some n) e = (let at = reads.reads.names d name n e in absurd (none (entry_ino (held_of shape f d) at.0) (at.0, record { within = at.1.within; named = at.2; ino = refl })))

pub found_none : (s : State) (d : ℕ) (name : List ℕ) → get s.names (d, name) ≡ None → found s d name ≡ Err 2
found_none s d name none = ap (λ o. from_found o Ok) none

-- ---- one step

pub step_ok : (s : State) (d i : ℕ) (name : List ℕ) → is_dir (get s.nodes d) ≡ true → get s.names (d, name) ≡ Some i → walk s d (name ∷ []) ≡ Ok i
step_ok s d i name dir row = ap (λ b. cond b (found s d name) (Err 4)) dir ∙ ap (λ o. from_found o Ok) row

step_missing : (s : State) (d : ℕ) (name : List ℕ) → is_dir (get s.nodes d) ≡ true → get s.names (d, name) ≡ None → walk s d (name ∷ []) ≡ Err 2
step_missing s d name dir none = ap (λ b. cond b (found s d name) (Err 4)) dir ∙ found_none s d name none

step_leaf : (s : State) (d : ℕ) (name : List ℕ) → is_dir (get s.nodes d) ≡ false → walk s d (name ∷ []) ≡ Err 4
step_leaf s d name leaf = ap (λ b. cond b (found s d name) (Err 4)) leaf

-- a failure handed on, where a refusal of this number and reason is what the walk comes to
comes_as : (T : Type 0) (walked : Result ℕ ℕ) (number : ℕ) (why : Type 0) (e : FileFail) → Refuses {T = T} (Err e) number why → (why → walked ≡ Err number) → Comes walked (Err e)
comes_as T walked number why (Refused c) h go = go h.1 ∙ ap Err (sym h.0)
comes_as T walked number why (Fault k) h go = h
comes_as T walked number why Stopped h go = tt
comes_as T walked number why Memory h go = h

pub comes_refused : {T : Type 0} (walked : Result ℕ ℕ) (number : ℕ) (why : Type 0) (r : Result T FileFail) (q : Result Ino FileFail) (e d : FileFail) → r ≡ Err e → q ≡ Err d → d ≡ e → Refuses r number why → (why → walked ≡ Err number) → Comes walked q
comes_refused {T = T} walked number why r q e d re qd de h go = subst (λ (v : Result Ino FileFail). Comes walked v) (sym (qd ∙ ap Err de)) (comes_as T walked number why e (subst (λ (v : Result T FileFail). Refuses v number why) re h) go)

pub step_no_dir : {T : Type 0} (shape : VolumeShape) (f : BlockWords) (d : ℕ) (name : List ℕ) (r : Result T FileFail) (q : Result Ino FileFail) (e u : FileFail) → r ≡ Err e → q ≡ Err u → u ≡ e → Refuses r 4 ((held_of shape f d).kind ≡ 1 → ⊥) → (s : State) → ReadsAs shape f s → Comes (walk s d (name ∷ [])) q
step_no_dir shape f d name r q e u re qu ue h s reads = comes_refused _ 4 _ r q e u re qu ue h (λ away. step_leaf s d name (leaf_read shape f s d reads away))

pub step_no_row : {T : Type 0} (shape : VolumeShape) (f : BlockWords) (d : ℕ) (name : List ℕ) (r : Result T FileFail) (q : Result Ino FileFail) (e u : FileFail) → (held_of shape f d).kind ≡ 1 → r ≡ Err e → q ≡ Err u → u ≡ e → Refuses r 2 ((n : ℕ) → HasRow (held_of shape f d) name n → ⊥) → (s : State) → ReadsAs shape f s → Comes (walk s d (name ∷ [])) q
step_no_row shape f d name r q e u dir re qu ue h s reads = comes_refused _ 2 _ r q e u re qu ue h (λ none. step_missing s d name (dir_read shape f s d reads dir) (no_row shape f s d name reads none))

pub step_taken : (shape : VolumeShape) (f : BlockWords) (d j : ℕ) (name : List ℕ) (i : ℕ) → (held_of shape f d).kind ≡ 1 → IsEntry (held_of shape f d) j name i → (s : State) → ReadsAs shape f s → walk s d (name ∷ []) ≡ Ok i
step_taken shape f d j name i dir entry s reads = step_ok s d i name (dir_read shape f s d reads dir) (row_read shape f s d j name i reads dir entry)

-- ---- a walk to a directory

to_leaf : (s : State) (walked : Result ℕ ℕ) (i : ℕ) → walked ≡ Ok i → is_dir (get s.nodes i) ≡ false → as_dir s walked ≡ Err 4
to_leaf s walked i at leaf = ap (as_dir s) at ∙ ap (λ b. cond b (Ok i) (Err 4)) leaf

to_dir : (s : State) (walked : Result ℕ ℕ) (i : ℕ) → walked ≡ Ok i → is_dir (get s.nodes i) ≡ true → as_dir s walked ≡ Ok i
to_dir s walked i at dir = ap (as_dir s) at ∙ ap (λ b. cond b (Ok i) (Err 4)) dir

comes_to : (s : State) (walked : Result ℕ ℕ) (e : FileFail) → Comes walked (Err e) → Comes (as_dir s walked) (Err e)
comes_to s walked (Refused c) h = ap (as_dir s) h
comes_to s walked (Fault k) h = h
comes_to s walked Stopped h = tt
comes_to s walked Memory h = h

pub to_dir_walk : (s : State) (walked : Result ℕ ℕ) (r q : Result Ino FileFail) (e d : FileFail) → r ≡ Err e → q ≡ Err d → d ≡ e → Comes walked r → Comes (as_dir s walked) q
to_dir_walk s walked r q e d re qd de h = subst (λ (v : Result Ino FileFail). Comes (as_dir s walked) v) (sym (qd ∙ ap Err de)) (comes_to s walked e (subst (λ (v : Result Ino FileFail). Comes walked v) re h))

pub to_dir_leaf : {T : Type 0} (shape : VolumeShape) (f : BlockWords) (s : State) (walked : Result ℕ ℕ) (i : ℕ) (r : Result T FileFail) (q : Result Ino FileFail) (e d : FileFail) → walked ≡ Ok i → r ≡ Err e → q ≡ Err d → d ≡ e → Refuses r 4 ((held_of shape f i).kind ≡ 1 → ⊥) → ReadsAs shape f s → Comes (as_dir s walked) q
to_dir_leaf shape f s walked i r q e d at re qd de h reads = comes_refused _ 4 _ r q e d re qd de h (λ away. to_leaf s walked i at (leaf_read shape f s i reads away))

pub to_dir_ok : (shape : VolumeShape) (f : BlockWords) (s : State) (walked : Result ℕ ℕ) (i : ℕ) → walked ≡ Ok i → (held_of shape f i).kind ≡ 1 → ReadsAs shape f s → as_dir s walked ≡ Ok i
to_dir_ok shape f s walked i at dir reads = to_dir s walked i at (dir_read shape f s i reads dir)

-- ---- a row at the end of a path

row_as : (s : State) (names : List (List ℕ)) (e : FileFail) → Comes (walk_to_dir s (front_of names)) (Err e) → RowComes s names (Err e)
row_as s names (Refused c) h = inl h
row_as s names (Fault k) h = h
row_as s names Stopped h = tt
row_as s names Memory h = h

pub row_no_dir : (s : State) (names front : List (List ℕ)) (r : Result Ino FileFail) (q : Result Row FileFail) (e d : FileFail) → front_of names ≡ front → r ≡ Err e → q ≡ Err d → d ≡ e → Comes (walk_to_dir s front) r → RowComes s names q
row_no_dir s names front r q e d is re qd de h = subst (λ (v : Result Row FileFail). RowComes s names v) (sym (qd ∙ ap Err de)) (row_as s names e (subst (λ (v : Result Ino FileFail). Comes (walk_to_dir s (front_of names)) v) re (subst (λ ns. Comes (walk_to_dir s ns) r) (sym is) h)))

row_none : (T : Type 0) (s : State) (names : List (List ℕ)) (dir : ℕ) (why : Type 0) (e : FileFail) → walk_to_dir s (front_of names) ≡ Ok dir → (why → found s dir (last_of names) ≡ Err 2) → Refuses {T = T} (Err e) 2 why → RowComes s names (Err e)
row_none T s names dir why (Refused c) at none h = inr (dir, at, none h.1 ∙ ap Err (sym h.0))
row_none T s names dir why (Fault k) at none h = h
row_none T s names dir why Stopped at none h = tt
row_none T s names dir why Memory at none h = h

pub row_missing : {T : Type 0} (shape : VolumeShape) (f : BlockWords) (s : State) (names front : List (List ℕ)) (name : List ℕ) (dir : ℕ) (r : Result T FileFail) (q : Result Row FileFail) (e d : FileFail) → front_of names ≡ front → last_of names ≡ name → walk_to_dir s front ≡ Ok dir → r ≡ Err e → q ≡ Err d → d ≡ e → Refuses r 2 ((n : ℕ) → HasRow (held_of shape f dir) name n → ⊥) → ReadsAs shape f s → RowComes s names q
row_missing {T = T} shape f s names front name dir r q e d cut last at re qd de h reads =
    subst (λ (v : Result Row FileFail). RowComes s names v) (sym (qd ∙ ap Err de))
    (row_none T s names dir _ e (ap (walk_to_dir s) cut ∙ at) (λ none. ap (found s dir) last ∙ found_none s dir name (no_row shape f s dir name reads none)) (subst (λ (v : Result T FileFail). Refuses v 2 ((n : ℕ) → HasRow (held_of shape f dir) name n → ⊥)) re h))

pub row_there : (shape : VolumeShape) (f : BlockWords) (s : State) (names front : List (List ℕ)) (name : List ℕ) (dir slot i : ℕ) → front_of names ≡ front → last_of names ≡ name → walk_to_dir s front ≡ Ok dir → (held_of shape f dir).kind ≡ 1 → IsEntry (held_of shape f dir) slot name i → ReadsAs shape f s → (walk_to_dir s (front_of names) ≡ Ok dir) × (get s.names (dir, last_of names) ≡ Some i)
row_there shape f s names front name dir slot i cut last at is entry reads = (ap (walk_to_dir s) cut ∙ at, ap (λ n. get s.names (dir, n)) last ∙ row_read shape f s dir slot name i reads is entry)

-- ---- over one name and more

pub comes_on : (s : State) (i : ℕ) (name : List ℕ) (more : List (List ℕ)) (r q : Result Ino FileFail) (e d : FileFail) → r ≡ Err e → q ≡ Err d → d ≡ e → Comes (walk s i (name ∷ [])) r → Comes (walk s i (name ∷ more)) q
comes_on s i name more r q e d re qd de h = subst (λ (v : Result Ino FileFail). Comes (walk s i (name ∷ more)) v) (sym (qd ∙ ap Err de)) (by e (subst (λ (v : Result Ino FileFail). Comes (walk s i (name ∷ [])) v) re h))
  where
    by : (x : FileFail) → Comes (walk s i (name ∷ [])) (Err x) → Comes (walk s i (name ∷ more)) (Err x)
    by (Refused c) h = walk_over s i (name ∷ []) more ∙ ap (λ (w : Result ℕ ℕ). walk_on s w more) h
    by (Fault k) h = h
    by Stopped h = tt
    by Memory h = h

pub walk_next : (s : State) (i j : ℕ) (name : List ℕ) (more : List (List ℕ)) → walk s i (name ∷ []) ≡ Ok j → walk s i (name ∷ more) ≡ walk s j more
walk_next s i j name more h = walk_over s i (name ∷ []) more ∙ ap (λ (w : Result ℕ ℕ). walk_on s w more) h

-- the same walk, by another name
pub comes_same : (walked other : Result ℕ ℕ) (q : Result Ino FileFail) → walked ≡ other → Comes other q → Comes walked q
comes_same walked other q same h = subst (λ (w : Result ℕ ℕ). Comes w q) (sym same) h

-- a failure handed on
pub comes_handed : (walked : Result ℕ ℕ) (r q : Result Ino FileFail) (e d : FileFail) → r ≡ Err e → q ≡ Err d → d ≡ e → Comes walked r → Comes walked q
comes_handed walked r q e d re qd de h = subst (λ (v : Result Ino FileFail). Comes walked v) (re ∙ sym (qd ∙ ap Err de)) h

-- where its inode is told too: that failed
pub comes_in : (walked : Result ℕ ℕ) (r : Result (Ino × Inode) FileFail) (q : Result Ino FileFail) (e d : FileFail) → r ≡ Err e → q ≡ Err d → d ≡ e → Comes walked (ino_in r) → Comes walked q
comes_in walked r q e d re qd de h = subst (λ (v : Result Ino FileFail). Comes walked v) (ap ino_in re ∙ sym (qd ∙ ap Err de)) h

-- ---- an inode that was read

pub inode_kind_held : (shape : VolumeShape) (f : BlockWords) (i : ℕ) (n : Inode) → 0 < (held_of shape f i).kind → IsInode f i n → n.kind ≡ (held_of shape f i).kind
inode_kind_held shape f i n used is = is.kind ∙ sym (kind_held shape f i (used_ino shape f i used))

-- a failure of a call that refuses nothing, handed on
unrefused_as : (T U : Type 0) (number : ℕ) (why : Type 0) (e : FileFail) → Unrefused {T = T} (Err e) → Refuses {T = U} (Err e) number why
unrefused_as T U number why (Refused c) h = absurd h.1
unrefused_as T U number why (Fault k) h = h
unrefused_as T U number why Stopped h = tt
unrefused_as T U number why Memory h = h

pub unrefused_on : {T U : Type 0} (number : ℕ) (why : Type 0) (r : Result T FileFail) (q : Result U FileFail) (e d : FileFail) → r ≡ Err e → q ≡ Err d → d ≡ e → Unrefused r → Refuses q number why
unrefused_on {T = T} {U = U} number why r q e d re qd de h = subst (λ (v : Result U FileFail). Refuses v number why) (sym (qd ∙ ap Err de)) (unrefused_as T U number why e (subst (λ (v : Result T FileFail). Unrefused v) re h))

-- ---- a walk to a file

file_as : (s : State) (walked : Result ℕ ℕ) (e : FileFail) → Comes walked (Err e) → FileComes s walked (Err e)
file_as s walked (Refused c) h = inl h
file_as s walked (Fault k) h = h
file_as s walked Stopped h = tt
file_as s walked Memory h = h

pub file_walk : (s : State) (walked : Result ℕ ℕ) (r q : Result Ino FileFail) (e d : FileFail) → r ≡ Err e → q ≡ Err d → d ≡ e → Comes walked r → FileComes s walked q
file_walk s walked r q e d re qd de h = subst (λ (v : Result Ino FileFail). FileComes s walked v) (sym (qd ∙ ap Err de)) (file_as s walked e (subst (λ (v : Result Ino FileFail). Comes walked v) re h))

file_none : (T : Type 0) (s : State) (walked : Result ℕ ℕ) (e : FileFail) → Unrefused {T = T} (Err e) → FileComes s walked (Err e)
file_none T s walked (Refused c) h = absurd h.1
file_none T s walked (Fault k) h = h
file_none T s walked Stopped h = tt
file_none T s walked Memory h = h

pub file_inode : {T : Type 0} (s : State) (walked : Result ℕ ℕ) (r : Result T FileFail) (q : Result Ino FileFail) (e d : FileFail) → r ≡ Err e → q ≡ Err d → d ≡ e → Unrefused r → FileComes s walked q
file_inode {T = T} s walked r q e d re qd de h = subst (λ (v : Result Ino FileFail). FileComes s walked v) (sym (qd ∙ ap Err de)) (file_none T s walked e (subst (λ (v : Result T FileFail). Unrefused v) re h))

pub file_dir : (shape : VolumeShape) (f : BlockWords) (s : State) (walked : Result ℕ ℕ) (i : ℕ) → ReadsAs shape f s → walked ≡ Ok i → (held_of shape f i).kind ≡ 1 → FileComes s walked (Err (Refused 5))
file_dir shape f s walked i reads at dir = inr (i, at, inl (refl, reads.reads.nodes i ∙ reads_dir (held_of shape f i) dir))

pub file_region : (shape : VolumeShape) (f : BlockWords) (s : State) (walked : Result ℕ ℕ) (i : ℕ) → ReadsAs shape f s → walked ≡ Ok i → (held_of shape f i).kind ≡ 3 → FileComes s walked (Err (Refused 7))
file_region shape f s walked i reads at region = inr (i, at, inr (refl, (region_in (held_of shape f i).word, reads.reads.nodes i ∙ reads_region (held_of shape f i) region)))

-- a kind that is neither of them
pub file_left : (shape : VolumeShape) (f : BlockWords) (s : State) (i : ℕ) → ReadsAs shape f s → 0 < (held_of shape f i).kind → ((held_of shape f i).kind ≡ 1 → ⊥) → ((held_of shape f i).kind ≡ 3 → ⊥) → (held_of shape f i).kind ≡ 2
file_left shape f s i reads used no_dir no_region =
    let ino = used_ino shape f i used in
    let few = (reads.mapped.laid.kinds.each i ino).0 in
    let same = kind_held shape f i ino in
    omega (arith, few, same, used, no_dir, no_region)

-- ---- a request whose walk failed

pub fails_walk : (s : State) (walked : Result ℕ ℕ) (go : ℕ → Answered) (r : Result Ino FileFail) (e : FileFail) → r ≡ Err e → Comes walked r → FailsBy s (at_inode s walked go) e
fails_walk s walked go r e re h = by e (subst (λ (v : Result Ino FileFail). Comes walked v) re h)
  where
    by : (f : FileFail) → Comes walked (Err f) → FailsBy s (at_inode s walked go) f
    by (Refused c) c_is = ap (λ (w : Result ℕ ℕ). at_inode s w go) c_is
    by (Fault n) none = none
    by Stopped u = tt
    by Memory u = tt
