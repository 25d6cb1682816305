-- What a request that moves a name answers, by what its calls found.
use Rattle.request_ends.proofs.Common.{◌≡◌, ◌≢◌, ◌==◌, ◌&&◌, ◌⊎◌, ℕ, ◌<◌, Bool, true, false, cond, List, [], ◌∷◌, refl, sym, ap, subst, ◌∙◌, arith, inl, inr, Result, Ok, Err, get, Decides-eqb, Ino, VolumeShape, BlockWords, Seen, Kept, Answered, Reply, State, answered, at_inode, refused, front_of, last_of, held_of, is_dir, walk, walk_to_dir, volume_layout, ReadsAs, LeavesInUse, TreeRule, differs, IsInode, Inode, is_below, refused_by}
use Rattle.std.proofs.Common.{◌||◌}
use Rattle.std.specs.Prelude.{length}
use Rattle.rio_requests.specs.declared.reply.Reply.TheVariants.{Ok as Done}
use Rattle.rio_requests.specs.Answers.{is_among, rename_at, rename_row, rename_to, replace_row, at_row, is_open, replaced}
use Rattle.rio_model.specs.declared.refusal.Refusal.TheVariants.{Exists, IsRoot, Busy, InsideItself}
use Rattle.request_ends.specs.Ends.{FileEnds}
use Rattle.node_moving.specs.WalkRules.{OutOfReach}
use Rattle.node_moving.proofs.WalkRules.{out_of_reach, path_row, walk_last, walk_last_err}
use Rattle.file_tree.specs.Walks.{Comes, RowComes}
use Rattle.request_ends.specs.declared.failures.FileFail.{FileFail}
use Rattle.request_ends.specs.declared.failures.FileFail.TheVariants.{Refused, Fault, Stopped, Memory}
use Rattle.file_tree.specs.declared.walking.Row.{Row}
use Rattle.node_moving.proofs.AmongInodes.{open_read}
use Rattle.request_ends.proofs.AnsweredAt.{FailsBy, ends_after}
use Rattle.file_tree.proofs.LookedAt.{fails_walk, dir_read, inode_kind_held, leaf_read}

-- ---- a row over another one

abbrev replace_by : State → State → Bool → Bool → Bool → Answered
replace_by s t same dir busy = cond same (answered s Done) (cond dir (refused s Exists) (cond busy (refused s Busy) (answered t Done)))

-- its three tests
replace_tests : (s : State) (busy : List ℕ) (d : ℕ) (a : List ℕ) (e : ℕ) (b : List ℕ) (i j : ℕ) (same dir taken : Bool) → (i == j) ≡ same → (is_dir (get s.nodes i) || is_dir (get s.nodes j)) ≡ dir → is_open busy j (get s.nodes j) ≡ taken → replace_row s busy d a e b i j ≡ replace_by s (replaced s d a e b i j) same dir taken
replace_tests s busy d a e b i j same dir taken x y z =
    ap (λ t. replace_by s (replaced s d a e b i j) t (is_dir (get s.nodes i) || is_dir (get s.nodes j)) (is_open busy j (get s.nodes j))) x
    ∙ ap (λ t. replace_by s (replaced s d a e b i j) same t (is_open busy j (get s.nodes j))) y
    ∙ ap (λ t. replace_by s (replaced s d a e b i j) same dir t) z

pub replace_same : (s : State) (busy : List ℕ) (d : ℕ) (a : List ℕ) (e : ℕ) (b : List ℕ) (i j : ℕ) → i ≡ j → replace_row s busy d a e b i j ≡ answered s Done
replace_same s busy d a e b i j same = replace_tests s busy d a e b i j true (is_dir (get s.nodes i) || is_dir (get s.nodes j)) (is_open busy j (get s.nodes j)) ((Decides-eqb i j).1 same) refl refl

-- the inodes of both were read
pub record InodesRead (shape : VolumeShape) (f : BlockWords) (from to : Row) (moved gone : Inode) : Type 0 where
  pub used : 0 < (held_of shape f from.ino.0).kind
  pub used_to : 0 < (held_of shape f to.ino.0).kind
  pub is_moved : IsInode f from.ino.0 moved
  pub is_gone : IsInode f to.ino.0 gone

pub moved_kind : (shape : VolumeShape) (f : BlockWords) (from to : Row) (moved gone : Inode) → InodesRead shape f from to moved gone → moved.kind ≡ (held_of shape f from.ino.0).kind
moved_kind shape f from to moved gone h = inode_kind_held shape f from.ino.0 moved h.used h.is_moved

pub gone_kind : (shape : VolumeShape) (f : BlockWords) (from to : Row) (moved gone : Inode) → InodesRead shape f from to moved gone → gone.kind ≡ (held_of shape f to.ino.0).kind
gone_kind shape f from to moved gone h = inode_kind_held shape f to.ino.0 gone h.used_to h.is_gone

or_true : (b : Bool) → (b || true) ≡ true
or_true true = refl
or_true false = refl

-- one of them is a directory
one_dir : (shape : VolumeShape) (f : BlockWords) (s : State) (from to : Row) (moved gone : Inode) → ReadsAs shape f s → InodesRead shape f from to moved gone → (moved.kind ≡ 1) ⊎ (gone.kind ≡ 1) → (is_dir (get s.nodes from.ino.0) || is_dir (get s.nodes to.ino.0)) ≡ true
one_dir shape f s from to moved gone reads h (inl dir) = ap (λ t. t || is_dir (get s.nodes to.ino.0)) (dir_read shape f s from.ino.0 reads (sym (moved_kind shape f from to moved gone h) ∙ dir))
one_dir shape f s from to moved gone reads h (inr dir) = ap (λ t. is_dir (get s.nodes from.ino.0) || t) (dir_read shape f s to.ino.0 reads (sym (gone_kind shape f from to moved gone h) ∙ dir)) ∙ or_true (is_dir (get s.nodes from.ino.0))

-- or neither
no_dir : (shape : VolumeShape) (f : BlockWords) (s : State) (from to : Row) (moved gone : Inode) → ReadsAs shape f s → InodesRead shape f from to moved gone → moved.kind ≢ 1 → gone.kind ≢ 1 → (is_dir (get s.nodes from.ino.0) || is_dir (get s.nodes to.ino.0)) ≡ false
no_dir shape f s from to moved gone reads h leaf leaf_to =
    ap (λ t. t || is_dir (get s.nodes to.ino.0)) (leaf_read shape f s from.ino.0 reads (λ dir. leaf (moved_kind shape f from to moved gone h ∙ dir)))
    ∙ leaf_read shape f s to.ino.0 reads (λ dir. leaf_to (gone_kind shape f from to moved gone h ∙ dir))

pub replace_dir : (shape : VolumeShape) (f : BlockWords) (s : State) (busy : List ℕ) (from : Row) (a : List ℕ) (to : Row) (b : List ℕ) (moved gone : Inode) → ReadsAs shape f s → InodesRead shape f from to moved gone → from.ino.0 ≢ to.ino.0 → (moved.kind ≡ 1) ⊎ (gone.kind ≡ 1) → replace_row s busy from.dir.0 a to.dir.0 b from.ino.0 to.ino.0 ≡ refused s Exists
replace_dir shape f s busy from a to b moved gone reads h other dir = replace_tests s busy from.dir.0 a to.dir.0 b from.ino.0 to.ino.0 false true (is_open busy to.ino.0 (get s.nodes to.ino.0)) (differs from.ino.0 to.ino.0 other) (one_dir shape f s from to moved gone reads h dir) refl

pub replace_busy : (shape : VolumeShape) (f : BlockWords) (s : State) (busy : List ℕ) (from : Row) (a : List ℕ) (to : Row) (b : List ℕ) (moved gone : Inode) → ReadsAs shape f s → InodesRead shape f from to moved gone → from.ino.0 ≢ to.ino.0 → moved.kind ≢ 1 → gone.kind ≢ 1 → ((gone.kind == 3) && is_among busy to.ino.0) ≡ true → replace_row s busy from.dir.0 a to.dir.0 b from.ino.0 to.ino.0 ≡ refused s Busy
replace_busy shape f s busy from a to b moved gone reads h other leaf leaf_to taken = replace_tests s busy from.dir.0 a to.dir.0 b from.ino.0 to.ino.0 false false true (differs from.ino.0 to.ino.0 other) (no_dir shape f s from to moved gone reads h leaf leaf_to) (open_read shape f s busy to.ino.0 gone.kind reads h.used_to (gone_kind shape f from to moved gone h) ∙ taken)

pub replace_done : (shape : VolumeShape) (f : BlockWords) (s : State) (busy : List ℕ) (from : Row) (a : List ℕ) (to : Row) (b : List ℕ) (moved gone : Inode) → ReadsAs shape f s → InodesRead shape f from to moved gone → from.ino.0 ≢ to.ino.0 → moved.kind ≢ 1 → gone.kind ≢ 1 → ((gone.kind == 3) && is_among busy to.ino.0) ≡ false → replace_row s busy from.dir.0 a to.dir.0 b from.ino.0 to.ino.0 ≡ answered (replaced s from.dir.0 a to.dir.0 b from.ino.0 to.ino.0) Done
replace_done shape f s busy from a to b moved gone reads h other leaf leaf_to shut = replace_tests s busy from.dir.0 a to.dir.0 b from.ino.0 to.ino.0 false false false (differs from.ino.0 to.ino.0 other) (no_dir shape f s from to moved gone reads h leaf leaf_to) (open_read shape f s busy to.ino.0 gone.kind reads h.used_to (gone_kind shape f from to moved gone h) ∙ shut)

-- ---- failures on the way

-- of the walk to the old path
abbrev after_from : State → List ℕ → List (List ℕ) → List (List ℕ) → ℕ → Answered
after_from s busy p [] i = refused s IsRoot
after_from s busy p (n ∷ ns) i = at_row s (n ∷ ns) (rename_to s busy p (n ∷ ns) i)

rename_goes : (s : State) (busy : List ℕ) (p q : List (List ℕ)) → rename_at s busy p q ≡ at_inode s (walk s 1 p) (after_from s busy p q)
rename_goes s busy p [] = refl
rename_goes s busy p (n ∷ ns) = refl

pub fails_from : (s : State) (busy : List ℕ) (p q : List (List ℕ)) (r : Result Ino FileFail) (e : FileFail) → r ≡ Err e → Comes (walk s 1 p) r → FailsBy s (rename_at s busy p q) e
fails_from s busy p q r e is h = subst (λ a. FailsBy s a e) (sym (rename_goes s busy p q)) (fails_walk s (walk s 1 p) (after_from s busy p q) r e is h)

-- of the walk to the new one
rename_after : (s : State) (busy : List ℕ) (p q : List (List ℕ)) (i : ℕ) → walk s 1 p ≡ Ok i → 0 < length q → rename_at s busy p q ≡ at_inode s (walk_to_dir s (front_of q)) (rename_to s busy p q i)
rename_after s busy p [] i at some = absurd (omega (arith, some))
rename_after s busy p (n ∷ ns) i at some = ap (λ (w : Result ℕ ℕ). at_inode s w (λ x. at_row s (n ∷ ns) (rename_to s busy p (n ∷ ns) x))) at

pub fails_to : (s : State) (busy : List ℕ) (p q front : List (List ℕ)) (i : ℕ) (r : Result Ino FileFail) (e : FileFail) → walk s 1 p ≡ Ok i → 0 < length q → front_of q ≡ front → r ≡ Err e → Comes (walk_to_dir s front) r → FailsBy s (rename_at s busy p q) e
fails_to s busy p q front i r e at some cut is h = subst (λ a. FailsBy s a e) (sym (rename_after s busy p q i at some)) (fails_walk s (walk_to_dir s (front_of q)) (rename_to s busy p q i) r e is (subst (λ ns. Comes (walk_to_dir s ns) r) (sym cut) h))

-- the row of the old path is there, once the walk to it came to a node
row_as : (s : State) (a : Answered) (p : List (List ℕ)) (i : ℕ) (e : FileFail) → 0 < length p → walk s 1 p ≡ Ok i → RowComes s p (Err e) → FailsBy s a e
row_as s a p i (Refused c) some at (inl none) = absurd (let err = walk_last_err s p c some none in cc (err, at))
row_as s a p i (Refused c) some at (inr (dir, to, none)) = absurd (let err = walk_last s p dir some to ∙ none in cc (err, at))
row_as s a p i (Fault k) some at h = h
row_as s a p i Stopped some at h = tt
row_as s a p i Memory some at h = tt

pub fails_row : (s : State) (a : Answered) (p : List (List ℕ)) (i : ℕ) (r : Result Row FileFail) (e : FileFail) → 0 < length p → walk s 1 p ≡ Ok i → r ≡ Err e → RowComes s p r → FailsBy s a e
fails_row s a p i r e some at is h = row_as s a p i e some at (subst (λ (v : Result Row FileFail). RowComes s p v) is h)

-- ---- refused, or ended by a later call

pub ends_no : {T : Type 0} (says : T → Reply → Type 0) (shape : VolumeShape) (x : Seen) (k : Kept) (y : Seen) (j : Kept) (s : State) (a : Answered) (leads : ℕ → State → Type 0) (number : ℕ) → a ≡ refused_by s number → LeavesInUse (volume_layout shape x.words) x k y j → FileEnds {T = T} says shape x k y j s a leads (Err (Refused number))
ends_no says shape x k y j s a leads number is leaves = (ap (λ (b : Answered). b.reply) is, ap (λ (b : Answered). b.next) is, leaves)

-- by a call that answers the same
pub ends_by_call : {T : Type 0} (says : T → Reply → Type 0) (shape : VolumeShape) (x : Seen) (k : Kept) (m : Seen) (l : Kept) (y : Seen) (j : Kept) (s : State) (a b : Answered) (leads : ℕ → State → Type 0) (r : Result T FileFail) → a ≡ b → LeavesInUse (volume_layout shape x.words) x k m l → m.words ≡ x.words → FileEnds says shape m l y j s b leads r → FileEnds says shape x k y j s a leads r
ends_by_call says shape x k m l y j s a b leads r is leaves words h = ends_after says shape x k m l y j s a leads r leaves words (subst (λ c. FileEnds says shape m l y j s c leads r) (sym is) h)

-- ---- what is answered

pub rename_new_root : (s : State) (busy : List ℕ) (p q : List (List ℕ)) (i : ℕ) → walk s 1 p ≡ Ok i → q ≡ [] → rename_at s busy p q ≡ refused s IsRoot
rename_new_root s busy p q i at root = ap (rename_at s busy p) root ∙ ap (λ (w : Result ℕ ℕ). at_inode s w (λ x. refused s IsRoot)) at

-- both walks come to something
pub record Walked (s : State) (p q : List (List ℕ)) (i dir : ℕ) : Type 0 where
  pub from : walk s 1 p ≡ Ok i
  pub some : 0 < length q
  pub to : walk_to_dir s (front_of q) ≡ Ok dir

rename_walked : (s : State) (busy : List ℕ) (p q : List (List ℕ)) (i dir : ℕ) → Walked s p q i dir → rename_at s busy p q ≡ rename_to s busy p q i dir
rename_walked s busy p q i dir w = rename_after s busy p q i w.from w.some ∙ ap (λ (v : Result ℕ ℕ). at_inode s v (rename_to s busy p q i)) w.to

pub rename_old_root : (s : State) (busy : List ℕ) (p q : List (List ℕ)) (i dir : ℕ) → Walked s p q i dir → p ≡ [] → rename_at s busy p q ≡ refused s IsRoot
rename_old_root s busy p q i dir w root = rename_walked s busy p q i dir w ∙ ap (λ ns. rename_to s busy ns q i dir) root

pub rename_inside : (s : State) (busy : List ℕ) (p q : List (List ℕ)) (i dir : ℕ) → Walked s p q i dir → 0 < length p → is_below p q ≡ true → rename_at s busy p q ≡ refused s InsideItself
rename_inside s busy p q i dir w some below = rename_walked s busy p q i dir w ∙ by p some below
  where
    by : (p : List (List ℕ)) → 0 < length p → is_below p q ≡ true → rename_to s busy p q i dir ≡ refused s InsideItself
    by [] none b = absurd (omega (arith, none))
    by (n ∷ ns) none b = ap (λ t. cond t (refused s InsideItself) (at_row s (n ∷ ns) (λ d. rename_row s busy d (last_of (n ∷ ns)) dir (last_of q) i (get s.names (dir, last_of q))))) b

rename_beside : (s : State) (busy : List ℕ) (p q : List (List ℕ)) (i dir d : ℕ) → Walked s p q i dir → 0 < length p → is_below p q ≡ false → walk_to_dir s (front_of p) ≡ Ok d → rename_at s busy p q ≡ rename_row s busy d (last_of p) dir (last_of q) i (get s.names (dir, last_of q))
rename_beside s busy p q i dir d w some below at = rename_walked s busy p q i dir w ∙ by p some below at
  where
    by : (p : List (List ℕ)) → 0 < length p → is_below p q ≡ false → walk_to_dir s (front_of p) ≡ Ok d → rename_to s busy p q i dir ≡ rename_row s busy d (last_of p) dir (last_of q) i (get s.names (dir, last_of q))
    by [] none b to = absurd (omega (arith, none))
    by (n ∷ ns) none b to =
        ap (λ t. cond t (refused s InsideItself) (at_row s (n ∷ ns) (λ x. rename_row s busy x (last_of (n ∷ ns)) dir (last_of q) i (get s.names (dir, last_of q))))) b
        ∙ ap (λ (v : Result ℕ ℕ). at_inode s v (λ x. rename_row s busy x (last_of (n ∷ ns)) dir (last_of q) i (get s.names (dir, last_of q)))) to

-- the row of the old path names the node that the walk came to
row_ino : (s : State) (p : List (List ℕ)) (i : ℕ) (row : Row) → 0 < length p → walk s 1 p ≡ Ok i → RowComes s p (Ok row) → i ≡ row.ino.0
row_ino s p i row some at h = let own = path_row s p row.dir.0 i some h.0 at in let is = h.1 in cc (own, is)

pub rename_moves : (s : State) (busy : List ℕ) (p q : List (List ℕ)) (i dir : ℕ) (row : Row) (name : List ℕ) → Walked s p q i dir → 0 < length p → is_below p q ≡ false → RowComes s p (Ok row) → last_of q ≡ name → rename_at s busy p q ≡ rename_row s busy row.dir.0 (last_of p) dir name row.ino.0 (get s.names (dir, name))
rename_moves s busy p q i dir row name w some below h last =
    rename_beside s busy p q i dir row.dir.0 w some below h.0
    ∙ ap (λ n. rename_row s busy row.dir.0 (last_of p) dir n i (get s.names (dir, n))) last
    ∙ ap (λ n. rename_row s busy row.dir.0 (last_of p) dir name n (get s.names (dir, name))) (row_ino s p i row some w.from h)

pub rename_out : (s : State) (p q : List (List ℕ)) (i dir : ℕ) (row : Row) → TreeRule s → Walked s p q i dir → 0 < length p → is_below p q ≡ false → RowComes s p (Ok row) → OutOfReach s row.ino.0 dir
rename_out s p q i dir row tree w some below h = out_of_reach s row.ino.0 dir p q tree (w.from ∙ ap Ok (row_ino s p i row some w.from h)) w.to w.some below
