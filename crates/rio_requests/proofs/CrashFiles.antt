-- A stop before a request on files is a stop after it: the answer of a state whose open transactions are undone is the answer
-- of the state, with its open transactions undone.
use Rattle.rio_requests.proofs.Common.{◌≡◌, ◌+◌, ◌*◌, ◌/◌, ◌==◌, ℕ, Bool, true, false, cond, List, [], ◌∷◌, length, refl, sym, ap, subst, ◌∙◌, inl, inr, is_none, find, nat_lt, Result, Ok, Err, range_with_len, get, Node, Dir, File, Region, State, resized, is_dir, walk, walk_to_dir, free_count, largest_size, front_of, last_of, least_free, names_in, with_new, with_node, open_inodes, region_words}
use Rattle.std.proofs.Common.{◌||◌, not, Option, Some, None}
use Rattle.rio_base.specs.Rules.{true_false}
use Rattle.rio_model.specs.FileParts.{LeadsTo, written}
use Rattle.rio_model.specs.Paths.{names_of}
use Rattle.rio_model.specs.States.{bytes_from}
use Rattle.rio_model.specs.declared.refusal.Refusal.TheVariants.{NotFound, IsADirectory, IsARegion, TooLarge, NoSpace}
use Rattle.rio_requests.specs.declared.answered.Answered.{Answered}
use Rattle.rio_requests.specs.declared.reply.Reply.{Reply}
use Rattle.rio_requests.specs.declared.reply.Reply.TheVariants.{Ok as Done, Number, Bytes, Stat, Names as NamesOf}
use Rattle.rio_requests.specs.declared.request.Request.{Request}
use Rattle.rio_requests.specs.declared.request.Request.TheVariants.{Mkdir, Create, Region as MakeRegion, Write, Read, Truncate, Unlink, Rmdir, Rename, Stat as StatOf, List as ListOf, Sync, Put, Alloc, Free, Abort, Txns, Wild, Arm}
use Rattle.rio_requests.specs.Answer.{answered, at_inode, on_file, refused, refused_by}
use Rattle.rio_requests.specs.Answers.{answer_of, at_row, create, found, is_below, is_empty, is_open, list, make, make_new, make_region, make_row, mkdir, moved, new_blocks, new_region, read, read_in, region_at, region_row, rename, rename_at, rename_row, rename_to, replace_row, replaced, rmdir, rmdir_at, rmdir_node, row_wanted, stat, stat_node, truncate, truncate_in, unlink, unlink_at, unlink_node, wanted, with_room, with_size, without, write, write_file, write_in}
use Rattle.rio_requests.specs.Crash.{NotOpen, OpenRegions, crashed}
use Rattle.rio_requests.specs.Parts.{FaultStep, IsPart, LeadStep, NoneDone, PartOf, WriteDone}
use Rattle.rio_requests.proofs.CrashRules.{Alike, LeavesOpen, crash_alike, dir_not_open, file_crashed, file_not_open, free_count_crashed, idle_not_open, is_dir_crashed, is_open_crashed, least_free_crashed, leaves_itself, leaves_new, leaves_node, leaves_replaced, leaves_without, none_not_open, replaced_crashed, still_regions, walk_crashed, walk_to_dir_crashed, with_new_crashed, with_node_crashed, without_crashed}
use Rattle.rio_requests.specs.Requests.{OnFiles}

-- an answer, with the open transactions of the state after it undone
abbrev pub after_crash : Answered → Answered
after_crash a = record a { next = crashed a.next }

-- answer a of s leaves the open transactions open, and b is a after a stop
pub record StopsAlike (s : State) (a b : Answered) : Type 0 where
  pub leaves : LeavesOpen s a.next
  pub after : b ≡ after_crash a

-- ---- the parts of answers

stops_refused : (s : State) (number : ℕ) → StopsAlike s (refused_by s number) (refused_by (crashed s) number)
stops_refused s number = record { leaves = leaves_itself s; after = refl }

stops_answered : (s : State) (reply : Reply) → StopsAlike s (answered s reply) (answered (crashed s) reply)
stops_answered s reply = record { leaves = leaves_itself s; after = refl }

stops_next : (s t u : State) (reply : Reply) → LeavesOpen s t → crashed t ≡ u → StopsAlike s (answered t reply) (answered u reply)
stops_next s t u reply leaves e = record { leaves = leaves; after = ap (λ x. answered x reply) (sym e) }

stops_if : (s : State) (a b : Bool) (x y v w : Answered) → b ≡ a → (a ≡ true → StopsAlike s x v) → (a ≡ false → StopsAlike s y w) → StopsAlike s (cond a x y) (cond b v w)
stops_if s true b x y v w e h k = subst (λ c. StopsAlike s x (cond c v w)) (sym e) (h refl)
stops_if s false b x y v w e h k = subst (λ c. StopsAlike s y (cond c v w)) (sym e) (k refl)

stops_at : (s : State) (a b : Result ℕ ℕ) (go went : ℕ → Answered) → b ≡ a → ((i : ℕ) → StopsAlike s (go i) (went i)) → StopsAlike s (at_inode s a go) (at_inode (crashed s) b went)
stops_at s (Ok i) b go went e h = subst (λ c. StopsAlike s (go i) (at_inode (crashed s) c went)) (sym e) (h i)
stops_at s (Err number) b go went e h = subst (λ c. StopsAlike s (refused_by s number) (at_inode (crashed s) c went)) (sym e) (stops_refused s number)

stops_file : (s : State) (n m : Option Node) (go went : List ℕ → Answered) → Alike n m → ((bytes : List ℕ) → n ≡ Some (File bytes) → StopsAlike s (go bytes) (went bytes)) → StopsAlike s (on_file s n go) (on_file (crashed s) m went)
stops_file s None m go went e h = subst (λ x. StopsAlike s (refused s NotFound) (on_file (crashed s) x went)) (sym e) (stops_refused s 2)
stops_file s (Some Dir) m go went e h = subst (λ x. StopsAlike s (refused s IsADirectory) (on_file (crashed s) x went)) (sym e) (stops_refused s 5)
stops_file s (Some (File bytes)) m go went e h = subst (λ x. StopsAlike s (go bytes) (on_file (crashed s) x went)) (sym e) (h bytes refl)
stops_file s (Some (Region r)) m go went e h = subst (λ x. StopsAlike s (refused s IsARegion) (on_file (crashed s) x went)) (sym e.is) (stops_refused s 7)

stops_room : (s : State) → OpenRegions s → (wants : ℕ) (a b : Answered) → StopsAlike s a b → StopsAlike s (with_room s wants a) (with_room (crashed s) wants b)
stops_room s h wants a b k = stops_if s (nat_lt (free_count s) wants) (nat_lt (free_count (crashed s)) wants) (refused s NoSpace) a (refused (crashed s) NoSpace) b (ap (λ n. nat_lt n wants) (free_count_crashed s h)) (λ e. stops_refused s 11) (λ e. k)

stops_size : (s : State) → OpenRegions s → (size len : ℕ) (a b : Answered) → StopsAlike s a b → StopsAlike s (with_size s size len a) (with_size (crashed s) size len b)
stops_size s h size len a b k = stops_if s (nat_lt largest_size len) (nat_lt largest_size len) (refused s TooLarge) (with_room s (wanted size len) a) (refused (crashed s) TooLarge) (with_room (crashed s) (wanted size len) b) refl (λ e. stops_refused s 10) (λ e. stops_room s h (wanted size len) a b k)

-- at the directory of the last name
stops_row : (s : State) → OpenRegions s → (names : List (List ℕ)) (go went : ℕ → Answered) → ((dir : ℕ) → StopsAlike s (go dir) (went dir)) → StopsAlike s (at_row s names go) (at_row (crashed s) names went)
stops_row s h names go went k = stops_at s (walk_to_dir s (front_of names)) (walk_to_dir (crashed s) (front_of names)) go went (walk_to_dir_crashed s h (front_of names)) k

-- at the inode of a path
stops_path : (s : State) → OpenRegions s → (path : List ℕ) (go went : ℕ → Answered) → ((i : ℕ) → StopsAlike s (go i) (went i)) → StopsAlike s (at_inode s (walk s 1 (names_of path)) go) (at_inode (crashed s) (walk (crashed s) 1 (names_of path)) went)
stops_path s h path go went k = stops_at s (walk s 1 (names_of path)) (walk (crashed s) 1 (names_of path)) go went (walk_crashed s h (names_of path) 1) k

-- ---- mkdir, create, region

found_here : (p : ℕ → Bool) (x : ℕ) (xs : List ℕ) (i : ℕ) (b : Bool) → p x ≡ b → cond b (Some x) (find p xs) ≡ Some i → (find p xs ≡ Some i → p i ≡ true) → p i ≡ true
found_here p x xs i true here z rec = let same : i ≡ x = cc z in ap p same ∙ here
found_here p x xs i false here z rec = rec z

found_true : (p : ℕ → Bool) (xs : List ℕ) (i : ℕ) → find p xs ≡ Some i → p i ≡ true
found_true p [] i e = absurd (cc e)
found_true p (x ∷ xs) i e = found_here p x xs i (p x) refl e (found_true p xs i)

is_none_true : (n : Option Node) → is_none n ≡ true → n ≡ None
is_none_true None e = refl
is_none_true (Some n) e = absurd (true_false (sym e))

free_none : (s : State) (i : ℕ) → least_free s ≡ Some i → get s.nodes i ≡ None
free_none s i e = is_none_true _ (found_true (λ j. is_none (get s.nodes j)) (range_with_len 1 s.shape.inodes) i e)

new_by : (s : State) → OpenRegions s → (dir : ℕ) (name : List ℕ) (node : Node) (o : Option ℕ) → least_free s ≡ o → StopsAlike s (make_new s dir name node o) (make_new (crashed s) dir name node o)
new_by s h dir name node None e = stops_refused s 12
new_by s h dir name node (Some i) e =
    let none = none_not_open s h i (free_none s i e) in
    stops_room s h (new_blocks node + row_wanted s dir) _ _ (stops_next s (with_new s dir name i node) (with_new (crashed s) dir name i node) (Number i) (leaves_new s dir name i node none) (with_new_crashed s h dir name i node none))

stops_new : (s : State) → OpenRegions s → (dir : ℕ) (name : List ℕ) (node : Node) → StopsAlike s (make_new s dir name node (least_free s)) (make_new (crashed s) dir name node (least_free (crashed s)))
stops_new s h dir name node = subst (λ o. StopsAlike s (make_new s dir name node (least_free s)) (make_new (crashed s) dir name node o)) (sym (least_free_crashed s h)) (new_by s h dir name node (least_free s) refl)

stops_make_row : (s : State) → OpenRegions s → (dir : ℕ) (name : List ℕ) (node : Node) (i : Option ℕ) → StopsAlike s (make_row s dir name node i) (make_row (crashed s) dir name node i)
stops_make_row s h dir name node (Some i) = stops_refused s 3
stops_make_row s h dir name node None = stops_new s h dir name node

stops_make : (s : State) → OpenRegions s → (names : List (List ℕ)) (node : Node) → StopsAlike s (make s names node) (make (crashed s) names node)
stops_make s h [] node = stops_refused s 3
stops_make s h (name ∷ names) node = stops_row s h (name ∷ names) _ _ (λ dir. stops_make_row s h dir (last_of (name ∷ names)) node (get s.names (dir, last_of (name ∷ names))))

stops_region_row : (s : State) → OpenRegions s → (dir : ℕ) (name : List ℕ) (pages undo : ℕ) (i : Option ℕ) → StopsAlike s (region_row s dir name pages undo i) (region_row (crashed s) dir name pages undo i)
stops_region_row s h dir name pages undo (Some i) = stops_refused s 3
stops_region_row s h dir name pages undo None =
    let large = nat_lt largest_size (8 * region_words undo pages) in
    stops_if s large large _ _ _ _ refl (λ e. stops_refused s 10) (λ e. stops_new s h dir name (Region (new_region pages undo)))

stops_region : (s : State) → OpenRegions s → (names : List (List ℕ)) (pages undo : ℕ) → StopsAlike s (region_at s names pages undo) (region_at (crashed s) names pages undo)
stops_region s h [] pages undo = stops_refused s 3
stops_region s h (name ∷ names) pages undo = stops_row s h (name ∷ names) _ _ (λ dir. stops_region_row s h dir (last_of (name ∷ names)) pages undo (get s.names (dir, last_of (name ∷ names))))

-- ---- write, read, truncate

-- a file's bytes are replaced
stops_node : (s : State) → OpenRegions s → (i : ℕ) (old new : List ℕ) (reply : Reply) → get s.nodes i ≡ Some (File old) → StopsAlike s (answered (with_node s i (File new)) reply) (answered (with_node (crashed s) i (File new)) reply)
stops_node s h i old new reply file =
    let none = file_not_open s h i old file in
    stops_next s (with_node s i (File new)) (with_node (crashed s) i (File new)) reply (leaves_node s i (File new) none) (with_node_crashed s h i (File new) none)

stops_write_file : (s : State) → OpenRegions s → (off : ℕ) (bytes : List ℕ) (i : ℕ) (old : List ℕ) → get s.nodes i ≡ Some (File old) → StopsAlike s (write_file s off bytes i old) (write_file (crashed s) off bytes i old)
stops_write_file s h off [] i old file = stops_answered s (Number 0)
stops_write_file s h off (b ∷ bytes) i old file = stops_size s h (length old) (off + length (b ∷ bytes)) _ _ (stops_node s h i old (written old off (b ∷ bytes)) (Number (length (b ∷ bytes))) file)

stops_write : (s : State) → OpenRegions s → (path : List ℕ) (off : ℕ) (bytes : List ℕ) → StopsAlike s (write s path off bytes) (write (crashed s) path off bytes)
stops_write s h path off bytes = stops_path s h path (write_in s off bytes) (write_in (crashed s) off bytes) (λ i. stops_file s (get s.nodes i) (get (crashed s).nodes i) (write_file s off bytes i) (write_file (crashed s) off bytes i) (crash_alike s h i) (λ old file. stops_write_file s h off bytes i old file))

stops_read : (s : State) → OpenRegions s → (path : List ℕ) (off len : ℕ) → StopsAlike s (read s path off len) (read (crashed s) path off len)
stops_read s h path off len = stops_path s h path (read_in s off len) (read_in (crashed s) off len) (λ i. stops_file s (get s.nodes i) (get (crashed s).nodes i) _ _ (crash_alike s h i) (λ bytes file. stops_answered s (Bytes (bytes_from bytes off len))))

stops_truncate : (s : State) → OpenRegions s → (path : List ℕ) (len : ℕ) → StopsAlike s (truncate s path len) (truncate (crashed s) path len)
stops_truncate s h path len = stops_path s h path (truncate_in s len) (truncate_in (crashed s) len) (λ i. stops_file s (get s.nodes i) (get (crashed s).nodes i) _ _ (crash_alike s h i) (λ old file. stops_size s h (length old) len _ _ (stops_node s h i old (resized old len) Done file)))

-- a stop before a leading part of a write is a stop after it
pub lead_crashed : (s : State) → OpenRegions s → (i off : ℕ) (bytes : List ℕ) (k : ℕ) (u : State) → LeadsTo (crashed s) i off bytes k u → (t : State) × LeadsTo s i off bytes k t × (u ≡ crashed t) × LeavesOpen s t
lead_crashed s h i off bytes k u l =
    let file = file_crashed s h i l.old l.file in
    let none = file_not_open s h i l.old file in
    let new : Node = File l.new in
    (with_node s i new, record { old = l.old; new = l.new; file = file; lead = l.lead; is = refl }, l.is ∙ sym (with_node_crashed s h i new none), leaves_node s i new none)

pub lead_leaves : (s : State) → OpenRegions s → (i off : ℕ) (bytes : List ℕ) (k : ℕ) (t : State) → LeadsTo s i off bytes k t → LeavesOpen s t
lead_leaves s h i off bytes k t l = subst (LeavesOpen s) (sym l.is) (leaves_node s i (File l.new) (file_not_open s h i l.old l.file))

-- ---- unlink, rmdir

stops_without : (s : State) → OpenRegions s → (dir : ℕ) (name : List ℕ) (i : ℕ) → NotOpen s.txns i → StopsAlike s (answered (without s dir name i) Done) (answered (without (crashed s) dir name i) Done)
stops_without s h dir name i none = stops_next s (without s dir name i) (without (crashed s) dir name i) Done (leaves_without s dir name i none) (without_crashed s h dir name i none)

stops_unlink_node : (s : State) → OpenRegions s → (dir : ℕ) (name : List ℕ) (i : ℕ) → StopsAlike s (unlink_node s (open_inodes s) dir name i) (unlink_node (crashed s) (open_inodes s) dir name i)
stops_unlink_node s h dir name i =
    stops_if s (is_dir (get s.nodes i)) (is_dir (get (crashed s).nodes i)) _ _ _ _ (is_dir_crashed s h i) (λ e. stops_refused s 5)
    (λ e. stops_if s (is_open (open_inodes s) i (get s.nodes i)) (is_open (open_inodes s) i (get (crashed s).nodes i)) _ _ _ _ (is_open_crashed s h (open_inodes s) i) (λ f. stops_refused s 13)
    (λ f. stops_without s h dir name i (idle_not_open s h i f)))

stops_unlink : (s : State) → OpenRegions s → (names : List (List ℕ)) → StopsAlike s (unlink_at s (open_inodes s) names) (unlink_at (crashed s) (open_inodes s) names)
stops_unlink s h [] = stops_refused s 9
stops_unlink s h (name ∷ names) = stops_row s h (name ∷ names) _ _ (λ dir. stops_at s (found s dir (last_of (name ∷ names))) (found s dir (last_of (name ∷ names))) _ _ refl (λ i. stops_unlink_node s h dir (last_of (name ∷ names)) i))

by_not : (b : Bool) → not b ≡ false → b ≡ true
by_not true e = refl
by_not false e = absurd (true_false e)

stops_rmdir_node : (s : State) → OpenRegions s → (dir : ℕ) (name : List ℕ) (i : ℕ) → StopsAlike s (rmdir_node s dir name i) (rmdir_node (crashed s) dir name i)
stops_rmdir_node s h dir name i =
    stops_if s (not (is_dir (get s.nodes i))) (not (is_dir (get (crashed s).nodes i))) _ _ _ _ (ap not (is_dir_crashed s h i)) (λ e. stops_refused s 4)
    (λ e. stops_if s (is_empty (names_in s i)) (is_empty (names_in s i)) _ _ _ _ refl (λ f. stops_without s h dir name i (dir_not_open s h i (by_not _ e))) (λ f. stops_refused s 6))

stops_rmdir : (s : State) → OpenRegions s → (names : List (List ℕ)) → StopsAlike s (rmdir_at s names) (rmdir_at (crashed s) names)
stops_rmdir s h [] = stops_refused s 9
stops_rmdir s h (name ∷ names) = stops_row s h (name ∷ names) _ _ (λ dir. stops_at s (found s dir (last_of (name ∷ names))) (found s dir (last_of (name ∷ names))) _ _ refl (λ i. stops_rmdir_node s h dir (last_of (name ∷ names)) i))

-- ---- rename

stops_moved : (s : State) (dir : ℕ) (name : List ℕ) (to_dir : ℕ) (to_name : List ℕ) (i : ℕ) → StopsAlike s (answered (moved s dir name to_dir to_name i) Done) (answered (moved (crashed s) dir name to_dir to_name i) Done)
stops_moved s dir name to_dir to_name i = stops_next s (moved s dir name to_dir to_name i) (moved (crashed s) dir name to_dir to_name i) Done (record { txns = refl; nodes = λ j u e. refl }) refl

stops_replaced : (s : State) → OpenRegions s → (dir : ℕ) (name : List ℕ) (to_dir : ℕ) (to_name : List ℕ) (i j : ℕ) → NotOpen s.txns j → StopsAlike s (answered (replaced s dir name to_dir to_name i j) Done) (answered (replaced (crashed s) dir name to_dir to_name i j) Done)
stops_replaced s h dir name to_dir to_name i j none = stops_next s (replaced s dir name to_dir to_name i j) (replaced (crashed s) dir name to_dir to_name i j) Done (leaves_replaced s dir name to_dir to_name i j none) (replaced_crashed s h dir name to_dir to_name i j none)

either_crashed : (s : State) → OpenRegions s → (i j : ℕ) → (is_dir (get (crashed s).nodes i) || is_dir (get (crashed s).nodes j)) ≡ (is_dir (get s.nodes i) || is_dir (get s.nodes j))
either_crashed s h i j = ap (λ b. b || is_dir (get (crashed s).nodes j)) (is_dir_crashed s h i) ∙ ap (λ b. is_dir (get s.nodes i) || b) (is_dir_crashed s h j)

stops_replace_row : (s : State) → OpenRegions s → (dir : ℕ) (name : List ℕ) (to_dir : ℕ) (to_name : List ℕ) (i j : ℕ) → StopsAlike s (replace_row s (open_inodes s) dir name to_dir to_name i j) (replace_row (crashed s) (open_inodes s) dir name to_dir to_name i j)
stops_replace_row s h dir name to_dir to_name i j =
    stops_if s (i == j) (i == j) _ _ _ _ refl (λ e. stops_answered s Done)
    (λ e. stops_if s (is_dir (get s.nodes i) || is_dir (get s.nodes j)) (is_dir (get (crashed s).nodes i) || is_dir (get (crashed s).nodes j)) _ _ _ _ (either_crashed s h i j) (λ f. stops_refused s 3)
    (λ f. stops_if s (is_open (open_inodes s) j (get s.nodes j)) (is_open (open_inodes s) j (get (crashed s).nodes j)) _ _ _ _ (is_open_crashed s h (open_inodes s) j) (λ g. stops_refused s 13)
    (λ g. stops_replaced s h dir name to_dir to_name i j (idle_not_open s h j g))))

stops_rename_row : (s : State) → OpenRegions s → (dir : ℕ) (name : List ℕ) (to_dir : ℕ) (to_name : List ℕ) (i : ℕ) (j : Option ℕ) → StopsAlike s (rename_row s (open_inodes s) dir name to_dir to_name i j) (rename_row (crashed s) (open_inodes s) dir name to_dir to_name i j)
stops_rename_row s h dir name to_dir to_name i None = stops_room s h _ _ _ (stops_moved s dir name to_dir to_name i)
stops_rename_row s h dir name to_dir to_name i (Some j) = stops_replace_row s h dir name to_dir to_name i j

stops_rename_to : (s : State) → OpenRegions s → (from to : List (List ℕ)) (i to_dir : ℕ) → StopsAlike s (rename_to s (open_inodes s) from to i to_dir) (rename_to (crashed s) (open_inodes s) from to i to_dir)
stops_rename_to s h [] to i to_dir = stops_refused s 9
stops_rename_to s h (name ∷ names) to i to_dir =
    stops_if s (is_below (name ∷ names) to) (is_below (name ∷ names) to) _ _ _ _ refl (λ e. stops_refused s 21)
    (λ e. stops_row s h (name ∷ names) _ _ (λ dir. stops_rename_row s h dir (last_of (name ∷ names)) to_dir (last_of to) i (get s.names (to_dir, last_of to))))

stops_rename : (s : State) → OpenRegions s → (from to : List (List ℕ)) → StopsAlike s (rename_at s (open_inodes s) from to) (rename_at (crashed s) (open_inodes s) from to)
stops_rename s h from [] = stops_at s (walk s 1 from) (walk (crashed s) 1 from) _ _ (walk_crashed s h from 1) (λ i. stops_refused s 9)
stops_rename s h from (name ∷ names) = stops_at s (walk s 1 from) (walk (crashed s) 1 from) _ _ (walk_crashed s h from 1) (λ i. stops_row s h (name ∷ names) (rename_to s (open_inodes s) from (name ∷ names) i) (rename_to (crashed s) (open_inodes s) from (name ∷ names) i) (λ dir. stops_rename_to s h from (name ∷ names) i dir))

-- ---- stat, list

stat_by : (s : State) (i : ℕ) (n m : Option Node) → Alike n m → StopsAlike s (stat_node s i n) (stat_node (crashed s) i m)
stat_by s i None m e = subst (λ x. StopsAlike s (refused s NotFound) (stat_node (crashed s) i x)) (sym e) (stops_refused s 2)
stat_by s i (Some Dir) m e = subst (λ x. StopsAlike s (stat_node s i (Some Dir)) (stat_node (crashed s) i x)) (sym e) (stops_answered s _)
stat_by s i (Some (File bytes)) m e = subst (λ x. StopsAlike s (stat_node s i (Some (File bytes))) (stat_node (crashed s) i x)) (sym e) (stops_answered s _)
stat_by s i (Some (Region r)) m e =
    subst (λ x. StopsAlike s (stat_node s i (Some (Region r))) (stat_node (crashed s) i x)) (sym e.is)
    (subst (λ n. StopsAlike s (stat_node s i (Some (Region r))) (answered (crashed s) (Stat (record { 0 = i }) 3 (4096 * (n / 512))))) (sym e.words) (stops_answered s _))

stops_stat : (s : State) → OpenRegions s → (path : List ℕ) → StopsAlike s (stat s path) (stat (crashed s) path)
stops_stat s h path = stops_path s h path _ _ (λ i. stat_by s i (get s.nodes i) (get (crashed s).nodes i) (crash_alike s h i))

stops_list : (s : State) → OpenRegions s → (path : List ℕ) → StopsAlike s (list s path) (list (crashed s) path)
stops_list s h path = stops_at s (walk_to_dir s (names_of path)) (walk_to_dir (crashed s) (names_of path)) _ _ (walk_to_dir_crashed s h (names_of path)) (λ dir. stops_answered s (NamesOf (names_in s dir)))

-- what a request answers where these inodes are busy: those of the open regions, though a stop has left none open
abbrev pub answer_beside : State → List ℕ → Request → Answered
answer_beside s busy (Unlink path) = unlink s path busy
answer_beside s busy (Rename path to) = rename s path to busy
answer_beside s busy r = answer_of s r

-- a request on files, over a state and over what a stop leaves of it
pub stops_alike : (s : State) (r : Request) → OpenRegions s → OnFiles r → StopsAlike s (answer_of s r) (answer_beside (crashed s) (open_inodes s) r)
stops_alike s (Mkdir path) h on = stops_make s h (names_of path) Dir
stops_alike s (Create path) h on = stops_make s h (names_of path) (File [])
stops_alike s (MakeRegion path pages undo) h on = stops_region s h (names_of path) pages undo
stops_alike s (Write path off bytes) h on = stops_write s h path off bytes
stops_alike s (Read path off len) h on = stops_read s h path off len
stops_alike s (Truncate path len) h on = stops_truncate s h path len
stops_alike s (Unlink path) h on = stops_unlink s h (names_of path)
stops_alike s (Rmdir path) h on = stops_rmdir s h (names_of path)
stops_alike s (Rename path to) h on = stops_rename s h (names_of path) (names_of to)
stops_alike s (StatOf path) h on = stops_stat s h path
stops_alike s (ListOf path) h on = stops_list s h path
stops_alike s _ h on = absurd on

-- the answer after a stop is the answer, stopped
pub files_crashed : (s : State) (r : Request) → OpenRegions s → OnFiles r → answer_beside (crashed s) (open_inodes s) r ≡ after_crash (answer_of s r)
files_crashed s r h on = (stops_alike s r h on).after

-- the open transactions stay open, each of a region with as many words as before
pub files_leave : (s : State) (r : Request) → OpenRegions s → OnFiles r → LeavesOpen s (answer_of s r).next
files_leave s r h on = (stops_alike s r h on).leaves

pub files_keep : (s : State) (r : Request) → OpenRegions s → OnFiles r → OpenRegions (answer_of s r).next
files_keep s r h on = still_regions s (answer_of s r).next h (files_leave s r h on)

-- ---- the same, request by request

pub mkdir_crashed : (s : State) → OpenRegions s → (path : List ℕ) → mkdir (crashed s) path ≡ after_crash (mkdir s path)
mkdir_crashed s h path = files_crashed s (Mkdir path) h tt

pub create_crashed : (s : State) → OpenRegions s → (path : List ℕ) → create (crashed s) path ≡ after_crash (create s path)
create_crashed s h path = files_crashed s (Create path) h tt

pub make_region_crashed : (s : State) → OpenRegions s → (path : List ℕ) (pages undo : ℕ) → make_region (crashed s) path pages undo ≡ after_crash (make_region s path pages undo)
make_region_crashed s h path pages undo = files_crashed s (MakeRegion path pages undo) h tt

pub write_crashed : (s : State) → OpenRegions s → (path : List ℕ) (off : ℕ) (bytes : List ℕ) → write (crashed s) path off bytes ≡ after_crash (write s path off bytes)
write_crashed s h path off bytes = files_crashed s (Write path off bytes) h tt

pub read_crashed : (s : State) → OpenRegions s → (path : List ℕ) (off len : ℕ) → read (crashed s) path off len ≡ after_crash (read s path off len)
read_crashed s h path off len = files_crashed s (Read path off len) h tt

pub truncate_crashed : (s : State) → OpenRegions s → (path : List ℕ) (len : ℕ) → truncate (crashed s) path len ≡ after_crash (truncate s path len)
truncate_crashed s h path len = files_crashed s (Truncate path len) h tt

pub unlink_crashed : (s : State) → OpenRegions s → (path : List ℕ) → unlink (crashed s) path (open_inodes s) ≡ after_crash (unlink s path (open_inodes s))
unlink_crashed s h path = files_crashed s (Unlink path) h tt

pub rmdir_crashed : (s : State) → OpenRegions s → (path : List ℕ) → rmdir (crashed s) path ≡ after_crash (rmdir s path)
rmdir_crashed s h path = files_crashed s (Rmdir path) h tt

pub rename_crashed : (s : State) → OpenRegions s → (path to : List ℕ) → rename (crashed s) path to (open_inodes s) ≡ after_crash (rename s path to (open_inodes s))
rename_crashed s h path to = files_crashed s (Rename path to) h tt

pub stat_crashed : (s : State) → OpenRegions s → (path : List ℕ) → stat (crashed s) path ≡ after_crash (stat s path)
stat_crashed s h path = files_crashed s (StatOf path) h tt

pub list_crashed : (s : State) → OpenRegions s → (path : List ℕ) → list (crashed s) path ≡ after_crash (list s path)
list_crashed s h path = files_crashed s (ListOf path) h tt

-- ---- what a stop or a fault leaves of a request on files

-- u is what a stop leaves of such a state, which has the open transactions of s
abbrev pub StopOf : State → (State → Type 0) → State → Type 0
StopOf s Such u = (t : State) × Such t × (u ≡ crashed t) × LeavesOpen s t

none_crashed : (s : State) (k : ℕ) (u : State) → NoneDone (crashed s) k u → StopOf s (NoneDone s k) u
none_crashed s k u (none, same) = (s, (none, refl), same, leaves_itself s)

write_done_crashed : (s : State) → OpenRegions s → (path : List ℕ) (off : ℕ) (bytes : List ℕ) (k : ℕ) (u : State) → WriteDone (crashed s) path off bytes (write (crashed s) path off bytes) k u → StopOf s (WriteDone s path off bytes (write s path off bytes) k) u
write_done_crashed s h path off bytes k u (inl (none, same)) = (s, inl (none, refl), same, leaves_itself s)
write_done_crashed s h path off bytes k u (inr (told, (i, at, lead))) =
    let part = lead_crashed s h i off bytes k u lead in
    let reply = ap (λ (a : Answered). a.reply) (write_crashed s h path off bytes) in
    (part.0, inr (sym reply ∙ told, (i, sym (walk_crashed s h (names_of path) 1) ∙ at, part.1)), part.2, part.3)

pub fault_crashed : (s : State) (r : Request) → OpenRegions s → OnFiles r → (k : ℕ) (u : State) → FaultStep (crashed s) r k u → StopOf s (FaultStep s r k) u
fault_crashed s (Write path off bytes) h on k u f = write_done_crashed s h path off bytes k u f
fault_crashed s (Put path off bytes) h on k u f = absurd on
fault_crashed s (Alloc path units) h on k u f = absurd on
fault_crashed s (Free path at) h on k u f = absurd on
fault_crashed s (Abort path) h on k u f = absurd on
fault_crashed s Sync h on k u f = absurd on
fault_crashed s Txns h on k u f = absurd on
fault_crashed s (Wild at value) h on k u f = absurd on
fault_crashed s (Arm step at value) h on k u f = absurd on
fault_crashed s _ h on k u f = none_crashed s k u f

leads_crashed : (s : State) (r : Request) → OpenRegions s → (k : ℕ) (u : State) → LeadStep (crashed s) r k u → StopOf s (LeadStep s r k) u
leads_crashed s (Write path off bytes) h k u f = write_done_crashed s h path off bytes k u f
leads_crashed s _ h k u f = none_crashed s k u f

part_by : (s : State) (a b : Answered) (r : Request) (u : State) → OpenRegions s → StopsAlike s a b → PartOf (crashed s) b (LeadStep (crashed s) r) u → StopOf s (PartOf s a (LeadStep s r)) u
part_by s a b r u h alike (inl same) = (s, inl refl, same, leaves_itself s)
part_by s a b r u h alike (inr (inl same)) = (a.next, inr (inl refl), same ∙ ap (λ (x : Answered). x.next) alike.after, alike.leaves)
part_by s a b r u h alike (inr (inr (k, lead))) = let part = leads_crashed s r h k u lead in (part.0, inr (inr (k, part.1)), part.2, part.3)

-- a part of the request over what a stop leaves of s is what a stop leaves of a part of it over s
pub part_crashed : (s : State) (r : Request) → OpenRegions s → OnFiles r → (u : State) → PartOf (crashed s) (answer_beside (crashed s) (open_inodes s) r) (LeadStep (crashed s) r) u → StopOf s (IsPart s r) u
part_crashed s r h on u part = part_by s (answer_of s r) (answer_beside (crashed s) (open_inodes s) r) r u h (stops_alike s r h on) part
