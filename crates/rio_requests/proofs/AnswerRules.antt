-- What no request changes: the sizes of the volume and of memory.
use Rattle.rio_requests.proofs.Common.{sym, subst, ap, inl, inr, Result, Ok, Err, nat_lt, get, Node, Dir, File, Region, RegionNode, State, front_of, last_of, least_free, names_in, is_dir, walk, walk_to_dir, free_count, largest_size, open_inodes, region_words, Txn}
use Rattle.std.specs.Prelude.{◌≡◌, ◌==◌, ◌+◌, ◌*◌, ℕ, Bool, true, false, cond, List, [], ◌∷◌, length, Option, Some, None, refl, ◌||◌, not}
use Rattle.rio_requests.specs.declared.answered.Answered.{Answered}
use Rattle.rio_requests.specs.declared.reply.Reply.{Reply}
use Rattle.rio_requests.specs.declared.reply.Reply.TheVariants.{Ok as Done}
use Rattle.rio_requests.specs.declared.request.Request.{Request}
use Rattle.rio_requests.specs.declared.request.Request.TheVariants.{Mkdir, Create, Region as MakeRegion, Write, Read, Truncate, Unlink, Rmdir, Rename, Stat as StatOf, List as ListOf, Sync, Begin, Range, Put, Get, Alloc, Free, Commit, Abort, Txns, Flush, Wild, Arm}
use Rattle.rio_requests.specs.Answer.{answered, at_inode, on_file, refused}
use Rattle.rio_requests.specs.Answers.{answer_of, found, is_below, is_empty, is_open, make, make_new, make_row, new_blocks, new_region, read, read_in, rename_at, rename_row, rename_to, region_at, region_row, replace_row, rmdir_at, rmdir_node, row_wanted, stat_node, truncate, truncate_in, unlink_at, unlink_node, wanted, with_room, with_size, write, write_file, write_in}
use Rattle.rio_requests.specs.Parts.{FaultStep}
use Rattle.rio_model.specs.Paths.{names_of}
use Rattle.rio_model.specs.declared.refusal.Refusal.TheVariants.{Exists, NotADirectory, IsADirectory, NotEmpty, TooLarge, NoSpace, Busy, OutOfRange, InsideItself}
use Rattle.rio_requests.specs.Run.{Step}
use Rattle.rio_requests.specs.RegionAnswers.{Outcome, abort_on, alloc_on, begin_on, commit_on, free_on, get_on, put_on, range_on}
use Rattle.rio_requests.specs.Transactions.{arm, at_region, changed, looked, on_region, txn_at, wild}

pub record KeepsSizes (s t : State) : Type 0 where
  pub shape : t.shape ≡ s.shape
  pub pages : t.pages ≡ s.pages
  pub scratch : t.scratch ≡ s.scratch

-- ---- the parts of answers

keeps_refl : (s : State) → KeepsSizes s s
keeps_refl s = record { shape = refl; pages = refl; scratch = refl }

keeps_if : (s : State) (b : Bool) (x y : Answered) → KeepsSizes s x.next → KeepsSizes s y.next → KeepsSizes s (cond b x y).next
keeps_if s true x y h k = h
keeps_if s false x y h k = k

keeps_at : (s : State) (w : Result ℕ ℕ) (go : ℕ → Answered) → ((i : ℕ) → KeepsSizes s (go i).next) → KeepsSizes s (at_inode s w go).next
keeps_at s (Ok i) go h = h i
keeps_at s (Err c) go h = keeps_refl s

keeps_file : (s : State) (n : Option Node) (go : List ℕ → Answered) → ((bytes : List ℕ) → KeepsSizes s (go bytes).next) → KeepsSizes s (on_file s n go).next
keeps_file s None go h = keeps_refl s
keeps_file s (Some Dir) go h = keeps_refl s
keeps_file s (Some (File bytes)) go h = h bytes
keeps_file s (Some (Region r)) go h = keeps_refl s

keeps_room : (s : State) (wants : ℕ) (a : Answered) → KeepsSizes s a.next → KeepsSizes s (with_room s wants a).next
keeps_room s wants a h = keeps_if s (nat_lt (free_count s) wants) (refused s NoSpace) a (keeps_refl s) h

keeps_size : (s : State) (size len : ℕ) (a : Answered) → KeepsSizes s a.next → KeepsSizes s (with_size s size len a).next
keeps_size s size len a h = keeps_if s (nat_lt largest_size len) (refused s TooLarge) (with_room s (wanted size len) a) (keeps_refl s) (keeps_room s (wanted size len) a h)

-- ---- requests

keeps_make_new : (s : State) (dir : ℕ) (name : List ℕ) (node : Node) (i : Option ℕ) → KeepsSizes s (make_new s dir name node i).next
keeps_make_new s dir name node None = keeps_refl s
keeps_make_new s dir name node (Some i) = keeps_room s (new_blocks node + row_wanted s dir) _ (record { shape = refl; pages = refl; scratch = refl })

keeps_make_row : (s : State) (dir : ℕ) (name : List ℕ) (node : Node) (i : Option ℕ) → KeepsSizes s (make_row s dir name node i).next
keeps_make_row s dir name node (Some i) = keeps_refl s
keeps_make_row s dir name node None = keeps_make_new s dir name node (least_free s)

keeps_make : (s : State) (names : List (List ℕ)) (node : Node) → KeepsSizes s (make s names node).next
keeps_make s [] node = keeps_refl s
keeps_make s (name ∷ names) node = keeps_at s (walk_to_dir s (front_of (name ∷ names))) _ (λ dir. keeps_make_row s dir (last_of (name ∷ names)) node (get s.names (dir, last_of (name ∷ names))))

keeps_write_file : (s : State) (off : ℕ) (bytes : List ℕ) (i : ℕ) (old : List ℕ) → KeepsSizes s (write_file s off bytes i old).next
keeps_write_file s off [] i old = keeps_refl s
keeps_write_file s off (b ∷ bytes) i old = keeps_size s (length old) (off + length (b ∷ bytes)) _ (record { shape = refl; pages = refl; scratch = refl })

keeps_write : (s : State) (path : List ℕ) (off : ℕ) (bytes : List ℕ) → KeepsSizes s (write s path off bytes).next
keeps_write s path off bytes = keeps_at s (walk s 1 (names_of path)) (write_in s off bytes) (λ i. keeps_file s (get s.nodes i) (write_file s off bytes i) (λ old. keeps_write_file s off bytes i old))

keeps_truncate : (s : State) (path : List ℕ) (len : ℕ) → KeepsSizes s (truncate s path len).next
keeps_truncate s path len = keeps_at s (walk s 1 (names_of path)) (truncate_in s len) (λ i. keeps_file s (get s.nodes i) _ (λ old. keeps_size s (length old) len _ (record { shape = refl; pages = refl; scratch = refl })))

keeps_read : (s : State) (path : List ℕ) (off len : ℕ) → KeepsSizes s (read s path off len).next
keeps_read s path off len = keeps_at s (walk s 1 (names_of path)) (read_in s off len) (λ i. keeps_file s (get s.nodes i) _ (λ bytes. keeps_refl s))

keeps_unlink_node : (s : State) (busy : List ℕ) (dir : ℕ) (name : List ℕ) (i : ℕ) → KeepsSizes s (unlink_node s busy dir name i).next
keeps_unlink_node s busy dir name i =
    keeps_if s (is_dir (get s.nodes i)) (refused s IsADirectory) _ (keeps_refl s)
    (keeps_if s (is_open busy i (get s.nodes i)) (refused s Busy) _ (keeps_refl s) (record { shape = refl; pages = refl; scratch = refl }))

keeps_unlink : (s : State) (busy : List ℕ) (names : List (List ℕ)) → KeepsSizes s (unlink_at s busy names).next
keeps_unlink s busy [] = keeps_refl s
keeps_unlink s busy (name ∷ names) = keeps_at s (walk_to_dir s (front_of (name ∷ names))) _ (λ dir. keeps_at s (found s dir (last_of (name ∷ names))) _ (λ i. keeps_unlink_node s busy dir (last_of (name ∷ names)) i))

keeps_rmdir_node : (s : State) (dir : ℕ) (name : List ℕ) (i : ℕ) → KeepsSizes s (rmdir_node s dir name i).next
keeps_rmdir_node s dir name i =
    keeps_if s (not (is_dir (get s.nodes i))) (refused s NotADirectory) _ (keeps_refl s)
    (keeps_if s (is_empty (names_in s i)) _ (refused s NotEmpty) (record { shape = refl; pages = refl; scratch = refl }) (keeps_refl s))

keeps_rmdir : (s : State) (names : List (List ℕ)) → KeepsSizes s (rmdir_at s names).next
keeps_rmdir s [] = keeps_refl s
keeps_rmdir s (name ∷ names) = keeps_at s (walk_to_dir s (front_of (name ∷ names))) _ (λ dir. keeps_at s (found s dir (last_of (name ∷ names))) _ (λ i. keeps_rmdir_node s dir (last_of (name ∷ names)) i))

keeps_replace_row : (s : State) (busy : List ℕ) (dir : ℕ) (name : List ℕ) (to_dir : ℕ) (to_name : List ℕ) (i j : ℕ) → KeepsSizes s (replace_row s busy dir name to_dir to_name i j).next
keeps_replace_row s busy dir name to_dir to_name i j =
    keeps_if s (i == j) _ _ (keeps_refl s)
    (keeps_if s (is_dir (get s.nodes i) || is_dir (get s.nodes j)) (refused s Exists) _ (keeps_refl s)
    (keeps_if s (is_open busy j (get s.nodes j)) (refused s Busy) _ (keeps_refl s) (record { shape = refl; pages = refl; scratch = refl })))

keeps_rename_row : (s : State) (busy : List ℕ) (dir : ℕ) (name : List ℕ) (to_dir : ℕ) (to_name : List ℕ) (i : ℕ) (j : Option ℕ) → KeepsSizes s (rename_row s busy dir name to_dir to_name i j).next
keeps_rename_row s busy dir name to_dir to_name i None = keeps_room s _ _ (record { shape = refl; pages = refl; scratch = refl })
keeps_rename_row s busy dir name to_dir to_name i (Some j) = keeps_replace_row s busy dir name to_dir to_name i j

keeps_rename_to : (s : State) (busy : List ℕ) (from to : List (List ℕ)) (i to_dir : ℕ) → KeepsSizes s (rename_to s busy from to i to_dir).next
keeps_rename_to s busy [] to i to_dir = keeps_refl s
keeps_rename_to s busy (name ∷ names) to i to_dir =
    keeps_if s (is_below (name ∷ names) to) (refused s InsideItself) _ (keeps_refl s)
    (keeps_at s (walk_to_dir s (front_of (name ∷ names))) _ (λ dir. keeps_rename_row s busy dir (last_of (name ∷ names)) to_dir (last_of to) i (get s.names (to_dir, last_of to))))

keeps_rename : (s : State) (busy : List ℕ) (from to : List (List ℕ)) → KeepsSizes s (rename_at s busy from to).next
keeps_rename s busy from [] = keeps_at s (walk s 1 from) _ (λ i. keeps_refl s)
keeps_rename s busy from (name ∷ names) = keeps_at s (walk s 1 from) _ (λ i. keeps_at s (walk_to_dir s (front_of (name ∷ names))) _ (λ dir. keeps_rename_to s busy from (name ∷ names) i dir))

keeps_stat_node : (s : State) (i : ℕ) (n : Option Node) → KeepsSizes s (stat_node s i n).next
keeps_stat_node s i (Some Dir) = keeps_refl s
keeps_stat_node s i (Some (File bytes)) = keeps_refl s
keeps_stat_node s i (Some (Region r)) = keeps_refl s
keeps_stat_node s i None = keeps_refl s

-- ---- requests on regions

keeps_region_row : (s : State) (dir : ℕ) (name : List ℕ) (pages undo : ℕ) (i : Option ℕ) → KeepsSizes s (region_row s dir name pages undo i).next
keeps_region_row s dir name pages undo (Some i) = keeps_refl s
keeps_region_row s dir name pages undo None = keeps_if s (nat_lt largest_size (8 * region_words undo pages)) (refused s TooLarge) (make_new s dir name (Region (new_region pages undo)) (least_free s)) (keeps_refl s) (keeps_make_new s dir name (Region (new_region pages undo)) (least_free s))

keeps_region_at : (s : State) (names : List (List ℕ)) (pages undo : ℕ) → KeepsSizes s (region_at s names pages undo).next
keeps_region_at s [] pages undo = keeps_refl s
keeps_region_at s (name ∷ names) pages undo = keeps_at s (walk_to_dir s (front_of (name ∷ names))) _ (λ dir. keeps_region_row s dir (last_of (name ∷ names)) pages undo (get s.names (dir, last_of (name ∷ names))))

keeps_changed : (s : State) (i : ℕ) (o : Outcome) → KeepsSizes s (changed s i o).next
keeps_changed s i (Ok a) = record { shape = refl; pages = refl; scratch = refl }
keeps_changed s i (Err number) = keeps_refl s

keeps_looked : (s : State) (o : Outcome) → KeepsSizes s (looked s o).next
keeps_looked s (Ok a) = keeps_refl s
keeps_looked s (Err number) = keeps_refl s

keeps_on_region : (s : State) (n : Option Node) (go : RegionNode → Answered) → ((r : RegionNode) → KeepsSizes s (go r).next) → KeepsSizes s (on_region s n go).next
keeps_on_region s (Some (Region r)) go h = h r
keeps_on_region s (Some Dir) go h = keeps_refl s
keeps_on_region s (Some (File bytes)) go h = keeps_refl s
keeps_on_region s None go h = keeps_refl s

keeps_at_region : (s : State) (path : List ℕ) (go : ℕ → RegionNode → Option Txn → Answered) → ((i : ℕ) (r : RegionNode) (o : Option Txn) → KeepsSizes s (go i r o).next) → KeepsSizes s (at_region s path go).next
keeps_at_region s path go h = keeps_at s (walk s 1 (names_of path)) _ (λ i. keeps_on_region s (get s.nodes i) _ (λ r. h i r (txn_at s.txns i)))

keeps_wild : (s : State) (at : ℕ) → KeepsSizes s (wild s at).next
keeps_wild s at = keeps_if s _ (refused s OutOfRange) _ (keeps_refl s) (keeps_if s _ (record { next = s; reply = None }) (answered s Done) (keeps_refl s) (keeps_refl s))

keeps_arm : (s : State) (at : ℕ) → KeepsSizes s (arm s at).next
keeps_arm s at = keeps_if s _ (refused s OutOfRange) (answered s Done) (keeps_refl s) (keeps_refl s)

-- ---- all of them

pub keeps_sizes : (s : State) (r : Request) → KeepsSizes s (answer_of s r).next
keeps_sizes s (Mkdir path) = keeps_make s (names_of path) Dir
keeps_sizes s (Create path) = keeps_make s (names_of path) (File [])
keeps_sizes s (MakeRegion path pages undo) = keeps_region_at s (names_of path) pages undo
keeps_sizes s (Write path off bytes) = keeps_write s path off bytes
keeps_sizes s (Read path off len) = keeps_read s path off len
keeps_sizes s (Truncate path len) = keeps_truncate s path len
keeps_sizes s (Unlink path) = keeps_unlink s (open_inodes s) (names_of path)
keeps_sizes s (Rmdir path) = keeps_rmdir s (names_of path)
keeps_sizes s (Rename path to) = keeps_rename s (open_inodes s) (names_of path) (names_of to)
keeps_sizes s (StatOf path) = keeps_at s (walk s 1 (names_of path)) _ (λ i. keeps_stat_node s i (get s.nodes i))
keeps_sizes s (ListOf path) = keeps_at s (walk_to_dir s (names_of path)) _ (λ dir. keeps_refl s)
keeps_sizes s Sync = keeps_refl s
keeps_sizes s (Begin path) = keeps_at_region s path (λ i r o. changed s i (begin_on i r o)) (λ i r o. keeps_changed s i (begin_on i r o))
keeps_sizes s (Range path off len) = keeps_at_region s path (λ i r o. changed s i (range_on r o off len)) (λ i r o. keeps_changed s i (range_on r o off len))
keeps_sizes s (Put path off bytes) = keeps_at_region s path (λ i r o. changed s i (put_on r o off bytes)) (λ i r o. keeps_changed s i (put_on r o off bytes))
keeps_sizes s (Get path off len) = keeps_at_region s path (λ i r o. looked s (get_on r o off len)) (λ i r o. keeps_looked s (get_on r o off len))
keeps_sizes s (Alloc path units) = keeps_at_region s path (λ i r o. changed s i (alloc_on r o units)) (λ i r o. keeps_changed s i (alloc_on r o units))
keeps_sizes s (Free path at) = keeps_at_region s path (λ i r o. changed s i (free_on r o at)) (λ i r o. keeps_changed s i (free_on r o at))
keeps_sizes s (Commit path) = keeps_at_region s path (λ i r o. changed s i (commit_on r o)) (λ i r o. keeps_changed s i (commit_on r o))
keeps_sizes s (Abort path) = keeps_at_region s path (λ i r o. changed s i (abort_on r o)) (λ i r o. keeps_changed s i (abort_on r o))
keeps_sizes s Txns = keeps_refl s
keeps_sizes s (Flush count) = keeps_refl s
keeps_sizes s (Wild at value) = keeps_wild s at
keeps_sizes s (Arm step at value) = keeps_arm s at

-- ---- any step of a run

fault_keeps : (s : State) (r : Request) (k : ℕ) (t : State) → FaultStep s r k t → KeepsSizes s t
fault_keeps s (Write path off bytes) k t (inl (none, same)) = subst (KeepsSizes s) (sym same) (keeps_refl s)
fault_keeps s (Write path off bytes) k t (inr (told, (i, at, lead))) = subst (KeepsSizes s) (sym lead.is) (record { shape = refl; pages = refl; scratch = refl })
fault_keeps s Sync k t none = absurd none
fault_keeps s Txns k t none = absurd none
fault_keeps s (Mkdir path) k t (none, same) = subst (KeepsSizes s) (sym same) (keeps_refl s)
fault_keeps s (Create path) k t (none, same) = subst (KeepsSizes s) (sym same) (keeps_refl s)
fault_keeps s (MakeRegion path pages undo) k t (none, same) = subst (KeepsSizes s) (sym same) (keeps_refl s)
fault_keeps s (Read path off len) k t (none, same) = subst (KeepsSizes s) (sym same) (keeps_refl s)
fault_keeps s (Truncate path len) k t (none, same) = subst (KeepsSizes s) (sym same) (keeps_refl s)
fault_keeps s (Unlink path) k t (none, same) = subst (KeepsSizes s) (sym same) (keeps_refl s)
fault_keeps s (Rmdir path) k t (none, same) = subst (KeepsSizes s) (sym same) (keeps_refl s)
fault_keeps s (Rename path to) k t (none, same) = subst (KeepsSizes s) (sym same) (keeps_refl s)
fault_keeps s (StatOf path) k t (none, same) = subst (KeepsSizes s) (sym same) (keeps_refl s)
fault_keeps s (ListOf path) k t (none, same) = subst (KeepsSizes s) (sym same) (keeps_refl s)
fault_keeps s (Begin path) k t (none, same) = subst (KeepsSizes s) (sym same) (keeps_refl s)
fault_keeps s (Range path off len) k t (none, same) = subst (KeepsSizes s) (sym same) (keeps_refl s)
fault_keeps s (Put path off bytes) k t (inl (none, same)) = subst (KeepsSizes s) (sym same) (keeps_refl s)
fault_keeps s (Put path off bytes) k t (inr part) = subst (KeepsSizes s) (sym part.is) (record { shape = refl; pages = refl; scratch = refl })
fault_keeps s (Get path off len) k t (none, same) = subst (KeepsSizes s) (sym same) (keeps_refl s)
fault_keeps s (Alloc path units) k t (inl (none, same)) = subst (KeepsSizes s) (sym same) (keeps_refl s)
fault_keeps s (Alloc path units) k t (inr dooms) = subst (KeepsSizes s) (sym dooms.is) (record { shape = refl; pages = refl; scratch = refl })
fault_keeps s (Free path at) k t (inl (none, same)) = subst (KeepsSizes s) (sym same) (keeps_refl s)
fault_keeps s (Free path at) k t (inr dooms) = subst (KeepsSizes s) (sym dooms.is) (record { shape = refl; pages = refl; scratch = refl })
fault_keeps s (Commit path) k t (none, same) = subst (KeepsSizes s) (sym same) (keeps_refl s)
fault_keeps s (Abort path) k t (inl (none, same)) = subst (KeepsSizes s) (sym same) (keeps_refl s)
fault_keeps s (Abort path) k t (inr dooms) = subst (KeepsSizes s) (sym dooms.is) (record { shape = refl; pages = refl; scratch = refl })
fault_keeps s (Flush count) k t (none, same) = subst (KeepsSizes s) (sym same) (keeps_refl s)
fault_keeps s (Wild at value) k t none = absurd none
fault_keeps s (Arm step at value) k t none = absurd none

pub step_keeps : (s : State) (r : Request) (reply : Reply) (t : State) → Step s (Some r) reply t → KeepsSizes s t
step_keeps s r reply t (inl is) = subst (KeepsSizes s) (ap (λ (a : Answered). a.next) is) (keeps_sizes s r)
step_keeps s r reply t (inr (inl (may, told, same))) = subst (KeepsSizes s) (sym same) (keeps_refl s)
step_keeps s r reply t (inr (inr (k, told, left))) = fault_keeps s r k t left
