-- What each request answers, and the state after it. Each refuses for the first reason that holds, in the order written
-- here, and then leaves the state as it was. `busy` are the inodes of the open regions.
use Rattle.std.specs.Prelude.{◌+◌, ◌-◌, ◌*◌, ◌==◌, ◌&&◌, ◌||◌, not, nat_lt, ℕ, Bool, true, false, List, [], ◌∷◌, length, replicate, Option, Some, None, Result, Ok, if◌then◌else◌}
use Rattle.std.specs.Str.{bytes_eq}
use Rattle.std.specs.FinMap.{get, insert, remove}
use Rattle.rio_model.specs.declared.node.Node.{Node}
use Rattle.rio_model.specs.declared.node.Node.TheVariants.{Dir, File, Region}
use Rattle.rio_model.specs.declared.node.RegionNode.{RegionNode}
use Rattle.rio_requests.specs.declared.request.Request.{Request}
use Rattle.rio_requests.specs.declared.request.Request.TheVariants.{Mkdir, Create, Region as MakeRegion, Write, Read, Truncate, Unlink, Rmdir, Rename, Stat as StatOf, List as ListOf, Sync, Begin, Range, Put, Get, Alloc, Free, Commit, Abort, Txns, Flush, Wild, Arm}
use Rattle.rio_model.specs.declared.state.State.{State}
use Rattle.rio_requests.specs.declared.answered.Answered.{Answered}
use Rattle.rio_requests.specs.declared.reply.Reply.TheVariants.{Ok as Done, Number, Bytes, Stat, Names as NamesOf}
use Rattle.rio_requests.specs.Answer.{answered, at_inode, on_file, refused}
use Rattle.rio_model.specs.States.{bytes_from, front_of, last_of, least_free, names_in, open_inodes, with_new, with_node}
use Rattle.rio_model.specs.FileParts.{resized, written}
use Rattle.rio_model.specs.Paths.{from_found, is_dir, names_of, walk, walk_to_dir}
use Rattle.rio_model.specs.Sizes.{blocks_for, data_pages, free_count, largest_size}
use Rattle.rio_model.specs.Undo.{region_words}
use Rattle.rio_model.specs.declared.refusal.Refusal.TheVariants.{NotFound, Exists, NotADirectory, IsADirectory, NotEmpty, IsRoot, TooLarge, NoSpace, NoInode, Busy, InsideItself}
use Rattle.rio_requests.specs.RegionAnswers.{abort_on, alloc_on, begin_on, commit_on, free_on, get_on, put_on, range_on}
use Rattle.rio_requests.specs.Transactions.{arm, at_region, changed, looked, txns, wild}
use Rattle.rio_base.specs.NodeKinds.{dir_kind, file_kind, region_kind}

-- ---- room

-- the blocks that a node takes to have another size
abbrev pub wanted : ℕ → ℕ → ℕ
wanted size len = blocks_for len - blocks_for size

-- and those that a directory takes for one name more
abbrev pub row_wanted : State → ℕ → ℕ
row_wanted s dir = wanted (64 * length (names_in s dir)) (64 * (length (names_in s dir) + 1))

-- unless fewer blocks are free
abbrev pub with_room : State → ℕ → Answered → Answered
with_room s wants answer = if nat_lt (free_count s) wants then refused s NoSpace else answer

-- unless no node can have so many bytes, or there is no room
abbrev pub with_size : State → ℕ → ℕ → Answered → Answered
with_size s size len answer = if nat_lt largest_size len then refused s TooLarge else with_room s (wanted size len) answer

-- ---- rows

-- in the directory that holds, or is to hold, the last name
abbrev pub at_row : State → List (List ℕ) → (ℕ → Answered) → Answered
at_row s names go = at_inode s (walk_to_dir s (front_of names)) go

-- what a name of a directory names
abbrev pub found : State → ℕ → List ℕ → Result ℕ ℕ
found s dir name = from_found (get s.names (dir, name)) Ok

-- a node and its row are gone
abbrev pub without : State → ℕ → List ℕ → ℕ → State
without s dir name i = record s { names = remove s.names (dir, name); nodes = remove s.nodes i }

-- ---- mkdir, create

-- a node of this kind without bytes or names
abbrev pub empty_node : ℕ → Node
empty_node kind = if kind == dir_kind then Dir else File []

-- the blocks that a new node takes
abbrev pub new_blocks : Node → ℕ
new_blocks Dir = 0
new_blocks (File bytes) = blocks_for (length bytes)
new_blocks (Region r) = blocks_for (8 * region_words r.undo (data_pages r))

-- on the least free inode
abbrev pub make_new : State → ℕ → List ℕ → Node → Option ℕ → Answered
make_new s dir name node None = refused s NoInode
make_new s dir name node (Some i) = with_room s (new_blocks node + row_wanted s dir) (answered (with_new s dir name i node) (Number i))

-- under a name that is not there
abbrev pub make_row : State → ℕ → List ℕ → Node → Option ℕ → Answered
make_row s dir name node (Some i) = refused s Exists
make_row s dir name node None = make_new s dir name node (least_free s)

-- an empty node under the last name. `/` is there already
abbrev pub make : State → List (List ℕ) → Node → Answered
make s [] node = refused s Exists
make s (name ∷ names) node = at_row s (name ∷ names) (λ dir. make_row s dir (last_of (name ∷ names)) node (get s.names (dir, last_of (name ∷ names))))

abbrev pub mkdir : State → List ℕ → Answered
mkdir s path = make s (names_of path) Dir

abbrev pub create : State → List ℕ → Answered
create s path = make s (names_of path) (File [])

-- ---- region

-- a region of so many data pages of zeros, and no block taken
abbrev pub new_region : ℕ → ℕ → RegionNode
new_region pages undo = record { words = replicate (512 * pages) 0; undo = undo; blocks = [] }

-- under a name that is not there, unless no node can have so many pages
abbrev pub region_row : State → ℕ → List ℕ → ℕ → ℕ → Option ℕ → Answered
region_row s dir name pages undo (Some i) = refused s Exists
region_row s dir name pages undo None = if nat_lt largest_size (8 * region_words undo pages) then refused s TooLarge else make_new s dir name (Region (new_region pages undo)) (least_free s)

abbrev pub region_at : State → List (List ℕ) → ℕ → ℕ → Answered
region_at s [] pages undo = refused s Exists
region_at s (name ∷ names) pages undo = at_row s (name ∷ names) (λ dir. region_row s dir (last_of (name ∷ names)) pages undo (get s.names (dir, last_of (name ∷ names))))

abbrev pub make_region : State → List ℕ → ℕ → ℕ → Answered
make_region s path pages undo = region_at s (names_of path) pages undo

-- ---- write, read, truncate

-- no bytes change nothing
abbrev pub write_file : State → ℕ → List ℕ → ℕ → List ℕ → Answered
write_file s off [] i old = answered s (Number 0)
write_file s off (b ∷ bytes) i old = with_size s (length old) (off + length (b ∷ bytes)) (answered (with_node s i (File (written old off (b ∷ bytes)))) (Number (length (b ∷ bytes))))

abbrev pub write_in : State → ℕ → List ℕ → ℕ → Answered
write_in s off bytes i = on_file s (get s.nodes i) (write_file s off bytes i)

abbrev pub write : State → List ℕ → ℕ → List ℕ → Answered
write s path off bytes = at_inode s (walk s 1 (names_of path)) (write_in s off bytes)

abbrev pub read_in : State → ℕ → ℕ → ℕ → Answered
read_in s off len i = on_file s (get s.nodes i) (λ bytes. answered s (Bytes (bytes_from bytes off len)))

abbrev pub read : State → List ℕ → ℕ → ℕ → Answered
read s path off len = at_inode s (walk s 1 (names_of path)) (read_in s off len)

abbrev pub truncate_in : State → ℕ → ℕ → Answered
truncate_in s len i = on_file s (get s.nodes i) (λ old. with_size s (length old) len (answered (with_node s i (File (resized old len))) Done))

abbrev pub truncate : State → List ℕ → ℕ → Answered
truncate s path len = at_inode s (walk s 1 (names_of path)) (truncate_in s len)

-- ---- unlink, rmdir

abbrev pub is_among : List ℕ → ℕ → Bool
is_among [] i = false
is_among (j ∷ rest) i = (j == i) || is_among rest i

-- an open region
abbrev pub is_open : List ℕ → ℕ → Option Node → Bool
is_open busy i (Some (Region r)) = is_among busy i
is_open busy i _ = false

-- a file, or a region that is not open
abbrev pub unlink_node : State → List ℕ → ℕ → List ℕ → ℕ → Answered
unlink_node s busy dir name i = if is_dir (get s.nodes i) then refused s IsADirectory else if is_open busy i (get s.nodes i) then refused s Busy else answered (without s dir name i) Done

-- the root has no name
abbrev pub unlink_at : State → List ℕ → List (List ℕ) → Answered
unlink_at s busy [] = refused s IsRoot
unlink_at s busy (name ∷ names) = at_row s (name ∷ names) (λ dir. at_inode s (found s dir (last_of (name ∷ names))) (unlink_node s busy dir (last_of (name ∷ names))))

abbrev pub unlink : State → List ℕ → List ℕ → Answered
unlink s path busy = unlink_at s busy (names_of path)

abbrev pub is_empty : List (List ℕ) → Bool
is_empty [] = true
is_empty (name ∷ names) = false

-- an empty directory
abbrev pub rmdir_node : State → ℕ → List ℕ → ℕ → Answered
rmdir_node s dir name i = if not (is_dir (get s.nodes i)) then refused s NotADirectory else if is_empty (names_in s i) then answered (without s dir name i) Done else refused s NotEmpty

abbrev pub rmdir_at : State → List (List ℕ) → Answered
rmdir_at s [] = refused s IsRoot
rmdir_at s (name ∷ names) = at_row s (name ∷ names) (λ dir. at_inode s (found s dir (last_of (name ∷ names))) (rmdir_node s dir (last_of (name ∷ names))))

abbrev pub rmdir : State → List ℕ → Answered
rmdir s path = rmdir_at s (names_of path)

-- ---- rename

-- names that go on where others end
abbrev pub is_below : List (List ℕ) → List (List ℕ) → Bool
is_below [] [] = false
is_below [] (name ∷ names) = true
is_below (top ∷ tops) [] = false
is_below (top ∷ tops) (name ∷ names) = bytes_eq top name && is_below tops names

-- a row names this inode in place of another row
abbrev pub moved : State → ℕ → List ℕ → ℕ → List ℕ → ℕ → State
moved s dir name to_dir to_name i = record s { names = insert (remove s.names (dir, name)) (to_dir, to_name) i }

-- into a directory that has room for one name more, where it is another one
abbrev pub move_row : State → ℕ → List ℕ → ℕ → List ℕ → ℕ → Answered
move_row s dir name to_dir to_name i = with_room s (if dir == to_dir then 0 else row_wanted s to_dir) (answered (moved s dir name to_dir to_name i) Done)

-- a row names this inode in place of another row, and node j goes
abbrev pub replaced : State → ℕ → List ℕ → ℕ → List ℕ → ℕ → ℕ → State
replaced s dir name to_dir to_name i j = record (moved s dir name to_dir to_name i) { nodes = remove s.nodes j }

-- neither is a directory, and what goes is no open region
abbrev pub replace_row : State → List ℕ → ℕ → List ℕ → ℕ → List ℕ → ℕ → ℕ → Answered
replace_row s busy dir name to_dir to_name i j =
    if i == j then answered s Done else
    if is_dir (get s.nodes i) || is_dir (get s.nodes j) then refused s Exists else
    if is_open busy j (get s.nodes j) then refused s Busy else
    answered (replaced s dir name to_dir to_name i j) Done

abbrev pub rename_row : State → List ℕ → ℕ → List ℕ → ℕ → List ℕ → ℕ → Option ℕ → Answered
rename_row s busy dir name to_dir to_name i None = move_row s dir name to_dir to_name i
rename_row s busy dir name to_dir to_name i (Some j) = replace_row s busy dir name to_dir to_name i j

-- the root does not move, and nothing moves below itself
abbrev pub rename_to : State → List ℕ → List (List ℕ) → List (List ℕ) → ℕ → ℕ → Answered
rename_to s busy [] to i to_dir = refused s IsRoot
rename_to s busy (name ∷ names) to i to_dir =
    if is_below (name ∷ names) to then refused s InsideItself else
    at_row s (name ∷ names) (λ dir. rename_row s busy dir (last_of (name ∷ names)) to_dir (last_of to) i (get s.names (to_dir, last_of to)))

-- the walk of the old path comes first, then that to the directory that is to hold the new name
abbrev pub rename_at : State → List ℕ → List (List ℕ) → List (List ℕ) → Answered
rename_at s busy from [] = at_inode s (walk s 1 from) (λ i. refused s IsRoot)
rename_at s busy from (name ∷ names) = at_inode s (walk s 1 from) (λ i. at_row s (name ∷ names) (rename_to s busy from (name ∷ names) i))

abbrev pub rename : State → List ℕ → List ℕ → List ℕ → Answered
rename s path to busy = rename_at s busy (names_of path) (names_of to)

-- ---- stat, list

-- of a region, the bytes of its data pages
abbrev pub stat_node : State → ℕ → Option Node → Answered
stat_node s i (Some Dir) = answered s (Stat (record { 0 = i }) dir_kind (64 * length (names_in s i)))
stat_node s i (Some (File bytes)) = answered s (Stat (record { 0 = i }) file_kind (length bytes))
stat_node s i (Some (Region r)) = answered s (Stat (record { 0 = i }) region_kind (4096 * data_pages r))
stat_node s i None = refused s NotFound

abbrev pub stat : State → List ℕ → Answered
stat s path = at_inode s (walk s 1 (names_of path)) (λ i. stat_node s i (get s.nodes i))

abbrev pub list : State → List ℕ → Answered
list s path = at_inode s (walk_to_dir s (names_of path)) (λ dir. answered s (NamesOf (names_in s dir)))

-- ---- all requests

abbrev pub answer_of : State → Request → Answered
answer_of s (Mkdir path) = mkdir s path
answer_of s (Create path) = create s path
answer_of s (MakeRegion path pages undo) = make_region s path pages undo
answer_of s (Write path off bytes) = write s path off bytes
answer_of s (Read path off len) = read s path off len
answer_of s (Truncate path len) = truncate s path len
answer_of s (Unlink path) = unlink s path (open_inodes s)
answer_of s (Rmdir path) = rmdir s path
answer_of s (Rename path to) = rename s path to (open_inodes s)
answer_of s (StatOf path) = stat s path
answer_of s (ListOf path) = list s path
answer_of s Sync = answered s Done
answer_of s (Begin path) = at_region s path (λ i r o. changed s i (begin_on i r o))
answer_of s (Range path off len) = at_region s path (λ i r o. changed s i (range_on r o off len))
answer_of s (Put path off bytes) = at_region s path (λ i r o. changed s i (put_on r o off bytes))
answer_of s (Get path off len) = at_region s path (λ i r o. looked s (get_on r o off len))
answer_of s (Alloc path units) = at_region s path (λ i r o. changed s i (alloc_on r o units))
answer_of s (Free path at) = at_region s path (λ i r o. changed s i (free_on r o at))
answer_of s (Commit path) = at_region s path (λ i r o. changed s i (commit_on r o))
answer_of s (Abort path) = at_region s path (λ i r o. changed s i (abort_on r o))
answer_of s Txns = txns s
answer_of s (Flush count) = answered s Done
answer_of s (Wild at value) = wild s at
answer_of s (Arm step at value) = arm s at
