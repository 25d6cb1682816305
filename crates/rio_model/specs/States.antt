-- What of a state a request looks up, its open transactions among it, and what it changes of it.
use Rattle.std.specs.Prelude.{◌-◌, ◌==◌, ℕ, List, [], length, map, filter, take, drop, slice_index_or, Option, is_none, find}
use Rattle.std.specs.List.{range_with_len}
use Rattle.std.specs.FinMap.{get, insert, keys}
use Rattle.rio_model.specs.declared.node.Node.{Node}
use Rattle.rio_model.specs.declared.state.State.{State}
use Rattle.rio_model.specs.Names.{NameKey}
use Rattle.rio_model.specs.declared.txn.Txn.{Txn}

-- the least inode from 1 to I that no node has
abbrev pub least_free : State → Option ℕ
least_free s = find (λ i. is_none (get s.nodes i)) (range_with_len 1 s.shape.inodes)

-- the names among these keys that stand in a directory, in the order of the keys
abbrev pub names_below : List NameKey → ℕ → List (List ℕ)
names_below names dir = map (λ key. key.1) (filter (λ (key : NameKey). key.0 == dir) names)

-- the names in a directory, in byte order
abbrev pub names_in : State → ℕ → List (List ℕ)
names_in s dir = names_below (keys s.names) dir

-- the bytes from an offset on, up to so many and none past the end
abbrev pub bytes_from : List ℕ → ℕ → ℕ → List ℕ
bytes_from bytes off len = take len (drop off bytes)

-- one more node, under a name in a directory
abbrev pub with_new : State → ℕ → List ℕ → ℕ → Node → State
with_new s dir name i node = record s { names = insert s.names (dir, name) i; nodes = insert s.nodes i node }

abbrev pub with_node : State → ℕ → Node → State
with_node s i node = record s { nodes = insert s.nodes i node }

abbrev pub front_of : List (List ℕ) → List (List ℕ)
front_of names = take (length names - 1) names

abbrev pub last_of : List (List ℕ) → List ℕ
last_of names = slice_index_or names (length names - 1) []

-- ---- open transactions

-- the inodes of the open regions, in order of `begin`
abbrev pub open_inodes : State → List ℕ
open_inodes s = map (λ (t : Txn). t.ino.0) s.txns
