-- The state that inodes hold: their names and nodes, put together inode by inode. Where no directory has two equal names, what
-- is held reads as it.
use Rattle.std.specs.Prelude.{ℕ, zero, suc, ◌+◌, ◌/◌, ◌==◌, if◌then◌else◌, [], Option, Some, None}
use Rattle.std.specs.FinMap.{empty, insert}
use Rattle.rio_base.specs.declared.places.VolumeShape.{VolumeShape}
use Rattle.rio_base.specs.NodeKinds.{dir_kind}
use Rattle.rio_model.specs.declared.node.Node.{Node}
use Rattle.rio_model.specs.declared.state.State.{State}
use Rattle.rio_model.specs.Held.{Held, entry_ino, entry_name}
use Rattle.rio_model.specs.Names.{Names}
use Rattle.rio_model.specs.Nodes.{Nodes}
use Rattle.rio_model.specs.VolumeReads.{node_in}

-- ---- names

-- the names of the first n entries of directory d put to others
abbrev pub with_entries : Held → ℕ → ℕ → Names → Names
with_entries h d zero m = m
with_entries h d (suc j) m = insert (with_entries h d j m) (d, entry_name h j) (entry_ino h j)

-- an entry has 64 bytes
abbrev pub entry_count : Held → ℕ
entry_count h = (h.size + 63) / 64

-- those of node d, which has some only if it is a directory
abbrev pub with_names : Held → ℕ → Names → Names
with_names h d m = if h.kind == dir_kind then with_entries h d (entry_count h) m else m

-- those of the inodes from 1 to n
abbrev pub names_held : (ℕ → Held) → ℕ → Names
names_held held zero = empty
names_held held (suc d) = with_names (held (suc d)) (suc d) (names_held held d)

-- ---- nodes

abbrev pub with_some : Option Node → ℕ → Nodes → Nodes
with_some None i m = m
with_some (Some n) i m = insert m i n

abbrev pub nodes_held : (ℕ → Held) → ℕ → Nodes
nodes_held held zero = empty
nodes_held held (suc i) = with_some (node_in (held (suc i))) (suc i) (nodes_held held i)

-- ---- the state

-- of a volume of this shape, and of a memory of so many pages
abbrev pub read_state : VolumeShape → ℕ → ℕ → (ℕ → Held) → State
read_state shape pages scratch held = record { names = names_held held shape.inodes; nodes = nodes_held held shape.inodes; txns = []; shape = shape; pages = pages; scratch = scratch }
