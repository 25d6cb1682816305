-- What state the blocks of a volume read as.
use Rattle.std.specs.Prelude.{◌≡◌, ℕ, ◌+◌, ◌*◌, ◌==◌, if◌then◌else◌, List, [], map, Option, Some, None}
use Rattle.std.specs.List.{range_with_len}
use Rattle.std.specs.FinMap.{get}
use Rattle.rio_base.specs.declared.places.VolumeShape.{VolumeShape}
use Rattle.rio_base.specs.Blocks.{BlockWords}
use Rattle.rio_base.specs.NodeKinds.{free_kind, dir_kind, file_kind}
use Rattle.rio_model.specs.declared.node.Node.{Node}
use Rattle.rio_model.specs.declared.node.Node.TheVariants.{Dir, File, Region}
use Rattle.rio_model.specs.declared.node.RegionNode.{RegionNode}
use Rattle.rio_model.specs.declared.state.State.{State}
use Rattle.rio_model.specs.Heap.{heap_blocks, units_of}
use Rattle.rio_model.specs.Held.{Held, held_of, held_bytes, entry_ino, entry_name, HasEntry}
use Rattle.rio_model.specs.Undo.{before, data_from}
use Rattle.rio_model.specs.VolumeRules.{EntryRule, IsMapped, NamesApartRule, RegionRule, TreeRule}

-- a region by the words of its file: the words of before its undo records, and the blocks of the heap map among them
abbrev pub region_in : (ℕ → ℕ) → RegionNode
region_in word = record {
  words = map (λ q. before word (data_from word + q)) (range_with_len 0 (512 * word 2));
  undo = word 1;
  blocks = heap_blocks (before word) (units_of word);
}

-- the node that is held, if any. A kind of node is one case; a kind that no rule lets stand reads as a region
abbrev pub node_in : Held → Option Node
node_in h =
    if h.kind == free_kind then None else
    if h.kind == dir_kind then Some Dir else
    if h.kind == file_kind then Some (File (held_bytes h)) else
    Some (Region (region_in h.word))

-- what is held reads as this state: each inode as its node, and the entries of directories as the names. No transaction is
-- open
pub record Reads (held : ℕ → Held) (s : State) : Type 0 where
  pub nodes : (i : ℕ) → get s.nodes i ≡ node_in (held i)
  pub entries : (d j : ℕ) → HasEntry held d j → get s.names (d, entry_name (held d) j) ≡ Some (entry_ino (held d) j)
  pub names : (d : ℕ) (name : List ℕ) (i : ℕ) → get s.names (d, name) ≡ Some i → (j : ℕ) × HasEntry held d j × (entry_name (held d) j ≡ name)
  pub idle : s.txns ≡ []

-- blocks keep the rules of a volume of this shape, and read as this state
pub record ReadsAs (shape : VolumeShape) (f : BlockWords) (s : State) : Type 0 where
  pub sizes : s.shape ≡ shape
  pub mapped : IsMapped shape f
  pub entries : EntryRule (held_of shape f)
  pub apart : NamesApartRule (held_of shape f)
  pub tree : TreeRule s
  pub regions : RegionRule (held_of shape f)
  pub reads : Reads (held_of shape f) s
