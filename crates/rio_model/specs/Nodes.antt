-- The nodes of a state, as a finite map.
use Rattle.std.specs.Prelude.{◌≡◌, ℕ, List, map, ◌⊎◌, refl}
use Rattle.std.proofs.Common.{inl, inr}
use Rattle.std.specs.Ordering.{nat_cmp}
use Rattle.std.specs.FinMap.{FinMap}
use Rattle.std.specs.Coded.{Coded, code_by, coded×, coded⊎, coded_ℕ, coded_list}
use Rattle.rio_model.specs.declared.node.Node.{Node}
use Rattle.rio_model.specs.declared.node.Node.TheVariants.{Dir, File, Region}
use Rattle.rio_model.specs.declared.node.RegionNode.{RegionNode}
use Rattle.rio_model.specs.declared.rows.NodeRow.{NodeRow}

-- what each inode stands for
abbrev pub Nodes : Type 0
Nodes = FinMap nat_cmp Node

abbrev pub node_entry : NodeRow → ℕ × Node
node_entry row = (row.ino.0, row.node)

abbrev pub node_entries : List NodeRow → List (ℕ × Node)
node_entries rows = map node_entry rows

-- a node as numbers and lists: nothing of a directory, a file's bytes, a region's words, undo pages and blocks
abbrev pub RegionParts : Type 0
RegionParts = List ℕ × (ℕ × List (ℕ × ℕ))

abbrev pub NodeParts : Type 0
NodeParts = ℕ ⊎ (List ℕ ⊎ RegionParts)

abbrev pub parts_of : Node → NodeParts
parts_of Dir = inl 0
parts_of (File bytes) = inr (inl bytes)
parts_of (Region r) = inr (inr (r.words, (r.undo, r.blocks)))

abbrev pub region_of : RegionParts → RegionNode
region_of p = record { words = p.0; undo = p.1.0; blocks = p.1.1 }

abbrev pub node_of : NodeParts → Node
node_of p = elim p [ inl n ↦ Dir | inr q ↦ elim q [ inl bytes ↦ File bytes | inr r ↦ Region (region_of r) ] ]

abbrev pub node_of-parts_of : (n : Node) → node_of (parts_of n) ≡ n
node_of-parts_of Dir = refl
node_of-parts_of (File bytes) = refl
node_of-parts_of (Region r) = refl

abbrev pub coded_node : Coded Node
coded_node = code_by NodeParts (coded⊎ coded_ℕ (coded⊎ (coded_list coded_ℕ) (coded× (coded_list coded_ℕ) (coded× coded_ℕ (coded_list (coded× coded_ℕ coded_ℕ)))))) parts_of node_of node_of-parts_of
