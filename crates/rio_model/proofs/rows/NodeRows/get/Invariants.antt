use Rattle.rio_model.proofs.Common.{◌≡◌, drop, nat_cmp, get, find}
use Rattle.rio_model.specs.Nodes.{node_entries}
use Rattle.rio_model.proofs.rows.NodeRows.get.Given as goal

-- the map answers as the rows that are left
abbrev pub invariant-loop-row : goal.invariant-loop-row
invariant-loop-row l = get l.self l.ino.0 ≡ find nat_cmp l.ino.0 (node_entries (drop l.row-index l.row-items))
