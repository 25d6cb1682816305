use Rattle.vista_region.proofs.Common.{◌≡◌, ◌++◌, map}
use Rattle.rio_base.specs.declared.places.Ino.{Ino}
use Rattle.vista_region.proofs.open_table.OpenTable.open_list.Given as goal

-- the inodes that are listed, and the keys that are left
abbrev pub invariant-loop-i : goal.invariant-loop-i
invariant-loop-i l = map (λ (j : Ino). j.0) l.list.items ++ l.i-iterator ≡ map (λ m. m.0) l.self
