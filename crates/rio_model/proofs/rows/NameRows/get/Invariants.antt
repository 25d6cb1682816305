use Rattle.rio_model.proofs.Common.{◌≡◌, drop, get, find}
use Rattle.rio_model.specs.Names.{name_cmp, row_entries}
use Rattle.rio_model.proofs.rows.NameRows.get.Given as goal

-- the map answers as the rows that are left
abbrev pub invariant-loop-row : goal.invariant-loop-row
invariant-loop-row l = get l.self (l.dir.0, l.name) ≡ find name_cmp (l.dir.0, l.name) (row_entries (drop l.row-index l.row-items))
