use Rattle.plain_requests.proofs.Common.{◌≡◌, ◌++◌, take, drop, put, name_cmp, row_entries}
use Rattle.plain_requests.proofs.answering.listing.put_row.Given as goal

-- the row belongs behind those passed
abbrev pub invariant-loop-at : goal.invariant-loop-at
invariant-loop-at l = record {
  same : l.rows.items ≡ l.fn.rows.items;
  behind : put name_cmp (l.row.dir.0, l.row.name) l.row.ino.0 (row_entries l.rows.items) ≡ row_entries (take l.at l.rows.items) ++ put name_cmp (l.row.dir.0, l.row.name) l.row.ino.0 (row_entries (drop l.at l.rows.items));
}
