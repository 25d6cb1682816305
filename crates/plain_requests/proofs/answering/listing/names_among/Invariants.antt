use Rattle.plain_requests.proofs.Common.{◌≡◌, take}
use Rattle.plain_requests.proofs.Listing.{names_among}
use Rattle.plain_requests.proofs.answering.listing.names_among.Given as goal

abbrev pub invariant-loop-row : goal.invariant-loop-row
invariant-loop-row l = l.names.items ≡ names_among l.dir.0 (take l.row-index l.rows)
