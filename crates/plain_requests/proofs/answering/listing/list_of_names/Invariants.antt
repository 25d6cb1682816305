use Rattle.plain_requests.proofs.Common.{◌≡◌, take}
use Rattle.plain_requests.proofs.answering.listing.list_of_names.Given as goal

-- the first names are listed
abbrev pub invariant-loop-name : goal.invariant-loop-name
invariant-loop-name l = l.list ≡ take l.name-index l.names
