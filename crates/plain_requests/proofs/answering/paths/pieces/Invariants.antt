use Rattle.plain_requests.proofs.Common.{◌≡◌, ◌++◌, drop}
use Rattle.rio_base.specs.Bytes.{pieces, Lacks}
use Rattle.plain_requests.proofs.answering.paths.pieces.Given as goal

-- the pieces made so far, and then those of the name begun and the bytes that are left
abbrev pub invariant-loop-byte : goal.invariant-loop-byte
invariant-loop-byte l = record {
  begun : Lacks 47 l.name.items;
  whole : pieces 47 l.bytes ≡ l.names.items ++ pieces 47 (l.name.items ++ drop l.byte-index l.bytes);
}
