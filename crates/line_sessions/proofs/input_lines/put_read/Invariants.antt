use Rattle.std.proofs.Common.{◌≡◌, ◌≤◌, ◌^◌, true, []}
use Rattle.line_sessions.proofs.input_lines.put_read.Given as goal

-- the reader is within its limit, and has ended only where nothing is left
abbrev pub invariant-loop : goal.invariant-loop
invariant-loop l = record {
  within : l.reader.taken ≤ 2 ^ 40;
  spent : l.reader.ended ≡ true → l.source.left ≡ [];
}
