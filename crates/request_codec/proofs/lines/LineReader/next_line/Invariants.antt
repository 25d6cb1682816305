use Rattle.std.proofs.Common.{◌≡◌, false, ◌≤◌, ◌^◌, ◌-◌}
use Rattle.request_codec.proofs.Passing.{Along}
use Rattle.request_codec.proofs.lines.LineReader.next_line.Given as goal

-- a line is being gathered, within the limit
abbrev pub invariant-loop-line : goal.invariant-loop-line
invariant-loop-line g l = record {
  along : Along l.fn.self (g.S.Source.left l.fn.source) l.line l.self (g.S.Source.left l.source);
  within : l.self.taken ≤ 2 ^ 40;
  unended : l.self.ended ≡ false;
  later : g.S.Source.faults l.fn.source ≤ g.S.Source.faults l.source;
}

abbrev pub decreases-loop-line : goal.decreases-loop-line
decreases-loop-line g l = 2 ^ 40 - l.self.taken
