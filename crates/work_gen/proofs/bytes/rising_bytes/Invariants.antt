use Rattle.std.proofs.Common.{◌≡◌, ◌++◌, ◌-◌}
use Rattle.work_gen.specs.Requests.{rising}
use Rattle.work_gen.proofs.bytes.rising_bytes.Given as goal

-- what is there, and what is to come
abbrev pub invariant-loop : goal.invariant-loop
invariant-loop l = l.bytes.items ++ rising l.byte (l.count - l.counter) ≡ rising l.first l.count
