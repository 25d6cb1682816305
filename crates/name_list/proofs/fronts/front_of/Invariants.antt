use Rattle.std.proofs.Common.{◌≡◌}
use Rattle.byteorder.specs.Endian.{big_from}
use Rattle.name_list.proofs.fronts.front_of.Given as goal

-- the first k bytes are counted
abbrev pub invariant-loop-k : goal.invariant-loop-k
invariant-loop-k l = l.front ≡ big_from 0 l.k l.name
