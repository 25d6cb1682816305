use Rattle.plain_requests.proofs.Common.{◌≡◌, ◌+◌, ◌-◌, find, ◌&&◌, range_with_len}
use Rattle.std.specs.Prelude.{nat_le}
use Rattle.rio_requests.specs.RegionAnswers.{all_free, first_fit, units_in}
use Rattle.plain_requests.proofs.answering.heap.first_fit.Given as goal

-- no unit before begins a gap
abbrev pub invariant-loop-unit : goal.invariant-loop-unit
invariant-loop-unit l = first_fit l.region.blocks (units_in l.region) l.units ≡ find (λ t. nat_le (t + l.units) l.all && all_free l.region.blocks t l.units) (range_with_len l.unit (l.all - l.unit))
