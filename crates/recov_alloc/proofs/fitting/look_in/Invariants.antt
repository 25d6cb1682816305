use Rattle.std.proofs.Common.{◌≡◌, ◌+◌, ◌-◌, ◌*◌, ◌≤◌, ◌<◌, ℕ}
use Rattle.recov_alloc.specs.Scans.{Before}
use Rattle.recov_alloc.proofs.fitting.look_in.Given as goal

abbrev pub invariant-loop-bit : goal.invariant-loop-bit
invariant-loop-bit l = record {
  small : l.run < l.units;
  within : l.run ≤ 64 * l.page + l.bit;
  most : l.bit ≤ 64;
  seen : (f : ℕ → ℕ) → l.word ≡ f (2 * l.page) → Before f l.units (64 * l.page) l.before → Before f l.units (64 * l.page + l.bit) l.run;
}

abbrev pub decreases-loop-bit : goal.decreases-loop-bit
decreases-loop-bit l = 64 - l.bit
