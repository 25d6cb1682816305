use Rattle.std.proofs.Common.{arith}
use Rattle.std.proofs.lemmas.Bool.Decides.{nat_tests}
use Rattle.volume_check.proofs.UnitBits.{go_on_by, go_on_hops, go_on_low, go_on_off}
use Rattle.volume_check.proofs.region_heap.go_on.Goals as goal

pub returns-then-starts-used-ne0 : goal.returns-then-starts-used-ne0
returns-then-starts-used-ne0 c = (λ e. cc, λ h. absurd (c.if-starts-used-ne0.true (go_on_off c.args.used c.args.starts c.args.before c.ranges.used.fits c.ranges.starts.fits h)))

pub returns-then-inner-used-ne0 : goal.returns-then-inner-used-ne0
returns-then-inner-used-ne0 c = (λ e. cc, λ h. absurd (c.if-inner-used-ne0.true (go_on_hops c.args.used c.args.starts c.args.before c.ranges.used.fits c.ranges.starts.fits h)))

pub returns : goal.returns
returns c = (
  λ e. go_on_by c.args.used c.args.starts c.args.before c.ranges.used.fits c.ranges.starts.fits c.if-starts-used-ne0.false c.if-inner-used-ne0.false (grind (arith, nat_tests, e)),
  λ h. let low = go_on_low c.args.used c.args.starts c.args.before c.ranges.starts.fits c.requires h in grind (arith, nat_tests, low),
)
