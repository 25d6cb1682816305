use Rattle.std.proofs.Common.{◌-◌, arith, length, slice_index}
use Rattle.volume_check.proofs.RecordWalks.{walked_all, walked_ends, walked_more, walked_none}
use Rattle.volume_check.proofs.region_records.are_records.Goals as goal

pub loop-newest-init : goal.loop-newest-init
loop-newest-init c = record { within = omega arith; walked = walked_none (slice_index c.args.front.now) c.args.places }

pub returns-in_default : goal.returns-in_default
returns-in_default c = (
  λ e. cc,
  λ h. absurd (walked_ends (slice_index c.args.front.now) (length c.args.front.now - 512) c.args.places c.loop-newest.newest c.loop-newest.end c.loop-newest.invariant.walked c.loop-newest-test.true c.in_default.ensures h),
)

pub loop-newest-preserved : goal.loop-newest-preserved
loop-newest-preserved c = record {
  within = c.in-Some.ensures.fits;
  walked = walked_more (slice_index c.args.front.now) (length c.args.front.now - 512) c.args.places c.loop-newest.newest c.loop-newest.end _ c.in-Some.next c.loop-newest.invariant.walked c.loop-newest-test.true c.in-Some.ensures (omega arith);
}

pub returns : goal.returns
returns c = (
  λ e. walked_all (slice_index c.args.front.now) (length c.args.front.now - 512) c.args.places c.loop-newest.newest c.loop-newest.end c.loop-newest.invariant.walked c.loop-newest-test.false c.loop-newest.invariant.within,
  λ h. cc,
)
