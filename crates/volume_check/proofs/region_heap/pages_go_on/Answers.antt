use Rattle.std.proofs.Common.{◌*◌, ◌+◌, arith, below_more, slice_index, subst, sym}
use Rattle.volume_check.specs.RegionWords.{GoOn}
use Rattle.volume_check.proofs.Bools.{never}
use Rattle.volume_check.proofs.HeapUnits.{before_next}
use Rattle.volume_check.proofs.region_heap.pages_go_on.Goals as goal

pub loop-page-preserved : goal.loop-page-preserved
loop-page-preserved c =
    let l = slice_index c.args.map.now in
    let page = c.loop-page.page in
    record {
      before = before_next l page (omega (arith, c.type_inv.map (2 * page)));
      pages = below_more _ _ c.loop-page.invariant.pages (subst (λ b. GoOn (l (2 * page)) (l (2 * page + 1)) b) c.loop-page.invariant.before (c.go_on.ensures.0 c.if-not-go_on.false));
    }

pub returns-then-not-go_on : goal.returns-then-not-go_on
returns-then-not-go_on c =
    let l = slice_index c.args.map.now in
    let page = c.loop-page.page in (
      λ e. cc,
      λ h. absurd (never (c.go_on.ensures.1 (subst (λ b. GoOn (l (2 * page)) (l (2 * page + 1)) b) (sym c.loop-page.invariant.before) (h page c.loop-page-test.true))) c.if-not-go_on.true),
    )
