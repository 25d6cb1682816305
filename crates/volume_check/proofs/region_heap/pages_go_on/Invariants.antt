use Rattle.std.proofs.Common.{◌≡◌, slice_index}
use Rattle.volume_check.specs.RegionWords.{PagesGoOn, used_before}
use Rattle.volume_check.proofs.region_heap.pages_go_on.Given as goal

abbrev pub invariant-loop-page : goal.invariant-loop-page
invariant-loop-page l = record {
  before : l.before ≡ used_before (slice_index l.map) l.page;
  pages : PagesGoOn (slice_index l.map) l.page;
}
