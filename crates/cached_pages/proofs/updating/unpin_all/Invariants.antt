use Rattle.std.proofs.Common.{◌≡◌, ℕ, true}
use Rattle.cached_pages.proofs.Common.{is_pinned, order_of}
use Rattle.cached_pages.specs.Caches.{SameTables}
use Rattle.cached_pages.specs.Updating.{SameButPins}
use Rattle.cached_pages.proofs.Pins.{ListedFrom}
use Rattle.cached_pages.proofs.updating.unpin_all.Given as goal

-- the first i of the listed frames are unpinned
abbrev pub invariant-loop-i : goal.invariant-loop-i
invariant-loop-i l = record {
  rest : SameButPins l.initial.t l.t;
  list : SameTables l.initial.t l.t;
  order : order_of l.t.pool ≡ order_of l.initial.t.pool;
  left : (k : ℕ) → is_pinned l.t.pool k ≡ true → ListedFrom l.initial.t l.i k;
}
