-- How the calls of the region in memory go on.
use Rattle.std.proofs.Common.{◌≡◌, ◌≤◌, Bool, true, false, refl, inl, inr, le_refl}
use Rattle.rio_base.specs.Blocks.{Health}
use Rattle.rio_base.specs.Rules.{limit_refl}
use Rattle.rio_base.specs.Volume.{Goes, StopCause}
use Rattle.test_objects.specs.FaultyRegions.{faulty_below}

cause : (a b : Bool) → StopCause faulty_below.causes faulty_below.causes a b
cause true true = refl
cause true false = refl
cause false true = inr (refl, refl)
cause false false = refl

pub goes_by : (s t : Health) → s.faults ≤ t.faults → (s.stopped ≡ true → t.stopped ≡ true) → Goes s faulty_below t faulty_below
goes_by s t later stays = record {
  runs = record { later = later; stays = stays; written = le_refl 0; roomy = refl; around = refl; stop_set = refl; protected = refl; armed = inl refl; cause = cause s.stopped t.stopped; memory = refl; limit = limit_refl faulty_below.limit };
  quiet = record { home = λ r. refl; writes = λ r. refl };
}
