-- The region in memory that fails and stops: a list of words, with no machine below.
use Rattle.std.specs.Prelude.{◌≡◌, ◌≤◌, ◌<◌, ◌^◌, ℕ, true, false, slice_index_or, length, [], None, Some, refl}
use Rattle.rio_base.specs.Blocks.{Health}
use Rattle.rio_base.specs.Regions.{RegionContent}
use Rattle.rio_base.specs.Rules.{none_some}
use Rattle.rio_base.specs.Volume.{Below}
use Rattle.rio_model.specs.Undo.{IsRegion, live, undo_records}
use Rattle.rio_model.specs.Heap.{OfBlocks}
use Rattle.test_objects.specs.declared.faulty_region.FaultyRegion.{FaultyRegion}

abbrev pub faulty_content : FaultyRegion → RegionContent
faulty_content r at = slice_index_or r.words.items at 0

abbrev pub faulty_health : FaultyRegion → Health
faulty_health r = record { faults = r.faults; stopped = r.stopped }

-- no disk, no protected page, no wild store; a stop may be set
abbrev pub faulty_below : Below
faulty_below = record { roomy = true; home = None; writes = 0; around = None; causes = record { stop_set = true; armed = None; trapped = None; protected = λ p. false }; memory = record { protected = 0; scratch = 0 }; limit = None }

pub faulty_limit : (faults most : ℕ) → faulty_below.limit ≡ Some most → faults ≤ most
faulty_limit faults most e = absurd (none_some most None refl e)

pub record FaultyReady (r : FaultyRegion) : Type 0 where
  pub fits : length r.words.items ≡ r.count
  pub small : r.count < 2 ^ 32

-- only the counts of calls and faults, and whether it is stopped, may differ
pub record OnlyCounts (old new : FaultyRegion) : Type 0 where
  pub words : new.words ≡ old.words
  pub count : new.count ≡ old.count

-- a fresh region: no undo record, and a heap map of blocks alone
pub record IsFreshRegion (data_pages : ℕ) (r : FaultyRegion) : Type 0 where
  pub region : IsRegion r.count (faulty_content r)
  pub pages : faulty_content r 2 ≡ data_pages
  pub heap : OfBlocks (live (faulty_content r)) data_pages
  pub records : undo_records (faulty_content r) ≡ []
