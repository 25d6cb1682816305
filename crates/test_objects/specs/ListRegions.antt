-- The region in memory: a list of words, with no machine below.
use Rattle.std.specs.Prelude.{◌≡◌, ◌<◌, ◌^◌, ℕ, slice_index_or, length, replicate, Option, false}
use Rattle.test_objects.specs.declared.list_region.ListRegion.{ListRegion}
use Rattle.rio_base.specs.Blocks.{Health}
use Rattle.rio_base.specs.Volume.{Below}
use Rattle.rio_base.specs.Regions.{RegionContent}
use Rattle.test_objects.specs.StepLimits.{limit_below, limit_health}

abbrev pub region_content : ListRegion → RegionContent
region_content r at = slice_index_or r.words.items at 0

abbrev pub region_health : ListRegion → Health
region_health r = limit_health r.steps

abbrev pub region_below : ListRegion → Below
region_below r = limit_below r.steps

pub record RegionReady (r : ListRegion) : Type 0 where
  pub fits : length r.words.items ≡ r.count
  pub small : r.count < 2 ^ 32

-- a new region: zeros, not stopped
pub record IsNewRegion (words : ℕ) (stop_after : Option ℕ) (r : ListRegion) : Type 0 where
  pub ready : RegionReady r
  pub count : r.count ≡ words
  pub zeros : r.words.items ≡ replicate words 0
  pub steps : r.steps ≡ record { left = stop_after; stopped = false }
