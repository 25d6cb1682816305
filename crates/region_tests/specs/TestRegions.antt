-- The regions that tests take blocks of and have transactions on.
use Rattle.std.specs.Prelude.{ℕ}
use Rattle.rio_base.specs.Regions.{RegionContent}
use Rattle.rio_model.specs.Undo.{IsRegion, before, live}
use Rattle.rio_model.specs.Heap.{OfBlocks}
use Rattle.vista_region.specs.Ends.{Fits}
use Rattle.vista_region.specs.Marks.{Marks}

-- ---- to take blocks of: their maps are of blocks alone, now and before their records

pub record IsHeap (n : ℕ) (f : RegionContent) : Type 0 where
  pub region : IsRegion n f
  pub present : OfBlocks (live f) (f 2)
  pub rewound : OfBlocks (before f) (f 2)

-- ---- to have transactions on: they fit the table, and the heap map of their words of before is of blocks alone

pub record Sound (marks : Marks) (i n : ℕ) (f : RegionContent) : Type 0 where
  pub fits : Fits marks i n f
  pub rewound : OfBlocks (before f) (f 2)
