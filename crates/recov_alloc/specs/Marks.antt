-- Bits of the heap map that are stored.
use Rattle.std.specs.Prelude.{◌≡◌, ℕ, ◌+◌, ◌*◌, ◌/◌, ◌%◌, ◌<◌, ◌⊎◌, ◌&&◌, ◌==◌, nat_le, nat_lt, if◌then◌else◌, ◌∷◌}
use Rattle.rio_base.specs.Regions.{RegionContent}
use Rattle.rio_model.specs.Undo.{CoversAll, live, saving, undo_records}
use Rattle.rio_model.specs.Heap.{OffBlock, starts, touched_pages, used}
use Rattle.undo_list.specs.Bits.{WithBits}

-- units of one page from x on are v, in the first of its two map words, and so are the first s of them in the second one;
-- no other bit and no other word differs
pub record StoresPair (l m : ℕ → ℕ) (x n s v : ℕ) : Type 0 where
  pub used : WithBits (l (2 * (x / 64))) (m (2 * (x / 64))) (x % 64) (x % 64 + n) v
  pub starts : WithBits (l (2 * (x / 64) + 1)) (m (2 * (x / 64) + 1)) (x % 64) (x % 64 + s) v
  pub others : (q : ℕ) → (q < 2 * (x / 64)) ⊎ (2 * (x / 64) + 1 < q) → m q ≡ l q

-- so are those of a block, with its start
pub record MarksBlock (l m : ℕ → ℕ) (t n v : ℕ) : Type 0 where
  pub used : (y : ℕ) → used m y ≡ (if nat_le t y && nat_lt y (t + n) then v else used l y)
  pub starts : (y : ℕ) → starts m y ≡ (if y == t then v else starts l y)
  pub others : OffBlock l m t n

-- the map words of a block's pages are covered by records
abbrev pub MapCovered : RegionContent → ℕ → ℕ → Type 0
MapCovered f t n = CoversAll (undo_records f) (2 * (t / 64)) (2 * touched_pages t n)

-- the bits of a block are v, under a record of the map words of its pages
pub record ChangesMap (f g : RegionContent) (t n v : ℕ) : Type 0 where
  pub marks : MarksBlock (live f) (live g) t n v
  pub records : undo_records g ≡ saving (live f) (2 * (t / 64)) (2 * touched_pages t n) ∷ undo_records f
