-- The units of a block that are marked in a region's map, or freed.
use Rattle.std.specs.Prelude.{◌≡◌, ℕ, ◌+◌, ◌-◌, ◌*◌, ◌/◌, ◌<◌, ◌⊎◌, ◌&&◌, ◌==◌, nat_le, nat_lt, if◌then◌else◌}
use Rattle.rio_model.specs.Heap.{starts, used}

-- the units from t on below x are used, or free, with the start of their block where they have it, and no other bit differs
pub record MarksUnits (l m : ℕ → ℕ) (t x v : ℕ) : Type 0 where
  pub used : (y : ℕ) → used m y ≡ (if nat_le t y && nat_lt y x then v else used l y)
  pub starts : (y : ℕ) → starts m y ≡ (if y == t && nat_lt t x then v else starts l y)
  pub others : (q : ℕ) → (q < 2 * (t / 64)) ⊎ (2 * ((x - 1) / 64) + 1 < q) → m q ≡ l q
