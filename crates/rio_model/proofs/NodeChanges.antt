-- Where a word of a node lies.
use Rattle.std.specs.Prelude.{◌≡◌, ℕ, ◌/◌, ◌%◌}
use Rattle.rio_model.specs.Placed.{AtPage, Layout, Owns}

-- ---- one word

-- word y of node i is word w of block b
pub record IsAt (l : Layout) (i y : ℕ) (b w : ℕ) : Type 0 where
  pub page : Owns l i (AtPage (y / 512))
  pub block : (l.node i).block (AtPage (y / 512)) ≡ b
  pub word : y % 512 ≡ w
