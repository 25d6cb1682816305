-- What every call on a region's words leaves so, any number of calls leave so.
use Rattle.std.specs.Prelude.{ℕ}
use Rattle.std.proofs.Common.{◌∙◌}
use Rattle.rio_base.specs.Blocks.{Health}
use Rattle.rio_base.specs.Volume.{Below}
use Rattle.rio_base.specs.Frames.{Stays}
use Rattle.rio_base.specs.Rules.{goes_trans}

pub stays_trans : {S : Type 0} {keeps : S → S → Type 0} {stands : S → Type 0} {size : S → ℕ} {health : S → Health} {below : S → Below} {x y z : S} → ((x y z : S) → keeps x y → keeps y z → keeps x z) → Stays keeps stands size health below x y → Stays keeps stands size health below y z → Stays keeps stands size health below x z
stays_trans {health = health} {below = below} {x = x} {y = y} {z = z} trans h k = record {
  rest = trans x y z h.rest k.rest;
  ready = k.ready;
  count = k.count ∙ h.count;
  goes = goes_trans (health x) (below x) (health y) (below y) (health z) (below z) h.goes k.goes;
}
