-- Laws of what specs/Covers.antt defines.
use Rattle.std.specs.Prelude.{ℕ}
use Rattle.std.proofs.Common.{arith}
use Rattle.rio_base.specs.Machine.{Contents}
use Rattle.rio_model.specs.Cover.{Coherent}
use Rattle.test_objects.specs.Covers.{InLimits}

-- a machine's memory is within them
pub coherent_in_limits : (c : Contents) (n : ℕ) → Coherent c n → InLimits c.words
coherent_in_limits c n h = record {
  frames = h.sizes.most_frames;
  shadows = λ k v. (h.rules.shadows k v.within).most v.valid;
  pages = omega (arith, h.protected);
}
