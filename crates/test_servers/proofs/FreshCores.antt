-- A core over a fresh cache holds the fresh state.
use Rattle.std.proofs.Common.{◌≡◌, ◌≢◌, ℕ, false, ap, arith}
use Rattle.std.specs.Prelude.{[]}
use Rattle.rio_base.specs.declared.places.VolumeShape.{VolumeShape}
use Rattle.rio_base.specs.Blocks.{Health, Seen}
use Rattle.rio_base.specs.Disks.{DiskContents}
use Rattle.rio_base.specs.Image.{image_pages}
use Rattle.rio_base.specs.Volume.{Below, Kept}
use Rattle.rio_model.specs.Fresh.{fresh_state}
use Rattle.rio_model.specs.Held.{held_of}
use Rattle.rio_model.specs.VolumeReads.{ReadsAs}
use Rattle.rio_model.specs.VolumeReady.{Ready}
use Rattle.rio_core.specs.Serving.{Holds}
use Rattle.rio_core.proofs.Recoveries.{recovered_held}
use Rattle.rio_core.proofs.RegionEnds.{held_serves}
use Rattle.test_servers.specs.FreshMachines.{IsFreshBelow}

pub fresh_holds : (frames faults : ℕ) (shape : VolumeShape) (disk : DiskContents) (x : Seen) (k : Kept) (h : Health) (b : Below)
    → ReadsAs shape x.words (fresh_state shape (image_pages frames 1) 1) → Ready shape x k → ((i : ℕ) → (held_of shape x.words i).kind ≢ 3)
    → h ≡ record { faults = faults; stopped = false } → IsFreshBelow frames disk b → Holds shape x k h b [] (fresh_state shape (image_pages frames 1) 1)
fresh_holds frames faults shape disk x k h b reads ready none health below = record {
  serves = held_serves shape x k [] (fresh_state shape (image_pages frames 1) 1) ready (recovered_held shape x.words (fresh_state shape (image_pages frames 1) 1) reads (λ i three. absurd (none i three)));
  running = ap (λ (h : Health). h.stopped) health;
  pages = let protected = below.protected in let scratch = below.scratch in omega (arith, protected, scratch);
  scratch = let scratch = below.scratch in omega (arith, scratch);
}
