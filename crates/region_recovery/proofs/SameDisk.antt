-- A disk whose blocks read as they did is the same list of blocks, so what a reboot made of it stands.
use Rattle.std.specs.Prelude.{◌≡◌, ℕ, ◌<◌, List, [], length}
use Rattle.std.proofs.Common.{◌∙◌, ap, subst, sym}
use Rattle.std.proofs.lemmas.List.{ext_get_or}
use Rattle.rio_base.specs.Blocks.{Home}
use Rattle.rio_base.specs.Disks.{block_at}
use Rattle.rio_base.specs.Machine.{Contents}
use Rattle.rio_model.specs.Cover.{home_of}
use Rattle.rio_model.specs.Placed.{Layout}
use Rattle.rio_model.specs.Standing.{Restored}
use Rattle.rio_model.proofs.StandingStates.{AreWhole}

pub same_disk : (old new : Contents) → AreWhole old → AreWhole new → length new.disk ≡ length old.disk → home_of new ≡ home_of old → new.disk ≡ old.disk
same_disk old new was whole count home = ext_get_or [] new.disk old.disk count (λ b less.
    ext_get_or 0 (block_at new.disk b) (block_at old.disk b) (whole b less ∙ sym (was b (subst (λ n. b < n) count less))) (λ w small. ap (λ (h : Home). h.disk b w) home))

-- recovery with a frame for each block writes nothing to the disk: it is the restored one still
pub restored_still : (l : Layout) (words : List ℕ) (disk : List (List ℕ)) (old new : Contents) → AreWhole old → AreWhole new → length new.disk ≡ length old.disk → home_of new ≡ home_of old → Restored l words disk old.disk → Restored l words disk new.disk
restored_still l words disk old new was whole count home h = subst (Restored l words disk) (sym (same_disk old new was whole count home)) h
