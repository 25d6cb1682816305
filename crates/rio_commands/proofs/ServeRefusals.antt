-- What is so of the two files decides whether they are served, but for want of memory and calls that the host refuses.
use Rattle.std.proofs.Common.{◌≡◌, ℕ, List, refl, subst, inl, inr}
use Rattle.std.specs.Prelude.{Option, Some, None, ◌⊎◌}
use Rattle.rio_base.specs.Hosts.{Files, HasSize, IsAbsent, IsFile}
use Rattle.block_disk.specs.HostDisks.{IsDiskLength}
use Rattle.rio_model.specs.VolumeFails.{FailsPair}
use Rattle.pair_files.specs.Ends.{Ended, IsPairOrKept, IsSomePair}
use Rattle.pair_files.specs.Images.{Breaks, FailsRule, HoldsImage}
use Rattle.pair_files.specs.Pairs.{AreBlocksIn, BreaksVolume, file_of, pair_machine}
use Rattle.pair_files.specs.declared.ends.PairEnd.{PairEnd}
use Rattle.pair_files.specs.declared.ends.PairEnd.TheVariants.{Absent, BadImage, BadVolume, BootFault, BootStopped, HostFault, Memory, Unsaved, Worked}
use Rattle.pair_files.specs.declared.names.PairFile.TheVariants.{Image, Disk}
use Rattle.pair_files.proofs.PairRules.{breaks_none, none_breaks, volume_none}
use Rattle.line_loop.specs.declared.ends.LinesEnd.{LinesEnd}
use Rattle.rio_commands.specs.Outside.{Benched, Outside}
use Rattle.rio_commands.specs.ServeLines.{serve_status}
use Rattle.rio_commands.specs.Serve.{Decided, DecidedByImage, ServeRefusals, does_serve, outcome_at, outset_at}

-- ---- a file is there or not, and has one list of bytes

not_there : (told : Option Files) (files : Files) (name bytes : List ℕ) → told ≡ Some files → IsFile told name bytes → IsAbsent told name → ⊥
not_there None files name bytes is file none = cc
not_there (Some f) files name bytes is file none = cc

file_gone : (told : Option Files) (name bytes : List ℕ) → file_of told name ≡ Some bytes → IsAbsent told name → ⊥
file_gone None name bytes file none = cc
file_gone (Some f) name bytes file none = cc

-- a file that has a size is there
no_size : (told : Option Files) (files : Files) (name : List ℕ) (size : ℕ) → told ≡ Some files → HasSize told name (Some size) → IsAbsent told name → ⊥
no_size None files name size is has none = cc
no_size (Some f) files name size is has none = let e = rw none at has in cc e

same_bytes : (told : Option Files) (files : Files) (name a b : List ℕ) → told ≡ Some files → IsFile told name a → IsFile told name b → a ≡ b
same_bytes None files name a b is first second = cc
same_bytes (Some f) files name a b is first second = cc

-- no rule fails of an image that keeps all
holds_breaks : (told : Option Files) (files : Files) (image words : List ℕ) (rule : ℕ) → told ≡ Some files → HoldsImage told image words → Breaks told image rule → ⊥
holds_breaks told files image words rule is h x =
    none_breaks h.holds.bytes words h.scratch rule h.holds.are h.layout h.keeps (subst (λ (bs : List ℕ). FailsRule bs rule) (same_bytes told files image x.bytes h.holds.bytes is x.file h.holds.file) x.fails)

-- a volume that breaks a rule is on a disk that is there
disk_there : (told : Option Files) (files : Files) (image disk : List ℕ) (rule b : ℕ) → told ≡ Some files → BreaksVolume told image disk rule b → IsAbsent told disk → ⊥
disk_there told files image disk rule b is x none = by x.fails
  where
    by : ((rule ≡ 1) × (b ≡ 0) × (size : ℕ) × HasSize told disk (Some size) × (IsDiskLength size → ⊥)) ⊎ ((bytes : List ℕ) × (blocks : List (List ℕ)) × IsFile told disk bytes × AreBlocksIn bytes blocks × FailsPair (pair_machine x.words blocks) rule b) → ⊥
    by (inl (one, at, size, has, long)) = no_size told files disk size is has none
    by (inr (bytes, blocks, file, in_disk, fails)) = not_there told files disk bytes is file none

-- ---- each end

module _ (image disk : List ℕ) (stop : Option ℕ) (status : ℕ) (old new : Outside) (replied : Option (List ℕ)) (faults : ℕ) (bench : Benched) (files : Files) (told : old.files ≡ Some files) where
  abbrev Ends : PairEnd LinesEnd → Type 0
  Ends end = Ended (outset_at image disk stop old) does_serve end (outcome_at new replied faults bench)

  no_image : (end : PairEnd LinesEnd) → status ≡ serve_status end → Ends end → IsAbsent old.files image → DecidedByImage (end ≡ Absent Image) end status old new
  no_image (Absent Image) is h none = inl refl
  no_image (Absent Disk) is h none = let image_is = h.ends.3 in absurd (not_there old.files files image image_is.holds.bytes told image_is.holds.file none)
  no_image (BadImage rule) is h none = let x = h.ends.1 in absurd (not_there old.files files image x.bytes told x.file none)
  no_image (BadVolume rule b) is h none = let x = h.ends.1 in absurd (not_there old.files files image x.holds.holds.bytes told x.holds.holds.file none)
  no_image (HostFault Image) is h none = inr (inr (refl, h.ends.2))
  no_image (HostFault Disk) is h none = let image_is = h.ends.4 in absurd (not_there old.files files image image_is.holds.bytes told image_is.holds.file none)
  no_image Memory is h none = inr (inl is)
  no_image BootFault is h none = let f = h.ends.0.found in absurd (not_there old.files files image f.image_file.holds.bytes told f.image_file.holds.file none)
  no_image BootStopped is h none = let f = h.ends.0.found in absurd (not_there old.files files image f.image_file.holds.bytes told f.image_file.holds.file none)
  no_image (Worked e) is h none = let pair = h.ends.0 files told in absurd (file_gone old.files image pair.0 pair.3.image_file none)
  no_image (Unsaved None) is h none = let f = h.ends.0.found in absurd (not_there old.files files image f.image_file.holds.bytes told f.image_file.holds.file none)
  no_image (Unsaved (Some e)) is h none = let f = h.ends.0.found in absurd (not_there old.files files image f.image_file.holds.bytes told f.image_file.holds.file none)

  bad_image : (end : PairEnd LinesEnd) → status ≡ serve_status end → Ends end → (rule : ℕ) → Breaks old.files image rule → DecidedByImage (status ≡ 3) end status old new
  bad_image (BadImage r) is h rule breaks = inl is
  bad_image (Absent Image) is h rule breaks = absurd (not_there old.files files image breaks.bytes told breaks.file h.ends.2)
  bad_image (Absent Disk) is h rule breaks = absurd (holds_breaks old.files files image h.ends.2 rule told h.ends.3 breaks)
  bad_image (BadVolume r b) is h rule breaks = let x = h.ends.1 in absurd (holds_breaks old.files files image x.words rule told x.holds breaks)
  bad_image (HostFault Image) is h rule breaks = inr (inr (refl, h.ends.2))
  bad_image (HostFault Disk) is h rule breaks = absurd (holds_breaks old.files files image h.ends.3 rule told h.ends.4 breaks)
  bad_image Memory is h rule breaks = inr (inl is)
  bad_image BootFault is h rule breaks = let f = h.ends.0.found in absurd (holds_breaks old.files files image f.words rule told f.image_file breaks)
  bad_image BootStopped is h rule breaks = let f = h.ends.0.found in absurd (holds_breaks old.files files image f.words rule told f.image_file breaks)
  bad_image (Worked e) is h rule breaks = let pair = h.ends.0 files told in absurd (breaks_none old.files image disk pair.0 pair.1 pair.2 rule pair.3 breaks)
  bad_image (Unsaved None) is h rule breaks = let f = h.ends.0.found in absurd (holds_breaks old.files files image f.words rule told f.image_file breaks)
  bad_image (Unsaved (Some e)) is h rule breaks = let f = h.ends.0.found in absurd (holds_breaks old.files files image f.words rule told f.image_file breaks)

  no_disk : (end : PairEnd LinesEnd) → status ≡ serve_status end → Ends end → (words : List ℕ) → HoldsImage old.files image words → IsAbsent old.files disk → Decided (end ≡ Absent Disk) status old new
  no_disk (Absent Disk) is h words holds none = inl refl
  no_disk (Absent Image) is h words holds none = absurd (not_there old.files files image holds.holds.bytes told holds.holds.file h.ends.2)
  no_disk (BadImage rule) is h words holds none = absurd (holds_breaks old.files files image words rule told holds h.ends.1)
  no_disk (BadVolume rule b) is h words holds none = absurd (disk_there old.files files image disk rule b.0 told h.ends.1 none)
  no_disk (HostFault Image) is h words holds none = inr (inr (is, h.ends.2))
  no_disk (HostFault Disk) is h words holds none = inr (inr (is, h.ends.2))
  no_disk Memory is h words holds none = inr (inl is)
  no_disk BootFault is h words holds none = let f = h.ends.0.found in absurd (not_there old.files files disk _ told f.disk_file.bytes none)
  no_disk BootStopped is h words holds none = let f = h.ends.0.found in absurd (not_there old.files files disk _ told f.disk_file.bytes none)
  no_disk (Worked e) is h words holds none = let pair = h.ends.0 files told in absurd (file_gone old.files disk pair.1 pair.3.disk_file none)
  no_disk (Unsaved None) is h words holds none = inr (inr (is, h.ends.0.rose))
  no_disk (Unsaved (Some e)) is h words holds none = inr (inr (is, h.ends.0.rose))

  -- files whose volume breaks a rule are no pair
  no_pair : (rule b : ℕ) → BreaksVolume old.files image disk rule b → IsSomePair (outset_at image disk stop old) → ⊥
  no_pair rule b breaks some = let pair = some files told in volume_none old.files image disk pair.0 pair.1 pair.2 rule b pair.3 breaks

  kept : (rule b : ℕ) → BreaksVolume old.files image disk rule b → IsPairOrKept (outset_at image disk stop old) (outcome_at new replied faults bench) → new.files ≡ old.files
  kept rule b breaks (inl some) = absurd (no_pair rule b breaks some)
  kept rule b breaks (inr same) = same

  bad_volume : (end : PairEnd LinesEnd) → status ≡ serve_status end → Ends end → (rule b : ℕ) → BreaksVolume old.files image disk rule b → Decided ((status ≡ 4) ⊎ (status ≡ 5)) status old new × (new.files ≡ old.files)
  bad_volume (BadVolume r c) is h rule b breaks = (inl (inl is), h.ends.0.files)
  bad_volume BootFault is h rule b breaks = (inl (inr is), kept rule b breaks h.ends.2)
  bad_volume BootStopped is h rule b breaks = absurd (no_pair rule b breaks h.ends.3)
  bad_volume (Absent Image) is h rule b breaks = absurd (not_there old.files files image breaks.holds.holds.bytes told breaks.holds.holds.file h.ends.2)
  bad_volume (Absent Disk) is h rule b breaks = absurd (disk_there old.files files image disk rule b told breaks h.ends.4)
  bad_volume (BadImage r) is h rule b breaks = absurd (holds_breaks old.files files image breaks.words r told breaks.holds h.ends.1)
  bad_volume (HostFault Image) is h rule b breaks = (inr (inr (is, h.ends.2)), h.ends.0.files)
  bad_volume (HostFault Disk) is h rule b breaks = (inr (inr (is, h.ends.2)), h.ends.0.files)
  bad_volume Memory is h rule b breaks = (inr (inl is), h.ends.0.files)
  bad_volume (Worked e) is h rule b breaks = absurd (no_pair rule b breaks h.ends.0)
  bad_volume (Unsaved None) is h rule b breaks = (inr (inr (is, h.ends.0.rose)), kept rule b breaks h.ends.2)
  bad_volume (Unsaved (Some e)) is h rule b breaks = absurd (no_pair rule b breaks h.ends.1)

  pub refusals : (end : PairEnd LinesEnd) → status ≡ serve_status end → Ends end → ServeRefusals end image disk status old new
  refusals end is h = record { no_image = no_image end is h; bad_image = bad_image end is h; no_disk = no_disk end is h; bad_volume = bad_volume end is h }
