-- What a run of `format` leaves.
use Rattle.std.specs.Prelude.{◌≡◌, ℕ, List, ◌++◌, codes, Option}
use Rattle.std.specs.Fmt.{decimal}
use Rattle.std.specs.String.{string_bytes}
use Rattle.rio_base.specs.Hosts.{Files, with_file}
use Rattle.rio_base.specs.Bytes.{bytes_of}
use Rattle.image_codec.specs.Image.{fresh_image_words}
use Rattle.rio_base.specs.Image.{image_pages}
use Rattle.image_codec.specs.Volume.{fresh_volume_words}
use Rattle.rio_commands.specs.declared.formatting.FormatEnd.{FormatEnd}
use Rattle.rio_commands.specs.declared.formatting.FormatEnd.TheVariants.{Formatted, DiskFault, ImageFault, Memory}
use Rattle.rio_commands.specs.declared.formatting.FreshPair.{FreshPair}
use Rattle.rio_commands.specs.declared.formatting.FormatSizes.{FormatSizes}
use Rattle.rio_commands.specs.Command.{WritesLine, host_fault_line}
use Rattle.rio_model.specs.declared.state.State.{State}
use Rattle.rio_model.specs.Fresh.{fresh_state}

-- so many frames and scratch pages, and a volume of so many blocks and inodes
abbrev pub format_sizes : ℕ → ℕ → ℕ → ℕ → FormatSizes
format_sizes frames blocks inodes scratch = record { frames = frames; scratch = scratch; shape = record { version = 1; blocks = blocks; inodes = inodes } }

abbrev pub image_bytes : FormatSizes → List ℕ
image_bytes sizes = bytes_of (fresh_image_words sizes.frames sizes.scratch)

abbrev pub disk_bytes : FormatSizes → List ℕ
disk_bytes sizes = bytes_of (fresh_volume_words sizes.shape.blocks sizes.shape.inodes)

-- the state that they stand for as a pair: the root directory alone
abbrev pub root_state : FormatSizes → State
root_state sizes = fresh_state sizes.shape (image_pages sizes.frames sizes.scratch) sizes.scratch

-- the files at each end: DISK is replaced first, and a file whose replacing failed is as it was
abbrev pub files_after : FormatEnd → List ℕ → List ℕ → List ℕ → List ℕ → Option Files → Option Files
files_after Formatted image disk image_now disk_now files = with_file image image_now (with_file disk disk_now files)
files_after DiskFault image disk image_now disk_now files = files
files_after ImageFault image disk image_now disk_now files = with_file disk disk_now files
files_after Memory image disk image_now disk_now files = files

-- the status of each end
abbrev pub format_status : FormatEnd → ℕ
format_status Formatted = 0
format_status Memory = 6
format_status DiskFault = 7
format_status ImageFault = 7

-- the line that is written at each end
abbrev pub format_line : FormatEnd → List ℕ → List ℕ → FormatSizes → List ℕ
format_line Formatted image disk sizes =
    codes "formatted " ++ (decimal (image_pages sizes.frames sizes.scratch) ++ (codes " pages " ++ (decimal sizes.shape.blocks ++ codes " blocks\n")))
format_line DiskFault image disk sizes = host_fault_line disk
format_line ImageFault image disk sizes = host_fault_line image
format_line Memory image disk sizes = codes "out of memory\n"

-- all that a run of `format` needs memory for
pub record IsPrepared (pair : FreshPair) (image disk : List ℕ) (sizes : FormatSizes) : Type 0 where
  pub image_is : pair.image.items ≡ image_bytes sizes
  pub disk_is : pair.disk.items ≡ disk_bytes sizes
  pub formatted : string_bytes pair.formatted ≡ format_line Formatted image disk sizes
  pub image_fault : string_bytes pair.image_fault ≡ host_fault_line image
  pub disk_fault : string_bytes pair.disk_fault ≡ host_fault_line disk

-- formatting these files ended with this status, and left these files and this output
pub record Formats (image disk : List ℕ) (sizes : FormatSizes) (status : ℕ) (rose : Type 0) (files files_now : Option Files) (written written_now : Option (List ℕ)) : Type 0 where
  pub end : FormatEnd
  pub status_is : status ≡ format_status end
  pub left : files_now ≡ files_after end image disk (image_bytes sizes) (disk_bytes sizes) files
  pub told : WritesLine rose written (format_line end image disk sizes) written_now
