-- The listing of `registry`, and what a run of it leaves.
use Rattle.std.specs.Prelude.{◌≡◌, ◌≤◌, ℕ, List, [], ◌++◌, length, take, flat_map, codes, if◌then◌else◌, Option, ◌⊎◌}
use Rattle.std.specs.List.{range_with_len}
use Rattle.rio_base.specs.Hosts.{Files, IsAbsent}
use Rattle.rio_base.specs.Streams.{appended}
use Rattle.rio_model.specs.Registry.{file_at, frames_of, gate_of, index_at, is_data, is_dirty, is_valid, scratch_of, shadow_at, size_at, tag_at, tag_block}
use Rattle.rio_model.specs.RuleNumbers.{image_rule}
use Rattle.rio_model.specs.declared.rules.ImageRule.TheVariants.{Length}
use Rattle.pair_files.specs.Images.{Breaks, HoldsImage}
use Rattle.pair_files.specs.declared.failures.LoadFail.{LoadFail}
use Rattle.pair_files.specs.declared.failures.LoadFail.TheVariants.{Absent as NotThere, BadImage, BadLength, Fault, Memory as NotLoaded}
use Rattle.rio_commands.specs.declared.ends.RegistryEnd.{RegistryEnd}
use Rattle.rio_commands.specs.declared.ends.RegistryEnd.TheVariants.{Listed, Refused, Absent, HostFault, SinkFault, Memory}
use Rattle.rio_commands.specs.declared.registry_lines.Row.{Row}
use Rattle.rio_commands.specs.Command.{WritesLine}
use Rattle.rio_commands.specs.RegistryLines.{field, registry_line, registry_status, row_line}

-- ---- the listing

-- entry k of these words, as it is listed
abbrev pub row_of : List ℕ → ℕ → Row
row_of words k = record {
  frame = k;
  block = tag_block (tag_at words k);
  dirty = is_dirty (tag_at words k);
  of_file = is_data (tag_at words k);
  file = file_at words k;
  index = index_at words k;
  size = size_at words k;
  shadow = shadow_at words k;
}

-- entries that aren't valid have no line
abbrev pub entry_line : List ℕ → ℕ → List ℕ
entry_line words k = if is_valid (tag_at words k) then row_line (row_of words k) else []

abbrev pub header_line : List ℕ → List ℕ
header_line words = field (codes "frames ") (frames_of words) ++ field (codes " scratch ") (scratch_of words) ++ field (codes " gate ") (gate_of words) ++ codes "\n"

-- the whole listing: the sizes and the gate, and then a line for each valid entry, in order
abbrev pub registry_text : List ℕ → List ℕ
registry_text words = header_line words ++ flat_map (entry_line words) (range_with_len 0 (frames_of words))

-- ---- the ends

-- why nothing is listed, as far as the file and the host say it
abbrev pub Misses : RegistryEnd → List ℕ → Type 0 → Option Files → Type 0
Misses Listed image host_rose files = ⊥
Misses (Refused rule) image host_rose files = Breaks files image rule
Misses Memory image host_rose files = Unit {0}
Misses Absent image host_rose files = IsAbsent files image
Misses HostFault image host_rose files = host_rose
Misses SinkFault image host_rose files = ⊥

-- how a look ends where no image is loaded. No image has a disk's length to fail
abbrev pub unlisted_end : LoadFail → RegistryEnd
unlisted_end (NotThere file) = Absent
unlisted_end (BadImage rule) = Refused rule
unlisted_end BadLength = Refused (image_rule Length)
unlisted_end (Fault file) = HostFault
unlisted_end NotLoaded = Memory

-- a front of the listing was written
pub record CutListing (words : List ℕ) (sink_rose : Type 0) (written written_now : Option (List ℕ)) : Type 0 where
  pub cause : sink_rose
  pub count : ℕ
  pub most : count ≤ length (registry_text words)
  pub front : written_now ≡ appended written (take count (registry_text words))

-- the listing of these words was written whole, or, only where the sink's count rose, a front of it
abbrev pub Writes : List ℕ → ℕ → Type 0 → Option (List ℕ) → Option (List ℕ) → Type 0
Writes words status sink_rose written written_now =
    ((status ≡ 0) × (written_now ≡ appended written (registry_text words))) ⊎ ((status ≡ 9) × CutListing words sink_rose written written_now)

-- what is so at each end
abbrev pub EndsAs : RegistryEnd → List ℕ → Type 0 → Type 0 → Option Files → Option (List ℕ) → Option (List ℕ) → Type 0
EndsAs Listed image host_rose sink_rose files written written_now =
    (words : List ℕ) × HoldsImage files image words × (written_now ≡ appended written (registry_text words))
EndsAs SinkFault image host_rose sink_rose files written written_now =
    (words : List ℕ) × HoldsImage files image words × CutListing words sink_rose written written_now
EndsAs end image host_rose sink_rose files written written_now =
    Misses end image host_rose files × WritesLine sink_rose written (registry_line end image) written_now

-- a look at the registry of this image ended with this status, and left this output
pub record Lists (image : List ℕ) (status : ℕ) (host_rose sink_rose : Type 0) (files : Option Files) (written written_now : Option (List ℕ)) : Type 0 where
  pub end : RegistryEnd
  pub status_is : status ≡ registry_status end
  pub ends : EndsAs end image host_rose sink_rose files written written_now
