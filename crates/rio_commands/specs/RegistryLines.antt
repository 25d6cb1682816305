-- The lines of `registry`, and the status of each of its ends.
use Rattle.std.specs.Prelude.{ℕ, List, [], ◌++◌, codes, if◌then◌else◌}
use Rattle.std.specs.Fmt.{decimal}
use Rattle.rio_commands.specs.declared.ends.RegistryEnd.{RegistryEnd}
use Rattle.rio_commands.specs.declared.ends.RegistryEnd.TheVariants.{Listed, Refused, Absent, HostFault, SinkFault, Memory}
use Rattle.rio_commands.specs.declared.registry_lines.Row.{Row}
use Rattle.rio_commands.specs.Command.{host_fault_line}

-- ---- the listing

-- a word, and a number behind it
abbrev pub field : List ℕ → ℕ → List ℕ
field word n = word ++ decimal n

-- which block a frame has, and in which state
abbrev pub block_part : Row → List ℕ
block_part row = decimal row.frame ++ field (codes " block ") row.block ++ (if row.dirty then codes " dirty" else codes " clean") ++ (if row.of_file then codes " data" else codes " meta")

-- which page of which file that is
abbrev pub file_part : Row → List ℕ
file_part row = field (codes " file ") row.file ++ field (codes " index ") row.index ++ field (codes " size ") row.size ++ field (codes " shadow ") row.shadow ++ codes "\n"

-- the line of a frame's entry
abbrev pub row_line : Row → List ℕ
row_line row = block_part row ++ file_part row

-- ---- the ends

-- the status of each end
abbrev pub registry_status : RegistryEnd → ℕ
registry_status Listed = 0
registry_status (Refused rule) = 3
registry_status Memory = 6
registry_status Absent = 7
registry_status HostFault = 7
registry_status SinkFault = 9

-- the line of an image that breaks this rule
abbrev pub image_rule_line : ℕ → List ℕ
image_rule_line rule = field (codes "image refused: rule ") rule ++ codes "\n"

-- the line of a file that is not there
abbrev pub absent_line : List ℕ → List ℕ
absent_line name = codes "no such file: " ++ (name ++ codes "\n")

-- the line that is written at an end where nothing is listed
abbrev pub registry_line : RegistryEnd → List ℕ → List ℕ
registry_line Listed image = []
registry_line (Refused rule) image = image_rule_line rule
registry_line Memory image = codes "out of memory\n"
registry_line Absent image = absent_line image
registry_line HostFault image = host_fault_line image
registry_line SinkFault image = []
