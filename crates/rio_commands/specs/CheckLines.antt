-- The line of `check`, and the status of each of its ends.
use Rattle.std.specs.Prelude.{ℕ, List, ◌++◌, codes}
use Rattle.rio_model.specs.declared.census.Census.{Census}
use Rattle.pair_files.specs.declared.names.PairFile.{PairFile}
use Rattle.pair_files.specs.declared.names.PairFile.TheVariants.{Image, Disk}
use Rattle.rio_commands.specs.declared.ends.CheckEnd.{CheckEnd}
use Rattle.rio_commands.specs.declared.ends.CheckEnd.TheVariants.{Sound, BadImage, BadVolume, Absent, HostFault, Memory}
use Rattle.rio_commands.specs.Command.{host_fault_line}
use Rattle.rio_commands.specs.RegistryLines.{absent_line, field, image_rule_line}

-- ---- the lines

-- how many nodes of each kind there are
abbrev pub node_part : Census → List ℕ
node_part census = field (codes "sound dirs ") census.dirs ++ field (codes " files ") census.files ++ field (codes " regions ") census.regions

-- how many blocks nodes have, and how many are free
abbrev pub free_part : Census → List ℕ
free_part census = field (codes " used ") census.used ++ field (codes " free ") census.free ++ codes "\n"

-- what there is on a pair
abbrev pub census_line : Census → List ℕ
census_line census = node_part census ++ free_part census

abbrev pub volume_rule_line : ℕ → ℕ → List ℕ
volume_rule_line rule b = field (codes "volume refused: rule ") rule ++ field (codes " block ") b ++ codes "\n"

-- the name of one of two files
abbrev pub name_of : PairFile → List ℕ → List ℕ → List ℕ
name_of Image image disk = image
name_of Disk image disk = disk

-- ---- the ends

-- the status of each end
abbrev pub check_status : CheckEnd → ℕ
check_status (Sound census) = 0
check_status (BadImage rule) = 3
check_status (BadVolume rule b) = 4
check_status Memory = 6
check_status (Absent file) = 7
check_status (HostFault file) = 7

-- the line of each end
abbrev pub check_line : CheckEnd → List ℕ → List ℕ → List ℕ
check_line (Sound census) image disk = census_line census
check_line (BadImage rule) image disk = image_rule_line rule
check_line (BadVolume rule b) image disk = volume_rule_line rule b.0
check_line Memory image disk = codes "out of memory\n"
check_line (Absent file) image disk = absent_line (name_of file image disk)
check_line (HostFault file) image disk = host_fault_line (name_of file image disk)
