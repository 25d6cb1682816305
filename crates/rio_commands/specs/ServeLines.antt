-- The line of `serve`, and the status of each of its ends.
use Rattle.std.specs.Prelude.{ℕ, List, [], ◌++◌, codes, Option, Some, None}
use Rattle.line_loop.specs.declared.ends.ServeEnd.{ServeEnd}
use Rattle.line_loop.specs.declared.ends.ServeEnd.TheVariants.{End, SourceFault, SinkFault, InputLimit, Memory as NoMemory, Stopped}
use Rattle.pair_files.specs.declared.ends.PairEnd.{PairEnd}
use Rattle.pair_files.specs.declared.ends.PairEnd.TheVariants.{Absent, BadImage, BadVolume, BootFault, BootStopped, HostFault, Memory, Unsaved, Worked}
use Rattle.line_loop.specs.LinesEnds.{loop_end}
use Rattle.line_loop.specs.declared.ends.LinesEnd.{LinesEnd}
use Rattle.line_loop.specs.declared.ends.LinesEnd.TheVariants.{Ended as LoopEnded, Trapped}
use Rattle.rio_commands.specs.CheckLines.{name_of, volume_rule_line}
use Rattle.rio_commands.specs.Command.{host_fault_line, memory_line}
use Rattle.rio_commands.specs.RegistryLines.{absent_line, field, image_rule_line}

abbrev pub lines_status : ServeEnd → ℕ
lines_status End = 0
lines_status NoMemory = 6
lines_status SourceFault = 8
lines_status SinkFault = 9
lines_status Stopped = 10
lines_status InputLimit = 11

-- the status of each end. A trap is a stop
abbrev pub serve_status : PairEnd LinesEnd → ℕ
serve_status (Worked end) = lines_status (loop_end end)
serve_status (BadImage rule) = 3
serve_status (BadVolume rule b) = 4
serve_status BootFault = 5
serve_status Memory = 6
serve_status (Absent file) = 7
serve_status (HostFault file) = 7
serve_status (Unsaved end) = 7
serve_status BootStopped = 10

-- after how many steps the machine stopped
abbrev pub stopped_line : ℕ → List ℕ
stopped_line steps = field (codes "stopped ") steps ++ codes "\n"

-- on which word a wild store trapped
abbrev pub trapped_line : ℕ → List ℕ
trapped_line at = field (codes "trapped ") at ++ codes "\n"

-- without a stop that was given none is told: see `stopped` of ServeCauses, in Serve.antt
abbrev pub stop_line : Option ℕ → List ℕ
stop_line (Some steps) = stopped_line steps
stop_line None = []

abbrev pub loop_line : ServeEnd → Option ℕ → List ℕ
loop_line End stop = []
loop_line NoMemory stop = memory_line
loop_line SourceFault stop = codes "source fault\n"
loop_line SinkFault stop = []
loop_line Stopped stop = stop_line stop
loop_line InputLimit stop = codes "input limit\n"

abbrev pub lines_line : LinesEnd → Option ℕ → List ℕ
lines_line (LoopEnded end) stop = loop_line end stop
lines_line (Trapped at) stop = trapped_line at.0

-- the line that is written at each end, behind the replies
abbrev pub serve_line : PairEnd LinesEnd → List ℕ → List ℕ → Option ℕ → List ℕ
serve_line (Worked end) image disk stop = lines_line end stop
serve_line (BadImage rule) image disk stop = image_rule_line rule
serve_line (BadVolume rule b) image disk stop = volume_rule_line rule b.0
serve_line BootFault image disk stop = codes "device fault at boot\n"
serve_line Memory image disk stop = memory_line
serve_line (Absent file) image disk stop = absent_line (name_of file image disk)
serve_line (HostFault file) image disk stop = host_fault_line (name_of file image disk)
serve_line (Unsaved end) image disk stop = host_fault_line image
serve_line BootStopped image disk stop = stop_line stop
