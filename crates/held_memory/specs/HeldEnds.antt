-- How a machine whose memory is held in a file was left.
use Rattle.std.specs.Option.{option_map}
use Rattle.phys_memory.specs.PhysMem.{words_of}
use Rattle.machine_bench.specs.Benches.{Leaving}
use Rattle.held_memory.specs.declared.held_bench.HeldEnd.{HeldEnd}

abbrev pub left_of : {W : Type 0} {m : _} → HeldEnd W m → Leaving
left_of e = record { words = words_of e.memory.mem; faults = e.faults; stopped = e.stopped; trapped = option_map (λ at. at.0) e.trapped }
