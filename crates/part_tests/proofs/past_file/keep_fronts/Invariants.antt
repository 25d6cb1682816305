use Rattle.std.proofs.Common.{Some}
use Rattle.rio_base.specs.Bytes.{bytes_of}
use Rattle.held_memory.specs.WordFiles.{IsWrittenFront, Meanwhile}
use Rattle.part_tests.specs.PastFiles.{seen}
use Rattle.part_tests.proofs.past_file.keep_fronts.Given as goal

abbrev pub invariant-loop-m : goal.invariant-loop-m
invariant-loop-m l = Meanwhile (IsWrittenFront l.fn.at l.fn.run (bytes_of l.fn.words.items)) (Some (seen l.fn.past.items)) (Some (seen l.past.items))
