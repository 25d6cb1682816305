use Rattle.std.proofs.Common.{◌≡◌, ◌≤◌, ◌-◌, ℕ, List, None, Some}
use Rattle.held_memory.specs.Held.{SameBut}
use Rattle.held_memory.proofs.Filling.{Passed}
use Rattle.held_memory.proofs.held_file.hold_words.Given as goal

abbrev pub invariant-pages : goal.invariant-pages
invariant-pages g l =
    let content = g.W.WordFile.content in
    let past = g.W.WordFile.past in
    let faults = g.W.WordFile.faults in
    let words = g.F.MemWords.words l.fn.mem in
    record {
      after : l.fn.at ≤ l.done;
      before : l.done ≤ l.fn.upto;
      untold : content l.fn.file ≡ None → content l.file ≡ None;
      passed : (whole : List ℕ) → content l.fn.file ≡ Some (Some whole) → SameBut l.fn.at l.fn.upto whole words → Passed l.fn.at l.done l.fn.upto whole words (content l.file) (past l.fn.file) (past l.file);
      later : faults l.fn.file ≤ faults l.file;
    }

abbrev pub decreases-pages : goal.decreases-pages
decreases-pages g l = l.fn.upto - l.done
