use Rattle.std.proofs.Common.{◌≡◌, ◌≤◌, ◌-◌, length, true}
use Rattle.rio_base.specs.Machine.{Copied, CopiedScratch, Falls, Steps}
use Rattle.board.specs.Boards.{contents_of, protected_count, protected_of, running_of, scratch_of}
use Rattle.board.specs.Guards.{HaltsSooner, MakesSteps, page_of}
use Rattle.board.proofs.board.BoardMachine.copy_page.Given as goal

-- the front of `done` words is copied, in as many steps
abbrev pub invariant-loop-done : goal.invariant-loop-done
invariant-loop-done g l =
    let words = g.F.MemWords.words in
    let disk = g.D.DiskBlocks.contents in
    let old = l.initial.self in
    let now = l.self in
    let size = protected_count (words old.mem) old.scratch in
    record {
      within : l.done ≤ 512;
      copied : Copied l.from.0 l.to.0 l.done (protected_of (words old.mem) old.scratch) (protected_of (words now.mem) now.scratch);
      scratch : CopiedScratch l.from.0 l.to.0 l.done (running_of (words old.mem) old.scratch old.guard) (protected_of (words now.mem) now.scratch);
      count : length (words now.mem) ≡ length (words old.mem);
      rest : contents_of (words now.mem) now.scratch (disk now.disk) now.guard ≡ record (contents_of (words old.mem) old.scratch (disk old.disk) old.guard) { words = protected_of (words now.mem) now.scratch };
      steps : Steps (running_of (words old.mem) old.scratch old.guard) (running_of (words now.mem) now.scratch now.guard);
      falls : Falls (page_of old.guard) (running_of (words old.mem) old.scratch old.guard) (running_of (words now.mem) now.scratch now.guard);
      frozen : old.guard.stopped ≡ true → (l.done ≡ 0) × (contents_of (words now.mem) now.scratch (disk now.disk) now.guard ≡ contents_of (words old.mem) old.scratch (disk old.disk) old.guard);
      runs : now.guard.stopped ≡ old.guard.stopped;
      sooner : HaltsSooner l.done size old.guard now.guard;
      made : MakesSteps l.done size (scratch_of (words old.mem) old.scratch) old.guard (scratch_of (words now.mem) now.scratch) now.guard;
    }

abbrev pub decreases-loop-done : goal.decreases-loop-done
decreases-loop-done g l = 512 - l.done
