use Rattle.volume_check.proofs.Common.{◌≡◌, ◌≤◌, ◌++◌, Seen}
use Rattle.volume_check.specs.Inodes.{HasInodes, layout_of}
use Rattle.volume_check.specs.NodeBlocks.{numbers, page_numbers}
use Rattle.volume_check.proofs.numbers.push_direct.Given as goal

abbrev pub invariant-loop-page : goal.invariant-loop-page
invariant-loop-page l = record {
  to : l.page ≤ l.end;
  found : (s : Seen) → HasInodes s l.inodes → numbers l.blocks.items ≡ numbers l.fn.blocks.items ++ page_numbers ((layout_of s l.inodes).node l.i.0) 0 l.page;
}
