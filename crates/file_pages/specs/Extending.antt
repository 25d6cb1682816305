-- A write past a file's end: what is prepared for it, and how its update ends.
use Rattle.std.specs.Prelude.{◌≡◌, ℕ, ◌-◌, List, Result, Ok, Err}
use Rattle.rio_base.specs.declared.places.VolumeShape.{VolumeShape}
use Rattle.rio_base.specs.Blocks.{BlockWords, Seen}
use Rattle.rio_base.specs.Volume.{Kept}
use Rattle.block_alloc.specs.Bitmap.{numbers}
use Rattle.inode_table.specs.declared.inode.Inode.{Inode}
use Rattle.rio_model.specs.NodeChanges.{AreLowest}
use Rattle.rio_model.specs.Sizes.{pages}
use Rattle.node_pages.specs.Changes.{Grows, planned_node}
use Rattle.node_pages.specs.LookingUp.{page_blocks}
use Rattle.node_pages.specs.declared.changes.SizeChange.{SizeChange}
use Rattle.node_pages.specs.declared.failures.SizeFail.{SizeFail}
use Rattle.node_pages.specs.declared.failures.SizeFail.TheVariants.{NoSpace, TooLarge, Fault, Stopped, Memory}
use Rattle.node_pages.specs.declared.failures.WriteFail.{WriteFail}
use Rattle.node_pages.specs.declared.failures.WriteFail.TheVariants.{NoSpace as WriteNoSpace, TooLarge as WriteTooLarge, Fault as WriteFault, Stopped as WriteStopped, Memory as WriteMemory}

-- the growth of file i to a size is prepared, by the lowest free blocks, and these are the blocks of its pages from one page
-- on, old and new ones
pub record Extends (shape : VolumeShape) (f : BlockWords) (y : Seen) (j : Kept) (i : ℕ) (given : Inode) (len first : ℕ) (c : SizeChange) (blocks : List ℕ) : Type 0 where
  pub grows : Grows shape f y j i given len (numbers c.taken) c
  pub span : blocks ≡ page_blocks (planned_node f i given len c) first (pages len - first)
  pub lowest : AreLowest shape f (numbers c.taken)

-- a failure of the update, once so many bytes count
abbrev pub failed_after : ℕ → SizeFail → WriteFail
failed_after done NoSpace = WriteNoSpace
failed_after done TooLarge = WriteTooLarge
failed_after done Fault = WriteFault done
failed_after done Stopped = WriteStopped
failed_after done Memory = WriteMemory

-- how a write ends whose update ended so, once so many bytes count
abbrev pub told_after : ℕ → Result (Unit {0}) SizeFail → Result (Unit {0}) WriteFail
told_after done (Ok u) = Ok u
told_after done (Err e) = Err (failed_after done e)
