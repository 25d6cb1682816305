-- The names of the crates below that the proofs on directories cite again and again, passed on from one place. Declares nothing.
pub use Rattle.std.proofs.Common.{Bool, List, [], ap, arith, bit_and, cond, drop, false, inl, inr, length, map, min, refl, slice_index, slice_index_or, subst, suc, sym, take, true, zero, ℕ, ◌%◌, ◌&&◌, ◌*◌, ◌++◌, ◌+◌, ◌-◌, ◌/◌, ◌<◌, ◌==◌, ◌^◌, ◌∙◌, ◌∷◌, ◌≡◌, ◌≢◌, ◌≤◌, ◌⊎◌}
pub use Rattle.std.proofs.lemmas.Bool.{cases_eq, cases_lt}
pub use Rattle.std.proofs.lemmas.Bool.Decides.{nat_tests}
pub use Rattle.std.proofs.lemmas.List.{append-nil}
pub use Rattle.std.proofs.lemmas.Result.{err_from_is_err_and}
pub use Rattle.std.specs.List.{Contains, range_with_len}
pub use Rattle.std.specs.Prelude.{IfOk, None, Option, Result, Some, nat_lt}
pub use Rattle.block_alloc.specs.Bitmap.{numbers}
pub use Rattle.inode_table.specs.Inodes.{IsInode, inode_words}
pub use Rattle.inode_table.specs.declared.inode.Inode.{Inode}
pub use Rattle.node_pages.proofs.LookingUpRules.{look_trans, named_on}
pub use Rattle.node_pages.proofs.OrderRules.{firm_on, leaves_looked, leaves_trans, ready_left}
pub use Rattle.node_pages.proofs.PlannedSize.{if_ok_map}
pub use Rattle.node_pages.specs.Changes.{PlansSize, free_beside, given_node, planned_node, wanted_blocks, word_edit}
pub use Rattle.node_pages.specs.LookingUp.{LooksUp}
pub use Rattle.node_pages.specs.Updating.{IsEdited, IsUpdated}
pub use Rattle.node_pages.specs.declared.changes.Edit.{Edit}
pub use Rattle.node_pages.specs.declared.changes.SizeChange.{SizeChange}
pub use Rattle.rio_base.proofs.BlockSets.{caches_by_one, caches_by_trans}
pub use Rattle.rio_base.proofs.Rules.{ends_by_after}
pub use Rattle.rio_base.specs.Bitmap.{free_blocks}
pub use Rattle.rio_base.specs.BlockSets.{CachesBy}
pub use Rattle.rio_base.specs.Blocks.{BlockWords, Caches, Health, Looks, Seen}
pub use Rattle.rio_base.specs.Layout.{IsIno, inode_block}
pub use Rattle.rio_base.specs.Rules.{firm_trans, ◌then◌}
pub use Rattle.rio_base.specs.Shapes.{HasShape, reserved}
pub use Rattle.rio_base.specs.Volume.{Below, Firm, Kept, Passes}
pub use Rattle.rio_base.specs.declared.places.Ino.{Ino}
pub use Rattle.rio_base.specs.declared.places.PageName.{PageName}
pub use Rattle.rio_base.specs.declared.places.VolumeShape.{VolumeShape}
pub use Rattle.rio_model.proofs.GrowthRules.{page_old}
pub use Rattle.rio_model.proofs.NodeChangeRules.{held_there, mapped_replaced}
pub use Rattle.rio_model.proofs.PlacedRules.{lays_self}
pub use Rattle.rio_model.specs.Held.{HasEntry, Held, entry_ino, entry_name, held, held_ino, held_of}
pub use Rattle.rio_model.specs.NodeChanges.{Change}
pub use Rattle.rio_model.specs.Paths.{IsName}
pub use Rattle.rio_model.specs.Placed.{AtPage, AtTable, HasSlot, IsFree, Layout, Owns, Placed, Slot, placed_at, volume_layout}
pub use Rattle.rio_model.specs.Updates.{Applied, edited, run_edits}
pub use Rattle.rio_model.specs.VolumeReady.{AllNamed, Bears, Firmly, LeavesInUse, Ready}
pub use Rattle.rio_model.specs.VolumeRules.{EntryRule, IsMapped}
