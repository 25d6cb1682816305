-- The names of the crates below that the proofs of this crate cite again and again, passed on from one place. Declares nothing.
pub use Rattle.std.proofs.Common.{Bool, List, [], ap, arith, cond, drop, false, inl, inr, le_trans, length, length-drop, map, min, not, refl, set, slice_index_or, subst, suc, sym, take, true, zero, ℕ, ◌%◌, ◌&&◌, ◌*◌, ◌++◌, ◌+◌, ◌-◌, ◌/◌, ◌<◌, ◌==◌, ◌^◌, ◌||◌, ◌∙◌, ◌∷◌, ◌≡◌, ◌≢◌, ◌≤◌, ◌⊎◌}
pub use Rattle.std.proofs.lemmas.Bool.{cases_eq, cases_lt}
pub use Rattle.std.proofs.lemmas.Bool.Decides.{nat_tests}
pub use Rattle.std.proofs.lemmas.List.{append-nil, append_assoc, get_or-drop, get_or-take, length-set, length-take, length-take-le, map-append, take-append-drop, take_all, take_rest}
pub use Rattle.std.proofs.lemmas.List.FromFn.{get_or-map-range_with_len, length-map-range_with_len}
pub use Rattle.std.proofs.lemmas.Result.{err_from_is_err_and}
pub use Rattle.std.specs.List.{AllByRecursion, Contains, filter, range_with_len}
pub use Rattle.std.specs.Prelude.{Err, IfOk, IsErrOf, None, Ok, OnOk, Option, Result, Some, max, nat_le, nat_lt, slice_index}
pub use Rattle.block_alloc.specs.Bitmap.{numbers}
pub use Rattle.inode_table.specs.declared.inode.Inode.{Inode}
pub use Rattle.rio_base.proofs.BlockSets.{caches_by_one}
pub use Rattle.rio_base.proofs.Rules.{ends_by_after, ends_by_as}
pub use Rattle.rio_base.specs.Bitmap.{free_blocks, used_bit}
pub use Rattle.rio_base.specs.BlockSets.{CachesBy}
pub use Rattle.rio_base.specs.Blocks.{BlockWords, Caches, CanName, Drops, EndsBy, Health, Looks, SamePage, Seen}
pub use Rattle.rio_base.specs.Layout.{IsIno, inode_block}
pub use Rattle.rio_base.specs.Rules.{firm_trans, goes_trans, ◌then◌}
pub use Rattle.rio_base.specs.Shapes.{HasShape, reserved}
pub use Rattle.rio_base.specs.Volume.{Below, Firm, Goes, Kept, Passes, SameBut, SameUpdate, Settled, put_run}
pub use Rattle.rio_base.specs.declared.failures.VolFail.{VolFail}
pub use Rattle.rio_base.specs.declared.places.Block.{Block}
pub use Rattle.rio_base.specs.declared.places.PageName.{PageName}
pub use Rattle.rio_base.specs.declared.places.VolumeShape.{VolumeShape}
pub use Rattle.rio_model.proofs.GrowthRules.{IsNew, few_tables, most_tables, one_table, page_new, page_old, same_old, shrunk_has, sourced}
pub use Rattle.rio_model.proofs.NodeChangeRules.{lays_replaced, node_here, node_there}
pub use Rattle.rio_model.proofs.PlacedRules.{SameLayout, first_table, has_same, inode_low, later_of, lays_same, lays_self, lies_self, numbered_of, table_of, with_placed}
pub use Rattle.rio_model.proofs.VolumeReadRules.{stands_agree}
pub use Rattle.rio_model.specs.NodeChanges.{Change, Takes, grown}
pub use Rattle.rio_model.specs.Placed.{Agrees, AtPage, AtTable, HasSlot, IsFree, Layout, Owned, Owns, Placed, Slot, placed_at, volume_layout}
pub use Rattle.rio_model.specs.Sizes.{largest_size, pages, tables}
pub use Rattle.rio_model.specs.Updates.{Applied, Turns, WordEdit, edited, run_edits}
pub use Rattle.rio_model.specs.VolumeReady.{AllNamed, Bears, BearsOwn, LeavesInUse, NamedNode, Ready}
pub use Rattle.rio_model.specs.VolumeRules.{IsLaid, IsMapped, IsNumbered, NodeFits, SizeFits}
