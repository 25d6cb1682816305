-- The names of the crates below that the proofs of this crate cite again and again, passed on from one place. Declares nothing.
pub use Rattle.std.proofs.Common.{Bool, List, [], ap, arith, cond, drop, false, inl, inr, le_trans, length, length-drop, map, min, refl, replicate, set, slice_index_or, subst, suc, sym, take, true, zero, ℕ, ◌%◌, ◌&&◌, ◌*◌, ◌++◌, ◌+◌, ◌-◌, ◌/◌, ◌<◌, ◌==◌, ◌^◌, ◌∙◌, ◌∷◌, ◌≡◌, ◌≢◌, ◌≤◌, ◌⊎◌}
pub use Rattle.std.proofs.lemmas.Bool.{cases_eq, cases_lt}
pub use Rattle.std.proofs.lemmas.Bool.Decides.{nat_tests}
pub use Rattle.std.proofs.lemmas.List.{append-nil, append_assoc, get_or-drop, get_or-take, length-set, length-take, length-take-le, take-append-drop, take_all, take_rest}
pub use Rattle.std.proofs.lemmas.List.FromFn.{get_or-map-range_with_len, length-map-range_with_len, take-map-range_with_len}
pub use Rattle.std.proofs.lemmas.Result.{err_from_is_err_and}
pub use Rattle.std.specs.List.{AllByRecursion, Contains, range_with_len}
pub use Rattle.std.specs.Prelude.{Err, IfOk, IsErrOf, None, Ok, OnOk, Option, Result, Some, max, nat_le, nat_lt, slice_index}
pub use Rattle.block_alloc.specs.Bitmap.{numbers}
pub use Rattle.inode_table.specs.Inodes.{IsInode}
pub use Rattle.inode_table.specs.declared.inode.Inode.{Inode}
pub use Rattle.rio_base.proofs.BlockSets.{caches_by_one}
pub use Rattle.rio_base.proofs.Rules.{ends_by_after, ends_by_as}
pub use Rattle.rio_base.specs.Bitmap.{free_blocks, used_bit}
pub use Rattle.rio_base.specs.BlockSets.{CachesBy}
pub use Rattle.rio_base.specs.Blocks.{BlockWords, Caches, CanName, EndsBy, Health, Looks, SamePage, Seen}
pub use Rattle.rio_base.specs.Layout.{IsIno, inode_block}
pub use Rattle.rio_base.specs.Rules.{firm_trans, goes_trans, ◌then◌}
pub use Rattle.rio_base.specs.Shapes.{HasShape, reserved}
pub use Rattle.rio_base.specs.Volume.{Below, Firm, Goes, Kept, Passes, SameBut, Settled, put_run}
pub use Rattle.rio_base.specs.declared.failures.VolFail.{VolFail}
pub use Rattle.rio_base.specs.declared.places.Block.{Block}
pub use Rattle.rio_base.specs.declared.places.PageName.{PageName}
pub use Rattle.rio_base.specs.declared.places.VolumeShape.{VolumeShape}
pub use Rattle.rio_model.proofs.GrowthRules.{IsNew, few_tables, page_new, page_old, same_old, shrunk_has, sourced}
pub use Rattle.rio_model.proofs.NodeChangeRules.{lays_replaced, node_here, node_there}
pub use Rattle.rio_model.proofs.PlacedRules.{SameLayout, has_same, inode_low, lays_same, lays_self, numbered_of, owned_back, page_page, table_page, with_placed}
pub use Rattle.rio_model.proofs.VolumeReadRules.{stands_agree}
pub use Rattle.rio_model.proofs.WordRules.{beside_agrees, beside_trans, lays_beside, mapped_beside, run_same_but, same_map}
pub use Rattle.rio_model.specs.FileParts.{IsLead, ResizePart, put_at, resized, written}
pub use Rattle.rio_model.specs.Held.{Held, byte_in, held, held_bytes, held_ino, held_of, word_in}
pub use Rattle.rio_model.specs.NodeChanges.{Change, SetsFile, Takes, grown}
pub use Rattle.rio_model.specs.Placed.{Agrees, AgreesBeside, AtPage, AtTable, HasSlot, IsFree, Layout, Owned, Owns, Placed, Slot, placed_at, volume_layout}
pub use Rattle.rio_model.specs.Sizes.{largest_size, pages}
pub use Rattle.rio_model.specs.Updates.{Applied, Turns, WordEdit, edited}
pub use Rattle.rio_model.specs.VolumeReady.{AllNamed, Bears, BearsOwn, LeavesInUse, NamedNode, NamesPage, Ready}
pub use Rattle.rio_model.specs.VolumeRules.{IsLaid, IsMapped, IsNumbered, NodeFits, SizeFits}
