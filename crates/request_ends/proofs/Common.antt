-- The names of the crates below that the proofs of this crate and of those on requests cite again and again, passed on from one place.
-- Declares nothing.
pub use Rattle.std.proofs.Common.{Bool, List, Option, [], ap, append-nil, append_assoc, arith, cond, drop, false, get_or, inl, inr, le_refl, le_trans, length, map, refl, slice_index_or, subst, suc, sym, take, true, zero, ℕ, ◌%◌, ◌&&◌, ◌*◌, ◌++◌, ◌+◌, ◌-◌, ◌/◌, ◌<◌, ◌==◌, ◌∙◌, ◌∷◌, ◌≡◌, ◌≢◌, ◌≤◌, ◌⊎◌}
pub use Rattle.std.proofs.lemmas.Bool.{cases_Bool, cases_eq}
pub use Rattle.std.proofs.lemmas.Bool.Decides.{Decides-eqb, nat_tests}
pub use Rattle.std.proofs.lemmas.List.{drop_more, length-append, take-append-drop}
pub use Rattle.std.proofs.lemmas.List.FromFn.{get_or-map-range_with_len, length-map-range_with_len}
pub use Rattle.std.proofs.lemmas.Option.{none-some}
pub use Rattle.std.proofs.lemmas.Result.{err_from_is_err_and}
pub use Rattle.std.specs.FinMap.{get, insert}
pub use Rattle.std.specs.List.{AllByRecursion, Contains, list_any, range_with_len}
pub use Rattle.std.specs.Ordering.{eq_by_cmp, is_eq}
pub use Rattle.std.specs.Prelude.{All, Err, IsErrOf, None, Ok, Result, Some, is_some, nat_le, nat_lt, slice_index}
pub use Rattle.std.specs.declared.cmp.Ordering.{Ordering}
pub use Rattle.std.specs.declared.cmp.Ordering.TheVariants.{Equal, Greater, Less}
pub use Rattle.block_alloc.specs.Bitmap.{numbers}
pub use Rattle.node_pages.proofs.Listed.{as_many, number_at}
pub use Rattle.node_pages.proofs.LookingUpRules.{can_look_up}
pub use Rattle.node_pages.proofs.OrderRules.{firm_on, leaves_looked, leaves_refl, leaves_trans, ready_left, ready_order}
pub use Rattle.node_pages.specs.Changes.{wanted_blocks}
pub use Rattle.node_pages.specs.Staging.{Forgets}
pub use Rattle.node_pages.specs.LookingUp.{node_blocks}
pub use Rattle.rio_model.specs.VolumeReady.{AllNamed, Bears, InOrder, LeavesInUse, NamedNode, Ready}
pub use Rattle.node_pages.specs.Updating.{IsEdited}
pub use Rattle.node_pages.specs.declared.changes.Edit.{Edit}
pub use Rattle.node_pages.specs.declared.failures.SizeFail.{SizeFail}
pub use Rattle.node_pages.specs.declared.failures.SizeFail.TheVariants.{NoSpace, TooLarge}
pub use Rattle.inode_table.specs.Inodes.{IsInode}
pub use Rattle.inode_table.specs.declared.inode.Inode.{Inode}
pub use Rattle.rio_base.proofs.BlockSets.{caches_by_trans, firm_outside_trans}
pub use Rattle.rio_base.proofs.Rules.{ends_by_well, looks_trans}
pub use Rattle.rio_base.specs.Bitmap.{free_blocks, used_bit}
pub use Rattle.rio_base.specs.BlockSets.{CachesBy, FirmOutside, SameOutside}
pub use Rattle.rio_base.specs.Blocks.{BlockWords, Caches, Drops, EndsBy, Health, Looks, Seen}
pub use Rattle.rio_base.specs.Layout.{IsIno, inode_block, inode_kind}
pub use Rattle.rio_base.specs.Bytes.{pieces}
pub use Rattle.rio_base.specs.Rules.{firm_trans, goes_refl, goes_trans, true_false, ◌then◌}
pub use Rattle.rio_base.specs.Shapes.{HasShape, reserved}
pub use Rattle.rio_base.specs.Volume.{Below, Firm, Goes, Kept, Passes, Settled}
pub use Rattle.rio_base.specs.declared.failures.VolFail.{VolFail}
pub use Rattle.rio_base.specs.declared.places.Block.{Block}
pub use Rattle.rio_base.specs.declared.places.Ino.{Ino}
pub use Rattle.rio_base.specs.declared.places.PageName.{PageName}
pub use Rattle.rio_base.specs.declared.places.VolumeShape.{VolumeShape}
pub use Rattle.rio_model.proofs.FreeByState.{free_by_state}
pub use Rattle.rio_model.proofs.HeldRules.{same_held}
pub use Rattle.rio_model.proofs.NameOrder.{name_get_other, name_get_same}
pub use Rattle.rio_model.proofs.PlacedRules.{SameLayout, has_same, inode_low, lays_agree, lays_same, lays_self, lies_self, node_fits, owned_below, owned_on}
pub use Rattle.rio_model.proofs.StateSteps.{get_here, get_there}
pub use Rattle.rio_model.proofs.VolumeReadRules.{held_of_agree, reads_agree, reads_dir, reads_file, reads_none, reads_region}
pub use Rattle.rio_model.proofs.WordRules.{differs}
pub use Rattle.rio_model.specs.Heap.{IsSoundRegion}
pub use Rattle.rio_model.specs.Held.{HasEntry, Held, entry_ino, entry_name, held, held_bytes, held_ino, held_of, nothing}
pub use Rattle.rio_model.specs.Names.{NameKey, Names, name_cmp}
pub use Rattle.rio_model.specs.NodeChanges.{Available, Change}
pub use Rattle.rio_model.specs.Paths.{IsName, IsPath, from_found, is_dir, names_of, slashed, walk, walk_to_dir}
pub use Rattle.rio_model.specs.Placed.{Agrees, AtPage, AtTable, HasSlot, IsFree, Layout, Owned, Owns, Placed, SamePlaced, Slot, placed_at, volume_layout}
pub use Rattle.rio_model.specs.Sizes.{blocks_for, free_count, largest_size, pages}
pub use Rattle.rio_model.specs.States.{front_of, last_of, names_in, with_new, with_node}
pub use Rattle.rio_model.specs.Updates.{Applied}
pub use Rattle.rio_model.specs.VolumeReads.{Reads, ReadsAs, node_in, region_in}
pub use Rattle.rio_model.specs.VolumeRules.{EntryRule, IsMapped, NamesApartRule, NodeFits, TreeRule, bitmap_bits}
pub use Rattle.rio_model.specs.declared.node.Node.{Node}
pub use Rattle.rio_model.specs.declared.node.Node.TheVariants.{File, Region}
pub use Rattle.rio_model.specs.declared.state.State.{State}
pub use Rattle.rio_requests.specs.Answer.{answered, at_inode, refused, refused_by}
pub use Rattle.rio_requests.specs.Answers.{found, is_below, make_new, row_wanted, with_room}
pub use Rattle.rio_requests.specs.Parts.{NoneDone}
pub use Rattle.rio_requests.specs.declared.answered.Answered.{Answered}
pub use Rattle.rio_requests.specs.declared.reply.Reply.{Reply}
pub use Rattle.rio_requests.specs.declared.reply.Reply.TheVariants.{Number}
