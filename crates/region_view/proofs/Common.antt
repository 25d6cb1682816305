-- The names of the crates below that the proofs of this crate cite again and again, passed on from one place. Declares nothing.
pub use Rattle.std.proofs.Common.{Bool, List, Option, ap, arith, cond, drop, false, inl, inr, le_refl, le_trans, length, refl, subst, sym, take, true, ℕ, ◌%◌, ◌&&◌, ◌*◌, ◌+◌, ◌-◌, ◌/◌, ◌<◌, ◌==◌, ◌∙◌, ◌≡◌, ◌≢◌, ◌≤◌, ◌⊎◌}
pub use Rattle.std.proofs.lemmas.Bool.{cases_eq}
pub use Rattle.std.proofs.lemmas.Bool.Decides.{nat_tests}
pub use Rattle.std.proofs.lemmas.Result.{err_from_is_err_and}
pub use Rattle.std.proofs.lemmas.List.FromFn.{length-map-range_with_len}
pub use Rattle.std.specs.List.{range_with_len}
pub use Rattle.std.specs.Prelude.{Err, None, Ok, OnOk, Result, nat_le, nat_lt}
pub use Rattle.node_pages.proofs.LookingUpRules.{can_look_up}
pub use Rattle.node_pages.proofs.OrderRules.{firm_on, leaves_looked, ready_left, ready_order}
pub use Rattle.rio_model.specs.VolumeReady.{AllNamed, Bears, LeavesInUse, NamesPage, Ready}
pub use Rattle.inode_table.specs.Inodes.{IsInode}
pub use Rattle.inode_table.specs.declared.inode.Inode.{Inode}
pub use Rattle.rio_base.specs.Blocks.{BlockWords, Caches, CanName, Health, Looks, SamePage, Seen}
pub use Rattle.rio_base.specs.Layout.{IsIno, inode_block}
pub use Rattle.rio_base.specs.Regions.{put_words}
pub use Rattle.rio_base.specs.Rules.{◌then◌}
pub use Rattle.rio_base.specs.Shapes.{HasShape, reserved}
pub use Rattle.rio_base.specs.Volume.{Below, CachesStored, Firm, Goes, Kept, Passes, put, put_run, widened}
pub use Rattle.rio_base.specs.declared.places.PageName.{PageName}
pub use Rattle.rio_base.specs.declared.places.VolumeShape.{VolumeShape}
pub use Rattle.rio_model.proofs.HeldRules.{counts_of}
pub use Rattle.rio_model.proofs.PlacedRules.{SameLayout, inode_low, lays_same, lays_self, lies_self}
pub use Rattle.rio_model.proofs.WordRules.{run_same_but}
pub use Rattle.rio_model.specs.Held.{Held, held, held_ino, held_of, nothing}
pub use Rattle.rio_model.specs.Placed.{AtPage, HasSlot, Layout, Owns, Placed, Slot, placed_at, volume_layout}
pub use Rattle.rio_model.specs.Sizes.{data_pages}
pub use Rattle.rio_model.specs.VolumeReads.{ReadsAs, region_in}
pub use Rattle.rio_model.specs.VolumeRules.{IsMapped}
pub use Rattle.rio_model.specs.declared.state.State.{State}
