-- The names of the crates below that the proofs of this crate cite again and again, passed on from one place. Declares nothing.
pub use Rattle.std.proofs.Common.{Bool, List, [], ap, arith, cond, false, inl, inr, length, map, refl, slice_index_or, subst, suc, sym, true, zero, ℕ, ◌%◌, ◌*◌, ◌++◌, ◌+◌, ◌-◌, ◌/◌, ◌<◌, ◌==◌, ◌^◌, ◌∙◌, ◌∷◌, ◌≡◌, ◌≢◌, ◌≤◌, ◌⊎◌}
pub use Rattle.std.proofs.lemmas.Bool.{cases_Bool, cases_eq, cases_lt}
pub use Rattle.std.proofs.lemmas.Bool.Decides.{nat_tests}
pub use Rattle.std.proofs.lemmas.List.{append-nil, append_assoc, get_or-append-add, get_or-append_right, get_or_append_left, get_or-set_other, get_or-set_same, get_or-map, length-append, length-map, length-set, map-append}
pub use Rattle.std.proofs.lemmas.List.FromFn.{get_or-map-range_with_len, length-map-range_with_len, map-range_with_len_more}
pub use Rattle.std.proofs.lemmas.Result.{err_from_is_err_and}
pub use Rattle.std.specs.List.{range_with_len}
pub use Rattle.std.specs.Prelude.{Err, IfErr, IfOk, IsErrOf, IsTrue, None, Ok, OnOk, Option, Result, Some, nat_lt, slice_index, slice_set, ◌↔◌}
pub use Rattle.rio_base.specs.Blocks.{BlockWords, IsRun, Looks, Seen}
pub use Rattle.rio_base.specs.Layout.{IsIno, direct_number, half, indirect_number, inode_block, inode_kind, inode_place, inode_size, inode_word}
pub use Rattle.rio_base.specs.Shapes.{IsServed, IsShape, reserved}
pub use Rattle.rio_base.specs.declared.places.Block.{Block}
pub use Rattle.rio_base.specs.declared.places.Ino.{Ino}
pub use Rattle.rio_base.specs.declared.places.VolumeShape.{VolumeShape}
pub use Rattle.rio_model.specs.Placed.{AtPage, AtTable, HasSlot, Layout, Owned, Owns, Placed, Slot, placed_at, volume_layout}
pub use Rattle.rio_model.specs.Sizes.{largest_size, pages, tables}
