-- The names of the crates below that the proofs of this crate cite again and again, passed on from one place. Declares nothing.
pub use Rattle.std.proofs.Common.{Bool, Err, List, None, Ok, Option, Result, Some, [], ap, arith, cond, drop, false, inl, inr, length, length-drop, map, nat_lt, refl, slice_index, subst, suc, sym, take, true, zero, ℕ, ◌%◌, ◌&&◌, ◌*◌, ◌++◌, ◌+◌, ◌-◌, ◌/◌, ◌<◌, ◌∙◌, ◌∷◌, ◌≡◌, ◌≢◌, ◌≤◌, ◌⊎◌}
pub use Rattle.std.proofs.lemmas.Bool.{cases_eq}
pub use Rattle.std.proofs.lemmas.Bool.Decides.{nat_tests}
pub use Rattle.std.proofs.lemmas.List.{length-take-le}
pub use Rattle.std.proofs.lemmas.List.FromFn.{get_or-map-range_with_len, length-map-range_with_len}
pub use Rattle.std.proofs.lemmas.Result.{err_from_is_err_and}
pub use Rattle.std.specs.List.{range_with_len}
pub use Rattle.std.specs.Prelude.{IsErrOf, OnOk, is_some, nat_eq, not}
pub use Rattle.rio_base.proofs.RegionRules.{stays_trans}
pub use Rattle.rio_base.specs.Blocks.{FaultAt}
pub use Rattle.rio_base.specs.Regions.{RegionContent}
pub use Rattle.rio_base.specs.Frames.{Stays}
pub use Rattle.rio_base.specs.Rules.{true_false}
pub use Rattle.rio_base.specs.declared.failures.RunFail.{RunFail}
pub use Rattle.rio_model.specs.Heap.{OfBlocks, heap_blocks, units_of}
pub use Rattle.rio_model.specs.Held.{byte_in, bytes_in}
pub use Rattle.rio_model.specs.Undo.{CoversAll, IsRegion, Puts, Rests, Undone, before, data_from, live, map_pages, taken, undo_records, undo_words}
pub use Rattle.rio_model.specs.declared.node.RegionNode.{RegionNode}
pub use Rattle.rio_model.specs.declared.txn.Txn.{Txn}
pub use Rattle.rio_requests.specs.RegionAnswers.{Outcome, of_words, within, words_of}
