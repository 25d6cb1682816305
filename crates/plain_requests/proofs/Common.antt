-- The names of the crates below that the proofs of this crate cite again and again, passed on from one place. Declares nothing.
pub use Rattle.std.proofs.Common.{Bool, List, [], ap, arith, cond, drop, false, get_or, inl, inr, length, map, refl, subst, suc, sym, take, true, ℕ, ◌*◌, ◌++◌, ◌+◌, ◌-◌, ◌/◌, ◌<◌, ◌==◌, ◌∙◌, ◌∷◌, ◌≡◌, ◌≢◌, ◌≤◌}
pub use Rattle.std.proofs.lemmas.Bool.Decides.{nat_tests}
pub use Rattle.std.proofs.lemmas.List.{drop_all, drop_more}
pub use Rattle.std.specs.FinMap.{get, put}
pub use Rattle.std.specs.List.{range_with_len}
pub use Rattle.std.specs.Prelude.{Err, Ok, Result, find, is_none, nat_lt, sum, ◌&&◌}
pub use Rattle.rio_base.specs.Shapes.{reserved}
pub use Rattle.rio_model.specs.FileParts.{resized}
pub use Rattle.rio_model.specs.Names.{name_cmp, row_entries}
pub use Rattle.rio_model.specs.Paths.{walk, walk_to_dir}
pub use Rattle.rio_model.specs.Sizes.{blocks_for, free_count, largest_size, node_blocks}
pub use Rattle.rio_model.specs.States.{front_of, last_of, least_free, names_in, open_inodes, with_new, with_node}
pub use Rattle.rio_model.specs.Undo.{region_words}
pub use Rattle.rio_model.specs.declared.node.Node.TheVariants.{File}
pub use Rattle.rio_model.specs.declared.state.State.{State}
pub use Rattle.rio_model.specs.declared.txn.Txn.{Txn}
