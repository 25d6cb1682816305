use Rattle.std.proofs.Common.{◌∙◌, ap, arith}
use Rattle.std.proofs.lemmas.List.{with_items_is}
use Rattle.std.specs.Vec.{with_items}
use Rattle.block_disk.specs.BlockLists.{torn_words}
use Rattle.block_disk.proofs.Rows.{row_torn}
use Rattle.block_disk.proofs.block_lists.tear_block.Goals as goal

pub returns : goal.returns
returns c = row_torn _ _ _ _ (with_items c.index_mut.result.now c.put_half.new.words) c.requires.within c.index_mut.ensures.value (with_items_is c.index_mut.result.now c.put_half.new.words (omega arith) ∙ c.put_half.ensures ∙ ap (torn_words c.args.from.now) c.as_mut_slice.ensures.value)
