use Rattle.block_disk.proofs.Rows.{row_filled}
use Rattle.block_disk.proofs.block_lists.fill_block.Goals as goal

pub returns : goal.returns
returns c = row_filled _ _ _ _ _ c.requires.within c.requires.words c.index_mut.ensures.value c.fill_words.ensures
