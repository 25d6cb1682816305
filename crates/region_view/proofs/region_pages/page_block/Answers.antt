use Rattle.rio_base.proofs.Frames.{read_none, read_more, read_value}
use Rattle.region_view.proofs.Common.{can_look_up}
use Rattle.region_view.proofs.RegionPlaces.{can_looked, direct_page, page_owned, word_pages, words_refl}
use Rattle.region_view.proofs.region_pages.page_block.Goals as goal

pub returns-then-page-lt-DIRECT_PAGES-clause-page : goal.returns-then-page-lt-DIRECT_PAGES-clause-page
returns-then-page-lt-DIRECT_PAGES-clause-page g c = direct_page c.args.shape.now (g.V.Blocks.seen c.args.v.now).words c.args.i.0 c.args.at c.args.inode.now c.requires.can.meets.mapped c.requires.region c.requires.place c.requires.inode c.if-page-lt-DIRECT_PAGES.true

pub block_of-requires-clause-ino : goal.block_of-requires-clause-ino
block_of-requires-clause-ino g c = (page_owned c.args.shape.now _ c.args.i.0 c.args.at c.requires.can.meets.mapped c.requires.region c.requires.place).ino

pub block_of-requires-clause-page : goal.block_of-requires-clause-page
block_of-requires-clause-page g c = (page_owned c.args.shape.now _ c.args.i.0 c.args.at c.requires.can.meets.mapped c.requires.region c.requires.place).slot

pub returns-clause-page : goal.returns-clause-page
returns-clause-page g c = word_pages c.block_of.result c.args.shape.now _ _ c.args.i.0 c.args.at c.requires.can.meets.mapped c.requires.region c.requires.place c.block_of.ensures.read.looks.looks.words c.block_of.ensures.value

pub returns-then-page-lt-DIRECT_PAGES-clause-read : goal.returns-then-page-lt-DIRECT_PAGES-clause-read
returns-then-page-lt-DIRECT_PAGES-clause-read g c = read_value _ (read_none (g.met.V.Blocks.passes_refl _) (words_refl c.args.shape.now _ c.requires.can.meets) c.requires.can.keeps)

pub returns-clause-read : goal.returns-clause-read
returns-clause-read g c = read_more (record { words = c.block_of.ensures.read.looks.looks.words; can = can_looked c.args.shape.now _ _ c.requires.can.meets c.block_of.ensures.read.looks }) c.block_of.ensures.read

pub block_of-requires-clause-can : goal.block_of-requires-clause-can
block_of-requires-clause-can g c = record { keeps = c.requires.can.keeps; meets = can_look_up c.args.shape.now (g.V.Blocks.seen c.args.v.now) c.requires.can.meets.has_shape c.requires.can.meets.mapped c.requires.can.meets.named }
