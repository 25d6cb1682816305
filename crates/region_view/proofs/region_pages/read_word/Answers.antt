use Rattle.rio_base.proofs.Frames.{vol_ends}
use Rattle.std.proofs.Common.{rules}
use Rattle.region_view.proofs.Common.{arith, ◌∙◌, err_from_is_err_and}
use Rattle.node_pages.proofs.EndsOn.{ends_vol, if_err}
use Rattle.rio_base.proofs.BlockRules.{ends_later}
use Rattle.region_view.proofs.WordsRead.{value_as, word_at}
use Rattle.region_view.proofs.RegionPlaces.{can_name, can_page, page_below, reads_ready, ready_read}
use Rattle.region_view.proofs.region_pages.read_word.Goals as goal

pub word-requires-clause-place : goal.word-requires-clause-place
word-requires-clause-place g c = record {
  block = page_below c.args.shape.now _ c.args.i.0 c.args.at c.in_ok-b.b.0 c.page_block.ensures.read.looks.can c.in_ok-b.ensures.page;
  word = omega arith;
}

pub word-requires-clause-name : goal.word-requires-clause-name
word-requires-clause-name g c = can_name c.args.shape.now _ c.args.i.0 c.args.at c.in_ok-b.b.0 _ c.page_block.ensures.read.looks.can c.in_ok-b.ensures.page c.page_name.ensures

pub returns-in_err-b-clause-value : goal.returns-in_err-b-clause-value
returns-in_err-b-clause-value g c = if_err c.from_residual.result _ c.from_residual.ensures.0

pub returns-in_err-b-clause-ends : goal.returns-in_err-b-clause-ends
returns-in_err-b-clause-ends g c =
    let p = err_from_is_err_and c.from_residual.result c.from_residual.ensures.1 in
    ends_vol _ _ c.page_block.result c.from_residual.result _ p.0 c.in_err-b.was p.1 p.2 (vol_ends _ _ _ c.page_block.ensures.read.ends)

pub returns-clause-value : goal.returns-clause-value
returns-clause-value g c = value_as c.word.result _ _ (word_at c.args.shape.now _ (g.V.Blocks.seen c.page_block.new.v) c.args.i.0 c.args.at c.in_ok-b.b.0 c.in_ok-b.ensures.page c.page_block.ensures.read.looks.words) c.word.ensures.value

pub returns-clause-words : goal.returns-clause-words
returns-clause-words g c = c.word.ensures.looks.words ∙ c.page_block.ensures.read.looks.words

pub returns-clause-passes : goal.returns-clause-passes
returns-clause-passes g c = g.met.V.Blocks.passes_trans _ _ _ c.page_block.ensures.read.passed c.word.ensures.passes

pub returns-clause-ends : goal.returns-clause-ends
returns-clause-ends g c = ends_later _ _ _ c.word.result (vol_ends _ _ _ c.in_ok-b.ensures.read.ends).later (vol_ends _ _ _ c.in_ok-b.ensures.read.ends).cause c.word.ensures.ends

pub returns-in_err-b-clause-ready : goal.returns-in_err-b-clause-ready
returns-in_err-b-clause-ready g c = ready_read c.args.shape.now _ _ _ _ _ _ _ _ c.requires.ready c.page_block.ensures.read.looks.can c.page_block.ensures.read.looks.words (g.met.V.Volume.passes_keeps _ _ c.page_block.ensures.read.passed)

pub returns-clause-ready : goal.returns-clause-ready
returns-clause-ready g c =
    let can = can_page c.args.shape.now (g.V.Blocks.seen c.page_block.new.v) _ c.args.i.0 c.args.at c.in_ok-b.b.0 _ c.page_block.ensures.read.looks.can c.in_ok-b.ensures.page c.page_name.ensures c.word.ensures.looks c.word.ensures.caches in
    ready_read c.args.shape.now _ _ _ _ _ _ _ _ c.requires.ready can (c.word.ensures.looks.words ∙ c.page_block.ensures.read.looks.words) (g.met.V.Volume.passes_keeps _ _ (g.met.V.Blocks.passes_trans _ _ _ c.page_block.ensures.read.passed c.word.ensures.passes))

pub page_block-requires-clause-can : goal.page_block-requires-clause-can
page_block-requires-clause-can g c = record { keeps = (search rules); meets = reads_ready c.args.shape.now _ _ c.requires.ready }
