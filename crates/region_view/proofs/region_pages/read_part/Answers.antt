use Rattle.rio_base.proofs.Frames.{read_then, read_ok, read_on, read_word}
use Rattle.node_pages.proofs.EndsOn.{if_err}
use Rattle.region_view.proofs.WordsRead.{first_within, run_span, words_read}
use Rattle.region_view.proofs.RegionPlaces.{can_name, can_page, words_trans}
use Rattle.region_view.proofs.region_pages.read_part.Goals as goal

pub page_block-requires-clause-place : goal.page_block-requires-clause-place
page_block-requires-clause-place g c = first_within c.args.at _ _ c.requires.some c.requires.place

pub read_run-requires-clause-place : goal.read_run-requires-clause-place
read_run-requires-clause-place g c = run_span c.args.shape.now _ c.args.i.0 c.args.at c.in_ok-b.b.0 _ c.page_block.ensures.read.looks.can c.in_ok-b.ensures.page c.requires.within

pub read_run-requires-clause-name : goal.read_run-requires-clause-name
read_run-requires-clause-name g c = can_name c.args.shape.now _ c.args.i.0 c.args.at c.in_ok-b.b.0 _ c.page_block.ensures.read.looks.can c.in_ok-b.ensures.page c.page_name.ensures

pub returns-in_err-b-clause-value : goal.returns-in_err-b-clause-value
returns-in_err-b-clause-value g c = if_err c.from_residual.result _ c.from_residual.ensures.0

pub returns-clause-value : goal.returns-clause-value
returns-clause-value g c = words_read c.read_run.result c.args.shape.now _ (g.V.Blocks.seen c.page_block.new.v) c.args.i.0 c.args.at c.in_ok-b.b.0 _ _ c.in_ok-b.ensures.page c.page_block.ensures.read.looks.words c.requires.within c.requires.place c.read_run.ensures.words

pub returns-in_err-b-clause-read : goal.returns-in_err-b-clause-read
returns-in_err-b-clause-read g c = read_on c.page_block.result c.from_residual.result c.in_err-b.was c.from_residual.ensures.1 c.page_block.ensures.read

pub returns-clause-read : goal.returns-clause-read
returns-clause-read g c = read_then g.met.V.Blocks.passes_trans (words_trans c.args.shape.now) (read_ok c.page_block.result _ c.in_ok-b.was c.page_block.ensures.read) (read_word c.read_run.result (record { words = c.read_run.ensures.looks.words; can = can_page c.args.shape.now (g.V.Blocks.seen c.page_block.new.v) _ c.args.i.0 c.args.at c.in_ok-b.b.0 _ c.page_block.ensures.read.looks.can c.in_ok-b.ensures.page c.page_name.ensures c.read_run.ensures.looks c.read_run.ensures.caches }) c.read_run.ensures.passes c.read_run.ensures.ends c.read_run.ensures.sound)

pub page_block-requires-clause-can : goal.page_block-requires-clause-can
page_block-requires-clause-can g c = c.requires.can
