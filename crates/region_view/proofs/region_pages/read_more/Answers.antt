use Rattle.rio_base.proofs.Frames.{read_ok, read_value, read_on}
use Rattle.node_pages.proofs.EndsOn.{if_err}
use Rattle.region_view.proofs.RegionParts.{read_end, read_place, read_some, read_within, words_then, written_length}
use Rattle.region_view.proofs.region_pages.read_more.Goals as goal

pub read_part-requires-clause-some : goal.read_part-requires-clause-some
read_part-requires-clause-some g c = read_some c.args.into.now c.args.done c.in_page.result c.requires.some c.in_page.ensures.some c.in_page.ensures.most

pub read_part-requires-clause-within : goal.read_part-requires-clause-within
read_part-requires-clause-within g c = read_within c.args.at c.args.done c.in_page.result c.args.into.now c.requires.some c.in_page.ensures.most c.in_page.ensures.within

pub read_part-requires-clause-place : goal.read_part-requires-clause-place
read_part-requires-clause-place g c = read_place c.args.at c.args.done c.in_page.result _ c.args.into.now c.requires.some c.in_page.ensures.most c.requires.place

pub returns-in_err-read_part-clause-more : goal.returns-in_err-read_part-clause-more
returns-in_err-read_part-clause-more g c = if_err c.from_residual.result _ c.from_residual.ensures.0

pub returns-in_err-read_part-clause-len : goal.returns-in_err-read_part-clause-len
returns-in_err-read_part-clause-len g c = written_length c.args.into.now _ c.args.done c.in_page.result (read_end c.args.done c.in_page.result _ c.requires.some c.in_page.ensures.some c.in_page.ensures.most).1 c.read_part.ensures.len

pub returns-clause-more : goal.returns-clause-more
returns-clause-more g c =
    let end = read_end c.args.done c.in_page.result _ c.requires.some c.in_page.ensures.some c.in_page.ensures.most in
    (end.0, end.1, words_then _ c.args.at c.args.done c.in_page.result c.args.into.now _ end.1 c.requires.value c.read_part.ensures.len c.in_ok-read_part.ensures.value)

pub returns-clause-len : goal.returns-clause-len
returns-clause-len g c = written_length c.args.into.now _ c.args.done c.in_page.result (read_end c.args.done c.in_page.result _ c.requires.some c.in_page.ensures.some c.in_page.ensures.most).1 c.read_part.ensures.len

pub returns-in_err-read_part-clause-read : goal.returns-in_err-read_part-clause-read
returns-in_err-read_part-clause-read g c = read_on c.read_part.result c.from_residual.result c.in_err-read_part.was c.from_residual.ensures.1 c.read_part.ensures.read

pub returns-clause-read : goal.returns-clause-read
returns-clause-read g c = read_value _ (read_ok c.read_part.result _ c.in_ok-read_part.was c.read_part.ensures.read)

pub read_part-requires-clause-can : goal.read_part-requires-clause-can
read_part-requires-clause-can g c = c.requires.can
