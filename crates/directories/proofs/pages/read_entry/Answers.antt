use Rattle.rio_base.proofs.Frames.{read_then, read_ok, read_value, read_on, read_word}
use Rattle.directories.proofs.CanRead.{words_read, block_on, can_stays, has_slot, looked_page, page_on, can_page, page_below}
use Rattle.directories.proofs.Common.{◌/◌, look_trans}
use Rattle.node_pages.proofs.EndsOn.{if_err}
use Rattle.directories.proofs.pages.read_entry.Goals as goal

pub page_block-requires-clause-page : goal.page_block-requires-clause-page
page_block-requires-clause-page g c = has_slot c.args.shape.now (g.V.Blocks.seen c.args.v.now) c.args.dir.0 c.args.slot _ c.requires.can.meets c.requires.inode.size c.requires.slot

pub read_run-requires-clause-place : goal.read_run-requires-clause-place
read_run-requires-clause-place g c =
    let shape = c.args.shape.now in
    let x = g.V.Blocks.seen c.args.v.now in
    let y = g.V.Blocks.seen c.page_block.new.v in
    let call = c.in_ok-b.ensures in
    let has = has_slot shape x c.args.dir.0 c.args.slot _ c.requires.can.meets c.requires.inode.size c.requires.slot in
    record { block = page_below shape y c.args.dir.0 (c.args.slot / 64) c.in_ok-b.b.0 call.can (page_on x y c.args.dir.0 (c.args.slot / 64) call.read.looks.looks.words has) (block_on x y c.args.dir.0 (c.args.slot / 64) c.in_ok-b.b.0 call.read.looks.looks.words call.value); within = c.first_word.ensures.within }

pub read_run-requires-clause-name : goal.read_run-requires-clause-name
read_run-requires-clause-name g c =
    let shape = c.args.shape.now in
    let x = g.V.Blocks.seen c.args.v.now in
    let y = g.V.Blocks.seen c.page_block.new.v in
    let call = c.in_ok-b.ensures in
    let has = has_slot shape x c.args.dir.0 c.args.slot _ c.requires.can.meets c.requires.inode.size c.requires.slot in
    can_page shape y c.args.dir.0 (c.args.slot / 64) c.in_ok-b.b.0 call.can (page_on x y c.args.dir.0 (c.args.slot / 64) call.read.looks.looks.words has) (block_on x y c.args.dir.0 (c.args.slot / 64) c.in_ok-b.b.0 call.read.looks.looks.words call.value)

pub returns-clause-words : goal.returns-clause-words
returns-clause-words g c = words_read (g.V.Blocks.seen c.args.v.now).words _ c.in_ok-b.b.0 _ c.first_word.result _ c.read_run.new.into c.in_ok-b.ensures.read.looks.looks.words c.in_ok-b.ensures.value c.first_word.ensures.is c.in_ok-read_run.ensures.words

pub returns-in_err-b-clause-words : goal.returns-in_err-b-clause-words
returns-in_err-b-clause-words g c = if_err c.from_residual.result _ c.from_residual.ensures.0

pub returns-in_err-read_run-clause-words : goal.returns-in_err-read_run-clause-words
returns-in_err-read_run-clause-words g c = if_err c.from_residual-in_err-read_run.result _ c.from_residual-in_err-read_run.ensures.0

pub returns-in_err-read_run-clause-read : goal.returns-in_err-read_run-clause-read
returns-in_err-read_run-clause-read g c = read_then g.met.V.Blocks.passes_trans (look_trans c.args.shape.now) (read_ok c.page_block.result _ c.in_ok-b.was c.page_block.ensures.read) (read_on c.read_run.result c.from_residual-in_err-read_run.result c.in_err-read_run.was c.from_residual-in_err-read_run.ensures.1 (read_word c.read_run.result (let shape = c.args.shape.now in
    let x = g.V.Blocks.seen c.args.v.now in
    let y = g.V.Blocks.seen c.page_block.new.v in
    let call = c.in_ok-b.ensures in
    let has = has_slot shape x c.args.dir.0 c.args.slot _ c.requires.can.meets c.requires.inode.size c.requires.slot in
    (looked_page shape y _ c.args.dir.0 (c.args.slot / 64) c.in_ok-b.b.0 call.can (page_on x y c.args.dir.0 (c.args.slot / 64) call.read.looks.looks.words has) (block_on x y c.args.dir.0 (c.args.slot / 64) c.in_ok-b.b.0 call.read.looks.looks.words call.value) c.read_run.ensures.looks c.read_run.ensures.caches)) c.read_run.ensures.passes c.read_run.ensures.ends c.read_run.ensures.sound))

pub returns-in_err-read_run-clause-can : goal.returns-in_err-read_run-clause-can
returns-in_err-read_run-clause-can g c = can_stays c.args.shape.now _ _ c.args.dir.0 c.requires.can.meets (returns-in_err-read_run-clause-read g c).looks

pub returns-clause-read : goal.returns-clause-read
returns-clause-read g c = read_value _ (read_then g.met.V.Blocks.passes_trans (look_trans c.args.shape.now) (read_ok c.page_block.result _ c.in_ok-b.was c.page_block.ensures.read) (read_ok c.read_run.result _ c.in_ok-read_run.was (read_word c.read_run.result (let shape = c.args.shape.now in
    let x = g.V.Blocks.seen c.args.v.now in
    let y = g.V.Blocks.seen c.page_block.new.v in
    let call = c.in_ok-b.ensures in
    let has = has_slot shape x c.args.dir.0 c.args.slot _ c.requires.can.meets c.requires.inode.size c.requires.slot in
    (looked_page shape y _ c.args.dir.0 (c.args.slot / 64) c.in_ok-b.b.0 call.can (page_on x y c.args.dir.0 (c.args.slot / 64) call.read.looks.looks.words has) (block_on x y c.args.dir.0 (c.args.slot / 64) c.in_ok-b.b.0 call.read.looks.looks.words call.value) c.read_run.ensures.looks c.read_run.ensures.caches)) c.read_run.ensures.passes c.read_run.ensures.ends c.read_run.ensures.sound)))

pub returns-clause-can : goal.returns-clause-can
returns-clause-can g c = can_stays c.args.shape.now _ _ c.args.dir.0 c.requires.can.meets (returns-clause-read g c).looks

pub returns-in_err-b-clause-read : goal.returns-in_err-b-clause-read
returns-in_err-b-clause-read g c = read_on c.page_block.result c.from_residual.result c.in_err-b.was c.from_residual.ensures.1 c.page_block.ensures.read

pub page_block-requires-clause-can : goal.page_block-requires-clause-can
page_block-requires-clause-can g c = c.requires.can
