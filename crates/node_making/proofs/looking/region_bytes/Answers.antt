use Rattle.rio_base.proofs.Frames.{vol_ends}
use Rattle.request_ends.proofs.Failed.{never_some, unrefused_vol}
use Rattle.request_ends.proofs.Common.{◌*◌, arith, refl, ap, ◌∙◌, err_from_is_err_and, BlockWords, looks_trans, can_look_up}
use Rattle.node_pages.proofs.LookingUpRules.{named_on}
use Rattle.request_ends.proofs.CallEnds.{after_well, ends_ok, ends_vol, well_vol}
use Rattle.region_view.proofs.RegionHeader.{has_header, header_block, header_name, header_named, header_shape, header_small, header_word}
use Rattle.request_ends.proofs.Unchanged.{can_again, leaves_read}
use Rattle.node_making.proofs.looking.region_bytes.Goals as goal

pub block_of-requires-clause-ino : goal.block_of-requires-clause-ino
block_of-requires-clause-ino g c = (has_header c.args.shape.now _ c.args.i.0 c.requires.can.ready.order.mapped c.requires.region).ino

pub block_of-requires-clause-page : goal.block_of-requires-clause-page
block_of-requires-clause-page g c = (has_header c.args.shape.now _ c.args.i.0 c.requires.can.ready.order.mapped c.requires.region).page

pub returns-in_err-header-clause-leaves : goal.returns-in_err-header-clause-leaves
returns-in_err-header-clause-leaves g c =
    let shape = c.args.shape.now in
    let x = g.V.Blocks.seen c.args.v.now in
    let ready = c.requires.can.ready in
    let call = c.block_of.ensures.read.looks in
    leaves_read shape _ _ _ _ x (g.V.Blocks.seen c.block_of.new.v) _ _ ready call.looks call.still.has_shape (named_on shape x _ ready.order.mapped ready.order.named call) (g.met.V.Volume.passes_keeps _ _ c.block_of.ensures.read.passed)

pub returns-in_err-header-clause-can : goal.returns-in_err-header-clause-can
returns-in_err-header-clause-can g c = can_again c.args.shape.now (g.V.Blocks.seen c.args.v.now) (g.V.Volume.kept c.args.v.now) (g.V.Blocks.seen c.block_of.new.v) (g.V.Volume.kept c.block_of.new.v) c.requires.can (returns-in_err-header-clause-leaves g c) c.block_of.ensures.read.looks.looks.words

pub returns-in_err-header-clause-goes : goal.returns-in_err-header-clause-goes
returns-in_err-header-clause-goes g c = (g.met.V.Volume.passes_keeps _ _ c.block_of.ensures.read.passed).goes

pub returns-in_err-header-clause-ends : goal.returns-in_err-header-clause-ends
returns-in_err-header-clause-ends g c =
    let p = err_from_is_err_and c.from_residual.result c.from_residual.ensures.1 in
    ends_vol _ _ c.block_of.result c.from_residual.result _ p.0 c.in_err-header.was p.1 p.2 (vol_ends _ _ _ c.block_of.ensures.read.ends)

pub word-requires-clause-place : goal.word-requires-clause-place
word-requires-clause-place g c =
    let shape = c.args.shape.now in
    let x = g.V.Blocks.seen c.args.v.now in
    let mapped = c.requires.can.ready.order.mapped in
    record {
      block = header_block shape x.words (g.V.Blocks.seen c.block_of.new.v) c.args.i.0 _ mapped (has_header shape x.words c.args.i.0 mapped c.requires.region) c.block_of.ensures.read.looks.still.has_shape c.in_ok-header.ensures.value;
      word = omega arith;
    }

pub word-requires-clause-name : goal.word-requires-clause-name
word-requires-clause-name g c =
    let shape = c.args.shape.now in
    let x = g.V.Blocks.seen c.args.v.now in
    let ready = c.requires.can.ready in
    header_name shape x.words (g.V.Blocks.seen c.block_of.new.v) c.args.i.0 _ _ ready.order.mapped (has_header shape x.words c.args.i.0 ready.order.mapped c.requires.region) (named_on shape x _ ready.order.mapped ready.order.named c.block_of.ensures.read.looks) c.in_ok-header.ensures.value (refl, refl, refl)

pub returns-in_err-pages-clause-leaves : goal.returns-in_err-pages-clause-leaves
returns-in_err-pages-clause-leaves g c =
    let shape = c.args.shape.now in
    let x = g.V.Blocks.seen c.args.v.now in
    let y = g.V.Blocks.seen c.block_of.new.v in
    let z = g.V.Blocks.seen c.word.new.self in
    let ready = c.requires.can.ready in
    let mapped = ready.order.mapped in
    let call = c.block_of.ensures.read.looks in
    let header = has_header shape x.words c.args.i.0 mapped c.requires.region in
    leaves_read shape _ _ _ _ x z _ _ ready (looks_trans x y z call.looks c.word.ensures.looks)
    (header_shape shape x.words y z c.args.i.0 _ _ mapped header call.still.has_shape c.in_ok-header.ensures.value c.word.ensures.looks c.word.ensures.caches)
    (header_named shape x.words y z c.args.i.0 _ _ mapped header (named_on shape x y mapped ready.order.named call) c.in_ok-header.ensures.value (refl, refl, refl) c.word.ensures.caches)
    (g.met.V.Volume.passes_keeps _ _ (g.met.V.Blocks.passes_trans _ _ _ c.block_of.ensures.read.passed c.word.ensures.passes))

pub returns-in_err-pages-clause-words : goal.returns-in_err-pages-clause-words
returns-in_err-pages-clause-words g c = c.word.ensures.looks.words ∙ c.block_of.ensures.read.looks.looks.words

pub returns-in_err-pages-clause-can : goal.returns-in_err-pages-clause-can
returns-in_err-pages-clause-can g c = can_again c.args.shape.now (g.V.Blocks.seen c.args.v.now) (g.V.Volume.kept c.args.v.now) (g.V.Blocks.seen c.word.new.self) (g.V.Volume.kept c.word.new.self) c.requires.can (returns-in_err-pages-clause-leaves g c) (returns-in_err-pages-clause-words g c)

pub returns-in_err-pages-clause-goes : goal.returns-in_err-pages-clause-goes
returns-in_err-pages-clause-goes g c = (g.met.V.Volume.passes_keeps _ _ (g.met.V.Blocks.passes_trans _ _ _ c.block_of.ensures.read.passed c.word.ensures.passes)).goes

pub returns-in_err-pages-clause-ends : goal.returns-in_err-pages-clause-ends
returns-in_err-pages-clause-ends g c =
    let p = err_from_is_err_and c.from_residual-in_err-pages.result c.from_residual-in_err-pages.ensures.1 in
    after_well _ _ _ _ _ (well_vol _ _ c.block_of.result _ c.in_ok-header.was (vol_ends _ _ _ c.block_of.ensures.read.ends)) (ends_vol _ _ c.word.result c.from_residual-in_err-pages.result _ p.0 c.in_err-pages.was p.1 p.2 c.word.ensures.ends)

pub returns-clause-leaves : goal.returns-clause-leaves
returns-clause-leaves g c =
    let shape = c.args.shape.now in
    let x = g.V.Blocks.seen c.args.v.now in
    let y = g.V.Blocks.seen c.block_of.new.v in
    let z = g.V.Blocks.seen c.word.new.self in
    let ready = c.requires.can.ready in
    let mapped = ready.order.mapped in
    let call = c.block_of.ensures.read.looks in
    let header = has_header shape x.words c.args.i.0 mapped c.requires.region in
    leaves_read shape _ _ _ _ x z _ _ ready (looks_trans x y z call.looks c.word.ensures.looks)
    (header_shape shape x.words y z c.args.i.0 _ _ mapped header call.still.has_shape c.in_ok-header.ensures.value c.word.ensures.looks c.word.ensures.caches)
    (header_named shape x.words y z c.args.i.0 _ _ mapped header (named_on shape x y mapped ready.order.named call) c.in_ok-header.ensures.value (refl, refl, refl) c.word.ensures.caches)
    (g.met.V.Volume.passes_keeps _ _ (g.met.V.Blocks.passes_trans _ _ _ c.block_of.ensures.read.passed c.word.ensures.passes))

pub returns-clause-words : goal.returns-clause-words
returns-clause-words g c = c.word.ensures.looks.words ∙ c.block_of.ensures.read.looks.looks.words

pub returns-clause-can : goal.returns-clause-can
returns-clause-can g c = can_again c.args.shape.now (g.V.Blocks.seen c.args.v.now) (g.V.Volume.kept c.args.v.now) (g.V.Blocks.seen c.word.new.self) (g.V.Volume.kept c.word.new.self) c.requires.can (returns-clause-leaves g c) (returns-clause-words g c)

pub returns-clause-goes : goal.returns-clause-goes
returns-clause-goes g c = (g.met.V.Volume.passes_keeps _ _ (g.met.V.Blocks.passes_trans _ _ _ c.block_of.ensures.read.passed c.word.ensures.passes)).goes

pub returns-clause-ends : goal.returns-clause-ends
returns-clause-ends g c = ends_ok _ _ _ (after_well _ _ _ _ _ (well_vol _ _ c.block_of.result _ c.in_ok-header.was (vol_ends _ _ _ c.block_of.ensures.read.ends)) (well_vol _ _ c.word.result _ c.in_ok-pages.was c.word.ensures.ends))

pub returns-clause-value : goal.returns-clause-value
returns-clause-value g c =
    let shape = c.args.shape.now in
    let x = g.V.Blocks.seen c.args.v.now in
    let b = c.in_ok-header in
    let word = header_word shape x.words c.args.i.0 b.header.0 (has_header shape x.words c.args.i.0 c.requires.can.ready.order.mapped c.requires.region) b.ensures.value in
    ap (λ n. 4096 * n) (c.in_ok-pages.ensures.value ∙ ap (λ (f : BlockWords). f b.header.0 2) c.block_of.ensures.read.looks.looks.words ∙ word)

pub overflow_mul-result : goal.overflow_mul-result
overflow_mul-result g c =
    let shape = c.args.shape.now in
    let x = g.V.Blocks.seen c.args.v.now in
    let can = c.requires.can in
    let small = header_small shape x.words can.state c.args.i.0 can.reads (has_header shape x.words c.args.i.0 can.ready.order.mapped c.requires.region) c.requires.region in
    let same = returns-clause-value g c in
    omega (arith, small, same)

pub returns-in_err-header-clause-value : goal.returns-in_err-header-clause-value
returns-in_err-header-clause-value g c = let p = err_from_is_err_and c.from_residual.result c.from_residual.ensures.1 in never_some _ _ p.0 p.1

pub returns-in_err-header-clause-other : goal.returns-in_err-header-clause-other
returns-in_err-header-clause-other g c = let p = err_from_is_err_and c.from_residual.result c.from_residual.ensures.1 in unrefused_vol c.from_residual.result _ _ p.1 p.2

pub returns-in_err-pages-clause-value : goal.returns-in_err-pages-clause-value
returns-in_err-pages-clause-value g c = let p = err_from_is_err_and c.from_residual-in_err-pages.result c.from_residual-in_err-pages.ensures.1 in never_some _ _ p.0 p.1

pub returns-in_err-pages-clause-other : goal.returns-in_err-pages-clause-other
returns-in_err-pages-clause-other g c = let p = err_from_is_err_and c.from_residual-in_err-pages.result c.from_residual-in_err-pages.ensures.1 in unrefused_vol c.from_residual-in_err-pages.result _ _ p.1 p.2

pub block_of-requires-clause-can : goal.block_of-requires-clause-can
block_of-requires-clause-can g c = record {
  keeps = c.requires.sound;
  meets = let ready = c.requires.can.ready in
      can_look_up c.args.shape.now (g.V.Blocks.seen c.args.v.now) ready.order.has_shape ready.order.mapped ready.order.named;
}
