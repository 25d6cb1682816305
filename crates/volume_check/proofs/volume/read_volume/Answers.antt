use Rattle.volume_check.proofs.Common.{BlockWords, err_from_is_err_and, refl, ◌∙◌}
use Rattle.rio_model.specs.VolumeFails.{FailsVolume}
use Rattle.volume_check.specs.Bitmap.{HasBitmap}
use Rattle.volume_check.specs.Rules.{FailsShape}
use Rattle.volume_check.proofs.Chains.{fails_reserved, fails_shape, has_read, inodes_back, words_back}
use Rattle.volume_check.proofs.Looking.{can_go_on, looked_err, on_err, on_first, on_ok, on_quiet, quiet_told, refused_err, refused_told}
use Rattle.volume_check.proofs.volume.read_volume.Goals as goal

pub returns-in_err-shape-clause-refused : goal.returns-in_err-shape-clause-refused
returns-in_err-shape-clause-refused g c =
    let s = g.V.Blocks.seen c.args.v.now in
    let p = err_from_is_err_and c.from_residual.result c.from_residual.ensures.1 in
    refused_err (FailsShape s.words s.count) (FailsVolume s.words s.count) c.read_shape.result c.from_residual.result _ p.0 c.in_err-shape.was p.1 p.2 (fails_shape s.words s.count) c.read_shape.ensures.refused

pub returns-in_err-shape-clause-looked : goal.returns-in_err-shape-clause-looked
returns-in_err-shape-clause-looked g c =
    let p = err_from_is_err_and c.from_residual.result c.from_residual.ensures.1 in
    looked_err g.V.Blocks.seen g.V.Blocks.health g.V.Blocks.sound g.V.Blocks.passes _ _ c.read_shape.result c.from_residual.result _ p.0 c.in_err-shape.was p.1 p.2 c.read_shape.ensures.looked

pub read_bitmap-requires-clause-can : goal.read_bitmap-requires-clause-can
read_bitmap-requires-clause-can g c = can_go_on g.V.Blocks.seen g.V.Blocks.health g.V.Blocks.sound g.V.Blocks.passes g.met.V.Blocks.passes_trans _ _ c.requires.can (on_first g.V.Blocks.seen g.V.Blocks.health g.V.Blocks.sound g.V.Blocks.passes _ _ _ c.in_ok-shape.ensures.looked)

pub read_bitmap-requires-clause-count : goal.read_bitmap-requires-clause-count
read_bitmap-requires-clause-count g c = c.in_ok-shape.ensures.looked.looks.count ∙ c.in_ok-shape.ensures.says.blocks

pub returns-in_err-bitmap-clause-refused : goal.returns-in_err-bitmap-clause-refused
returns-in_err-bitmap-clause-refused g c =
    let s = g.V.Blocks.seen c.args.v.now in
    let p = err_from_is_err_and c.from_residual-in_err-bitmap.result c.from_residual-in_err-bitmap.ensures.1 in
    refused_err (λ _ _. ⊥) (FailsVolume s.words s.count) c.read_bitmap.result c.from_residual-in_err-bitmap.result _ p.0 c.in_err-bitmap.was p.1 p.2 (λ rule b h. absurd h) c.read_bitmap.ensures.unrefused

pub returns-in_err-bitmap-clause-looked : goal.returns-in_err-bitmap-clause-looked
returns-in_err-bitmap-clause-looked g c =
    let p = err_from_is_err_and c.from_residual-in_err-bitmap.result c.from_residual-in_err-bitmap.ensures.1 in
    on_err g.V.Blocks.seen g.V.Blocks.health g.V.Blocks.sound g.V.Blocks.passes g.met.V.Blocks.passes_trans _ _ _ c.read_bitmap.result c.from_residual-in_err-bitmap.result _ p.0 (on_first g.V.Blocks.seen g.V.Blocks.health g.V.Blocks.sound g.V.Blocks.passes _ _ _ c.in_ok-shape.ensures.looked) c.in_err-bitmap.was p.1 p.2 c.read_bitmap.ensures.looked

pub returns-in_err-demand-clause-refused : goal.returns-in_err-demand-clause-refused
returns-in_err-demand-clause-refused g c =
    let s = g.V.Blocks.seen c.args.v.now in
    let shape = c.in_ok-shape.shape in
    let p = err_from_is_err_and c.from_residual-in_err-demand.result c.from_residual-in_err-demand.ensures.1 in
    let bits = words_back s _ (λ (f : BlockWords). HasBitmap shape f c.in_ok-bitmap.bitmap) c.in_ok-shape.ensures.looked.looks c.in_ok-bitmap.ensures.bitmap in
    refused_told (FailsVolume s.words s.count) c.from_residual-in_err-demand.result p.0 _ 2 _ p.1 p.2 c.in_err-demand.ensures.1
    (fails_reserved s.words s.count shape c.in_ok-shape.ensures.says 2 1 (refl, refl, λ rule. c.in_err-demand.ensures.0 ((c.keeps_reserved.ensures s.words bits).1 rule)))

pub returns-in_err-demand-clause-looked : goal.returns-in_err-demand-clause-looked
returns-in_err-demand-clause-looked g c =
    let p = err_from_is_err_and c.from_residual-in_err-demand.result c.from_residual-in_err-demand.ensures.1 in
    on_quiet g.V.Blocks.seen g.V.Blocks.health g.V.Blocks.sound g.V.Blocks.passes _ _ _ (quiet_told c.from_residual-in_err-demand.result p.0 _ 2 _ p.1 p.2 c.in_err-demand.ensures.1) (on_ok g.V.Blocks.seen g.V.Blocks.health g.V.Blocks.sound g.V.Blocks.passes g.met.V.Blocks.passes_trans _ _ _ _ (on_first g.V.Blocks.seen g.V.Blocks.health g.V.Blocks.sound g.V.Blocks.passes _ _ _ c.in_ok-shape.ensures.looked) c.in_ok-bitmap.ensures.looked)

pub read_inodes-requires-clause-can : goal.read_inodes-requires-clause-can
read_inodes-requires-clause-can g c = can_go_on g.V.Blocks.seen g.V.Blocks.health g.V.Blocks.sound g.V.Blocks.passes g.met.V.Blocks.passes_trans _ _ c.requires.can (on_ok g.V.Blocks.seen g.V.Blocks.health g.V.Blocks.sound g.V.Blocks.passes g.met.V.Blocks.passes_trans _ _ _ _ (on_first g.V.Blocks.seen g.V.Blocks.health g.V.Blocks.sound g.V.Blocks.passes _ _ _ c.in_ok-shape.ensures.looked) c.in_ok-bitmap.ensures.looked)

pub read_inodes-requires-clause-count : goal.read_inodes-requires-clause-count
read_inodes-requires-clause-count g c = c.in_ok-bitmap.ensures.looked.looks.count ∙ c.in_ok-shape.ensures.looked.looks.count ∙ c.in_ok-shape.ensures.says.blocks

pub returns-in_err-inodes-clause-refused : goal.returns-in_err-inodes-clause-refused
returns-in_err-inodes-clause-refused g c =
    let s = g.V.Blocks.seen c.args.v.now in
    let p = err_from_is_err_and c.from_residual-in_err-inodes.result c.from_residual-in_err-inodes.ensures.1 in
    refused_err (λ _ _. ⊥) (FailsVolume s.words s.count) c.read_inodes.result c.from_residual-in_err-inodes.result _ p.0 c.in_err-inodes.was p.1 p.2 (λ rule b h. absurd h) c.read_inodes.ensures.unrefused

pub returns-in_err-inodes-clause-looked : goal.returns-in_err-inodes-clause-looked
returns-in_err-inodes-clause-looked g c =
    let p = err_from_is_err_and c.from_residual-in_err-inodes.result c.from_residual-in_err-inodes.ensures.1 in
    on_err g.V.Blocks.seen g.V.Blocks.health g.V.Blocks.sound g.V.Blocks.passes g.met.V.Blocks.passes_trans _ _ _ c.read_inodes.result c.from_residual-in_err-inodes.result _ p.0 (on_ok g.V.Blocks.seen g.V.Blocks.health g.V.Blocks.sound g.V.Blocks.passes g.met.V.Blocks.passes_trans _ _ _ _ (on_first g.V.Blocks.seen g.V.Blocks.health g.V.Blocks.sound g.V.Blocks.passes _ _ _ c.in_ok-shape.ensures.looked) c.in_ok-bitmap.ensures.looked) c.in_err-inodes.was p.1 p.2 c.read_inodes.ensures.looked

pub returns-clause-read : goal.returns-clause-read
returns-clause-read g c =
    let s = g.V.Blocks.seen c.args.v.now in
    let shape = c.in_ok-shape.shape in
    let on = on_ok g.V.Blocks.seen g.V.Blocks.health g.V.Blocks.sound g.V.Blocks.passes g.met.V.Blocks.passes_trans _ _ _ _ (on_first g.V.Blocks.seen g.V.Blocks.health g.V.Blocks.sound g.V.Blocks.passes _ _ _ c.in_ok-shape.ensures.looked) c.in_ok-bitmap.ensures.looked in
    let bits = words_back s _ (λ (f : BlockWords). HasBitmap shape f c.in_ok-bitmap.bitmap) c.in_ok-shape.ensures.looked.looks c.in_ok-bitmap.ensures.bitmap in
    has_read s shape c.in_ok-bitmap.bitmap c.in_ok-inodes.inodes c.in_ok-inodes.ensures.shape c.in_ok-shape.ensures.says bits (inodes_back s _ c.in_ok-inodes.inodes on.looks c.in_ok-inodes.ensures.inodes) ((c.keeps_reserved.ensures s.words bits).0 c.in_ok-demand.ensures)

pub returns-clause-looked : goal.returns-clause-looked
returns-clause-looked g c = on_quiet g.V.Blocks.seen g.V.Blocks.health g.V.Blocks.sound g.V.Blocks.passes _ _ _ tt (on_ok g.V.Blocks.seen g.V.Blocks.health g.V.Blocks.sound g.V.Blocks.passes g.met.V.Blocks.passes_trans _ _ _ _ (on_ok g.V.Blocks.seen g.V.Blocks.health g.V.Blocks.sound g.V.Blocks.passes g.met.V.Blocks.passes_trans _ _ _ _ (on_first g.V.Blocks.seen g.V.Blocks.health g.V.Blocks.sound g.V.Blocks.passes _ _ _ c.in_ok-shape.ensures.looked) c.in_ok-bitmap.ensures.looked) c.in_ok-inodes.ensures.looked)
