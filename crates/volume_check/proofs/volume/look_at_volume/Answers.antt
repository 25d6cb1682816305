use Rattle.volume_check.proofs.Common.{BlockWords, Layout, err_from_is_err_and, subst, sym, ap, ◌∙◌, volume_layout}
use Rattle.rio_model.specs.declared.state.State.{State}
use Rattle.rio_model.specs.Censuses.{HasOwners}
use Rattle.rio_model.specs.Held.{held_of}
use Rattle.rio_model.specs.VolumeFails.{FailsHeld, FailsVolume}
use Rattle.rio_model.specs.VolumeReads.{ReadsAs}
use Rattle.rio_model.specs.VolumeRules.{IsMapped}
use Rattle.volume_check.proofs.Chains.{fails_held, inodes_on, layout_back, read_on, sizes_fit, volume_back, words_back, words_on}
use Rattle.volume_check.proofs.Looking.{can_go_on, ends_on_ok, looked_err, on_err, on_first, on_ok, refused_err}
use Rattle.volume_check.proofs.volume.look_at_volume.Goals as goal

pub read_volume-requires : goal.read_volume-requires
read_volume-requires g c = record { can = record { keeps = c.requires.sound; bare = c.requires.bare } }

pub returns-in_err-bitmap-clause-refused : goal.returns-in_err-bitmap-clause-refused
returns-in_err-bitmap-clause-refused g c =
    let s = g.V.Blocks.seen c.args.v.now in
    let p = err_from_is_err_and c.from_residual.result c.from_residual.ensures.1 in
    refused_err (FailsVolume s.words s.count) (FailsVolume s.words s.count) c.read_volume.result c.from_residual.result _ p.0 c.in_err-bitmap.was p.1 p.2 (λ rule b h. h) c.read_volume.ensures.refused

pub returns-in_err-bitmap-clause-looks : goal.returns-in_err-bitmap-clause-looks
returns-in_err-bitmap-clause-looks g c =
    let p = err_from_is_err_and c.from_residual.result c.from_residual.ensures.1 in
    (looked_err g.V.Blocks.seen g.V.Blocks.health g.V.Blocks.sound g.V.Blocks.passes _ _ c.read_volume.result c.from_residual.result _ p.0 c.in_err-bitmap.was p.1 p.2 c.read_volume.ensures.looked).looks

pub returns-in_err-bitmap-clause-passes : goal.returns-in_err-bitmap-clause-passes
returns-in_err-bitmap-clause-passes g c =
    let p = err_from_is_err_and c.from_residual.result c.from_residual.ensures.1 in
    (looked_err g.V.Blocks.seen g.V.Blocks.health g.V.Blocks.sound g.V.Blocks.passes _ _ c.read_volume.result c.from_residual.result _ p.0 c.in_err-bitmap.was p.1 p.2 c.read_volume.ensures.looked).passed

pub returns-in_err-bitmap-clause-ends : goal.returns-in_err-bitmap-clause-ends
returns-in_err-bitmap-clause-ends g c =
    let p = err_from_is_err_and c.from_residual.result c.from_residual.ensures.1 in
    (looked_err g.V.Blocks.seen g.V.Blocks.health g.V.Blocks.sound g.V.Blocks.passes _ _ c.read_volume.result c.from_residual.result _ p.0 c.in_err-bitmap.was p.1 p.2 c.read_volume.ensures.looked).ends

pub returns-in_err-bitmap-clause-sound : goal.returns-in_err-bitmap-clause-sound
returns-in_err-bitmap-clause-sound g c =
    let p = err_from_is_err_and c.from_residual.result c.from_residual.ensures.1 in
    (looked_err g.V.Blocks.seen g.V.Blocks.health g.V.Blocks.sound g.V.Blocks.passes _ _ c.read_volume.result c.from_residual.result _ p.0 c.in_err-bitmap.was p.1 p.2 c.read_volume.ensures.looked).keeps

pub look_at_layout-requires-clause-can : goal.look_at_layout-requires-clause-can
look_at_layout-requires-clause-can g c = can_go_on g.V.Blocks.seen g.V.Blocks.health g.V.Blocks.sound g.V.Blocks.passes g.met.V.Blocks.passes_trans _ _ (record { keeps = c.requires.sound; bare = c.requires.bare }) (on_first g.V.Blocks.seen g.V.Blocks.health g.V.Blocks.sound g.V.Blocks.passes _ _ _ c.in_ok-bitmap.ensures.looked)

pub look_at_layout-requires-clause-read : goal.look_at_layout-requires-clause-read
look_at_layout-requires-clause-read g c = read_on (g.V.Blocks.seen c.args.v.now) _ c.in_ok-bitmap.bitmap c.in_ok-bitmap.inodes c.in_ok-bitmap.ensures.looked.looks c.in_ok-bitmap.ensures.read

pub returns-in_err-owners-clause-refused : goal.returns-in_err-owners-clause-refused
returns-in_err-owners-clause-refused g c =
    let s = g.V.Blocks.seen c.args.v.now in
    let t = g.V.Blocks.seen c.read_volume.new.v in
    let p = err_from_is_err_and c.from_residual-in_err-owners.result c.from_residual-in_err-owners.ensures.1 in
    refused_err (FailsVolume t.words t.count) (FailsVolume s.words s.count) c.look_at_layout.result c.from_residual-in_err-owners.result _ p.0 c.in_err-owners.was p.1 p.2 (volume_back s t c.in_ok-bitmap.ensures.looked.looks) c.look_at_layout.ensures.refused

pub returns-in_err-owners-clause-looks : goal.returns-in_err-owners-clause-looks
returns-in_err-owners-clause-looks g c =
    let p = err_from_is_err_and c.from_residual-in_err-owners.result c.from_residual-in_err-owners.ensures.1 in
    (on_err g.V.Blocks.seen g.V.Blocks.health g.V.Blocks.sound g.V.Blocks.passes g.met.V.Blocks.passes_trans _ _ _ c.look_at_layout.result c.from_residual-in_err-owners.result _ p.0 (on_first g.V.Blocks.seen g.V.Blocks.health g.V.Blocks.sound g.V.Blocks.passes _ _ _ c.in_ok-bitmap.ensures.looked) c.in_err-owners.was p.1 p.2 c.look_at_layout.ensures.looked).looks

pub returns-in_err-owners-clause-passes : goal.returns-in_err-owners-clause-passes
returns-in_err-owners-clause-passes g c =
    let p = err_from_is_err_and c.from_residual-in_err-owners.result c.from_residual-in_err-owners.ensures.1 in
    (on_err g.V.Blocks.seen g.V.Blocks.health g.V.Blocks.sound g.V.Blocks.passes g.met.V.Blocks.passes_trans _ _ _ c.look_at_layout.result c.from_residual-in_err-owners.result _ p.0 (on_first g.V.Blocks.seen g.V.Blocks.health g.V.Blocks.sound g.V.Blocks.passes _ _ _ c.in_ok-bitmap.ensures.looked) c.in_err-owners.was p.1 p.2 c.look_at_layout.ensures.looked).passed

pub returns-in_err-owners-clause-ends : goal.returns-in_err-owners-clause-ends
returns-in_err-owners-clause-ends g c =
    let p = err_from_is_err_and c.from_residual-in_err-owners.result c.from_residual-in_err-owners.ensures.1 in
    (on_err g.V.Blocks.seen g.V.Blocks.health g.V.Blocks.sound g.V.Blocks.passes g.met.V.Blocks.passes_trans _ _ _ c.look_at_layout.result c.from_residual-in_err-owners.result _ p.0 (on_first g.V.Blocks.seen g.V.Blocks.health g.V.Blocks.sound g.V.Blocks.passes _ _ _ c.in_ok-bitmap.ensures.looked) c.in_err-owners.was p.1 p.2 c.look_at_layout.ensures.looked).ends

pub returns-in_err-owners-clause-sound : goal.returns-in_err-owners-clause-sound
returns-in_err-owners-clause-sound g c =
    let p = err_from_is_err_and c.from_residual-in_err-owners.result c.from_residual-in_err-owners.ensures.1 in
    (on_err g.V.Blocks.seen g.V.Blocks.health g.V.Blocks.sound g.V.Blocks.passes g.met.V.Blocks.passes_trans _ _ _ c.look_at_layout.result c.from_residual-in_err-owners.result _ p.0 (on_first g.V.Blocks.seen g.V.Blocks.health g.V.Blocks.sound g.V.Blocks.passes _ _ _ c.in_ok-bitmap.ensures.looked) c.in_err-owners.was p.1 p.2 c.look_at_layout.ensures.looked).keeps

pub look_at_held-requires-clause-can : goal.look_at_held-requires-clause-can
look_at_held-requires-clause-can g c = can_go_on g.V.Blocks.seen g.V.Blocks.health g.V.Blocks.sound g.V.Blocks.passes g.met.V.Blocks.passes_trans _ _ (record { keeps = c.requires.sound; bare = c.requires.bare }) (on_ok g.V.Blocks.seen g.V.Blocks.health g.V.Blocks.sound g.V.Blocks.passes g.met.V.Blocks.passes_trans _ _ _ _ (on_first g.V.Blocks.seen g.V.Blocks.health g.V.Blocks.sound g.V.Blocks.passes _ _ _ c.in_ok-bitmap.ensures.looked) c.in_ok-owners.ensures.looked)

pub look_at_held-requires-clause-inodes : goal.look_at_held-requires-clause-inodes
look_at_held-requires-clause-inodes g c = inodes_on (g.V.Blocks.seen c.args.v.now) _ c.in_ok-bitmap.inodes (on_ok g.V.Blocks.seen g.V.Blocks.health g.V.Blocks.sound g.V.Blocks.passes g.met.V.Blocks.passes_trans _ _ _ _ (on_first g.V.Blocks.seen g.V.Blocks.health g.V.Blocks.sound g.V.Blocks.passes _ _ _ c.in_ok-bitmap.ensures.looked) c.in_ok-owners.ensures.looked).looks c.in_ok-bitmap.ensures.read.inodes

pub look_at_held-requires-clause-mapped : goal.look_at_held-requires-clause-mapped
look_at_held-requires-clause-mapped g c = words_on (g.V.Blocks.seen c.read_volume.new.v) _ (λ (f : BlockWords). IsMapped c.in_ok-bitmap.inodes.shape f) c.in_ok-owners.ensures.looked.looks c.in_ok-owners.ensures.mapped

pub returns-in_err-look_at_held-clause-refused : goal.returns-in_err-look_at_held-clause-refused
returns-in_err-look_at_held-clause-refused g c =
    let s = g.V.Blocks.seen c.args.v.now in
    let t = g.V.Blocks.seen c.look_at_layout.new.v in
    let n = c.in_ok-bitmap.inodes in
    let mapped = words_back s _ (λ (f : BlockWords). IsMapped n.shape f) c.in_ok-bitmap.ensures.looked.looks c.in_ok-owners.ensures.mapped in
    let p = err_from_is_err_and c.from_residual-in_err-look_at_held.result c.from_residual-in_err-look_at_held.ensures.1 in
    refused_err (FailsHeld n.shape (held_of n.shape t.words)) (FailsVolume s.words s.count) c.look_at_held.result c.from_residual-in_err-look_at_held.result _ p.0 c.in_err-look_at_held.was p.1 p.2
    (λ rule b h. fails_held s.words s.count n.shape c.in_ok-bitmap.ensures.read.says mapped rule b (words_back s t (λ (f : BlockWords). FailsHeld n.shape (held_of n.shape f) rule b) (on_ok g.V.Blocks.seen g.V.Blocks.health g.V.Blocks.sound g.V.Blocks.passes g.met.V.Blocks.passes_trans _ _ _ _ (on_first g.V.Blocks.seen g.V.Blocks.health g.V.Blocks.sound g.V.Blocks.passes _ _ _ c.in_ok-bitmap.ensures.looked) c.in_ok-owners.ensures.looked).looks h)) c.look_at_held.ensures.refused

pub returns-in_err-look_at_held-clause-looks : goal.returns-in_err-look_at_held-clause-looks
returns-in_err-look_at_held-clause-looks g c =
    let p = err_from_is_err_and c.from_residual-in_err-look_at_held.result c.from_residual-in_err-look_at_held.ensures.1 in
    (on_err g.V.Blocks.seen g.V.Blocks.health g.V.Blocks.sound g.V.Blocks.passes g.met.V.Blocks.passes_trans _ _ _ c.look_at_held.result c.from_residual-in_err-look_at_held.result _ p.0 (on_ok g.V.Blocks.seen g.V.Blocks.health g.V.Blocks.sound g.V.Blocks.passes g.met.V.Blocks.passes_trans _ _ _ _ (on_first g.V.Blocks.seen g.V.Blocks.health g.V.Blocks.sound g.V.Blocks.passes _ _ _ c.in_ok-bitmap.ensures.looked) c.in_ok-owners.ensures.looked) c.in_err-look_at_held.was p.1 p.2 c.look_at_held.ensures.looked).looks

pub returns-in_err-look_at_held-clause-passes : goal.returns-in_err-look_at_held-clause-passes
returns-in_err-look_at_held-clause-passes g c =
    let p = err_from_is_err_and c.from_residual-in_err-look_at_held.result c.from_residual-in_err-look_at_held.ensures.1 in
    (on_err g.V.Blocks.seen g.V.Blocks.health g.V.Blocks.sound g.V.Blocks.passes g.met.V.Blocks.passes_trans _ _ _ c.look_at_held.result c.from_residual-in_err-look_at_held.result _ p.0 (on_ok g.V.Blocks.seen g.V.Blocks.health g.V.Blocks.sound g.V.Blocks.passes g.met.V.Blocks.passes_trans _ _ _ _ (on_first g.V.Blocks.seen g.V.Blocks.health g.V.Blocks.sound g.V.Blocks.passes _ _ _ c.in_ok-bitmap.ensures.looked) c.in_ok-owners.ensures.looked) c.in_err-look_at_held.was p.1 p.2 c.look_at_held.ensures.looked).passed

pub returns-in_err-look_at_held-clause-ends : goal.returns-in_err-look_at_held-clause-ends
returns-in_err-look_at_held-clause-ends g c =
    let p = err_from_is_err_and c.from_residual-in_err-look_at_held.result c.from_residual-in_err-look_at_held.ensures.1 in
    (on_err g.V.Blocks.seen g.V.Blocks.health g.V.Blocks.sound g.V.Blocks.passes g.met.V.Blocks.passes_trans _ _ _ c.look_at_held.result c.from_residual-in_err-look_at_held.result _ p.0 (on_ok g.V.Blocks.seen g.V.Blocks.health g.V.Blocks.sound g.V.Blocks.passes g.met.V.Blocks.passes_trans _ _ _ _ (on_first g.V.Blocks.seen g.V.Blocks.health g.V.Blocks.sound g.V.Blocks.passes _ _ _ c.in_ok-bitmap.ensures.looked) c.in_ok-owners.ensures.looked) c.in_err-look_at_held.was p.1 p.2 c.look_at_held.ensures.looked).ends

pub returns-in_err-look_at_held-clause-sound : goal.returns-in_err-look_at_held-clause-sound
returns-in_err-look_at_held-clause-sound g c =
    let p = err_from_is_err_and c.from_residual-in_err-look_at_held.result c.from_residual-in_err-look_at_held.ensures.1 in
    (on_err g.V.Blocks.seen g.V.Blocks.health g.V.Blocks.sound g.V.Blocks.passes g.met.V.Blocks.passes_trans _ _ _ c.look_at_held.result c.from_residual-in_err-look_at_held.result _ p.0 (on_ok g.V.Blocks.seen g.V.Blocks.health g.V.Blocks.sound g.V.Blocks.passes g.met.V.Blocks.passes_trans _ _ _ _ (on_first g.V.Blocks.seen g.V.Blocks.health g.V.Blocks.sound g.V.Blocks.passes _ _ _ c.in_ok-bitmap.ensures.looked) c.in_ok-owners.ensures.looked) c.in_err-look_at_held.was p.1 p.2 c.look_at_held.ensures.looked).keeps

pub count_volume-requires-clause-sizes : goal.count_volume-requires-clause-sizes
count_volume-requires-clause-sizes g c =
    let s = g.V.Blocks.seen c.args.v.now in
    let n = c.in_ok-bitmap.inodes in
    let mapped = words_back s _ (λ (f : BlockWords). IsMapped n.shape f) c.in_ok-bitmap.ensures.looked.looks c.in_ok-owners.ensures.mapped in
    sizes_fit s n c.in_ok-bitmap.ensures.read.inodes mapped.laid.sizes

pub returns-clause-ok : goal.returns-clause-ok
returns-clause-ok g c =
    let s = g.V.Blocks.seen c.args.v.now in
    let n = c.in_ok-bitmap.inodes in
    let read = c.in_ok-bitmap.ensures.read in
    let found = words_back s _ (λ (f : BlockWords). (t : State) × ReadsAs n.shape f t) (on_ok g.V.Blocks.seen g.V.Blocks.health g.V.Blocks.sound g.V.Blocks.passes g.met.V.Blocks.passes_trans _ _ _ _ (on_first g.V.Blocks.seen g.V.Blocks.health g.V.Blocks.sound g.V.Blocks.passes _ _ _ c.in_ok-bitmap.ensures.looked) c.in_ok-owners.ensures.looked).looks c.in_ok-look_at_held.ensures.ok in
    let shape = c.count_volume.ensures.shape in
    (found.0, subst (λ sh. ReadsAs sh s.words found.0) (sym shape) found.1, ap (λ sh. sh.version) shape ∙ read.inodes.served.version, ap (λ sh. sh.blocks) shape ∙ sym read.inodes.count, c.count_volume.ensures.census s found.0 read.inodes found.1)

pub returns-clause-owners : goal.returns-clause-owners
returns-clause-owners g c =
    let s = g.V.Blocks.seen c.args.v.now in
    let n = c.in_ok-bitmap.inodes in
    subst (λ sh. HasOwners (volume_layout sh s.words) c.in_ok-owners.owners.items) (sym c.count_volume.ensures.shape) (layout_back s _ n (λ (l : Layout). HasOwners l c.in_ok-owners.owners.items) c.in_ok-bitmap.ensures.looked.looks c.in_ok-owners.ensures.owners)

pub returns-clause-looks : goal.returns-clause-looks
returns-clause-looks g c =
    (on_ok g.V.Blocks.seen g.V.Blocks.health g.V.Blocks.sound g.V.Blocks.passes g.met.V.Blocks.passes_trans _ _ _ _ (on_ok g.V.Blocks.seen g.V.Blocks.health g.V.Blocks.sound g.V.Blocks.passes g.met.V.Blocks.passes_trans _ _ _ _ (on_first g.V.Blocks.seen g.V.Blocks.health g.V.Blocks.sound g.V.Blocks.passes _ _ _ c.in_ok-bitmap.ensures.looked) c.in_ok-owners.ensures.looked) c.in_ok-look_at_held.ensures.looked).looks

pub returns-clause-passes : goal.returns-clause-passes
returns-clause-passes g c =
    (on_ok g.V.Blocks.seen g.V.Blocks.health g.V.Blocks.sound g.V.Blocks.passes g.met.V.Blocks.passes_trans _ _ _ _ (on_ok g.V.Blocks.seen g.V.Blocks.health g.V.Blocks.sound g.V.Blocks.passes g.met.V.Blocks.passes_trans _ _ _ _ (on_first g.V.Blocks.seen g.V.Blocks.health g.V.Blocks.sound g.V.Blocks.passes _ _ _ c.in_ok-bitmap.ensures.looked) c.in_ok-owners.ensures.looked) c.in_ok-look_at_held.ensures.looked).passed

pub returns-clause-ends : goal.returns-clause-ends
returns-clause-ends g c =
    ends_on_ok g.V.Blocks.seen g.V.Blocks.health g.V.Blocks.sound g.V.Blocks.passes _ _ _ (on_ok g.V.Blocks.seen g.V.Blocks.health g.V.Blocks.sound g.V.Blocks.passes g.met.V.Blocks.passes_trans _ _ _ _ (on_ok g.V.Blocks.seen g.V.Blocks.health g.V.Blocks.sound g.V.Blocks.passes g.met.V.Blocks.passes_trans _ _ _ _ (on_first g.V.Blocks.seen g.V.Blocks.health g.V.Blocks.sound g.V.Blocks.passes _ _ _ c.in_ok-bitmap.ensures.looked) c.in_ok-owners.ensures.looked) c.in_ok-look_at_held.ensures.looked)

pub returns-clause-sound : goal.returns-clause-sound
returns-clause-sound g c =
    (on_ok g.V.Blocks.seen g.V.Blocks.health g.V.Blocks.sound g.V.Blocks.passes g.met.V.Blocks.passes_trans _ _ _ _ (on_ok g.V.Blocks.seen g.V.Blocks.health g.V.Blocks.sound g.V.Blocks.passes g.met.V.Blocks.passes_trans _ _ _ _ (on_first g.V.Blocks.seen g.V.Blocks.health g.V.Blocks.sound g.V.Blocks.passes _ _ _ c.in_ok-bitmap.ensures.looked) c.in_ok-owners.ensures.looked) c.in_ok-look_at_held.ensures.looked).keeps
