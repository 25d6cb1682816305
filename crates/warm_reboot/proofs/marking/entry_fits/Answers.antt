use Rattle.rio_base.proofs.Frames.{vol_ends}
use Rattle.std.proofs.Common.{◌≡◌, ◌<◌, ◌∙◌, ap, false, refl, subst, sym}
use Rattle.std.specs.Prelude.{◌↔◌, IsTrue}
use Rattle.std.proofs.lemmas.Result.{err_from_is_err_and}
use Rattle.rio_base.proofs.BlockSets.{caches_by_one, caches_by_refl}
use Rattle.rio_base.proofs.Rules.{looks_refl}
use Rattle.rio_base.specs.Shapes.{reserved}
use Rattle.rio_model.proofs.PlacedRules.{inode_low}
use Rattle.rio_model.specs.Placed.{volume_layout}
use Rattle.rio_model.specs.Registry.{is_data, tag_block}
use Rattle.registry.specs.declared.entry.Entry.{Entry}
use Rattle.warm_reboot.proofs.Examines.{none_made}
use Rattle.warm_reboot.proofs.Looking.{ends_failed, ends_other, ends_still}
use Rattle.warm_reboot.proofs.Marks.{free_fits, page_fits, page_owner, page_starts, past_fits, table_fits}
use Rattle.warm_reboot.proofs.marking.entry_fits.Goals as goal

pub returns-in-TableOf-clause-value : goal.returns-in-TableOf-clause-value
returns-in-TableOf-clause-value g c = λ words k entry.
    table_fits (volume_layout c.args.shape.now (g.V.Blocks.seen c.args.v.now).words) c.args.owners.now words k _ c.in-TableOf.field-1 c.in-TableOf.field-0 c.is_data.result c.requires.owners c.requires.laid
    (c.block-block.ensures ∙ ap (λ (e : Entry). tag_block e.tag) entry) c.if-block-shape.false c.in-TableOf.is (c.is_data.ensures ∙ ap (λ (e : Entry). is_data e.tag) entry)

pub returns-in_ok-inode-in-PageOf-clause-value : goal.returns-in_ok-inode-in-PageOf-clause-value
returns-in_ok-inode-in-PageOf-clause-value g c = λ words k entry.
    page_fits (volume_layout c.args.shape.now (g.V.Blocks.seen c.args.v.now).words) c.args.owners.now words k _ c.in-PageOf.page c.in-PageOf.i c.page_fits.result c.requires.owners c.requires.laid
    (c.block-block.ensures ∙ ap (λ (e : Entry). tag_block e.tag) entry) c.if-block-shape.false c.in-PageOf.is (c.page_fits.ensures (volume_layout c.args.shape.now (g.V.Blocks.seen c.args.v.now).words) words k entry (sym c.in_ok-inode-in-PageOf.ensures.value.kind) (sym c.in_ok-inode-in-PageOf.ensures.value.size))

-- ---- where nothing is read

pub returns-then-block-shape-clause-looks : goal.returns-then-block-shape-clause-looks
returns-then-block-shape-clause-looks g c = looks_refl _

pub returns-then-block-shape-clause-caches : goal.returns-then-block-shape-clause-caches
returns-then-block-shape-clause-caches g c = caches_by_refl _ _

pub returns-then-block-shape-clause-passes : goal.returns-then-block-shape-clause-passes
returns-then-block-shape-clause-passes g c = g.met.V.Blocks.passes_refl c.args.v.now

pub returns-then-block-shape-clause-ends : goal.returns-then-block-shape-clause-ends
returns-then-block-shape-clause-ends g c = ends_still _ _

pub returns-in-Nobody-clause-looks : goal.returns-in-Nobody-clause-looks
returns-in-Nobody-clause-looks g c = looks_refl _

pub returns-in-Nobody-clause-caches : goal.returns-in-Nobody-clause-caches
returns-in-Nobody-clause-caches g c = caches_by_refl _ _

pub returns-in-Nobody-clause-passes : goal.returns-in-Nobody-clause-passes
returns-in-Nobody-clause-passes g c = g.met.V.Blocks.passes_refl c.args.v.now

pub returns-in-Nobody-clause-ends : goal.returns-in-Nobody-clause-ends
returns-in-Nobody-clause-ends g c = ends_still _ _

pub returns-in-TableOf-clause-looks : goal.returns-in-TableOf-clause-looks
returns-in-TableOf-clause-looks g c = looks_refl _

pub returns-in-TableOf-clause-caches : goal.returns-in-TableOf-clause-caches
returns-in-TableOf-clause-caches g c = caches_by_refl _ _

pub returns-in-TableOf-clause-passes : goal.returns-in-TableOf-clause-passes
returns-in-TableOf-clause-passes g c = g.met.V.Blocks.passes_refl c.args.v.now

pub returns-in-TableOf-clause-ends : goal.returns-in-TableOf-clause-ends
returns-in-TableOf-clause-ends g c = ends_still _ _

-- ---- where an inode is

pub returns-in_ok-inode-in-PageOf-clause-ends : goal.returns-in_ok-inode-in-PageOf-clause-ends
returns-in_ok-inode-in-PageOf-clause-ends g c = ends_other _ _ _ _ (vol_ends _ _ _ c.in_ok-inode-in-PageOf.ensures.read.ends)

pub returns-in_err-inode-in-PageOf-clause-value : goal.returns-in_err-inode-in-PageOf-clause-value
returns-in_err-inode-in-PageOf-clause-value g c =
    let p = err_from_is_err_and c.from_residual.result c.from_residual.ensures.1 in
    none_made c.from_residual.result p.0 _ p.1

pub returns-in_err-inode-in-PageOf-clause-ends : goal.returns-in_err-inode-in-PageOf-clause-ends
returns-in_err-inode-in-PageOf-clause-ends g c =
    let p = err_from_is_err_and c.from_residual.result c.from_residual.ensures.1 in
    ends_failed _ _ c.from_residual.result p.0 _ p.1 p.2 (vol_ends _ _ _ c.in_err-inode-in-PageOf.ensures.read.ends)

-- ---- the inode of a page's node

pub read_inode-requires-clause-can : goal.read_inode-requires-clause-can
read_inode-requires-clause-can g c = record { keeps = c.requires.sound; meets = c.requires.shape }

pub read_inode-requires-clause-ino : goal.read_inode-requires-clause-ino
read_inode-requires-clause-ino g c = (page_owner (volume_layout c.args.shape.now (g.V.Blocks.seen c.args.v.now).words) c.args.owners.now _ c.in-PageOf.page c.in-PageOf.i c.requires.owners c.if-block-shape.false c.in-PageOf.is).ino

pub read_inode-requires-clause-kind : goal.read_inode-requires-clause-kind
read_inode-requires-clause-kind g c = (c.requires.laid.kinds.each c.in-PageOf.i.0 (page_owner (volume_layout c.args.shape.now (g.V.Blocks.seen c.args.v.now).words) c.args.owners.now _ c.in-PageOf.page c.in-PageOf.i c.requires.owners c.if-block-shape.false c.in-PageOf.is).ino).0

pub returns-in_err-inode-in-PageOf-clause-caches : goal.returns-in_err-inode-in-PageOf-clause-caches
returns-in_err-inode-in-PageOf-clause-caches g c = caches_by_one _ _ _ _ _ c.read_inode.ensures.caches (inode_low c.args.shape.now c.in-PageOf.i.0 c.requires.shape.sizes (page_owner (volume_layout c.args.shape.now (g.V.Blocks.seen c.args.v.now).words) c.args.owners.now _ c.in-PageOf.page c.in-PageOf.i c.requires.owners c.if-block-shape.false c.in-PageOf.is).ino, refl)

pub returns-in_ok-inode-in-PageOf-clause-caches : goal.returns-in_ok-inode-in-PageOf-clause-caches
returns-in_ok-inode-in-PageOf-clause-caches g c = caches_by_one _ _ _ _ _ c.read_inode.ensures.caches (inode_low c.args.shape.now c.in-PageOf.i.0 c.requires.shape.sizes (page_owner (volume_layout c.args.shape.now (g.V.Blocks.seen c.args.v.now).words) c.args.owners.now _ c.in-PageOf.page c.in-PageOf.i c.requires.owners c.if-block-shape.false c.in-PageOf.is).ino, refl)

pub page_fits-requires : goal.page_fits-requires
page_fits-requires g c = record { page = page_starts _ _ c.in-PageOf.page c.in_ok-inode-in-PageOf.ensures.value.size (page_owner (volume_layout c.args.shape.now (g.V.Blocks.seen c.args.v.now).words) c.args.owners.now _ c.in-PageOf.page c.in-PageOf.i c.requires.owners c.if-block-shape.false c.in-PageOf.is).slot.within }

-- ---- a block that no node has, and one past the volume

pub free_fits-requires : goal.free_fits-requires
free_fits-requires g c = record { served = c.requires.served }

pub returns-then-block-shape-clause-value : goal.returns-then-block-shape-clause-value
returns-then-block-shape-clause-value g c = λ words k entry. past_fits (volume_layout c.args.shape.now (g.V.Blocks.seen c.args.v.now).words) words k _ (c.block-block.ensures ∙ ap (λ (e : Entry). tag_block e.tag) entry) c.if-block-shape.true

pub returns-in-Nobody-clause-value : goal.returns-in-Nobody-clause-value
returns-in-Nobody-clause-value g c = λ words k entry.
    free_fits (volume_layout c.args.shape.now (g.V.Blocks.seen c.args.v.now).words) c.args.owners.now words k _ c.free_fits.result c.requires.owners c.requires.laid (c.block-block.ensures ∙ ap (λ (e : Entry). tag_block e.tag) entry) c.if-block-shape.false c.in-Nobody.is
    (subst (λ t. IsTrue c.free_fits.result ↔ (tag_block t < reserved c.args.shape.now → is_data t ≡ false)) (ap (λ (e : Entry). e.tag) entry) c.free_fits.ensures)
