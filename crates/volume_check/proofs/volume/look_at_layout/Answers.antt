use Rattle.volume_check.proofs.Common.{Layout, List, err_from_is_err_and, refl, subst, sym}
use Rattle.rio_model.specs.declared.census.Owner.{Owner}
use Rattle.rio_model.specs.Censuses.{HasOwners}
use Rattle.rio_model.specs.VolumeFails.{FailsVolume}
use Rattle.rio_model.specs.VolumeRules.{NumberRule, OnceRule, SizeRule}
use Rattle.volume_check.specs.Inodes.{layout_of}
use Rattle.volume_check.specs.Rules.{FailsInodes, FailsNumbers, FailsOnce}
use Rattle.volume_check.proofs.Chains.{fails_inodes, fails_marks, fails_numbers, fails_once, inodes_on, is_mapped, layout_back, layout_on}
use Rattle.volume_check.proofs.Looking.{can_go_on, looked_err, looked_none, on_err, on_first, on_ok, on_quiet, quiet_rule, quiet_told, refused_err, refused_told}
use Rattle.volume_check.proofs.volume.look_at_layout.Goals as goal

pub returns-in_err-look_at_inodes-clause-refused : goal.returns-in_err-look_at_inodes-clause-refused
returns-in_err-look_at_inodes-clause-refused g c =
    let s = g.V.Blocks.seen c.args.v.now in
    let n = c.args.inodes.now in
    let read = c.requires.read in
    let p = err_from_is_err_and c.from_residual.result c.from_residual.ensures.1 in
    refused_err (FailsInodes (layout_of s n)) (FailsVolume s.words s.count) c.look_at_inodes.result c.from_residual.result _ p.0 c.in_err-look_at_inodes.was p.1 p.2 (fails_inodes s.words s.count n.shape read.says read.reserved_marked) (c.look_at_inodes.ensures.refused s read.inodes)

pub returns-in_err-look_at_inodes-clause-looked : goal.returns-in_err-look_at_inodes-clause-looked
returns-in_err-look_at_inodes-clause-looked g c =
    let p = err_from_is_err_and c.from_residual.result c.from_residual.ensures.1 in
    looked_none g.V.Blocks.seen g.V.Blocks.health g.V.Blocks.sound g.V.Blocks.passes c.args.v.now c.from_residual.result (g.met.V.Blocks.passes_refl c.args.v.now) c.requires.can.keeps (quiet_rule c.look_at_inodes.result c.from_residual.result _ p.0 c.in_err-look_at_inodes.was p.1 p.2 c.look_at_inodes.ensures.quiet)

pub look_at_each-requires-clause-before : goal.look_at_each-requires-clause-before
look_at_each-requires-clause-before g c = c.in_ok-look_at_inodes.ensures.sizes (g.V.Blocks.seen c.args.v.now) c.requires.read.inodes

pub returns-in_err-look_at_each-clause-refused : goal.returns-in_err-look_at_each-clause-refused
returns-in_err-look_at_each-clause-refused g c =
    let s = g.V.Blocks.seen c.args.v.now in
    let n = c.args.inodes.now in
    let read = c.requires.read in
    let p = err_from_is_err_and c.from_residual-in_err-look_at_each.result c.from_residual-in_err-look_at_each.ensures.1 in
    refused_err (FailsNumbers (layout_of s n)) (FailsVolume s.words s.count) c.look_at_each.result c.from_residual-in_err-look_at_each.result _ p.0 c.in_err-look_at_each.was p.1 p.2 (fails_numbers s.words s.count n.shape read.says read.reserved_marked (c.in_ok-look_at_inodes.ensures.kinds s read.inodes) (c.in_ok-look_at_inodes.ensures.sizes s read.inodes)) c.look_at_each.ensures.refused

pub returns-in_err-look_at_each-clause-looked : goal.returns-in_err-look_at_each-clause-looked
returns-in_err-look_at_each-clause-looked g c =
    let p = err_from_is_err_and c.from_residual-in_err-look_at_each.result c.from_residual-in_err-look_at_each.ensures.1 in
    looked_err g.V.Blocks.seen g.V.Blocks.health g.V.Blocks.sound g.V.Blocks.passes _ _ c.look_at_each.result c.from_residual-in_err-look_at_each.result _ p.0 c.in_err-look_at_each.was p.1 p.2 c.look_at_each.ensures.looked

pub find_owners-requires-clause-can : goal.find_owners-requires-clause-can
find_owners-requires-clause-can g c = can_go_on g.V.Blocks.seen g.V.Blocks.health g.V.Blocks.sound g.V.Blocks.passes g.met.V.Blocks.passes_trans _ _ c.requires.can (on_first g.V.Blocks.seen g.V.Blocks.health g.V.Blocks.sound g.V.Blocks.passes _ _ _ c.in_ok-look_at_each.ensures.looked)

pub find_owners-requires-clause-inodes : goal.find_owners-requires-clause-inodes
find_owners-requires-clause-inodes g c = inodes_on _ _ c.args.inodes.now c.in_ok-look_at_each.ensures.looked.looks c.requires.read.inodes

pub find_owners-requires-clause-sizes : goal.find_owners-requires-clause-sizes
find_owners-requires-clause-sizes g c = layout_on (g.V.Blocks.seen c.args.v.now) _ c.args.inodes.now SizeRule c.in_ok-look_at_each.ensures.looked.looks (c.in_ok-look_at_inodes.ensures.sizes (g.V.Blocks.seen c.args.v.now) c.requires.read.inodes)

pub find_owners-requires-clause-numbers : goal.find_owners-requires-clause-numbers
find_owners-requires-clause-numbers g c = layout_on (g.V.Blocks.seen c.args.v.now) _ c.args.inodes.now NumberRule c.in_ok-look_at_each.ensures.looked.looks (record { each = c.in_ok-look_at_each.ensures.ok })

pub returns-in_err-owners-clause-refused : goal.returns-in_err-owners-clause-refused
returns-in_err-owners-clause-refused g c =
    let s = g.V.Blocks.seen c.args.v.now in
    let n = c.args.inodes.now in
    let read = c.requires.read in
    let looks = c.in_ok-look_at_each.ensures.looked.looks in
    let p = err_from_is_err_and c.from_residual-in_err-owners.result c.from_residual-in_err-owners.ensures.1 in
    refused_err (FailsOnce (layout_of (g.V.Blocks.seen c.look_at_each.new.v) n)) (FailsVolume s.words s.count) c.find_owners.result c.from_residual-in_err-owners.result _ p.0 c.in_err-owners.was p.1 p.2
    (λ rule b h. fails_once s.words s.count n.shape read.says read.reserved_marked (c.in_ok-look_at_inodes.ensures.kinds s read.inodes) (c.in_ok-look_at_inodes.ensures.sizes s read.inodes) (record { each = c.in_ok-look_at_each.ensures.ok }) rule b (layout_back s _ n (λ (l : Layout). FailsOnce l rule b) looks h)) c.find_owners.ensures.refused

pub returns-in_err-owners-clause-looked : goal.returns-in_err-owners-clause-looked
returns-in_err-owners-clause-looked g c =
    let p = err_from_is_err_and c.from_residual-in_err-owners.result c.from_residual-in_err-owners.ensures.1 in
    on_err g.V.Blocks.seen g.V.Blocks.health g.V.Blocks.sound g.V.Blocks.passes g.met.V.Blocks.passes_trans _ _ _ c.find_owners.result c.from_residual-in_err-owners.result _ p.0 (on_first g.V.Blocks.seen g.V.Blocks.health g.V.Blocks.sound g.V.Blocks.passes _ _ _ c.in_ok-look_at_each.ensures.looked) c.in_err-owners.was p.1 p.2 c.find_owners.ensures.looked

pub returns-in_err-demand-clause-looked : goal.returns-in_err-demand-clause-looked
returns-in_err-demand-clause-looked g c =
    let p = err_from_is_err_and c.from_residual-in_err-demand.result c.from_residual-in_err-demand.ensures.1 in
    on_quiet g.V.Blocks.seen g.V.Blocks.health g.V.Blocks.sound g.V.Blocks.passes _ _ _ (quiet_told c.from_residual-in_err-demand.result p.0 _ 7 _ p.1 p.2 c.in_err-demand.ensures.1) (on_ok g.V.Blocks.seen g.V.Blocks.health g.V.Blocks.sound g.V.Blocks.passes g.met.V.Blocks.passes_trans _ _ _ _ (on_first g.V.Blocks.seen g.V.Blocks.health g.V.Blocks.sound g.V.Blocks.passes _ _ _ c.in_ok-look_at_each.ensures.looked) c.in_ok-owners.ensures.looked)

pub returns-in_err-demand-clause-refused : goal.returns-in_err-demand-clause-refused
returns-in_err-demand-clause-refused g c =
    let s = g.V.Blocks.seen c.args.v.now in
    let n = c.args.inodes.now in
    let read = c.requires.read in
    let looks = c.in_ok-look_at_each.ensures.looked.looks in
    let once = layout_back s _ n OnceRule looks c.in_ok-owners.ensures.once in
    let own = layout_back s _ n (λ (l : Layout). HasOwners l c.in_ok-owners.owners.items) looks c.in_ok-owners.ensures.owners in
    let p = err_from_is_err_and c.from_residual-in_err-demand.result c.from_residual-in_err-demand.ensures.1 in
    refused_told (FailsVolume s.words s.count) c.from_residual-in_err-demand.result p.0 _ 7 _ p.1 p.2 c.in_err-demand.ensures.1
    (fails_marks s.words s.count n.shape read.says read.reserved_marked (c.in_ok-look_at_inodes.ensures.kinds s read.inodes) (c.in_ok-look_at_inodes.ensures.sizes s read.inodes) (record { each = c.in_ok-look_at_each.ensures.ok }) once 7 1 (refl, refl, λ rule. c.in_err-demand.ensures.0 ((c.keeps_marks.ensures s.words read.bitmap (record { each = c.in_ok-look_at_each.ensures.ok }) (subst (λ (xs : List Owner). HasOwners (layout_of s n) xs) (sym c.deref.ensures.value) own)).1 rule)))

pub returns-clause-mapped : goal.returns-clause-mapped
returns-clause-mapped g c =
    let s = g.V.Blocks.seen c.args.v.now in
    let n = c.args.inodes.now in
    let read = c.requires.read in
    let looks = c.in_ok-look_at_each.ensures.looked.looks in
    let once = layout_back s _ n OnceRule looks c.in_ok-owners.ensures.once in
    let own = layout_back s _ n (λ (l : Layout). HasOwners l c.in_ok-owners.owners.items) looks c.in_ok-owners.ensures.owners in
    is_mapped s.words s.count n.shape read.says read.reserved_marked (c.in_ok-look_at_inodes.ensures.kinds s read.inodes) (c.in_ok-look_at_inodes.ensures.sizes s read.inodes) (record { each = c.in_ok-look_at_each.ensures.ok }) once ((c.keeps_marks.ensures s.words read.bitmap (record { each = c.in_ok-look_at_each.ensures.ok }) (subst (λ (xs : List Owner). HasOwners (layout_of s n) xs) (sym c.deref.ensures.value) own)).0 c.in_ok-demand.ensures)

pub returns-clause-owners : goal.returns-clause-owners
returns-clause-owners g c = layout_back (g.V.Blocks.seen c.args.v.now) _ c.args.inodes.now (λ (l : Layout). HasOwners l c.in_ok-owners.owners.items) c.in_ok-look_at_each.ensures.looked.looks c.in_ok-owners.ensures.owners

pub returns-clause-looked : goal.returns-clause-looked
returns-clause-looked g c = on_quiet g.V.Blocks.seen g.V.Blocks.health g.V.Blocks.sound g.V.Blocks.passes _ _ _ tt (on_ok g.V.Blocks.seen g.V.Blocks.health g.V.Blocks.sound g.V.Blocks.passes g.met.V.Blocks.passes_trans _ _ _ _ (on_first g.V.Blocks.seen g.V.Blocks.health g.V.Blocks.sound g.V.Blocks.passes _ _ _ c.in_ok-look_at_each.ensures.looked) c.in_ok-owners.ensures.looked)
