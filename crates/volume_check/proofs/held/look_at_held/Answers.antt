use Rattle.volume_check.proofs.Common.{err_from_is_err_and, BlockWords, Ok}
use Rattle.rio_model.specs.Held.{held_of}
use Rattle.rio_model.specs.VolumeFails.{FailsHeld, TreeAt}
use Rattle.rio_model.specs.VolumeRules.{EntryRule, IsMapped, NamesApartRule, RegionRule, TreeRule, ApartAt, EntryAt, RegionAt}
use Rattle.rio_model.proofs.ReadStates.{holds_within}
use Rattle.rio_model.proofs.VolumeFailRules.{apart_rule, entry_rule, region_rule}
use Rattle.volume_check.specs.Rules.{FailsBy}
use Rattle.volume_check.specs.Tree.{state_of}
use Rattle.volume_check.proofs.Chains.{inodes_on, words_back, words_on}
use Rattle.volume_check.proofs.HeldChain.{fails_entries, fails_names, fails_regions, fails_tree, on_ok_then, reads_all}
use Rattle.volume_check.proofs.Looking.{can_go_on, looked_err, looked_then, on_err, on_first, on_ok, refused_err, refused_more}
use Rattle.volume_check.proofs.held.look_at_held.Goals as goal

pub look_at_each-requires-2-clause-can : goal.look_at_each-requires-2-clause-can
look_at_each-requires-2-clause-can g c = can_go_on g.V.Blocks.seen g.V.Blocks.health g.V.Blocks.sound g.V.Blocks.passes g.met.V.Blocks.passes_trans _ _ c.requires.can (on_first g.V.Blocks.seen g.V.Blocks.health g.V.Blocks.sound g.V.Blocks.passes c.args.v.now c.look_at_each.new.v _ c.in_ok-look_at_each.ensures.looked)

pub look_at_each-requires-2-clause-inodes : goal.look_at_each-requires-2-clause-inodes
look_at_each-requires-2-clause-inodes g c = inodes_on (g.V.Blocks.seen c.args.v.now) (g.V.Blocks.seen c.look_at_each.new.v) c.args.inodes.now (on_first g.V.Blocks.seen g.V.Blocks.health g.V.Blocks.sound g.V.Blocks.passes c.args.v.now c.look_at_each.new.v _ c.in_ok-look_at_each.ensures.looked).looks c.requires.inodes

pub look_at_each-requires-2-clause-before : goal.look_at_each-requires-2-clause-before
look_at_each-requires-2-clause-before g c = (
  words_on (g.V.Blocks.seen c.args.v.now) (g.V.Blocks.seen c.look_at_each.new.v) (λ (f : BlockWords). IsMapped c.args.inodes.now.shape f) (on_first g.V.Blocks.seen g.V.Blocks.health g.V.Blocks.sound g.V.Blocks.passes c.args.v.now c.look_at_each.new.v _ c.in_ok-look_at_each.ensures.looked).looks c.requires.mapped,
  words_on (g.V.Blocks.seen c.args.v.now) (g.V.Blocks.seen c.look_at_each.new.v) (λ (f : BlockWords). EntryRule (held_of c.args.inodes.now.shape f)) (on_first g.V.Blocks.seen g.V.Blocks.health g.V.Blocks.sound g.V.Blocks.passes c.args.v.now c.look_at_each.new.v _ c.in_ok-look_at_each.ensures.looked).looks (entry_rule c.args.inodes.now.shape (held_of c.args.inodes.now.shape (g.V.Blocks.seen c.args.v.now).words) (holds_within c.args.inodes.now.shape (g.V.Blocks.seen c.args.v.now).words) c.in_ok-look_at_each.ensures.ok),
)

pub look_at_tree-requires-clause-can : goal.look_at_tree-requires-clause-can
look_at_tree-requires-clause-can g c = can_go_on g.V.Blocks.seen g.V.Blocks.health g.V.Blocks.sound g.V.Blocks.passes g.met.V.Blocks.passes_trans _ _ c.requires.can (on_ok g.V.Blocks.seen g.V.Blocks.health g.V.Blocks.sound g.V.Blocks.passes g.met.V.Blocks.passes_trans c.args.v.now c.look_at_each.new.v c.look_at_each-2.new.v _ (on_first g.V.Blocks.seen g.V.Blocks.health g.V.Blocks.sound g.V.Blocks.passes c.args.v.now c.look_at_each.new.v _ c.in_ok-look_at_each.ensures.looked) c.in_ok-look_at_each-2.ensures.looked)

pub look_at_tree-requires-clause-inodes : goal.look_at_tree-requires-clause-inodes
look_at_tree-requires-clause-inodes g c = inodes_on (g.V.Blocks.seen c.args.v.now) (g.V.Blocks.seen c.look_at_each-2.new.v) c.args.inodes.now (on_ok g.V.Blocks.seen g.V.Blocks.health g.V.Blocks.sound g.V.Blocks.passes g.met.V.Blocks.passes_trans c.args.v.now c.look_at_each.new.v c.look_at_each-2.new.v _ (on_first g.V.Blocks.seen g.V.Blocks.health g.V.Blocks.sound g.V.Blocks.passes c.args.v.now c.look_at_each.new.v _ c.in_ok-look_at_each.ensures.looked) c.in_ok-look_at_each-2.ensures.looked).looks c.requires.inodes

pub look_at_tree-requires-clause-mapped : goal.look_at_tree-requires-clause-mapped
look_at_tree-requires-clause-mapped g c = words_on (g.V.Blocks.seen c.args.v.now) (g.V.Blocks.seen c.look_at_each-2.new.v) (λ (f : BlockWords). IsMapped c.args.inodes.now.shape f) (on_ok g.V.Blocks.seen g.V.Blocks.health g.V.Blocks.sound g.V.Blocks.passes g.met.V.Blocks.passes_trans c.args.v.now c.look_at_each.new.v c.look_at_each-2.new.v _ (on_first g.V.Blocks.seen g.V.Blocks.health g.V.Blocks.sound g.V.Blocks.passes c.args.v.now c.look_at_each.new.v _ c.in_ok-look_at_each.ensures.looked) c.in_ok-look_at_each-2.ensures.looked).looks c.requires.mapped

pub look_at_tree-requires-clause-entries : goal.look_at_tree-requires-clause-entries
look_at_tree-requires-clause-entries g c = words_on (g.V.Blocks.seen c.args.v.now) (g.V.Blocks.seen c.look_at_each-2.new.v) (λ (f : BlockWords). EntryRule (held_of c.args.inodes.now.shape f)) (on_ok g.V.Blocks.seen g.V.Blocks.health g.V.Blocks.sound g.V.Blocks.passes g.met.V.Blocks.passes_trans c.args.v.now c.look_at_each.new.v c.look_at_each-2.new.v _ (on_first g.V.Blocks.seen g.V.Blocks.health g.V.Blocks.sound g.V.Blocks.passes c.args.v.now c.look_at_each.new.v _ c.in_ok-look_at_each.ensures.looked) c.in_ok-look_at_each-2.ensures.looked).looks (entry_rule c.args.inodes.now.shape (held_of c.args.inodes.now.shape (g.V.Blocks.seen c.args.v.now).words) (holds_within c.args.inodes.now.shape (g.V.Blocks.seen c.args.v.now).words) c.in_ok-look_at_each.ensures.ok)

pub look_at_tree-requires-clause-apart : goal.look_at_tree-requires-clause-apart
look_at_tree-requires-clause-apart g c = words_on (g.V.Blocks.seen c.args.v.now) (g.V.Blocks.seen c.look_at_each-2.new.v) (λ (f : BlockWords). NamesApartRule (held_of c.args.inodes.now.shape f)) (on_ok g.V.Blocks.seen g.V.Blocks.health g.V.Blocks.sound g.V.Blocks.passes g.met.V.Blocks.passes_trans c.args.v.now c.look_at_each.new.v c.look_at_each-2.new.v _ (on_first g.V.Blocks.seen g.V.Blocks.health g.V.Blocks.sound g.V.Blocks.passes c.args.v.now c.look_at_each.new.v _ c.in_ok-look_at_each.ensures.looked) c.in_ok-look_at_each-2.ensures.looked).looks (words_back (g.V.Blocks.seen c.args.v.now) (g.V.Blocks.seen c.look_at_each.new.v) (λ (f : BlockWords). NamesApartRule (held_of c.args.inodes.now.shape f)) (on_first g.V.Blocks.seen g.V.Blocks.health g.V.Blocks.sound g.V.Blocks.passes c.args.v.now c.look_at_each.new.v _ c.in_ok-look_at_each.ensures.looked).looks (apart_rule c.args.inodes.now.shape (held_of c.args.inodes.now.shape (g.V.Blocks.seen c.look_at_each.new.v).words) (holds_within c.args.inodes.now.shape (g.V.Blocks.seen c.look_at_each.new.v).words) c.in_ok-look_at_each-2.ensures.ok))

pub look_at_each-requires-3-clause-can : goal.look_at_each-requires-3-clause-can
look_at_each-requires-3-clause-can g c = can_go_on g.V.Blocks.seen g.V.Blocks.health g.V.Blocks.sound g.V.Blocks.passes g.met.V.Blocks.passes_trans _ _ c.requires.can (on_ok g.V.Blocks.seen g.V.Blocks.health g.V.Blocks.sound g.V.Blocks.passes g.met.V.Blocks.passes_trans c.args.v.now c.look_at_each-2.new.v c.look_at_tree.new.v _ (on_ok g.V.Blocks.seen g.V.Blocks.health g.V.Blocks.sound g.V.Blocks.passes g.met.V.Blocks.passes_trans c.args.v.now c.look_at_each.new.v c.look_at_each-2.new.v _ (on_first g.V.Blocks.seen g.V.Blocks.health g.V.Blocks.sound g.V.Blocks.passes c.args.v.now c.look_at_each.new.v _ c.in_ok-look_at_each.ensures.looked) c.in_ok-look_at_each-2.ensures.looked) c.in_ok-look_at_tree.ensures.looked)

pub look_at_each-requires-3-clause-inodes : goal.look_at_each-requires-3-clause-inodes
look_at_each-requires-3-clause-inodes g c = inodes_on (g.V.Blocks.seen c.args.v.now) (g.V.Blocks.seen c.look_at_tree.new.v) c.args.inodes.now (on_ok g.V.Blocks.seen g.V.Blocks.health g.V.Blocks.sound g.V.Blocks.passes g.met.V.Blocks.passes_trans c.args.v.now c.look_at_each-2.new.v c.look_at_tree.new.v _ (on_ok g.V.Blocks.seen g.V.Blocks.health g.V.Blocks.sound g.V.Blocks.passes g.met.V.Blocks.passes_trans c.args.v.now c.look_at_each.new.v c.look_at_each-2.new.v _ (on_first g.V.Blocks.seen g.V.Blocks.health g.V.Blocks.sound g.V.Blocks.passes c.args.v.now c.look_at_each.new.v _ c.in_ok-look_at_each.ensures.looked) c.in_ok-look_at_each-2.ensures.looked) c.in_ok-look_at_tree.ensures.looked).looks c.requires.inodes

pub look_at_each-requires-3-clause-before : goal.look_at_each-requires-3-clause-before
look_at_each-requires-3-clause-before g c = words_on (g.V.Blocks.seen c.args.v.now) (g.V.Blocks.seen c.look_at_tree.new.v) (λ (f : BlockWords). IsMapped c.args.inodes.now.shape f) (on_ok g.V.Blocks.seen g.V.Blocks.health g.V.Blocks.sound g.V.Blocks.passes g.met.V.Blocks.passes_trans c.args.v.now c.look_at_each-2.new.v c.look_at_tree.new.v _ (on_ok g.V.Blocks.seen g.V.Blocks.health g.V.Blocks.sound g.V.Blocks.passes g.met.V.Blocks.passes_trans c.args.v.now c.look_at_each.new.v c.look_at_each-2.new.v _ (on_first g.V.Blocks.seen g.V.Blocks.health g.V.Blocks.sound g.V.Blocks.passes c.args.v.now c.look_at_each.new.v _ c.in_ok-look_at_each.ensures.looked) c.in_ok-look_at_each-2.ensures.looked) c.in_ok-look_at_tree.ensures.looked).looks c.requires.mapped

pub returns-in_err-look_at_each-clause-refused : goal.returns-in_err-look_at_each-clause-refused
returns-in_err-look_at_each-clause-refused g c =
    let p = err_from_is_err_and c.from_residual.result c.from_residual.ensures.1 in
    refused_err (FailsBy 8 c.args.inodes.now.shape (EntryAt (held_of c.args.inodes.now.shape (g.V.Blocks.seen c.args.v.now).words))) (FailsHeld c.args.inodes.now.shape (held_of c.args.inodes.now.shape (g.V.Blocks.seen c.args.v.now).words)) c.look_at_each.result c.from_residual.result _ p.0 c.in_err-look_at_each.was p.1 p.2 (λ rule b h. fails_entries c.args.inodes.now.shape (held_of c.args.inodes.now.shape (g.V.Blocks.seen c.args.v.now).words) rule b h) c.look_at_each.ensures.refused

pub returns-in_err-look_at_each-clause-looked : goal.returns-in_err-look_at_each-clause-looked
returns-in_err-look_at_each-clause-looked g c =
    let p = err_from_is_err_and c.from_residual.result c.from_residual.ensures.1 in
    looked_err g.V.Blocks.seen g.V.Blocks.health g.V.Blocks.sound g.V.Blocks.passes _ _ c.look_at_each.result c.from_residual.result _ p.0 c.in_err-look_at_each.was p.1 p.2 c.look_at_each.ensures.looked

pub returns-in_err-look_at_each-2-clause-refused : goal.returns-in_err-look_at_each-2-clause-refused
returns-in_err-look_at_each-2-clause-refused g c =
    let p = err_from_is_err_and c.from_residual-in_err-look_at_each-2.result c.from_residual-in_err-look_at_each-2.ensures.1 in
    refused_err (FailsBy 9 c.args.inodes.now.shape (ApartAt (held_of c.args.inodes.now.shape (g.V.Blocks.seen c.look_at_each.new.v).words))) (FailsHeld c.args.inodes.now.shape (held_of c.args.inodes.now.shape (g.V.Blocks.seen c.args.v.now).words)) c.look_at_each-2.result c.from_residual-in_err-look_at_each-2.result _ p.0 c.in_err-look_at_each-2.was p.1 p.2 (λ rule b h. fails_names c.args.inodes.now.shape (held_of c.args.inodes.now.shape (g.V.Blocks.seen c.args.v.now).words) (entry_rule c.args.inodes.now.shape (held_of c.args.inodes.now.shape (g.V.Blocks.seen c.args.v.now).words) (holds_within c.args.inodes.now.shape (g.V.Blocks.seen c.args.v.now).words) c.in_ok-look_at_each.ensures.ok) rule b (words_back (g.V.Blocks.seen c.args.v.now) (g.V.Blocks.seen c.look_at_each.new.v) (λ (f : BlockWords). FailsBy 9 c.args.inodes.now.shape (ApartAt (held_of c.args.inodes.now.shape f)) rule b) (on_first g.V.Blocks.seen g.V.Blocks.health g.V.Blocks.sound g.V.Blocks.passes c.args.v.now c.look_at_each.new.v _ c.in_ok-look_at_each.ensures.looked).looks h)) c.look_at_each-2.ensures.refused

pub returns-in_err-look_at_each-2-clause-looked : goal.returns-in_err-look_at_each-2-clause-looked
returns-in_err-look_at_each-2-clause-looked g c =
    let p = err_from_is_err_and c.from_residual-in_err-look_at_each-2.result c.from_residual-in_err-look_at_each-2.ensures.1 in
    on_err g.V.Blocks.seen g.V.Blocks.health g.V.Blocks.sound g.V.Blocks.passes g.met.V.Blocks.passes_trans _ _ _ c.look_at_each-2.result c.from_residual-in_err-look_at_each-2.result _ p.0 (on_first g.V.Blocks.seen g.V.Blocks.health g.V.Blocks.sound g.V.Blocks.passes c.args.v.now c.look_at_each.new.v _ c.in_ok-look_at_each.ensures.looked) c.in_err-look_at_each-2.was p.1 p.2 c.look_at_each-2.ensures.looked

pub returns-in_err-look_at_tree-clause-refused : goal.returns-in_err-look_at_tree-clause-refused
returns-in_err-look_at_tree-clause-refused g c =
    let p = err_from_is_err_and c.from_residual-in_err-look_at_tree.result c.from_residual-in_err-look_at_tree.ensures.1 in
    refused_err (FailsBy 10 c.args.inodes.now.shape (TreeAt (state_of c.args.inodes.now.shape (held_of c.args.inodes.now.shape (g.V.Blocks.seen c.look_at_each-2.new.v).words)))) (FailsHeld c.args.inodes.now.shape (held_of c.args.inodes.now.shape (g.V.Blocks.seen c.args.v.now).words)) c.look_at_tree.result c.from_residual-in_err-look_at_tree.result _ p.0 c.in_err-look_at_tree.was p.1 p.2 (λ rule b h. fails_tree c.args.inodes.now.shape (held_of c.args.inodes.now.shape (g.V.Blocks.seen c.args.v.now).words) (holds_within c.args.inodes.now.shape (g.V.Blocks.seen c.args.v.now).words) (entry_rule c.args.inodes.now.shape (held_of c.args.inodes.now.shape (g.V.Blocks.seen c.args.v.now).words) (holds_within c.args.inodes.now.shape (g.V.Blocks.seen c.args.v.now).words) c.in_ok-look_at_each.ensures.ok) (words_back (g.V.Blocks.seen c.args.v.now) (g.V.Blocks.seen c.look_at_each.new.v) (λ (f : BlockWords). NamesApartRule (held_of c.args.inodes.now.shape f)) (on_first g.V.Blocks.seen g.V.Blocks.health g.V.Blocks.sound g.V.Blocks.passes c.args.v.now c.look_at_each.new.v _ c.in_ok-look_at_each.ensures.looked).looks (apart_rule c.args.inodes.now.shape (held_of c.args.inodes.now.shape (g.V.Blocks.seen c.look_at_each.new.v).words) (holds_within c.args.inodes.now.shape (g.V.Blocks.seen c.look_at_each.new.v).words) c.in_ok-look_at_each-2.ensures.ok)) rule b (words_back (g.V.Blocks.seen c.args.v.now) (g.V.Blocks.seen c.look_at_each-2.new.v) (λ (f : BlockWords). FailsBy 10 c.args.inodes.now.shape (TreeAt (state_of c.args.inodes.now.shape (held_of c.args.inodes.now.shape f))) rule b) (on_ok g.V.Blocks.seen g.V.Blocks.health g.V.Blocks.sound g.V.Blocks.passes g.met.V.Blocks.passes_trans c.args.v.now c.look_at_each.new.v c.look_at_each-2.new.v _ (on_first g.V.Blocks.seen g.V.Blocks.health g.V.Blocks.sound g.V.Blocks.passes c.args.v.now c.look_at_each.new.v _ c.in_ok-look_at_each.ensures.looked) c.in_ok-look_at_each-2.ensures.looked).looks h)) c.look_at_tree.ensures.refused

pub returns-in_err-look_at_tree-clause-looked : goal.returns-in_err-look_at_tree-clause-looked
returns-in_err-look_at_tree-clause-looked g c =
    let p = err_from_is_err_and c.from_residual-in_err-look_at_tree.result c.from_residual-in_err-look_at_tree.ensures.1 in
    on_err g.V.Blocks.seen g.V.Blocks.health g.V.Blocks.sound g.V.Blocks.passes g.met.V.Blocks.passes_trans _ _ _ c.look_at_tree.result c.from_residual-in_err-look_at_tree.result _ p.0 (on_ok g.V.Blocks.seen g.V.Blocks.health g.V.Blocks.sound g.V.Blocks.passes g.met.V.Blocks.passes_trans c.args.v.now c.look_at_each.new.v c.look_at_each-2.new.v _ (on_first g.V.Blocks.seen g.V.Blocks.health g.V.Blocks.sound g.V.Blocks.passes c.args.v.now c.look_at_each.new.v _ c.in_ok-look_at_each.ensures.looked) c.in_ok-look_at_each-2.ensures.looked) c.in_err-look_at_tree.was p.1 p.2 c.look_at_tree.ensures.looked

pub returns-clause-refused : goal.returns-clause-refused
returns-clause-refused g c = refused_more (FailsBy 11 c.args.inodes.now.shape (RegionAt (held_of c.args.inodes.now.shape (g.V.Blocks.seen c.look_at_tree.new.v).words))) (FailsHeld c.args.inodes.now.shape (held_of c.args.inodes.now.shape (g.V.Blocks.seen c.args.v.now).words)) c.look_at_each-3.result (λ rule b h. fails_regions c.args.inodes.now.shape (held_of c.args.inodes.now.shape (g.V.Blocks.seen c.args.v.now).words) (holds_within c.args.inodes.now.shape (g.V.Blocks.seen c.args.v.now).words) (entry_rule c.args.inodes.now.shape (held_of c.args.inodes.now.shape (g.V.Blocks.seen c.args.v.now).words) (holds_within c.args.inodes.now.shape (g.V.Blocks.seen c.args.v.now).words) c.in_ok-look_at_each.ensures.ok) (words_back (g.V.Blocks.seen c.args.v.now) (g.V.Blocks.seen c.look_at_each.new.v) (λ (f : BlockWords). NamesApartRule (held_of c.args.inodes.now.shape f)) (on_first g.V.Blocks.seen g.V.Blocks.health g.V.Blocks.sound g.V.Blocks.passes c.args.v.now c.look_at_each.new.v _ c.in_ok-look_at_each.ensures.looked).looks (apart_rule c.args.inodes.now.shape (held_of c.args.inodes.now.shape (g.V.Blocks.seen c.look_at_each.new.v).words) (holds_within c.args.inodes.now.shape (g.V.Blocks.seen c.look_at_each.new.v).words) c.in_ok-look_at_each-2.ensures.ok)) (words_back (g.V.Blocks.seen c.args.v.now) (g.V.Blocks.seen c.look_at_each-2.new.v) (λ (f : BlockWords). TreeRule (state_of c.args.inodes.now.shape (held_of c.args.inodes.now.shape f))) (on_ok g.V.Blocks.seen g.V.Blocks.health g.V.Blocks.sound g.V.Blocks.passes g.met.V.Blocks.passes_trans c.args.v.now c.look_at_each.new.v c.look_at_each-2.new.v _ (on_first g.V.Blocks.seen g.V.Blocks.health g.V.Blocks.sound g.V.Blocks.passes c.args.v.now c.look_at_each.new.v _ c.in_ok-look_at_each.ensures.looked) c.in_ok-look_at_each-2.ensures.looked).looks c.in_ok-look_at_tree.ensures.ok) rule b (words_back (g.V.Blocks.seen c.args.v.now) (g.V.Blocks.seen c.look_at_tree.new.v) (λ (f : BlockWords). FailsBy 11 c.args.inodes.now.shape (RegionAt (held_of c.args.inodes.now.shape f)) rule b) (on_ok g.V.Blocks.seen g.V.Blocks.health g.V.Blocks.sound g.V.Blocks.passes g.met.V.Blocks.passes_trans c.args.v.now c.look_at_each-2.new.v c.look_at_tree.new.v _ (on_ok g.V.Blocks.seen g.V.Blocks.health g.V.Blocks.sound g.V.Blocks.passes g.met.V.Blocks.passes_trans c.args.v.now c.look_at_each.new.v c.look_at_each-2.new.v _ (on_first g.V.Blocks.seen g.V.Blocks.health g.V.Blocks.sound g.V.Blocks.passes c.args.v.now c.look_at_each.new.v _ c.in_ok-look_at_each.ensures.looked) c.in_ok-look_at_each-2.ensures.looked) c.in_ok-look_at_tree.ensures.looked).looks h)) c.look_at_each-3.ensures.refused

pub returns-clause-ok : goal.returns-clause-ok
returns-clause-ok g c = on_ok_then c.look_at_each-3.result (λ h. reads_all c.args.inodes.now.shape (g.V.Blocks.seen c.args.v.now).words c.requires.mapped (entry_rule c.args.inodes.now.shape (held_of c.args.inodes.now.shape (g.V.Blocks.seen c.args.v.now).words) (holds_within c.args.inodes.now.shape (g.V.Blocks.seen c.args.v.now).words) c.in_ok-look_at_each.ensures.ok) (words_back (g.V.Blocks.seen c.args.v.now) (g.V.Blocks.seen c.look_at_each.new.v) (λ (f : BlockWords). NamesApartRule (held_of c.args.inodes.now.shape f)) (on_first g.V.Blocks.seen g.V.Blocks.health g.V.Blocks.sound g.V.Blocks.passes c.args.v.now c.look_at_each.new.v _ c.in_ok-look_at_each.ensures.looked).looks (apart_rule c.args.inodes.now.shape (held_of c.args.inodes.now.shape (g.V.Blocks.seen c.look_at_each.new.v).words) (holds_within c.args.inodes.now.shape (g.V.Blocks.seen c.look_at_each.new.v).words) c.in_ok-look_at_each-2.ensures.ok)) (words_back (g.V.Blocks.seen c.args.v.now) (g.V.Blocks.seen c.look_at_each-2.new.v) (λ (f : BlockWords). TreeRule (state_of c.args.inodes.now.shape (held_of c.args.inodes.now.shape f))) (on_ok g.V.Blocks.seen g.V.Blocks.health g.V.Blocks.sound g.V.Blocks.passes g.met.V.Blocks.passes_trans c.args.v.now c.look_at_each.new.v c.look_at_each-2.new.v _ (on_first g.V.Blocks.seen g.V.Blocks.health g.V.Blocks.sound g.V.Blocks.passes c.args.v.now c.look_at_each.new.v _ c.in_ok-look_at_each.ensures.looked) c.in_ok-look_at_each-2.ensures.looked).looks c.in_ok-look_at_tree.ensures.ok) (words_back (g.V.Blocks.seen c.args.v.now) (g.V.Blocks.seen c.look_at_tree.new.v) (λ (f : BlockWords). RegionRule (held_of c.args.inodes.now.shape f)) (on_ok g.V.Blocks.seen g.V.Blocks.health g.V.Blocks.sound g.V.Blocks.passes g.met.V.Blocks.passes_trans c.args.v.now c.look_at_each-2.new.v c.look_at_tree.new.v _ (on_ok g.V.Blocks.seen g.V.Blocks.health g.V.Blocks.sound g.V.Blocks.passes g.met.V.Blocks.passes_trans c.args.v.now c.look_at_each.new.v c.look_at_each-2.new.v _ (on_first g.V.Blocks.seen g.V.Blocks.health g.V.Blocks.sound g.V.Blocks.passes c.args.v.now c.look_at_each.new.v _ c.in_ok-look_at_each.ensures.looked) c.in_ok-look_at_each-2.ensures.looked) c.in_ok-look_at_tree.ensures.looked).looks (region_rule c.args.inodes.now.shape (held_of c.args.inodes.now.shape (g.V.Blocks.seen c.look_at_tree.new.v).words) (holds_within c.args.inodes.now.shape (g.V.Blocks.seen c.look_at_tree.new.v).words) h))) c.look_at_each-3.ensures.ok

pub returns-clause-looked : goal.returns-clause-looked
returns-clause-looked g c = looked_then g.V.Blocks.seen g.V.Blocks.health g.V.Blocks.sound g.V.Blocks.passes g.met.V.Blocks.passes_trans c.args.v.now c.look_at_tree.new.v c.look_at_each-3.new.v (Ok tt) c.look_at_each-3.result tt (on_ok g.V.Blocks.seen g.V.Blocks.health g.V.Blocks.sound g.V.Blocks.passes g.met.V.Blocks.passes_trans c.args.v.now c.look_at_each-2.new.v c.look_at_tree.new.v _ (on_ok g.V.Blocks.seen g.V.Blocks.health g.V.Blocks.sound g.V.Blocks.passes g.met.V.Blocks.passes_trans c.args.v.now c.look_at_each.new.v c.look_at_each-2.new.v _ (on_first g.V.Blocks.seen g.V.Blocks.health g.V.Blocks.sound g.V.Blocks.passes c.args.v.now c.look_at_each.new.v _ c.in_ok-look_at_each.ensures.looked) c.in_ok-look_at_each-2.ensures.looked) c.in_ok-look_at_tree.ensures.looked) c.look_at_each-3.ensures.looked
