use Rattle.volume_check.proofs.Common.{List, Bool, ◌+◌, subst, sym, BlockWords, Err, err_from_is_err_and}
use Rattle.rio_model.specs.Held.{held_of}
use Rattle.rio_model.specs.VolumeFails.{TreeAt}
use Rattle.volume_check.specs.Looking.{Refuses}
use Rattle.volume_check.specs.Rules.{FailsBy}
use Rattle.volume_check.specs.Tree.{Counted, IsAllReached, state_of}
use Rattle.volume_check.specs.declared.failures.CheckFail.{CheckFail}
use Rattle.volume_check.specs.declared.name_counts.NameCount.{NameCount}
use Rattle.volume_check.proofs.Chains.{words_back, inodes_on, words_on}
use Rattle.volume_check.proofs.TreePlaces.{placed_tree, tree_all, tree_fails}
use Rattle.volume_check.proofs.Looking.{IsQuiet, can_go_on, looked_err, on_err, on_first, on_ok, on_quiet, refused_err}
use Rattle.rio_model.specs.VolumeRules.{EntryRule, IsMapped}
use Rattle.volume_check.proofs.tree.look_at_tree.Goals as goal

pub returns-in-Some-clause-refused : goal.returns-in-Some-clause-refused
returns-in-Some-clause-refused g c =
    let s = g.V.Blocks.seen c.args.v.now in
    let n = c.args.inodes.now in
    let held = held_of n.shape s.words in
    let counted = subst (λ (xs : List NameCount). Counted n.shape held (n.shape.inodes + 1) 0 xs) (sym c.deref.ensures.value) c.in_ok-counts.ensures.counts in
    let marked = subst (λ (xs : List Bool). IsAllReached n.shape held xs) (sym c.deref-2.ensures.value) (words_back s (g.V.Blocks.seen c.count_names.new.v) (λ (f : BlockWords). IsAllReached n.shape (held_of n.shape f) c.in_ok-reached.reached.items) c.in_ok-counts.ensures.looked.looks c.in_ok-reached.ensures.reached) in
    subst (λ (e : CheckFail). Refuses (FailsBy 10 n.shape (TreeAt (state_of n.shape held))) e) (sym c.broken_at.ensures)
    (tree_fails s n c.deref.result.now c.deref-2.result.now c.in-Some.i.0 c.requires.inodes c.requires.apart (record { counted = counted; marked = marked }) c.in-Some.ensures.0 c.in-Some.ensures.1 c.in-Some.ensures.2)

pub returns-clause-ok : goal.returns-clause-ok
returns-clause-ok g c =
    let s = g.V.Blocks.seen c.args.v.now in
    let n = c.args.inodes.now in
    let held = held_of n.shape s.words in
    let counted = subst (λ (xs : List NameCount). Counted n.shape held (n.shape.inodes + 1) 0 xs) (sym c.deref.ensures.value) c.in_ok-counts.ensures.counts in
    let marked = subst (λ (xs : List Bool). IsAllReached n.shape held xs) (sym c.deref-2.ensures.value) (words_back s (g.V.Blocks.seen c.count_names.new.v) (λ (f : BlockWords). IsAllReached n.shape (held_of n.shape f) c.in_ok-reached.reached.items) c.in_ok-counts.ensures.looked.looks c.in_ok-reached.ensures.reached) in
    tree_all s n c.requires.inodes c.requires.mapped c.requires.entries c.requires.apart (λ i ino. placed_tree s n c.deref.result.now c.deref-2.result.now c.requires.inodes c.requires.apart (record { counted = counted; marked = marked }) i ino (c.in_default.ensures i ino))

pub reach_all-requires-clause-can : goal.reach_all-requires-clause-can
reach_all-requires-clause-can g c = can_go_on g.V.Blocks.seen g.V.Blocks.health g.V.Blocks.sound g.V.Blocks.passes g.met.V.Blocks.passes_trans _ _ c.requires.can (on_first g.V.Blocks.seen g.V.Blocks.health g.V.Blocks.sound g.V.Blocks.passes _ _ _ c.in_ok-counts.ensures.looked)

pub reach_all-requires-clause-inodes : goal.reach_all-requires-clause-inodes
reach_all-requires-clause-inodes g c = inodes_on (g.V.Blocks.seen c.args.v.now) (g.V.Blocks.seen c.count_names.new.v) c.args.inodes.now c.in_ok-counts.ensures.looked.looks c.requires.inodes

pub reach_all-requires-clause-mapped : goal.reach_all-requires-clause-mapped
reach_all-requires-clause-mapped g c = words_on (g.V.Blocks.seen c.args.v.now) (g.V.Blocks.seen c.count_names.new.v) (λ (f : BlockWords). IsMapped c.args.inodes.now.shape f) c.in_ok-counts.ensures.looked.looks c.requires.mapped

pub reach_all-requires-clause-entries : goal.reach_all-requires-clause-entries
reach_all-requires-clause-entries g c = words_on (g.V.Blocks.seen c.args.v.now) (g.V.Blocks.seen c.count_names.new.v) (λ (f : BlockWords). EntryRule (held_of c.args.inodes.now.shape f)) c.in_ok-counts.ensures.looked.looks c.requires.entries

pub returns-in_err-counts-clause-refused : goal.returns-in_err-counts-clause-refused
returns-in_err-counts-clause-refused g c =
    let p = err_from_is_err_and c.from_residual.result c.from_residual.ensures.1 in
    refused_err (λ _ _. ⊥) _ c.count_names.result c.from_residual.result _ p.0 c.in_err-counts.was p.1 p.2 (λ rule b h. absurd h) c.count_names.ensures.unrefused

pub returns-in_err-counts-clause-looked : goal.returns-in_err-counts-clause-looked
returns-in_err-counts-clause-looked g c =
    let p = err_from_is_err_and c.from_residual.result c.from_residual.ensures.1 in
    looked_err g.V.Blocks.seen g.V.Blocks.health g.V.Blocks.sound g.V.Blocks.passes _ _ c.count_names.result c.from_residual.result _ p.0 c.in_err-counts.was p.1 p.2 c.count_names.ensures.looked

pub returns-in_err-reached-clause-refused : goal.returns-in_err-reached-clause-refused
returns-in_err-reached-clause-refused g c =
    let p = err_from_is_err_and c.from_residual-in_err-reached.result c.from_residual-in_err-reached.ensures.1 in
    refused_err (λ _ _. ⊥) _ c.reach_all.result c.from_residual-in_err-reached.result _ p.0 c.in_err-reached.was p.1 p.2 (λ rule b h. absurd h) c.reach_all.ensures.unrefused

pub returns-in_err-reached-clause-looked : goal.returns-in_err-reached-clause-looked
returns-in_err-reached-clause-looked g c =
    let p = err_from_is_err_and c.from_residual-in_err-reached.result c.from_residual-in_err-reached.ensures.1 in
    on_err g.V.Blocks.seen g.V.Blocks.health g.V.Blocks.sound g.V.Blocks.passes g.met.V.Blocks.passes_trans _ _ _ c.reach_all.result c.from_residual-in_err-reached.result _ p.0 (on_first g.V.Blocks.seen g.V.Blocks.health g.V.Blocks.sound g.V.Blocks.passes _ _ _ c.in_ok-counts.ensures.looked) c.in_err-reached.was p.1 p.2 c.reach_all.ensures.looked

pub returns-in-Some-clause-looked : goal.returns-in-Some-clause-looked
returns-in-Some-clause-looked g c = on_quiet g.V.Blocks.seen g.V.Blocks.health g.V.Blocks.sound g.V.Blocks.passes c.args.v.now c.reach_all.new.v _ (subst (λ (e : CheckFail). IsQuiet {T = Unit {0}} (Err e)) (sym c.broken_at.ensures) tt) (on_ok g.V.Blocks.seen g.V.Blocks.health g.V.Blocks.sound g.V.Blocks.passes g.met.V.Blocks.passes_trans c.args.v.now c.count_names.new.v c.reach_all.new.v _ (on_first g.V.Blocks.seen g.V.Blocks.health g.V.Blocks.sound g.V.Blocks.passes _ _ _ c.in_ok-counts.ensures.looked) c.in_ok-reached.ensures.looked)

pub returns-clause-looked : goal.returns-clause-looked
returns-clause-looked g c = on_quiet g.V.Blocks.seen g.V.Blocks.health g.V.Blocks.sound g.V.Blocks.passes _ _ _ tt (on_ok g.V.Blocks.seen g.V.Blocks.health g.V.Blocks.sound g.V.Blocks.passes g.met.V.Blocks.passes_trans c.args.v.now c.count_names.new.v c.reach_all.new.v _ (on_first g.V.Blocks.seen g.V.Blocks.health g.V.Blocks.sound g.V.Blocks.passes _ _ _ c.in_ok-counts.ensures.looked) c.in_ok-reached.ensures.looked)
