use Rattle.volume_check.proofs.Common.{ℕ, ◌+◌, subst, sym, err_from_is_err_and, inode_block, BlockWords, Err}
use Rattle.volume_check.specs.Looking.{Refuses}
use Rattle.volume_check.specs.Rules.{FailsBy}
use Rattle.volume_check.specs.NodeRules.{NodeKeeps, Supposes, node_number}
use Rattle.volume_check.specs.declared.failures.CheckFail.{CheckFail}
use Rattle.volume_check.proofs.Bools.{never}
use Rattle.volume_check.proofs.Chains.{inodes_on, words_back, words_on}
use Rattle.volume_check.proofs.LookOn.{fails_next, keep_all, keep_more, keep_none, next_ino}
use Rattle.volume_check.proofs.Looking.{IsQuiet, can_go_on, on_err, on_none, on_ok, on_quiet, refused_err}
use Rattle.volume_check.proofs.node_rules.look_at_each.Goals as goal

pub loop-k-init : goal.loop-k-init
loop-k-init g c = record {
  looked = on_none g.V.Blocks.seen g.V.Blocks.health g.V.Blocks.sound g.V.Blocks.passes c.args.v.now (g.met.V.Blocks.passes_refl c.args.v.now) c.requires.can.keeps;
  keeps = keep_none c.args.inodes.now.shape (NodeKeeps c.args.rule c.args.inodes.now.shape (g.V.Blocks.seen c.args.v.now).words);
}

pub keeps_rule-requires-clause-can : goal.keeps_rule-requires-clause-can
keeps_rule-requires-clause-can g c = can_go_on g.V.Blocks.seen g.V.Blocks.health g.V.Blocks.sound g.V.Blocks.passes g.met.V.Blocks.passes_trans _ _ c.requires.can c.loop-k.invariant.looked

pub keeps_rule-requires-clause-inodes : goal.keeps_rule-requires-clause-inodes
keeps_rule-requires-clause-inodes g c = inodes_on (g.V.Blocks.seen c.args.v.now) (g.V.Blocks.seen c.loop-k.v) c.args.inodes.now c.loop-k.invariant.looked.looks c.requires.inodes

pub keeps_rule-requires-clause-before : goal.keeps_rule-requires-clause-before
keeps_rule-requires-clause-before g c = words_on (g.V.Blocks.seen c.args.v.now) (g.V.Blocks.seen c.loop-k.v) (λ (f : BlockWords). Supposes c.args.rule c.args.inodes.now.shape f) c.loop-k.invariant.looked.looks c.requires.before

pub keeps_rule-requires-clause-ino : goal.keeps_rule-requires-clause-ino
keeps_rule-requires-clause-ino g c = next_ino c.args.inodes.now.shape c.loop-k.k c.loop-k-test.true

pub loop-k-preserved : goal.loop-k-preserved
loop-k-preserved g c =
    let shape = c.args.inodes.now.shape in
    let inv = c.loop-k.invariant in
    record {
      looked = on_ok g.V.Blocks.seen g.V.Blocks.health g.V.Blocks.sound g.V.Blocks.passes g.met.V.Blocks.passes_trans _ _ _ _ inv.looked c.in_ok-keeps.ensures.looked;
      keeps = keep_more shape (NodeKeeps c.args.rule shape (g.V.Blocks.seen c.args.v.now).words) c.loop-k.k inv.keeps (words_back (g.V.Blocks.seen c.args.v.now) (g.V.Blocks.seen c.loop-k.v) (λ (f : BlockWords). NodeKeeps c.args.rule shape f (c.loop-k.k + 1)) inv.looked.looks (c.in_ok-keeps.ensures.keeps.0 c.if-not-keeps.false));
    }

pub returns-then-not-keeps-clause-refused : goal.returns-then-not-keeps-clause-refused
returns-then-not-keeps-clause-refused g c =
    let shape = c.args.inodes.now.shape in
    let number = node_number c.args.rule in
    let keeps = NodeKeeps c.args.rule shape (g.V.Blocks.seen c.args.v.now).words in
    subst (λ (e : CheckFail). Refuses (FailsBy number shape keeps) e) (sym c.broken_at.ensures)
    (subst (λ (n : ℕ). FailsBy number shape keeps n (inode_block (c.loop-k.k + 1))) (sym c.number.ensures)
    (fails_next number shape keeps c.loop-k.k c.loop-k-test.true c.loop-k.invariant.keeps (λ h. never (c.in_ok-keeps.ensures.keeps.1 (words_on (g.V.Blocks.seen c.args.v.now) (g.V.Blocks.seen c.loop-k.v) (λ (f : BlockWords). NodeKeeps c.args.rule shape f (c.loop-k.k + 1)) c.loop-k.invariant.looked.looks h)) c.if-not-keeps.true)))

pub returns-then-not-keeps-clause-looked : goal.returns-then-not-keeps-clause-looked
returns-then-not-keeps-clause-looked g c =
    on_quiet g.V.Blocks.seen g.V.Blocks.health g.V.Blocks.sound g.V.Blocks.passes c.args.v.now c.keeps_rule.new.v _ (subst (λ (e : CheckFail). IsQuiet {T = Unit {0}} (Err e)) (sym c.broken_at.ensures) tt) (on_ok g.V.Blocks.seen g.V.Blocks.health g.V.Blocks.sound g.V.Blocks.passes g.met.V.Blocks.passes_trans c.args.v.now c.loop-k.v c.keeps_rule.new.v _ c.loop-k.invariant.looked c.in_ok-keeps.ensures.looked)

pub returns-in_err-keeps-clause-refused : goal.returns-in_err-keeps-clause-refused
returns-in_err-keeps-clause-refused g c =
    let p = err_from_is_err_and c.from_residual.result c.from_residual.ensures.1 in
    refused_err (λ _ _. ⊥) _ c.keeps_rule.result c.from_residual.result _ p.0 c.in_err-keeps.was p.1 p.2 (λ rule b h. absurd h) c.keeps_rule.ensures.unrefused

pub returns-in_err-keeps-clause-looked : goal.returns-in_err-keeps-clause-looked
returns-in_err-keeps-clause-looked g c =
    let p = err_from_is_err_and c.from_residual.result c.from_residual.ensures.1 in
    on_err g.V.Blocks.seen g.V.Blocks.health g.V.Blocks.sound g.V.Blocks.passes g.met.V.Blocks.passes_trans _ _ _ c.keeps_rule.result c.from_residual.result _ p.0 c.loop-k.invariant.looked c.in_err-keeps.was p.1 p.2 c.keeps_rule.ensures.looked

pub returns-clause-ok : goal.returns-clause-ok
returns-clause-ok g c = keep_all c.args.inodes.now.shape (NodeKeeps c.args.rule c.args.inodes.now.shape (g.V.Blocks.seen c.args.v.now).words) c.loop-k.k c.loop-k-test.false c.loop-k.invariant.keeps

pub returns-clause-looked : goal.returns-clause-looked
returns-clause-looked g c = on_quiet g.V.Blocks.seen g.V.Blocks.health g.V.Blocks.sound g.V.Blocks.passes _ _ _ tt c.loop-k.invariant.looked
