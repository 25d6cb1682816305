use Rattle.volume_check.proofs.Common.{◌∙◌, arith, refl, reserved, sym}
use Rattle.volume_check.proofs.Bitmaps.{keeps_marks, marks_keep, marks_told, tells_next, told_marks}
use Rattle.volume_check.proofs.Bools.{other_test, same_test}
use Rattle.volume_check.proofs.mark_rules.keeps_marks.Goals as goal

pub loop-b-init : goal.loop-b-init
loop-b-init c = record {
  from = (let is = c.reserved_blocks-b.ensures in omega (arith, is));
  told = λ b low high. absurd (let is = c.reserved_blocks-b.ensures in omega (arith, low, high, is));
}

pub loop-b-preserved : goal.loop-b-preserved
loop-b-preserved c =
    let inv = c.loop-b.invariant in
    let from = inv.from in
    record {
      from = omega (arith, from);
      told = tells_next c.args.bitmap.now c.args.owners.now (reserved c.args.shape.now) c.loop-b.b inv.told (sym c.is_marked.ensures ∙ same_test c.is_marked.result c.has_owner.result c.if-is_marked-has_owner.false ∙ c.has_owner.ensures);
    }

pub returns-then-is_marked-has_owner : goal.returns-then-is_marked-has_owner
returns-then-is_marked-has_owner c = λ f h numbers own. (
  λ e. cc,
  λ rule. absurd (other_test c.is_marked.result c.has_owner.result c.if-is_marked-has_owner.true
      (c.is_marked.ensures
      ∙ told_marks c.args.bitmap.now c.args.owners.now (reserved c.args.shape.now) c.args.shape.now.blocks (marks_keep f c.args.shape.now c.args.bitmap.now c.args.owners.now (reserved c.args.shape.now) c.requires.served h refl own rule) c.loop-b.b c.loop-b.invariant.from c.loop-b-test.true
      ∙ sym c.has_owner.ensures)),
)

pub returns : goal.returns
returns c = λ f h numbers own. (
  λ e. keeps_marks f c.args.shape.now c.args.bitmap.now c.args.owners.now (reserved c.args.shape.now) c.requires.served h refl numbers own (marks_told c.args.bitmap.now c.args.owners.now (reserved c.args.shape.now) c.args.shape.now.blocks (λ b low high. c.loop-b.invariant.told b low (let past = c.loop-b-test.false in omega (arith, high, past)))),
  λ rule. refl,
)
