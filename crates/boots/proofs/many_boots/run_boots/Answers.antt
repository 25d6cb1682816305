use Rattle.std.proofs.Common.{◌∙◌, ℕ, [], ◌∷◌, arith, length, refl, subst, sym}
use Rattle.phys_memory.specs.PhysMem.{words_of}
use Rattle.std.proofs.lemmas.Slice.{pushed}
use Rattle.boots.specs.declared.plan.BootPlan.{BootPlan}
use Rattle.boots.specs.Legal.{IsBootPlan}
use Rattle.boots.proofs.ManyBoots.{boots_all, boots_list, boots_more, boots_none}
use Rattle.boots.proofs.many_boots.run_boots.Goals as goal

pub loop-plan-init : goal.loop-plan-init
loop-plan-init c = record { lead = λ s st. (s, boots_none s c.args.plans.now _ c.new-runs.ensures.items, st); words = refl }

pub run_boot-requires-clause-plan : goal.run_boot-requires-clause-plan
run_boot-requires-clause-plan c =
    subst (λ (n : ℕ). IsBootPlan n c.plan-item.result) (sym c.loop-plan.invariant.words)
    (subst (λ (p : BootPlan). IsBootPlan (length (words_of c.args.parts.memory)) p) (sym c.plan-item.is) (c.requires.plans c.loop-plan.plan-index c.plan-item.result c.loop-plan-test.true))

pub run_boot-requires-clause-stand : goal.run_boot-requires-clause-stand
run_boot-requires-clause-stand c =
    let s = c.requires.stand in
    let led = c.loop-plan.invariant.lead s.0 s.1 in
    (led.0, led.2)

pub loop-plan-preserved : goal.loop-plan-preserved
loop-plan-preserved c =
    let before = c.loop-plan.invariant in
    let boot = c.in_ok-run.ensures in
    record {
      lead = λ s st. (
          let led = before.lead s st in
          let next = boot.leads led.0 led.2 in
          (next.0, boots_list s next.0 _ _ _ (pushed {was = c.loop-plan.runs.items} (c.in_ok-run.run' ∷ []) refl c.in_ok-push.was c.push.ensures.items) (boots_more s led.0 next.0 _ _ _ _ _ c.plan-item.is c.loop-plan-test.true led.1 next.1), next.2)
          );
      words = boot.words ∙ before.words;
    }

pub returns : goal.returns
returns c = record {
  lead = λ s st. (
      let led = c.loop-plan.invariant.lead s st in
      let all = c.loop-plan-test.false in
      let within = c.loop-plan.auto.plan-index-end in
      (led.0, boots_all s led.0 c.args.plans.now c.loop-plan.plan-index _ (omega (arith, all, within)) led.1, led.2)
      );
}
