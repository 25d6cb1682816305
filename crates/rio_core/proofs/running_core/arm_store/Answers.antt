use Rattle.rio_core.proofs.Common.{◌∙◌, Ok, Some, refl, sym, ap, subst, Seen}
use Rattle.std.specs.Prelude.{◌+◌, ◌<◌}
use Rattle.rio_requests.proofs.WentRules.{quiet_refl}
use Rattle.file_tree.proofs.MemoSteps.{same_step}
use Rattle.cached_pages.specs.Caches.{cache_below, cache_health, cache_kept, cache_seen}
use Rattle.page_cache.specs.Wilds.{Arms}
use Rattle.rio_core.proofs.WildStores.{arm_done, arm_refused, arms_quiet, refused_done, went_armed, went_unarmed}
use Rattle.rio_core.proofs.running_core.arm_store.Goals as goal

pub returns-in_default-clause-answered : goal.returns-in_default-clause-answered
returns-in_default-clause-answered g c =
    let shape = c.args.core.now.view.shape in
    let m = c.args.core.now.view.v.machine in
    let marks = c.args.core.now.table in
    let x = cache_seen (g.M.Machine.contents m) in
    let k = cache_kept (g.M.Machine.contents m) c.args.core.now.view.v.tables in
    let h = cache_health (g.M.Machine.contents m) (g.M.Machine.run m) in
    let b = cache_below (g.M.Machine.contents m) (g.M.Machine.run m) in
    λ s holds. arm_refused shape x k h b marks s c.args.step c.args.at c.args.value c.in_default.ensures holds

pub returns-in_default-clause-went : goal.returns-in_default-clause-went
returns-in_default-clause-went g c =
    let m = c.args.core.now.view.v.machine in
    let h = cache_health (g.M.Machine.contents m) (g.M.Machine.run m) in
    let b = cache_below (g.M.Machine.contents m) (g.M.Machine.run m) in
    went_unarmed h b c.args.step c.args.at c.args.value

pub returns-clause-answered : goal.returns-clause-answered
returns-clause-answered g c =
    let shape = c.args.core.now.view.shape in
    let m = c.args.core.now.view.v.machine in
    let n = c.arm.new.self.machine in
    let marks = c.args.core.now.table in
    let x = cache_seen (g.M.Machine.contents m) in
    let k = cache_kept (g.M.Machine.contents m) c.args.core.now.view.v.tables in
    let h = cache_health (g.M.Machine.contents m) (g.M.Machine.run m) in
    let b = cache_below (g.M.Machine.contents m) (g.M.Machine.run m) in
    let y = cache_seen (g.M.Machine.contents n) in
    let j = cache_kept (g.M.Machine.contents n) c.arm.new.self.tables in
    let e = cache_health (g.M.Machine.contents n) (g.M.Machine.run n) in
    let d = cache_below (g.M.Machine.contents n) (g.M.Machine.run n) in
    let arms = subst (λ i. Arms i h b e d) c.in-Some.ensures.0 c.arm.ensures.arms in
    λ s holds. arm_done shape x k h b marks y j e d s c.args.step c.args.at c.args.value c.arm.ensures.seen c.arm.ensures.kept arms c.in-Some.ensures.1 holds

pub returns-clause-went : goal.returns-clause-went
returns-clause-went g c =
    let m = c.args.core.now.view.v.machine in
    let h = cache_health (g.M.Machine.contents m) (g.M.Machine.run m) in
    let b = cache_below (g.M.Machine.contents m) (g.M.Machine.run m) in
    let n = c.arm.new.self.machine in
    let e = cache_health (g.M.Machine.contents n) (g.M.Machine.run n) in
    let d = cache_below (g.M.Machine.contents n) (g.M.Machine.run n) in
    let arms = subst (λ i. Arms i h b e d) c.in-Some.ensures.0 c.arm.ensures.arms in
    went_armed h b e d c.args.step c.args.at c.args.value arms

pub arm-requires-clause-place : goal.arm-requires-clause-place
arm-requires-clause-place g c =
    let m = c.args.core.now.view.v.machine in
    let b = cache_below (g.M.Machine.contents m) (g.M.Machine.run m) in
    subst (λ n. n < b.memory.protected + b.memory.scratch) (sym c.in-Some.ensures.0) c.in-Some.ensures.1

pub returns-in_default-clause-unarmed : goal.returns-in_default-clause-unarmed
returns-in_default-clause-unarmed g c = λ refused. refl

pub returns-in_default-clause-armed : goal.returns-in_default-clause-armed
returns-in_default-clause-armed g c = λ done. absurd (refused_done _ refl (ap Ok done))

pub returns-in_default-clause-quiet : goal.returns-in_default-clause-quiet
returns-in_default-clause-quiet g c = quiet_refl _

pub returns-clause-unarmed : goal.returns-clause-unarmed
returns-clause-unarmed g c = λ refused. absurd (refused_done _ (ap Ok refused) refl)

pub returns-clause-armed : goal.returns-clause-armed
returns-clause-armed g c =
    let m = c.args.core.now.view.v.machine in
    λ done. (c.arm.ensures.contents, c.arm.ensures.run ∙ ap (λ i. record (g.M.Machine.run m) { armed = Some i; armed_left = c.args.step; armed_value = c.args.value }) c.in-Some.ensures.0)

pub returns-clause-quiet : goal.returns-clause-quiet
returns-clause-quiet g c =
    let m = c.args.core.now.view.v.machine in
    let n = c.arm.new.self.machine in
    let h = cache_health (g.M.Machine.contents m) (g.M.Machine.run m) in
    let b = cache_below (g.M.Machine.contents m) (g.M.Machine.run m) in
    let e = cache_health (g.M.Machine.contents n) (g.M.Machine.run n) in
    let d = cache_below (g.M.Machine.contents n) (g.M.Machine.run n) in
    let arms = subst (λ i. Arms i h b e d) c.in-Some.ensures.0 c.arm.ensures.arms in
    arms_quiet b d c.args.at arms.below

pub returns-clause-health : goal.returns-clause-health
returns-clause-health g c =
    let m = c.args.core.now.view.v.machine in
    let n = c.arm.new.self.machine in
    let h = cache_health (g.M.Machine.contents m) (g.M.Machine.run m) in
    let b = cache_below (g.M.Machine.contents m) (g.M.Machine.run m) in
    let e = cache_health (g.M.Machine.contents n) (g.M.Machine.run n) in
    let d = cache_below (g.M.Machine.contents n) (g.M.Machine.run n) in
    let arms = subst (λ i. Arms i h b e d) c.in-Some.ensures.0 c.arm.ensures.arms in
    arms.health

pub invariant_of-core : goal.invariant_of-core
invariant_of-core g c = record { in_step = same_step c.args.core.now.view.shape _ _ c.args.core.now.memo (ap (λ (x : Seen). x.words) c.arm.ensures.seen) c.args.core.now.in_step }
