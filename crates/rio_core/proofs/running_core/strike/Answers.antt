use Rattle.rio_core.proofs.Common.{refl, sym, ap, subst, Seen}
use Rattle.std.specs.Prelude.{◌+◌, ◌<◌}
use Rattle.rio_base.specs.declared.wild.Wild.TheVariants.{Changed, Trapped}
use Rattle.rio_requests.proofs.WentRules.{quiet_refl}
use Rattle.rio_requests.specs.declared.reply.Reply.TheVariants.{Ok as Done, Err as RefusedBy}
use Rattle.file_tree.proofs.MemoSteps.{same_step}
use Rattle.cached_pages.specs.Caches.{cache_below, cache_health, cache_kept, cache_seen}
use Rattle.page_cache.specs.Settled.{cache_settled}
use Rattle.page_cache.specs.Wilds.{Strikes}
use Rattle.rio_core.proofs.WildStores.{fell, never_spared, protects, refused_done, reply_well, stopped_reply, trap_ends, trap_quiet, trap_stops, trapped_at, went_past, went_wild, wild_done, wild_quiet, wild_ran, wild_refused, wild_trapped}
use Rattle.rio_core.proofs.running_core.strike.Goals as goal

pub returns-in_default-clause-answered : goal.returns-in_default-clause-answered
returns-in_default-clause-answered g c =
    let shape = c.args.core.now.view.shape in
    let m = c.args.core.now.view.v.machine in
    let marks = c.args.core.now.table in
    let x = cache_seen (g.M.Machine.contents m) in
    let k = cache_kept (g.M.Machine.contents m) c.args.core.now.view.v.tables in
    let h = cache_health (g.M.Machine.contents m) (g.M.Machine.run m) in
    let b = cache_below (g.M.Machine.contents m) (g.M.Machine.run m) in
    λ s holds. wild_refused shape x k h b marks s c.args.at c.args.value c.in_default.ensures holds

pub returns-in_default-clause-went : goal.returns-in_default-clause-went
returns-in_default-clause-went g c =
    let m = c.args.core.now.view.v.machine in
    let h = cache_health (g.M.Machine.contents m) (g.M.Machine.run m) in
    let b = cache_below (g.M.Machine.contents m) (g.M.Machine.run m) in
    went_past h b c.args.at c.args.value

pub unreachable-requires : goal.unreachable-requires
unreachable-requires g c =
    let m = c.args.core.now.view.v.machine in
    let h = cache_health (g.M.Machine.contents m) (g.M.Machine.run m) in
    let b = cache_below (g.M.Machine.contents m) (g.M.Machine.run m) in
    let n = c.wild.new.self.machine in
    let e = cache_health (g.M.Machine.contents n) (g.M.Machine.run n) in
    let d = cache_below (g.M.Machine.contents n) (g.M.Machine.run n) in
    never_spared c.wild.result c.in-Some.place.0 h b e d c.in-Spared.is c.wild.ensures.strikes

pub returns-in-Trapped-clause-answered : goal.returns-in-Trapped-clause-answered
returns-in-Trapped-clause-answered g c =
    let shape = c.args.core.now.view.shape in
    let m = c.args.core.now.view.v.machine in
    let n = c.wild.new.self.machine in
    let marks = c.args.core.now.table in
    let x = cache_seen (g.M.Machine.contents m) in
    let k = cache_kept (g.M.Machine.contents m) c.args.core.now.view.v.tables in
    let h = cache_health (g.M.Machine.contents m) (g.M.Machine.run m) in
    let b = cache_below (g.M.Machine.contents m) (g.M.Machine.run m) in
    let y = cache_seen (g.M.Machine.contents n) in
    let j = cache_kept (g.M.Machine.contents n) c.wild.new.self.tables in
    let e = cache_health (g.M.Machine.contents n) (g.M.Machine.run n) in
    let d = cache_below (g.M.Machine.contents n) (g.M.Machine.run n) in
    λ s holds. wild_trapped shape x k h b marks y j s c.args.at c.args.value c.wild.ensures.seen c.wild.ensures.kept (cache_settled _ _ _ c.requires.sound) holds

pub returns-in-Trapped-clause-stopped_on : goal.returns-in-Trapped-clause-stopped_on
returns-in-Trapped-clause-stopped_on g c =
    let m = c.args.core.now.view.v.machine in
    let h = cache_health (g.M.Machine.contents m) (g.M.Machine.run m) in
    let b = cache_below (g.M.Machine.contents m) (g.M.Machine.run m) in
    let n = c.wild.new.self.machine in
    let e = cache_health (g.M.Machine.contents n) (g.M.Machine.run n) in
    let d = cache_below (g.M.Machine.contents n) (g.M.Machine.run n) in
    let strikes = subst (λ i. Strikes i c.wild.result h b e d) c.in-Some.ensures.0 c.wild.ensures.strikes in
    let traps = (strikes.traps (trapped_at c.wild.result c.args.at h b e d c.in-Trapped.is strikes)) in
    trap_stops h b e d c.args.at c.args.value c.requires.holds.1.running (protects c.args.at b.memory.protected (trapped_at c.wild.result c.args.at h b e d c.in-Trapped.is strikes)) traps.1 traps.2

pub returns-in-Trapped-clause-ends : goal.returns-in-Trapped-clause-ends
returns-in-Trapped-clause-ends g c =
    let m = c.args.core.now.view.v.machine in
    let h = cache_health (g.M.Machine.contents m) (g.M.Machine.run m) in
    let b = cache_below (g.M.Machine.contents m) (g.M.Machine.run m) in
    let n = c.wild.new.self.machine in
    let e = cache_health (g.M.Machine.contents n) (g.M.Machine.run n) in
    let d = cache_below (g.M.Machine.contents n) (g.M.Machine.run n) in
    let strikes = subst (λ i. Strikes i c.wild.result h b e d) c.in-Some.ensures.0 c.wild.ensures.strikes in
    let traps = (strikes.traps (trapped_at c.wild.result c.args.at h b e d c.in-Trapped.is strikes)) in
    trap_ends h e _ traps.1

pub returns-in-Changed-clause-answered : goal.returns-in-Changed-clause-answered
returns-in-Changed-clause-answered g c =
    let shape = c.args.core.now.view.shape in
    let m = c.args.core.now.view.v.machine in
    let n = c.wild.new.self.machine in
    let marks = c.args.core.now.table in
    let x = cache_seen (g.M.Machine.contents m) in
    let k = cache_kept (g.M.Machine.contents m) c.args.core.now.view.v.tables in
    let h = cache_health (g.M.Machine.contents m) (g.M.Machine.run m) in
    let b = cache_below (g.M.Machine.contents m) (g.M.Machine.run m) in
    let y = cache_seen (g.M.Machine.contents n) in
    let j = cache_kept (g.M.Machine.contents n) c.wild.new.self.tables in
    let e = cache_health (g.M.Machine.contents n) (g.M.Machine.run n) in
    let d = cache_below (g.M.Machine.contents n) (g.M.Machine.run n) in
    let strikes = subst (λ i. Strikes i c.wild.result h b e d) c.in-Some.ensures.0 c.wild.ensures.strikes in
    let behind = fell c.wild.result c.args.at h b e d c.in-Changed.is strikes in
    let falls = strikes.changes behind in
    λ s holds. wild_done shape x k h b marks y j e d s c.args.at c.args.value c.wild.ensures.seen c.wild.ensures.kept falls.1 falls.2 behind c.in-Some.ensures.1 holds

pub returns-in-Changed-clause-went : goal.returns-in-Changed-clause-went
returns-in-Changed-clause-went g c =
    let m = c.args.core.now.view.v.machine in
    let h = cache_health (g.M.Machine.contents m) (g.M.Machine.run m) in
    let b = cache_below (g.M.Machine.contents m) (g.M.Machine.run m) in
    let n = c.wild.new.self.machine in
    let e = cache_health (g.M.Machine.contents n) (g.M.Machine.run n) in
    let d = cache_below (g.M.Machine.contents n) (g.M.Machine.run n) in
    let strikes = subst (λ i. Strikes i c.wild.result h b e d) c.in-Some.ensures.0 c.wild.ensures.strikes in
    let falls = strikes.changes (fell c.wild.result c.args.at h b e d c.in-Changed.is strikes) in
    went_wild h b e d c.args.at c.args.value falls.1 falls.2

pub wild-requires-clause-place : goal.wild-requires-clause-place
wild-requires-clause-place g c =
    let m = c.args.core.now.view.v.machine in
    let b = cache_below (g.M.Machine.contents m) (g.M.Machine.run m) in
    subst (λ n. n < b.memory.protected + b.memory.scratch) (sym c.in-Some.ensures.0) c.in-Some.ensures.1

pub returns-in_default-clause-unstruck : goal.returns-in_default-clause-unstruck
returns-in_default-clause-unstruck g c = λ refused. refl

pub returns-in_default-clause-struck : goal.returns-in_default-clause-struck
returns-in_default-clause-struck g c = λ done. absurd (refused_done _ refl done)

pub returns-in_default-clause-quiet : goal.returns-in_default-clause-quiet
returns-in_default-clause-quiet g c = quiet_refl _

pub returns-in_default-clause-ends : goal.returns-in_default-clause-ends
returns-in_default-clause-ends g c = reply_well _ _ (RefusedBy 19) refl (λ f. f)

pub returns-in-Trapped-clause-unstruck : goal.returns-in-Trapped-clause-unstruck
returns-in-Trapped-clause-unstruck g c = λ refused. absurd (stopped_reply _ _ _ refl refused)

pub returns-in-Trapped-clause-struck : goal.returns-in-Trapped-clause-struck
returns-in-Trapped-clause-struck g c = λ done. absurd (stopped_reply _ _ _ refl done)

pub returns-in-Trapped-clause-trapped : goal.returns-in-Trapped-clause-trapped
returns-in-Trapped-clause-trapped g c =
    let m = c.args.core.now.view.v.machine in
    let n = c.wild.new.self.machine in
    (c.wild.ensures.contents, wild_ran (g.M.Machine.run m) (g.M.Machine.run n) c.wild.result Trapped c.in-Some.place.0 c.args.at c.args.value c.wild.ensures.run c.in-Trapped.is c.in-Some.ensures.0)

pub returns-in-Trapped-clause-quiet : goal.returns-in-Trapped-clause-quiet
returns-in-Trapped-clause-quiet g c =
    let m = c.args.core.now.view.v.machine in
    let n = c.wild.new.self.machine in
    let h = cache_health (g.M.Machine.contents m) (g.M.Machine.run m) in
    let b = cache_below (g.M.Machine.contents m) (g.M.Machine.run m) in
    let e = cache_health (g.M.Machine.contents n) (g.M.Machine.run n) in
    let d = cache_below (g.M.Machine.contents n) (g.M.Machine.run n) in
    let strikes = subst (λ i. Strikes i c.wild.result h b e d) c.in-Some.ensures.0 c.wild.ensures.strikes in
    trap_quiet b d c.args.at (strikes.traps (trapped_at c.wild.result c.args.at h b e d c.in-Trapped.is strikes)).2

pub returns-in-Changed-clause-unstruck : goal.returns-in-Changed-clause-unstruck
returns-in-Changed-clause-unstruck g c = λ refused. absurd (refused_done _ refused refl)

pub returns-in-Changed-clause-struck : goal.returns-in-Changed-clause-struck
returns-in-Changed-clause-struck g c =
    let m = c.args.core.now.view.v.machine in
    let n = c.wild.new.self.machine in
    λ done. (c.wild.ensures.contents, wild_ran (g.M.Machine.run m) (g.M.Machine.run n) c.wild.result Changed c.in-Some.place.0 c.args.at c.args.value c.wild.ensures.run c.in-Changed.is c.in-Some.ensures.0)

pub returns-in-Changed-clause-quiet : goal.returns-in-Changed-clause-quiet
returns-in-Changed-clause-quiet g c =
    let m = c.args.core.now.view.v.machine in
    let n = c.wild.new.self.machine in
    let h = cache_health (g.M.Machine.contents m) (g.M.Machine.run m) in
    let b = cache_below (g.M.Machine.contents m) (g.M.Machine.run m) in
    let e = cache_health (g.M.Machine.contents n) (g.M.Machine.run n) in
    let d = cache_below (g.M.Machine.contents n) (g.M.Machine.run n) in
    let strikes = subst (λ i. Strikes i c.wild.result h b e d) c.in-Some.ensures.0 c.wild.ensures.strikes in
    wild_quiet b d (strikes.changes (fell c.wild.result c.args.at h b e d c.in-Changed.is strikes)).2

pub returns-in-Changed-clause-ends : goal.returns-in-Changed-clause-ends
returns-in-Changed-clause-ends g c =
    let m = c.args.core.now.view.v.machine in
    let n = c.wild.new.self.machine in
    let h = cache_health (g.M.Machine.contents m) (g.M.Machine.run m) in
    let b = cache_below (g.M.Machine.contents m) (g.M.Machine.run m) in
    let e = cache_health (g.M.Machine.contents n) (g.M.Machine.run n) in
    let d = cache_below (g.M.Machine.contents n) (g.M.Machine.run n) in
    let strikes = subst (λ i. Strikes i c.wild.result h b e d) c.in-Some.ensures.0 c.wild.ensures.strikes in
    reply_well h e Done (strikes.changes (fell c.wild.result c.args.at h b e d c.in-Changed.is strikes)).1 (λ f. f)

pub invariant_of-core : goal.invariant_of-core
invariant_of-core g c = record { in_step = same_step c.args.core.now.view.shape _ _ c.args.core.now.memo (ap (λ (x : Seen). x.words) c.wild.ensures.seen) c.args.core.now.in_step }
