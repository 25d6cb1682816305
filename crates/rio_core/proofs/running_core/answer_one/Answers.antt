use Rattle.rio_core.proofs.Common.{◌≡◌, [], ◌∷◌, ℕ, Ok, Some, refl, sym, subst, IfOk, crashed, Stands}
use Rattle.std.specs.Prelude.{OnErr}
use Rattle.std.proofs.Common.{le_refl}
use Rattle.rio_base.specs.Machine.{after_wild}
use Rattle.rio_base.specs.Rules.{true_false}
use Rattle.rio_base.specs.declared.wild.Wild.TheVariants.{Changed, Trapped}
use Rattle.rio_base.proofs.Rules.{ends_by_well}
use Rattle.rio_requests.specs.declared.reply.Reply.TheVariants.{Err as Refused, Ok as Done}
use Rattle.rio_requests.proofs.WentRules.{quiet_refl}
use Rattle.cached_pages.specs.Caches.{cache_below, cache_health, cache_kept, cache_seen}
use Rattle.rio_core.specs.Serving.{Answering, Holds, TellsFault}
use Rattle.rio_core.proofs.Served.{synced, txns_told}
use Rattle.rio_core.proofs.WentBy.{file_forms, file_kept, region_forms, stopped_on, txns_no_fault, went_on, went_sync, went_txns}
use Rattle.rio_requests.specs.Went.{MakesSteps, NoFlush, StoppedOn, Went}
use Rattle.write_back.specs.Flushing.{Flushed}
use Rattle.rio_core.proofs.RequestForms.{arm_as, files_on, flush_as, of_arm, of_files, of_flush, of_regions, of_sync, of_txns, of_wild, other_call, regions_at, regions_path, same_reply, still_ends, wild_as}
use Rattle.rio_core.proofs.running_core.answer_one.Goals as goal

pub returns-in-Sync-clause-answered : goal.returns-in-Sync-clause-answered
returns-in-Sync-clause-answered g c =
    let shape = c.args.core.now.view.shape in
    let m = c.args.core.now.view.v.machine in
    let marks = c.args.core.now.table in
    let x = cache_seen (g.M.Machine.contents m) in
    let k = cache_kept (g.M.Machine.contents m) c.args.core.now.view.v.tables in
    let h = cache_health (g.M.Machine.contents m) (g.M.Machine.run m) in
    let b = cache_below (g.M.Machine.contents m) (g.M.Machine.run m) in
    λ s holds. subst (λ r. Answering (Holds shape x k h b marks) (λ u. Stands shape x k (crashed u)) s r (Ok Done)) (sym c.in-Sync.is) (synced shape x k h b marks s holds)

pub returns-in-Txns-clause-answered : goal.returns-in-Txns-clause-answered
returns-in-Txns-clause-answered g c =
    let shape = c.args.core.now.view.shape in
    let m = c.args.core.now.view.v.machine in
    let marks = c.args.core.now.table in
    let x = cache_seen (g.M.Machine.contents m) in
    let k = cache_kept (g.M.Machine.contents m) c.args.core.now.view.v.tables in
    let h = cache_health (g.M.Machine.contents m) (g.M.Machine.run m) in
    let b = cache_below (g.M.Machine.contents m) (g.M.Machine.run m) in
    λ s holds. subst (λ r. Answering (Holds shape x k h b marks) (λ u. Stands shape x k (crashed u)) s r (Ok c.txns_reply.result)) (sym c.in-Txns.is) (txns_told shape x k h b marks s c.open_list.result c.txns_reply.result holds c.open_list.ensures c.txns_reply.ensures)

pub returns-in-Flush-clause-answered : goal.returns-in-Flush-clause-answered
returns-in-Flush-clause-answered g c =
    let n = c.flush_core.new.core in
    let y = cache_seen (g.M.Machine.contents n.view.v.machine) in
    let j = cache_kept (g.M.Machine.contents n.view.v.machine) n.view.v.tables in
    let e = cache_health (g.M.Machine.contents n.view.v.machine) (g.M.Machine.run n.view.v.machine) in
    let d = cache_below (g.M.Machine.contents n.view.v.machine) (g.M.Machine.run n.view.v.machine) in
    λ s holds. subst (λ r. Answering (Holds n.view.shape y j e d n.table) (λ u. Stands n.view.shape y j (crashed u)) s r c.flush_core.result) (sym c.in-Flush.is) (c.flush_core.ensures.answered s holds)

pub returns-in-Sync-clause-went : goal.returns-in-Sync-clause-went
returns-in-Sync-clause-went g c =
    let m = c.args.core.now.view.v.machine in
    let h = cache_health (g.M.Machine.contents m) (g.M.Machine.run m) in
    let b = cache_below (g.M.Machine.contents m) (g.M.Machine.run m) in
    went_sync c.args.request.now h b c.in-Sync.is

pub returns-in-Txns-clause-went : goal.returns-in-Txns-clause-went
returns-in-Txns-clause-went g c =
    let m = c.args.core.now.view.v.machine in
    let h = cache_health (g.M.Machine.contents m) (g.M.Machine.run m) in
    let b = cache_below (g.M.Machine.contents m) (g.M.Machine.run m) in
    went_txns c.args.request.now h b c.open_list.result c.txns_reply.result c.in-Txns.is c.txns_reply.ensures

pub returns-in-Begin-clause-went : goal.returns-in-Begin-clause-went
returns-in-Begin-clause-went g c =
    let m = c.args.core.now.view.v.machine in
    let h = cache_health (g.M.Machine.contents m) (g.M.Machine.run m) in
    let b = cache_below (g.M.Machine.contents m) (g.M.Machine.run m) in
    let n = c.serve_region.new.core.view.v.machine in
    let e = cache_health (g.M.Machine.contents n) (g.M.Machine.run n) in
    let d = cache_below (g.M.Machine.contents n) (g.M.Machine.run n) in
    let call = c.serve_region.ensures in
    went_on c.args.request.now c.serve_region.result h b e d (region_forms c.in-Begin.path c.args.request.now c.in-Begin.is) call.goes.runs (λ none. call.goes.quiet) call.ends

pub returns-in-Begin-clause-stopped_on : goal.returns-in-Begin-clause-stopped_on
returns-in-Begin-clause-stopped_on g c =
    let m = c.args.core.now.view.v.machine in
    let h = cache_health (g.M.Machine.contents m) (g.M.Machine.run m) in
    let b = cache_below (g.M.Machine.contents m) (g.M.Machine.run m) in
    let n = c.serve_region.new.core.view.v.machine in
    let e = cache_health (g.M.Machine.contents n) (g.M.Machine.run n) in
    let d = cache_below (g.M.Machine.contents n) (g.M.Machine.run n) in
    let call = c.serve_region.ensures in
    stopped_on c.args.request.now c.serve_region.result h b e d (region_forms c.in-Begin.path c.args.request.now c.in-Begin.is) c.requires.holds.1.running call.goes.runs (λ none. call.goes.quiet) call.ends

pub returns-in-Mkdir-clause-went : goal.returns-in-Mkdir-clause-went
returns-in-Mkdir-clause-went g c =
    let m = c.args.core.now.view.v.machine in
    let h = cache_health (g.M.Machine.contents m) (g.M.Machine.run m) in
    let b = cache_below (g.M.Machine.contents m) (g.M.Machine.run m) in
    let n = c.serve_files.new.core.view.v.machine in
    let e = cache_health (g.M.Machine.contents n) (g.M.Machine.run n) in
    let d = cache_below (g.M.Machine.contents n) (g.M.Machine.run n) in
    let call = c.serve_files.ensures in
    went_on c.args.request.now c.serve_files.result h b e d (file_forms c.args.request.now c.in-Mkdir.is) call.goes.runs (λ none. call.goes.quiet) call.ends

pub returns-in-Mkdir-clause-stopped_on : goal.returns-in-Mkdir-clause-stopped_on
returns-in-Mkdir-clause-stopped_on g c =
    let m = c.args.core.now.view.v.machine in
    let h = cache_health (g.M.Machine.contents m) (g.M.Machine.run m) in
    let b = cache_below (g.M.Machine.contents m) (g.M.Machine.run m) in
    let n = c.serve_files.new.core.view.v.machine in
    let e = cache_health (g.M.Machine.contents n) (g.M.Machine.run n) in
    let d = cache_below (g.M.Machine.contents n) (g.M.Machine.run n) in
    let call = c.serve_files.ensures in
    stopped_on c.args.request.now c.serve_files.result h b e d (file_forms c.args.request.now c.in-Mkdir.is) c.requires.holds.1.running call.goes.runs (λ none. call.goes.quiet) call.ends

pub returns-in-Flush-clause-went : goal.returns-in-Flush-clause-went
returns-in-Flush-clause-went g c =
    let m = c.args.core.now.view.v.machine in
    let h = cache_health (g.M.Machine.contents m) (g.M.Machine.run m) in
    let b = cache_below (g.M.Machine.contents m) (g.M.Machine.run m) in
    let n = c.flush_core.new.core.view.v.machine in
    let e = cache_health (g.M.Machine.contents n) (g.M.Machine.run n) in
    let d = cache_below (g.M.Machine.contents n) (g.M.Machine.run n) in
    let call = c.flush_core.ensures in
    went_on c.args.request.now c.flush_core.result h b e d (subst MakesSteps (sym c.in-Flush.is) tt) call.runs (λ none. absurd (subst NoFlush c.in-Flush.is none)) call.ends

pub returns-in-Flush-clause-stopped_on : goal.returns-in-Flush-clause-stopped_on
returns-in-Flush-clause-stopped_on g c =
    let m = c.args.core.now.view.v.machine in
    let h = cache_health (g.M.Machine.contents m) (g.M.Machine.run m) in
    let b = cache_below (g.M.Machine.contents m) (g.M.Machine.run m) in
    let n = c.flush_core.new.core.view.v.machine in
    let e = cache_health (g.M.Machine.contents n) (g.M.Machine.run n) in
    let d = cache_below (g.M.Machine.contents n) (g.M.Machine.run n) in
    let call = c.flush_core.ensures in
    stopped_on c.args.request.now c.flush_core.result h b e d (subst MakesSteps (sym c.in-Flush.is) tt) c.requires.holds.1.running call.runs (λ none. absurd (subst NoFlush c.in-Flush.is none)) call.ends

pub returns-in-Wild-clause-answered : goal.returns-in-Wild-clause-answered
returns-in-Wild-clause-answered g c =
    let n = c.strike.new.core in
    let y = cache_seen (g.M.Machine.contents n.view.v.machine) in
    let j = cache_kept (g.M.Machine.contents n.view.v.machine) n.view.v.tables in
    let e = cache_health (g.M.Machine.contents n.view.v.machine) (g.M.Machine.run n.view.v.machine) in
    let d = cache_below (g.M.Machine.contents n.view.v.machine) (g.M.Machine.run n.view.v.machine) in
    λ s holds. subst (λ r. Answering (Holds n.view.shape y j e d n.table) (λ u. Stands n.view.shape y j (crashed u)) s r (c.strike.result)) (sym c.in-Wild.is) (c.strike.ensures.answered s holds)

pub returns-in-Arm-clause-answered : goal.returns-in-Arm-clause-answered
returns-in-Arm-clause-answered g c =
    let n = c.arm_store.new.core in
    let y = cache_seen (g.M.Machine.contents n.view.v.machine) in
    let j = cache_kept (g.M.Machine.contents n.view.v.machine) n.view.v.tables in
    let e = cache_health (g.M.Machine.contents n.view.v.machine) (g.M.Machine.run n.view.v.machine) in
    let d = cache_below (g.M.Machine.contents n.view.v.machine) (g.M.Machine.run n.view.v.machine) in
    λ s holds. subst (λ r. Answering (Holds n.view.shape y j e d n.table) (λ u. Stands n.view.shape y j (crashed u)) s r (Ok c.arm_store.result)) (sym c.in-Arm.is) (c.arm_store.ensures.answered s holds)

pub returns-in-Txns-clause-ends : goal.returns-in-Txns-clause-ends
returns-in-Txns-clause-ends g c = ends_by_well _ _ (TellsFault (Ok c.txns_reply.result)) _ (le_refl _) refl (txns_no_fault c.open_list.result c.txns_reply.result c.txns_reply.ensures) (λ stop. true_false (sym stop))

pub returns-in-Mkdir-clause-flushed : goal.returns-in-Mkdir-clause-flushed
returns-in-Mkdir-clause-flushed g c = λ count is done. absurd (subst NoFlush is (file_kept c.args.request.now c.in-Mkdir.is))

pub serve_region-requires-clause-path : goal.serve_region-requires-clause-path
serve_region-requires-clause-path g c = regions_path c.in-Begin.path c.as_slice.result.now c.args.request.now c.as_slice.ensures c.in-Begin.is c.requires.request

pub serve_region-requires-clause-at : goal.serve_region-requires-clause-at
serve_region-requires-clause-at g c = regions_at c.in-Begin.path c.as_slice.result.now c.args.request.now c.as_slice.ensures c.in-Begin.is

pub serve_files-requires-clause-files : goal.serve_files-requires-clause-files
serve_files-requires-clause-files g c = files_on c.args.request.now c.in-Mkdir.is

pub returns-in-Sync-clause-txns : goal.returns-in-Sync-clause-txns
returns-in-Sync-clause-txns g c = λ is. absurd (other_call c.args.request.now 1 2 refl (of_sync c.args.request.now c.in-Sync.is) (of_txns c.args.request.now is))

pub returns-in-Sync-clause-flushed : goal.returns-in-Sync-clause-flushed
returns-in-Sync-clause-flushed g c = λ count is done. absurd (other_call c.args.request.now 1 3 refl (of_sync c.args.request.now c.in-Sync.is) (of_flush c.args.request.now count is))

pub returns-in-Sync-clause-struck : goal.returns-in-Sync-clause-struck
returns-in-Sync-clause-struck g c = λ at value is done. absurd (other_call c.args.request.now 1 4 refl (of_sync c.args.request.now c.in-Sync.is) (of_wild c.args.request.now at value is))

pub returns-in-Sync-clause-trapped : goal.returns-in-Sync-clause-trapped
returns-in-Sync-clause-trapped g c = λ at value is. tt

pub returns-in-Sync-clause-unstruck : goal.returns-in-Sync-clause-unstruck
returns-in-Sync-clause-unstruck g c = λ at value is refused. refl

pub returns-in-Sync-clause-armed : goal.returns-in-Sync-clause-armed
returns-in-Sync-clause-armed g c = λ step at value is done. absurd (other_call c.args.request.now 1 5 refl (of_sync c.args.request.now c.in-Sync.is) (of_arm c.args.request.now step at value is))

pub returns-in-Sync-clause-unarmed : goal.returns-in-Sync-clause-unarmed
returns-in-Sync-clause-unarmed g c = λ step at value is refused. refl

pub returns-in-Sync-clause-quiet : goal.returns-in-Sync-clause-quiet
returns-in-Sync-clause-quiet g c = λ none. quiet_refl _

pub returns-in-Txns-clause-sync : goal.returns-in-Txns-clause-sync
returns-in-Txns-clause-sync g c = λ is. absurd (other_call c.args.request.now 2 1 refl (of_txns c.args.request.now c.in-Txns.is) (of_sync c.args.request.now is))

pub returns-in-Txns-clause-flushed : goal.returns-in-Txns-clause-flushed
returns-in-Txns-clause-flushed g c = λ count is done. absurd (other_call c.args.request.now 2 3 refl (of_txns c.args.request.now c.in-Txns.is) (of_flush c.args.request.now count is))

pub returns-in-Txns-clause-struck : goal.returns-in-Txns-clause-struck
returns-in-Txns-clause-struck g c = λ at value is done. absurd (other_call c.args.request.now 2 4 refl (of_txns c.args.request.now c.in-Txns.is) (of_wild c.args.request.now at value is))

pub returns-in-Txns-clause-trapped : goal.returns-in-Txns-clause-trapped
returns-in-Txns-clause-trapped g c = λ at value is. tt

pub returns-in-Txns-clause-unstruck : goal.returns-in-Txns-clause-unstruck
returns-in-Txns-clause-unstruck g c = λ at value is refused. refl

pub returns-in-Txns-clause-armed : goal.returns-in-Txns-clause-armed
returns-in-Txns-clause-armed g c = λ step at value is done. absurd (other_call c.args.request.now 2 5 refl (of_txns c.args.request.now c.in-Txns.is) (of_arm c.args.request.now step at value is))

pub returns-in-Txns-clause-unarmed : goal.returns-in-Txns-clause-unarmed
returns-in-Txns-clause-unarmed g c = λ step at value is refused. refl

pub returns-in-Txns-clause-quiet : goal.returns-in-Txns-clause-quiet
returns-in-Txns-clause-quiet g c = λ none. quiet_refl _

pub returns-in-Flush-clause-sync : goal.returns-in-Flush-clause-sync
returns-in-Flush-clause-sync g c = λ is. absurd (other_call c.args.request.now 3 1 refl (of_flush c.args.request.now c.in-Flush.count c.in-Flush.is) (of_sync c.args.request.now is))

pub returns-in-Flush-clause-txns : goal.returns-in-Flush-clause-txns
returns-in-Flush-clause-txns g c = λ is. absurd (other_call c.args.request.now 3 2 refl (of_flush c.args.request.now c.in-Flush.count c.in-Flush.is) (of_txns c.args.request.now is))

pub returns-in-Flush-clause-struck : goal.returns-in-Flush-clause-struck
returns-in-Flush-clause-struck g c = λ at value is done. absurd (other_call c.args.request.now 3 4 refl (of_flush c.args.request.now c.in-Flush.count c.in-Flush.is) (of_wild c.args.request.now at value is))

pub returns-in-Flush-clause-trapped : goal.returns-in-Flush-clause-trapped
returns-in-Flush-clause-trapped g c = λ at value is. absurd (other_call c.args.request.now 3 4 refl (of_flush c.args.request.now c.in-Flush.count c.in-Flush.is) (of_wild c.args.request.now at value is))

pub returns-in-Flush-clause-unstruck : goal.returns-in-Flush-clause-unstruck
returns-in-Flush-clause-unstruck g c = λ at value is refused. absurd (other_call c.args.request.now 3 4 refl (of_flush c.args.request.now c.in-Flush.count c.in-Flush.is) (of_wild c.args.request.now at value is))

pub returns-in-Flush-clause-armed : goal.returns-in-Flush-clause-armed
returns-in-Flush-clause-armed g c = λ step at value is done. absurd (other_call c.args.request.now 3 5 refl (of_flush c.args.request.now c.in-Flush.count c.in-Flush.is) (of_arm c.args.request.now step at value is))

pub returns-in-Flush-clause-unarmed : goal.returns-in-Flush-clause-unarmed
returns-in-Flush-clause-unarmed g c = λ step at value is refused. absurd (other_call c.args.request.now 3 5 refl (of_flush c.args.request.now c.in-Flush.count c.in-Flush.is) (of_arm c.args.request.now step at value is))

pub returns-in-Wild-clause-sync : goal.returns-in-Wild-clause-sync
returns-in-Wild-clause-sync g c = λ is. absurd (other_call c.args.request.now 4 1 refl (of_wild c.args.request.now c.in-Wild.at c.in-Wild.value c.in-Wild.is) (of_sync c.args.request.now is))

pub returns-in-Wild-clause-txns : goal.returns-in-Wild-clause-txns
returns-in-Wild-clause-txns g c = λ is. absurd (other_call c.args.request.now 4 2 refl (of_wild c.args.request.now c.in-Wild.at c.in-Wild.value c.in-Wild.is) (of_txns c.args.request.now is))

pub returns-in-Wild-clause-flushed : goal.returns-in-Wild-clause-flushed
returns-in-Wild-clause-flushed g c = λ count is done. absurd (other_call c.args.request.now 4 3 refl (of_wild c.args.request.now c.in-Wild.at c.in-Wild.value c.in-Wild.is) (of_flush c.args.request.now count is))

pub returns-in-Wild-clause-armed : goal.returns-in-Wild-clause-armed
returns-in-Wild-clause-armed g c = λ step at value is done. absurd (other_call c.args.request.now 4 5 refl (of_wild c.args.request.now c.in-Wild.at c.in-Wild.value c.in-Wild.is) (of_arm c.args.request.now step at value is))

pub returns-in-Wild-clause-unarmed : goal.returns-in-Wild-clause-unarmed
returns-in-Wild-clause-unarmed g c = λ step at value is refused. absurd (other_call c.args.request.now 4 5 refl (of_wild c.args.request.now c.in-Wild.at c.in-Wild.value c.in-Wild.is) (of_arm c.args.request.now step at value is))

pub returns-in-Wild-clause-quiet : goal.returns-in-Wild-clause-quiet
returns-in-Wild-clause-quiet g c = λ none. c.strike.ensures.quiet

pub returns-in-Arm-clause-sync : goal.returns-in-Arm-clause-sync
returns-in-Arm-clause-sync g c = λ is. absurd (other_call c.args.request.now 5 1 refl (of_arm c.args.request.now c.in-Arm.step c.in-Arm.at c.in-Arm.value c.in-Arm.is) (of_sync c.args.request.now is))

pub returns-in-Arm-clause-txns : goal.returns-in-Arm-clause-txns
returns-in-Arm-clause-txns g c = λ is. absurd (other_call c.args.request.now 5 2 refl (of_arm c.args.request.now c.in-Arm.step c.in-Arm.at c.in-Arm.value c.in-Arm.is) (of_txns c.args.request.now is))

pub returns-in-Arm-clause-flushed : goal.returns-in-Arm-clause-flushed
returns-in-Arm-clause-flushed g c = λ count is done. absurd (other_call c.args.request.now 5 3 refl (of_arm c.args.request.now c.in-Arm.step c.in-Arm.at c.in-Arm.value c.in-Arm.is) (of_flush c.args.request.now count is))

pub returns-in-Arm-clause-struck : goal.returns-in-Arm-clause-struck
returns-in-Arm-clause-struck g c = λ at value is done. absurd (other_call c.args.request.now 5 4 refl (of_arm c.args.request.now c.in-Arm.step c.in-Arm.at c.in-Arm.value c.in-Arm.is) (of_wild c.args.request.now at value is))

pub returns-in-Arm-clause-trapped : goal.returns-in-Arm-clause-trapped
returns-in-Arm-clause-trapped g c = λ at value is. tt

pub returns-in-Arm-clause-unstruck : goal.returns-in-Arm-clause-unstruck
returns-in-Arm-clause-unstruck g c = λ at value is refused. absurd (other_call c.args.request.now 5 4 refl (of_arm c.args.request.now c.in-Arm.step c.in-Arm.at c.in-Arm.value c.in-Arm.is) (of_wild c.args.request.now at value is))

pub returns-in-Arm-clause-quiet : goal.returns-in-Arm-clause-quiet
returns-in-Arm-clause-quiet g c = λ none. c.arm_store.ensures.quiet

pub returns-in-Begin-clause-sync : goal.returns-in-Begin-clause-sync
returns-in-Begin-clause-sync g c = λ is. absurd (other_call c.args.request.now 0 1 refl (of_regions c.in-Begin.path c.args.request.now c.in-Begin.is) (of_sync c.args.request.now is))

pub returns-in-Begin-clause-txns : goal.returns-in-Begin-clause-txns
returns-in-Begin-clause-txns g c = λ is. absurd (other_call c.args.request.now 0 2 refl (of_regions c.in-Begin.path c.args.request.now c.in-Begin.is) (of_txns c.args.request.now is))

pub returns-in-Begin-clause-flushed : goal.returns-in-Begin-clause-flushed
returns-in-Begin-clause-flushed g c = λ count is done. absurd (other_call c.args.request.now 0 3 refl (of_regions c.in-Begin.path c.args.request.now c.in-Begin.is) (of_flush c.args.request.now count is))

pub returns-in-Begin-clause-struck : goal.returns-in-Begin-clause-struck
returns-in-Begin-clause-struck g c = λ at value is done. absurd (other_call c.args.request.now 0 4 refl (of_regions c.in-Begin.path c.args.request.now c.in-Begin.is) (of_wild c.args.request.now at value is))

pub returns-in-Begin-clause-trapped : goal.returns-in-Begin-clause-trapped
returns-in-Begin-clause-trapped g c = λ at value is. absurd (other_call c.args.request.now 0 4 refl (of_regions c.in-Begin.path c.args.request.now c.in-Begin.is) (of_wild c.args.request.now at value is))

pub returns-in-Begin-clause-unstruck : goal.returns-in-Begin-clause-unstruck
returns-in-Begin-clause-unstruck g c = λ at value is refused. absurd (other_call c.args.request.now 0 4 refl (of_regions c.in-Begin.path c.args.request.now c.in-Begin.is) (of_wild c.args.request.now at value is))

pub returns-in-Begin-clause-armed : goal.returns-in-Begin-clause-armed
returns-in-Begin-clause-armed g c = λ step at value is done. absurd (other_call c.args.request.now 0 5 refl (of_regions c.in-Begin.path c.args.request.now c.in-Begin.is) (of_arm c.args.request.now step at value is))

pub returns-in-Begin-clause-unarmed : goal.returns-in-Begin-clause-unarmed
returns-in-Begin-clause-unarmed g c = λ step at value is refused. absurd (other_call c.args.request.now 0 5 refl (of_regions c.in-Begin.path c.args.request.now c.in-Begin.is) (of_arm c.args.request.now step at value is))

pub returns-in-Begin-clause-quiet : goal.returns-in-Begin-clause-quiet
returns-in-Begin-clause-quiet g c = λ none. c.serve_region.ensures.goes.quiet

pub returns-in-Mkdir-clause-sync : goal.returns-in-Mkdir-clause-sync
returns-in-Mkdir-clause-sync g c = λ is. absurd (other_call c.args.request.now 0 1 refl (of_files c.args.request.now c.in-Mkdir.is) (of_sync c.args.request.now is))

pub returns-in-Mkdir-clause-txns : goal.returns-in-Mkdir-clause-txns
returns-in-Mkdir-clause-txns g c = λ is. absurd (other_call c.args.request.now 0 2 refl (of_files c.args.request.now c.in-Mkdir.is) (of_txns c.args.request.now is))

pub returns-in-Mkdir-clause-struck : goal.returns-in-Mkdir-clause-struck
returns-in-Mkdir-clause-struck g c = λ at value is done. absurd (other_call c.args.request.now 0 4 refl (of_files c.args.request.now c.in-Mkdir.is) (of_wild c.args.request.now at value is))

pub returns-in-Mkdir-clause-trapped : goal.returns-in-Mkdir-clause-trapped
returns-in-Mkdir-clause-trapped g c = λ at value is. absurd (other_call c.args.request.now 0 4 refl (of_files c.args.request.now c.in-Mkdir.is) (of_wild c.args.request.now at value is))

pub returns-in-Mkdir-clause-unstruck : goal.returns-in-Mkdir-clause-unstruck
returns-in-Mkdir-clause-unstruck g c = λ at value is refused. absurd (other_call c.args.request.now 0 4 refl (of_files c.args.request.now c.in-Mkdir.is) (of_wild c.args.request.now at value is))

pub returns-in-Mkdir-clause-armed : goal.returns-in-Mkdir-clause-armed
returns-in-Mkdir-clause-armed g c = λ step at value is done. absurd (other_call c.args.request.now 0 5 refl (of_files c.args.request.now c.in-Mkdir.is) (of_arm c.args.request.now step at value is))

pub returns-in-Mkdir-clause-unarmed : goal.returns-in-Mkdir-clause-unarmed
returns-in-Mkdir-clause-unarmed g c = λ step at value is refused. absurd (other_call c.args.request.now 0 5 refl (of_files c.args.request.now c.in-Mkdir.is) (of_arm c.args.request.now step at value is))

pub returns-in-Mkdir-clause-quiet : goal.returns-in-Mkdir-clause-quiet
returns-in-Mkdir-clause-quiet g c = λ none. c.serve_files.ensures.goes.quiet

pub returns-in-Sync-clause-ends : goal.returns-in-Sync-clause-ends
returns-in-Sync-clause-ends g c = ends_by_well _ _ (TellsFault (Ok Done)) _ (le_refl _) refl (λ f. f) (λ stop. true_false (sym stop))

pub returns-in-Sync-clause-sync : goal.returns-in-Sync-clause-sync
returns-in-Sync-clause-sync g c = λ is. (refl, refl)

pub returns-in-Txns-clause-txns : goal.returns-in-Txns-clause-txns
returns-in-Txns-clause-txns g c = λ is. (c.txns_reply.result, refl, refl)

pub returns-in-Flush-clause-flushed : goal.returns-in-Flush-clause-flushed
returns-in-Flush-clause-flushed g c =
    let m = c.args.core.now.view.v.machine in
    let n = c.flush_core.new.core.view.v.machine in
    λ count is done. flush_as (λ x. (j : ℕ) × Flushed x j (g.M.Machine.contents m) (g.M.Machine.contents n)) c.args.request.now c.in-Flush.count count c.in-Flush.is is (c.flush_core.ensures.flushed done)

pub returns-in-Flush-clause-quiet : goal.returns-in-Flush-clause-quiet
returns-in-Flush-clause-quiet g c = λ none. absurd (subst NoFlush c.in-Flush.is none)

pub returns-in-Wild-clause-went : goal.returns-in-Wild-clause-went
returns-in-Wild-clause-went g c =
    let m = c.args.core.now.view.v.machine in
    let h = cache_health (g.M.Machine.contents m) (g.M.Machine.run m) in
    let b = cache_below (g.M.Machine.contents m) (g.M.Machine.run m) in
    let n = c.strike.new.core.view.v.machine in
    let e = cache_health (g.M.Machine.contents n) (g.M.Machine.run n) in
    let d = cache_below (g.M.Machine.contents n) (g.M.Machine.run n) in
    subst (λ r. IfOk c.strike.result (λ reply. Went (Some r ∷ []) (reply ∷ []) h b e d)) (sym c.in-Wild.is) c.strike.ensures.went

pub returns-in-Wild-clause-stopped_on : goal.returns-in-Wild-clause-stopped_on
returns-in-Wild-clause-stopped_on g c =
    let m = c.args.core.now.view.v.machine in
    let h = cache_health (g.M.Machine.contents m) (g.M.Machine.run m) in
    let b = cache_below (g.M.Machine.contents m) (g.M.Machine.run m) in
    let n = c.strike.new.core.view.v.machine in
    let e = cache_health (g.M.Machine.contents n) (g.M.Machine.run n) in
    let d = cache_below (g.M.Machine.contents n) (g.M.Machine.run n) in
    subst (λ r. OnErr c.strike.result (StoppedOn r h b e d)) (sym c.in-Wild.is) c.strike.ensures.stopped_on

pub returns-in-Wild-clause-struck : goal.returns-in-Wild-clause-struck
returns-in-Wild-clause-struck g c =
    let m = c.args.core.now.view.v.machine in
    let n = c.strike.new.core.view.v.machine in
    λ at value is done. wild_as (λ a v. (g.M.Machine.contents n ≡ g.M.Machine.contents m) × (g.M.Machine.run n ≡ after_wild Changed a v (g.M.Machine.run m))) c.args.request.now c.in-Wild.at c.in-Wild.value at value c.in-Wild.is is (c.strike.ensures.struck done)

pub returns-in-Wild-clause-trapped : goal.returns-in-Wild-clause-trapped
returns-in-Wild-clause-trapped g c =
    let m = c.args.core.now.view.v.machine in
    let n = c.strike.new.core.view.v.machine in
    λ at value is. wild_as (λ a v. OnErr c.strike.result ((g.M.Machine.contents n ≡ g.M.Machine.contents m) × (g.M.Machine.run n ≡ after_wild Trapped a v (g.M.Machine.run m)))) c.args.request.now c.in-Wild.at c.in-Wild.value at value c.in-Wild.is is c.strike.ensures.trapped

pub returns-in-Wild-clause-unstruck : goal.returns-in-Wild-clause-unstruck
returns-in-Wild-clause-unstruck g c = λ at value is refused. c.strike.ensures.unstruck refused

pub returns-in-Arm-clause-went : goal.returns-in-Arm-clause-went
returns-in-Arm-clause-went g c =
    let m = c.args.core.now.view.v.machine in
    let h = cache_health (g.M.Machine.contents m) (g.M.Machine.run m) in
    let b = cache_below (g.M.Machine.contents m) (g.M.Machine.run m) in
    let n = c.arm_store.new.core.view.v.machine in
    let e = cache_health (g.M.Machine.contents n) (g.M.Machine.run n) in
    let d = cache_below (g.M.Machine.contents n) (g.M.Machine.run n) in
    subst (λ r. Went (Some r ∷ []) (c.arm_store.result ∷ []) h b e d) (sym c.in-Arm.is) c.arm_store.ensures.went

pub returns-in-Arm-clause-armed : goal.returns-in-Arm-clause-armed
returns-in-Arm-clause-armed g c =
    let m = c.args.core.now.view.v.machine in
    let n = c.arm_store.new.core.view.v.machine in
    λ step at value is done. arm_as (λ k a v. (g.M.Machine.contents n ≡ g.M.Machine.contents m) × (g.M.Machine.run n ≡ record (g.M.Machine.run m) { armed = Some a; armed_left = k; armed_value = v })) c.args.request.now c.in-Arm.step c.in-Arm.at c.in-Arm.value step at value c.in-Arm.is is (c.arm_store.ensures.armed (same_reply (Ok c.arm_store.result) c.arm_store.result Done refl done))

pub returns-in-Arm-clause-unarmed : goal.returns-in-Arm-clause-unarmed
returns-in-Arm-clause-unarmed g c = λ step at value is refused. c.arm_store.ensures.unarmed (same_reply (Ok c.arm_store.result) c.arm_store.result (Refused 19) refl refused)

pub returns-in-Arm-clause-ends : goal.returns-in-Arm-clause-ends
returns-in-Arm-clause-ends g c =
    let m = c.args.core.now.view.v.machine in
    let h = cache_health (g.M.Machine.contents m) (g.M.Machine.run m) in
    let b = cache_below (g.M.Machine.contents m) (g.M.Machine.run m) in
    let n = c.arm_store.new.core.view.v.machine in
    let e = cache_health (g.M.Machine.contents n) (g.M.Machine.run n) in
    let d = cache_below (g.M.Machine.contents n) (g.M.Machine.run n) in
    still_ends _ c.arm_store.result h b e d c.arm_store.ensures.health c.arm_store.ensures.went
