use Rattle.rio_core.proofs.Common.{◌≡◌, ◌∙◌, Ok, refl, sym, ap, subst, crashed}
use Rattle.rio_requests.specs.declared.reply.Reply.TheVariants.{Err as RefusedBy}
use Rattle.rio_requests.specs.declared.request.Request.TheVariants.{Unlink, Rmdir, Rename, List as ListOf}
use Rattle.rio_requests.specs.Answers.{rename, unlink}
use Rattle.rio_requests.specs.Parts.{NoneDone}
use Rattle.request_ends.specs.Ends.{FileEnds, SaysDone, SaysNames}
use Rattle.rio_base.specs.Rules.{goes_refl}
use Rattle.rio_model.specs.Paths.{IsPath}
use Rattle.rio_requests.specs.Requests.{IsRequest}
use Rattle.rio_core.specs.Serving.{RequestEnds}
use Rattle.rio_core.proofs.WildStores.{reply_well}
use Rattle.rio_core.proofs.FileRequests.{lacks_memory, none_by_name, request_ends}
use Rattle.rio_core.proofs.Lookups.{rows_open}
use Rattle.rio_core.proofs.ReplyEnds.{not_stopped, no_done, no_names, reply_ends}
use Rattle.rio_core.proofs.Standing.{serves_can}
use Rattle.rio_core.proofs.answering.answer_by_name.Goals as goal

pub unlink-requires-clause-can : goal.unlink-requires-clause-can
unlink-requires-clause-can g c = serves_can c.args.shape.now (g.V.Blocks.seen c.args.v.now) (g.V.Volume.kept c.args.v.now) c.args.table.now c.requires.serves.0 c.requires.serves.1

pub rmdir-requires-clause-can : goal.rmdir-requires-clause-can
rmdir-requires-clause-can g c = serves_can c.args.shape.now (g.V.Blocks.seen c.args.v.now) (g.V.Volume.kept c.args.v.now) c.args.table.now c.requires.serves.0 c.requires.serves.1

pub rename-requires-clause-can : goal.rename-requires-clause-can
rename-requires-clause-can g c = serves_can c.args.shape.now (g.V.Blocks.seen c.args.v.now) (g.V.Volume.kept c.args.v.now) c.args.table.now c.requires.serves.0 c.requires.serves.1

pub list-requires-clause-can : goal.list-requires-clause-can
list-requires-clause-can g c = serves_can c.args.shape.now (g.V.Blocks.seen c.args.v.now) (g.V.Volume.kept c.args.v.now) c.args.table.now c.requires.serves.0 c.requires.serves.1

pub returns-in-Ok-clause-answered : goal.returns-in-Ok-clause-answered
returns-in-Ok-clause-answered g c =
    let shape = c.args.shape.now in
    let x = g.V.Blocks.seen c.args.v.now in
    let k = g.V.Volume.kept c.args.v.now in
    let y = g.V.Blocks.seen c.unlink.new.v in
    let j = g.V.Volume.kept c.unlink.new.v in
    let p = c.as_slice.result.now in
    let r = Unlink p in
    let is : c.args.request.now ≡ r = c.in-Unlink.is ∙ ap Unlink (sym c.as_slice.ensures) in
    λ s serves. subst (λ a. RequestEnds shape y j c.args.table.now s a c.done_reply.result) (sym is) (request_ends {T = Unit {0}} SaysDone shape x k y j c.args.table.now s r c.unlink.result c.done_reply.result (λ v a b h i. h ∙ sym i) tt tt serves (subst (λ busy. FileEnds {T = Unit {0}} SaysDone shape x k y j (crashed s) (unlink (crashed s) p busy) (NoneDone (crashed s)) c.unlink.result) (c.in-Ok.ensures ∙ rows_open c.args.table.now s serves.regions.marked) (c.unlink.ensures.leaves (crashed s) serves.reads)) c.done_reply.ensures)

pub returns-in-Ok-clause-ends : goal.returns-in-Ok-clause-ends
returns-in-Ok-clause-ends g c = reply_ends {T = Unit {0}} SaysDone _ _ c.unlink.result c.done_reply.result (λ v n h. no_done h) c.done_reply.ensures c.unlink.ensures.ends

pub returns-in-Err-clause-answered : goal.returns-in-Err-clause-answered
returns-in-Err-clause-answered g c =
    let shape = c.args.shape.now in
    let x = g.V.Blocks.seen c.args.v.now in
    let k = g.V.Volume.kept c.args.v.now in
    λ s serves. subst (λ a. RequestEnds shape x k c.args.table.now s a (Ok (RefusedBy 31))) (sym c.in-Unlink.is) (lacks_memory shape x k c.args.table.now s (Unlink c.in-Unlink.path) tt serves)

pub returns-in-Rmdir-clause-answered : goal.returns-in-Rmdir-clause-answered
returns-in-Rmdir-clause-answered g c =
    let shape = c.args.shape.now in
    let x = g.V.Blocks.seen c.args.v.now in
    let k = g.V.Volume.kept c.args.v.now in
    let y = g.V.Blocks.seen c.rmdir.new.v in
    let j = g.V.Volume.kept c.rmdir.new.v in
    let p = c.as_slice-in-Rmdir.result.now in
    let r = Rmdir p in
    let is : c.args.request.now ≡ r = c.in-Rmdir.is ∙ ap Rmdir (sym c.as_slice-in-Rmdir.ensures) in
    λ s serves. subst (λ a. RequestEnds shape y j c.args.table.now s a c.done_reply-in-Rmdir.result) (sym is) (request_ends {T = Unit {0}} SaysDone shape x k y j c.args.table.now s r c.rmdir.result c.done_reply-in-Rmdir.result (λ v a b h i. h ∙ sym i) tt tt serves (c.rmdir.ensures.leaves (crashed s) serves.reads) c.done_reply-in-Rmdir.ensures)

pub returns-in-Rmdir-clause-ends : goal.returns-in-Rmdir-clause-ends
returns-in-Rmdir-clause-ends g c = reply_ends {T = Unit {0}} SaysDone _ _ c.rmdir.result c.done_reply-in-Rmdir.result (λ v n h. no_done h) c.done_reply-in-Rmdir.ensures c.rmdir.ensures.ends

pub returns-in-Ok-open_list-clause-answered : goal.returns-in-Ok-open_list-clause-answered
returns-in-Ok-open_list-clause-answered g c =
    let shape = c.args.shape.now in
    let x = g.V.Blocks.seen c.args.v.now in
    let k = g.V.Volume.kept c.args.v.now in
    let y = g.V.Blocks.seen c.rename.new.v in
    let j = g.V.Volume.kept c.rename.new.v in
    let p = c.as_slice-in-Ok-open_list.result.now in
    let q = c.as_slice-in-Ok-open_list-2.result.now in
    let r = Rename p q in
    let is : c.args.request.now ≡ r = c.in-Rename.is ∙ ap (λ a. Rename a c.in-Rename.to) (sym c.as_slice-in-Ok-open_list.ensures) ∙ ap (Rename p) (sym c.as_slice-in-Ok-open_list-2.ensures) in
    λ s serves. subst (λ a. RequestEnds shape y j c.args.table.now s a c.done_reply-in-Ok-open_list.result) (sym is) (request_ends {T = Unit {0}} SaysDone shape x k y j c.args.table.now s r c.rename.result c.done_reply-in-Ok-open_list.result (λ v a b h i. h ∙ sym i) tt tt serves (subst (λ busy. FileEnds {T = Unit {0}} SaysDone shape x k y j (crashed s) (rename (crashed s) p q busy) (NoneDone (crashed s)) c.rename.result) (c.in-Ok-open_list.ensures ∙ rows_open c.args.table.now s serves.regions.marked) (c.rename.ensures.leaves (crashed s) serves.reads)) c.done_reply-in-Ok-open_list.ensures)

pub returns-in-Ok-open_list-clause-ends : goal.returns-in-Ok-open_list-clause-ends
returns-in-Ok-open_list-clause-ends g c = reply_ends {T = Unit {0}} SaysDone _ _ c.rename.result c.done_reply-in-Ok-open_list.result (λ v n h. no_done h) c.done_reply-in-Ok-open_list.ensures c.rename.ensures.ends

pub returns-in-Err-open_list-clause-answered : goal.returns-in-Err-open_list-clause-answered
returns-in-Err-open_list-clause-answered g c =
    let shape = c.args.shape.now in
    let x = g.V.Blocks.seen c.args.v.now in
    let k = g.V.Volume.kept c.args.v.now in
    λ s serves. subst (λ a. RequestEnds shape x k c.args.table.now s a (Ok (RefusedBy 31))) (sym c.in-Rename.is) (lacks_memory shape x k c.args.table.now s (Rename c.in-Rename.path c.in-Rename.to) tt serves)

pub returns-in-List-clause-answered : goal.returns-in-List-clause-answered
returns-in-List-clause-answered g c =
    let shape = c.args.shape.now in
    let x = g.V.Blocks.seen c.args.v.now in
    let k = g.V.Volume.kept c.args.v.now in
    let y = g.V.Blocks.seen c.list.new.v in
    let j = g.V.Volume.kept c.list.new.v in
    let p = c.as_slice-in-List.result.now in
    let r = ListOf p in
    let is : c.args.request.now ≡ r = c.in-List.is ∙ ap ListOf (sym c.as_slice-in-List.ensures) in
    λ s serves. subst (λ a. RequestEnds shape y j c.args.table.now s a c.names_reply.result) (sym is) (request_ends SaysNames shape x k y j c.args.table.now s r c.list.result c.names_reply.result (λ v a b h i. h ∙ sym i) tt tt serves (c.list.ensures.leaves (crashed s) serves.reads) c.names_reply.ensures)

pub returns-in-List-clause-ends : goal.returns-in-List-clause-ends
returns-in-List-clause-ends g c = reply_ends SaysNames _ _ c.list.result c.names_reply.result (λ v n h. no_names h) c.names_reply.ensures c.list.ensures.ends

pub unreachable-requires : goal.unreachable-requires
unreachable-requires g c =
    let d = c.in_default in
    none_by_name c.args.request.now (record { unlink = d.not-Unlink; rmdir = d.not-Rmdir; rename = d.not-Rename; list = d.not-List }) c.requires.by_name

pub returns-in-Ok-clause-in_step : goal.returns-in-Ok-clause-in_step
returns-in-Ok-clause-in_step g c = λ on. c.unlink.ensures.in_step (not_stopped {T = Unit {0}} SaysDone c.unlink.result c.done_reply.result c.done_reply.ensures on)

pub returns-in-Rmdir-clause-in_step : goal.returns-in-Rmdir-clause-in_step
returns-in-Rmdir-clause-in_step g c = λ on. c.rmdir.ensures.in_step (not_stopped {T = Unit {0}} SaysDone c.rmdir.result c.done_reply-in-Rmdir.result c.done_reply-in-Rmdir.ensures on)

pub returns-in-Ok-open_list-clause-in_step : goal.returns-in-Ok-open_list-clause-in_step
returns-in-Ok-open_list-clause-in_step g c = λ on. c.rename.ensures.in_step (not_stopped {T = Unit {0}} SaysDone c.rename.result c.done_reply-in-Ok-open_list.result c.done_reply-in-Ok-open_list.ensures on)

pub returns-in-List-clause-in_step : goal.returns-in-List-clause-in_step
returns-in-List-clause-in_step g c = λ on. c.list.ensures.in_step (not_stopped SaysNames c.list.result c.names_reply.result c.names_reply.ensures on)

pub unlink-requires-clause-path : goal.unlink-requires-clause-path
unlink-requires-clause-path g c = subst IsPath (sym c.as_slice.ensures) (subst IsRequest c.in-Unlink.is c.requires.request)

pub rmdir-requires-clause-path : goal.rmdir-requires-clause-path
rmdir-requires-clause-path g c = subst IsPath (sym c.as_slice-in-Rmdir.ensures) (subst IsRequest c.in-Rmdir.is c.requires.request)

pub rename-requires-clause-path : goal.rename-requires-clause-path
rename-requires-clause-path g c = subst IsPath (sym c.as_slice-in-Ok-open_list.ensures) (subst IsRequest c.in-Rename.is c.requires.request).0

pub list-requires-clause-path : goal.list-requires-clause-path
list-requires-clause-path g c = subst IsPath (sym c.as_slice-in-List.ensures) (subst IsRequest c.in-List.is c.requires.request)

pub rename-requires-clause-to : goal.rename-requires-clause-to
rename-requires-clause-to g c = subst IsPath (sym c.as_slice-in-Ok-open_list-2.ensures) (subst IsRequest c.in-Rename.is c.requires.request).1

pub returns-in-Err-clause-in_step : goal.returns-in-Err-clause-in_step
returns-in-Err-clause-in_step g c = λ on. c.requires.in_step

pub returns-in-Err-clause-goes : goal.returns-in-Err-clause-goes
returns-in-Err-clause-goes g c = goes_refl _ _

pub returns-in-Err-clause-ends : goal.returns-in-Err-clause-ends
returns-in-Err-clause-ends g c = reply_well _ _ (RefusedBy 31) refl (λ f. f)

pub returns-in-Err-open_list-clause-in_step : goal.returns-in-Err-open_list-clause-in_step
returns-in-Err-open_list-clause-in_step g c = λ on. c.requires.in_step

pub returns-in-Err-open_list-clause-goes : goal.returns-in-Err-open_list-clause-goes
returns-in-Err-open_list-clause-goes g c = goes_refl _ _

pub returns-in-Err-open_list-clause-ends : goal.returns-in-Err-open_list-clause-ends
returns-in-Err-open_list-clause-ends g c = reply_well _ _ (RefusedBy 31) refl (λ f. f)
