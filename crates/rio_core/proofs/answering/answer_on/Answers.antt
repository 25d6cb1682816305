use Rattle.rio_core.proofs.Common.{◌≡◌, ◌∙◌, sym, ap, subst, crashed}
use Rattle.rio_requests.specs.declared.request.Request.TheVariants.{Mkdir, Create, Region as MakeRegion, Write, Read, Truncate, Stat as StatOf}
use Rattle.request_ends.specs.Ends.{SaysBytes, SaysCount, SaysDone, SaysIno, SaysStat}
use Rattle.rio_model.specs.Paths.{IsPath}
use Rattle.rio_requests.specs.Requests.{IsRequest}
use Rattle.rio_core.specs.Serving.{RequestEnds}
use Rattle.rio_core.proofs.FileRequests.{left_by_name, request_ends}
use Rattle.rio_core.proofs.ReplyEnds.{not_stopped, no_bytes, no_done, no_number, no_stat, reply_ends}
use Rattle.rio_core.proofs.Standing.{serves_can}
use Rattle.rio_core.proofs.answering.answer_on.Goals as goal

pub mkdir-requires-clause-can : goal.mkdir-requires-clause-can
mkdir-requires-clause-can g c = serves_can c.args.shape.now (g.V.Blocks.seen c.args.v.now) (g.V.Volume.kept c.args.v.now) c.args.table.now c.requires.serves.0 c.requires.serves.1

pub create-requires-clause-can : goal.create-requires-clause-can
create-requires-clause-can g c = serves_can c.args.shape.now (g.V.Blocks.seen c.args.v.now) (g.V.Volume.kept c.args.v.now) c.args.table.now c.requires.serves.0 c.requires.serves.1

pub write-requires-clause-can : goal.write-requires-clause-can
write-requires-clause-can g c = serves_can c.args.shape.now (g.V.Blocks.seen c.args.v.now) (g.V.Volume.kept c.args.v.now) c.args.table.now c.requires.serves.0 c.requires.serves.1

pub read-requires-clause-can : goal.read-requires-clause-can
read-requires-clause-can g c = serves_can c.args.shape.now (g.V.Blocks.seen c.args.v.now) (g.V.Volume.kept c.args.v.now) c.args.table.now c.requires.serves.0 c.requires.serves.1

pub truncate-requires-clause-can : goal.truncate-requires-clause-can
truncate-requires-clause-can g c = serves_can c.args.shape.now (g.V.Blocks.seen c.args.v.now) (g.V.Volume.kept c.args.v.now) c.args.table.now c.requires.serves.0 c.requires.serves.1

pub make_region-requires-clause-can : goal.make_region-requires-clause-can
make_region-requires-clause-can g c = serves_can c.args.shape.now (g.V.Blocks.seen c.args.v.now) (g.V.Volume.kept c.args.v.now) c.args.table.now c.requires.serves.0 c.requires.serves.1

pub stat-requires-clause-can : goal.stat-requires-clause-can
stat-requires-clause-can g c = serves_can c.args.shape.now (g.V.Blocks.seen c.args.v.now) (g.V.Volume.kept c.args.v.now) c.args.table.now c.requires.serves.0 c.requires.serves.1

pub returns-in-Mkdir-clause-answered : goal.returns-in-Mkdir-clause-answered
returns-in-Mkdir-clause-answered g c =
    let shape = c.args.shape.now in
    let x = g.V.Blocks.seen c.args.v.now in
    let k = g.V.Volume.kept c.args.v.now in
    let y = g.V.Blocks.seen c.mkdir.new.v in
    let j = g.V.Volume.kept c.mkdir.new.v in
    let p = c.as_slice.result.now in
    let r = Mkdir p in
    let is : c.args.request.now ≡ r = c.in-Mkdir.is ∙ ap Mkdir (sym c.as_slice.ensures) in
    λ s serves. subst (λ a. RequestEnds shape y j c.args.table.now s a c.ino_reply.result) (sym is) (request_ends SaysIno shape x k y j c.args.table.now s r c.mkdir.result c.ino_reply.result (λ v a b h i. h ∙ sym i) tt tt serves (c.mkdir.ensures.leaves (crashed s) serves.reads) c.ino_reply.ensures)

pub returns-in-Mkdir-clause-ends : goal.returns-in-Mkdir-clause-ends
returns-in-Mkdir-clause-ends g c = reply_ends SaysIno _ _ c.mkdir.result c.ino_reply.result (λ v n h. no_number h) c.ino_reply.ensures c.mkdir.ensures.ends

pub returns-in-Create-clause-answered : goal.returns-in-Create-clause-answered
returns-in-Create-clause-answered g c =
    let shape = c.args.shape.now in
    let x = g.V.Blocks.seen c.args.v.now in
    let k = g.V.Volume.kept c.args.v.now in
    let y = g.V.Blocks.seen c.create.new.v in
    let j = g.V.Volume.kept c.create.new.v in
    let p = c.as_slice-in-Create.result.now in
    let r = Create p in
    let is : c.args.request.now ≡ r = c.in-Create.is ∙ ap Create (sym c.as_slice-in-Create.ensures) in
    λ s serves. subst (λ a. RequestEnds shape y j c.args.table.now s a c.ino_reply-in-Create.result) (sym is) (request_ends SaysIno shape x k y j c.args.table.now s r c.create.result c.ino_reply-in-Create.result (λ v a b h i. h ∙ sym i) tt tt serves (c.create.ensures.leaves (crashed s) serves.reads) c.ino_reply-in-Create.ensures)

pub returns-in-Create-clause-ends : goal.returns-in-Create-clause-ends
returns-in-Create-clause-ends g c = reply_ends SaysIno _ _ c.create.result c.ino_reply-in-Create.result (λ v n h. no_number h) c.ino_reply-in-Create.ensures c.create.ensures.ends

pub returns-in-Write-clause-answered : goal.returns-in-Write-clause-answered
returns-in-Write-clause-answered g c =
    let shape = c.args.shape.now in
    let x = g.V.Blocks.seen c.args.v.now in
    let k = g.V.Volume.kept c.args.v.now in
    let y = g.V.Blocks.seen c.write.new.v in
    let j = g.V.Volume.kept c.write.new.v in
    let p = c.as_slice-in-Write.result.now in
    let q = c.as_slice-in-Write-2.result.now in
    let r = Write p c.in-Write.off q in
    let is : c.args.request.now ≡ r = c.in-Write.is ∙ ap (λ a. Write a c.in-Write.off c.in-Write.bytes) (sym c.as_slice-in-Write.ensures) ∙ ap (Write p c.in-Write.off) (sym c.as_slice-in-Write-2.ensures) in
    λ s serves. subst (λ a. RequestEnds shape y j c.args.table.now s a c.count_reply.result) (sym is) (request_ends SaysCount shape x k y j c.args.table.now s r c.write.result c.count_reply.result (λ v a b h i. h ∙ sym i) tt tt serves (c.write.ensures.leaves (crashed s) serves.reads) c.count_reply.ensures)

pub returns-in-Write-clause-ends : goal.returns-in-Write-clause-ends
returns-in-Write-clause-ends g c = reply_ends SaysCount _ _ c.write.result c.count_reply.result (λ v n h. no_number h) c.count_reply.ensures c.write.ensures.ends

pub returns-in-Read-clause-answered : goal.returns-in-Read-clause-answered
returns-in-Read-clause-answered g c =
    let shape = c.args.shape.now in
    let x = g.V.Blocks.seen c.args.v.now in
    let k = g.V.Volume.kept c.args.v.now in
    let y = g.V.Blocks.seen c.read.new.v in
    let j = g.V.Volume.kept c.read.new.v in
    let p = c.as_slice-in-Read.result.now in
    let r = Read p c.in-Read.off c.in-Read.len in
    let is : c.args.request.now ≡ r = c.in-Read.is ∙ ap (λ a. Read a c.in-Read.off c.in-Read.len) (sym c.as_slice-in-Read.ensures) in
    λ s serves. subst (λ a. RequestEnds shape y j c.args.table.now s a c.bytes_reply.result) (sym is) (request_ends SaysBytes shape x k y j c.args.table.now s r c.read.result c.bytes_reply.result (λ v a b h i. h ∙ sym i) tt tt serves (c.read.ensures.leaves (crashed s) serves.reads) c.bytes_reply.ensures)

pub returns-in-Read-clause-ends : goal.returns-in-Read-clause-ends
returns-in-Read-clause-ends g c = reply_ends SaysBytes _ _ c.read.result c.bytes_reply.result (λ v n h. no_bytes h) c.bytes_reply.ensures c.read.ensures.ends

pub returns-in-Truncate-clause-answered : goal.returns-in-Truncate-clause-answered
returns-in-Truncate-clause-answered g c =
    let shape = c.args.shape.now in
    let x = g.V.Blocks.seen c.args.v.now in
    let k = g.V.Volume.kept c.args.v.now in
    let y = g.V.Blocks.seen c.truncate.new.v in
    let j = g.V.Volume.kept c.truncate.new.v in
    let p = c.as_slice-in-Truncate.result.now in
    let r = Truncate p c.in-Truncate.len in
    let is : c.args.request.now ≡ r = c.in-Truncate.is ∙ ap (λ a. Truncate a c.in-Truncate.len) (sym c.as_slice-in-Truncate.ensures) in
    λ s serves. subst (λ a. RequestEnds shape y j c.args.table.now s a c.done_reply.result) (sym is) (request_ends {T = Unit {0}} SaysDone shape x k y j c.args.table.now s r c.truncate.result c.done_reply.result (λ v a b h i. h ∙ sym i) tt tt serves (c.truncate.ensures.leaves (crashed s) serves.reads) c.done_reply.ensures)

pub returns-in-Truncate-clause-ends : goal.returns-in-Truncate-clause-ends
returns-in-Truncate-clause-ends g c = reply_ends {T = Unit {0}} SaysDone _ _ c.truncate.result c.done_reply.result (λ v n h. no_done h) c.done_reply.ensures c.truncate.ensures.ends

pub returns-in-Region-clause-answered : goal.returns-in-Region-clause-answered
returns-in-Region-clause-answered g c =
    let shape = c.args.shape.now in
    let x = g.V.Blocks.seen c.args.v.now in
    let k = g.V.Volume.kept c.args.v.now in
    let y = g.V.Blocks.seen c.make_region.new.v in
    let j = g.V.Volume.kept c.make_region.new.v in
    let p = c.as_slice-in-Region.result.now in
    let r = MakeRegion p c.in-Region.data_pages c.in-Region.undo_pages in
    let is : c.args.request.now ≡ r = c.in-Region.is ∙ ap (λ a. MakeRegion a c.in-Region.data_pages c.in-Region.undo_pages) (sym c.as_slice-in-Region.ensures) in
    λ s serves. subst (λ a. RequestEnds shape y j c.args.table.now s a c.ino_reply-in-Region.result) (sym is) (request_ends SaysIno shape x k y j c.args.table.now s r c.make_region.result c.ino_reply-in-Region.result (λ v a b h i. h ∙ sym i) tt tt serves (c.make_region.ensures.leaves (crashed s) serves.reads) c.ino_reply-in-Region.ensures)

pub returns-in-Region-clause-ends : goal.returns-in-Region-clause-ends
returns-in-Region-clause-ends g c = reply_ends SaysIno _ _ c.make_region.result c.ino_reply-in-Region.result (λ v n h. no_number h) c.ino_reply-in-Region.ensures c.make_region.ensures.ends

pub returns-in-Stat-clause-answered : goal.returns-in-Stat-clause-answered
returns-in-Stat-clause-answered g c =
    let shape = c.args.shape.now in
    let x = g.V.Blocks.seen c.args.v.now in
    let k = g.V.Volume.kept c.args.v.now in
    let y = g.V.Blocks.seen c.stat.new.v in
    let j = g.V.Volume.kept c.stat.new.v in
    let p = c.as_slice-in-Stat.result.now in
    let r = StatOf p in
    let is : c.args.request.now ≡ r = c.in-Stat.is ∙ ap StatOf (sym c.as_slice-in-Stat.ensures) in
    λ s serves. subst (λ a. RequestEnds shape y j c.args.table.now s a c.stat_reply.result) (sym is) (request_ends SaysStat shape x k y j c.args.table.now s r c.stat.result c.stat_reply.result (λ v a b h i. h ∙ sym i) tt tt serves (c.stat.ensures.leaves (crashed s) serves.reads) c.stat_reply.ensures)

pub returns-in-Stat-clause-ends : goal.returns-in-Stat-clause-ends
returns-in-Stat-clause-ends g c = reply_ends SaysStat _ _ c.stat.result c.stat_reply.result (λ v n h. no_stat h) c.stat_reply.ensures c.stat.ensures.ends

pub returns-in-Mkdir-clause-in_step : goal.returns-in-Mkdir-clause-in_step
returns-in-Mkdir-clause-in_step g c = λ on. c.mkdir.ensures.in_step (not_stopped SaysIno c.mkdir.result c.ino_reply.result c.ino_reply.ensures on)

pub returns-in-Create-clause-in_step : goal.returns-in-Create-clause-in_step
returns-in-Create-clause-in_step g c = λ on. c.create.ensures.in_step (not_stopped SaysIno c.create.result c.ino_reply-in-Create.result c.ino_reply-in-Create.ensures on)

pub returns-in-Write-clause-in_step : goal.returns-in-Write-clause-in_step
returns-in-Write-clause-in_step g c = λ on. c.write.ensures.in_step (not_stopped SaysCount c.write.result c.count_reply.result c.count_reply.ensures on)

pub returns-in-Read-clause-in_step : goal.returns-in-Read-clause-in_step
returns-in-Read-clause-in_step g c = λ on. c.read.ensures.in_step (not_stopped SaysBytes c.read.result c.bytes_reply.result c.bytes_reply.ensures on)

pub returns-in-Truncate-clause-in_step : goal.returns-in-Truncate-clause-in_step
returns-in-Truncate-clause-in_step g c = λ on. c.truncate.ensures.in_step (not_stopped {T = Unit {0}} SaysDone c.truncate.result c.done_reply.result c.done_reply.ensures on)

pub returns-in-Region-clause-in_step : goal.returns-in-Region-clause-in_step
returns-in-Region-clause-in_step g c = λ on. c.make_region.ensures.in_step (not_stopped SaysIno c.make_region.result c.ino_reply-in-Region.result c.ino_reply-in-Region.ensures on)

pub returns-in-Stat-clause-in_step : goal.returns-in-Stat-clause-in_step
returns-in-Stat-clause-in_step g c = λ on. c.stat.ensures.in_step (not_stopped SaysStat c.stat.result c.stat_reply.result c.stat_reply.ensures on)

pub answer_by_name-requires-clause-by_name : goal.answer_by_name-requires-clause-by_name
answer_by_name-requires-clause-by_name g c =
    let d = c.in_default in
    left_by_name c.args.request.now (record { mkdir = d.not-Mkdir; create = d.not-Create; region = d.not-Region; write = d.not-Write; read = d.not-Read; truncate = d.not-Truncate; stat = d.not-Stat }) c.requires.files

pub mkdir-requires-clause-path : goal.mkdir-requires-clause-path
mkdir-requires-clause-path g c = subst IsPath (sym c.as_slice.ensures) (subst IsRequest c.in-Mkdir.is c.requires.request)

pub create-requires-clause-path : goal.create-requires-clause-path
create-requires-clause-path g c = subst IsPath (sym c.as_slice-in-Create.ensures) (subst IsRequest c.in-Create.is c.requires.request)

pub write-requires-clause-path : goal.write-requires-clause-path
write-requires-clause-path g c = subst IsPath (sym c.as_slice-in-Write.ensures) (subst IsRequest c.in-Write.is c.requires.request).0

pub read-requires-clause-path : goal.read-requires-clause-path
read-requires-clause-path g c = subst IsPath (sym c.as_slice-in-Read.ensures) (subst IsRequest c.in-Read.is c.requires.request).0

pub truncate-requires-clause-path : goal.truncate-requires-clause-path
truncate-requires-clause-path g c = subst IsPath (sym c.as_slice-in-Truncate.ensures) (subst IsRequest c.in-Truncate.is c.requires.request)

pub make_region-requires-clause-path : goal.make_region-requires-clause-path
make_region-requires-clause-path g c = subst IsPath (sym c.as_slice-in-Region.ensures) (subst IsRequest c.in-Region.is c.requires.request).0

pub stat-requires-clause-path : goal.stat-requires-clause-path
stat-requires-clause-path g c = subst IsPath (sym c.as_slice-in-Stat.ensures) (subst IsRequest c.in-Stat.is c.requires.request)

pub make_region-requires-clause-pages : goal.make_region-requires-clause-pages
make_region-requires-clause-pages g c = (subst IsRequest c.in-Region.is c.requires.request).1

pub make_region-requires-clause-undo : goal.make_region-requires-clause-undo
make_region-requires-clause-undo g c = (subst IsRequest c.in-Region.is c.requires.request).2
