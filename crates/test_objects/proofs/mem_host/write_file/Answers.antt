use Rattle.std.proofs.Common.{refl}
use Rattle.std.specs.String.{string_bytes}
use Rattle.rio_base.proofs.Exits.{on_err}
use Rattle.test_objects.proofs.Files.{kept_at, made_at, wrote_at}
use Rattle.test_objects.proofs.mem_host.write_file.Goals as goal

pub returns-in_err-overwrite-in-Some-clause-err : goal.returns-in_err-overwrite-in-Some-clause-err
returns-in_err-overwrite-in-Some-clause-err c =
    let first = rw c.deref.ensures.value at c.in-Some.ensures in
    on_err c.from_residual.result _
    (kept_at c.args.files.now.items (string_bytes c.args.name.now) c.in-Some.i c.index_mut.result.now (record { name = c.index_mut.result.now.name; bytes = c.overwrite.new.bytes })
    first c.index_mut.ensures.value refl c.in_err-overwrite-in-Some.ensures.err)

pub returns-in_ok-overwrite-in-Some-clause-ok : goal.returns-in_ok-overwrite-in-Some-clause-ok
returns-in_ok-overwrite-in-Some-clause-ok c =
    let first = rw c.deref.ensures.value at c.in-Some.ensures in
    wrote_at c.args.files.now.items (string_bytes c.args.name.now) c.in-Some.i c.args.off c.args.from.now c.index_mut.result.now (record { name = c.index_mut.result.now.name; bytes = c.overwrite.new.bytes })
    first c.index_mut.ensures.value refl c.in_ok-overwrite-in-Some.ensures.ok

pub returns-in_ok-put_file-in-None-clause-ok : goal.returns-in_ok-put_file-in-None-clause-ok
returns-in_ok-put_file-in-None-clause-ok c =
    let lacks = rw c.deref.ensures.value at c.in-None.ensures in
    let bytes = rw c.new-bytes.ensures.items at c.in_ok-overwrite-in-None.ensures.ok in
    made_at c.args.files.now.items c.put_file.new.files.items (string_bytes c.args.name.now) c.args.off c.args.from.now _ lacks bytes c.in_ok-put_file-in-None.ensures.ok
