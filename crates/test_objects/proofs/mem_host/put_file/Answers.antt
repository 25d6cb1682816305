use Rattle.std.proofs.Common.{ap, ◌∙◌}
use Rattle.std.specs.String.{string_bytes}
use Rattle.test_objects.specs.MemHosts.{files_of}
use Rattle.test_objects.proofs.Files.{push_is, set_is}
use Rattle.test_objects.proofs.mem_host.put_file.Goals as goal

pub returns-in-Some-clause-ok : goal.returns-in-Some-clause-ok
returns-in-Some-clause-ok c =
    let first = rw c.deref.ensures.value at c.in-Some.ensures in
    set_is c.args.files.now.items (string_bytes c.args.name.now) c.in-Some.i (record { name = c.index_mut.result.now.name; bytes = c.args.bytes })
    (ap (λ f. string_bytes f.name) c.index_mut.ensures.value ∙ first.here c.index_mut.result.now) first

pub returns-in_ok-push-in-None-clause-ok : goal.returns-in_ok-push-in-None-clause-ok
returns-in_ok-push-in-None-clause-ok c =
    let lacks = rw c.deref.ensures.value at c.in-None.ensures in
    ap files_of c.in_ok-push-in-None.ensures.items
    ∙ push_is c.args.files.now.items (string_bytes c.args.name.now) (record { name = c.in_ok-name-in-None.name; bytes = c.args.bytes }) c.in_ok-name-in-None.ensures.cases lacks
