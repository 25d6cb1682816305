use Rattle.std.proofs.Common.{◌≡◌, ◌∙◌, ap, rules}
use Rattle.std.specs.String.{string_bytes}
use Rattle.test_objects.specs.MemHosts.{asked_of}
use Rattle.test_objects.proofs.Files.{noted_last}
use Rattle.test_objects.proofs.mem_host.note.Goals as goal

pub returns-clause-ok : goal.returns-clause-ok
returns-clause-ok c =
    let named : string_bytes c.in_ok-name.name ≡ string_bytes c.args.name.now = search rules in
    ap asked_of c.in_ok-push.ensures.items ∙ noted_last c.args.asked.now.items (string_bytes c.args.name.now) c.in_ok-name.name named
