use Rattle.std.proofs.Common.{◌≡◌, Some, None, ap, subst}
use Rattle.std.specs.FinMap.{get}
use Rattle.std.specs.String.{string_bytes}
use Rattle.rio_base.specs.Hosts.{Files}
use Rattle.test_objects.specs.MemHosts.{MemHostState, files_of}
use Rattle.test_objects.proofs.Files.{get_none, get_read}
use Rattle.test_objects.proofs.mem_host.MemHost.file.Goals as goal

pub returns-in-Some : goal.returns-in-Some
returns-in-Some c =
    let same : files_of c.self.inside.files.items ≡ c.args.self.now.files = ap (λ (s : MemHostState). s.files) c.self.view_is in
    let first = rw c.deref.ensures.value at c.in-Some.ensures in
    subst (λ (m : Files). get m (string_bytes c.args.name.now) ≡ Some c.index.result.now.bytes.items) same
    (get_read c.self.inside.files.items (string_bytes c.args.name.now) c.in-Some.i c.index.result.now first c.index.ensures)

pub returns-in-None : goal.returns-in-None
returns-in-None c =
    let same : files_of c.self.inside.files.items ≡ c.args.self.now.files = ap (λ (s : MemHostState). s.files) c.self.view_is in
    let lacks = rw c.deref.ensures.value at c.in-None.ensures in
    subst (λ (m : Files). get m (string_bytes c.args.name.now) ≡ None) same (get_none c.self.inside.files.items (string_bytes c.args.name.now) lacks)
