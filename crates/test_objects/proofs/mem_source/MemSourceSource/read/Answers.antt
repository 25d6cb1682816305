use Rattle.std.proofs.Common.{◌+◌, ◌≤◌, length, sym, ap, ◌∙◌, arith}
use Rattle.std.specs.Prelude.{Some}
use Rattle.test_objects.specs.MemStreams.{MemSourceState}
use Rattle.test_objects.proofs.Copies.{given_front}
use Rattle.test_objects.proofs.mem_source.MemSourceSource.read.Goals as goal

pub returns-clause-bytes : goal.returns-clause-bytes
returns-clause-bytes c =
    let fits : c.self.inside.next + c.min-n.result ≤ length c.deref.result.now = omega (arith, c.self.invariant.0, c.deref.ensures.len) in
    ap Some (ap (λ (s : MemSourceState). s.left) (sym c.self.view_is) ∙ given_front _ _ _ _ _ _ c.deref.ensures.value fits c.copy_from_slice.ensures.after)
