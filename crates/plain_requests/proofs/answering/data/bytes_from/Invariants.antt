use Rattle.plain_requests.proofs.Common.{◌≡◌}
use Rattle.std.specs.Prelude.{slice_index_or}
use Rattle.rio_model.specs.Held.{bytes_in}
use Rattle.plain_requests.proofs.answering.data.bytes_from.Given as goal

-- so many bytes are there
abbrev pub invariant-loop-done : goal.invariant-loop-done
invariant-loop-done l = l.bytes.items ≡ bytes_in (λ w. slice_index_or l.words w 0) l.off l.done
