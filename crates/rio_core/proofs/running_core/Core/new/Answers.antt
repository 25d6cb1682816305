use Rattle.rio_core.proofs.running_core.Core.new.Goals as goal

pub invariant_of-result : goal.invariant_of-result
invariant_of-result g c = record { in_step = c.new-memo.ensures _ _ }
