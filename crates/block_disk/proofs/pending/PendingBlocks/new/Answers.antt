use Rattle.std.proofs.Common.{ap, length, ◌∙◌, arith}
use Rattle.std.proofs.lemmas.List.{length-replicate}
use Rattle.std.specs.Prelude.{Bool, List, false}
use Rattle.block_disk.proofs.Marks.{lists_clear}
use Rattle.block_disk.proofs.pending.PendingBlocks.new.Goals as goal

pub invariant_of-result-clause-room : goal.invariant_of-result-clause-room
invariant_of-result-clause-room c = omega (arith, c.in_ok-numbers.ensures.capacity, ap (λ (marks : List Bool). length marks) (c.in_ok-marks.ensures.items_if_clones_equal (λ y e. e)), length-replicate c.args.blocks false)

pub invariant_of-result-clause-lists : goal.invariant_of-result-clause-lists
invariant_of-result-clause-lists c = lists_clear c.args.blocks _ _ c.in_ok-numbers.ensures.items (c.in_ok-marks.ensures.items_if_clones_equal (λ y e. e))

pub returns-clause-count : goal.returns-clause-count
returns-clause-count c = ap (λ (marks : List Bool). length marks) (c.in_ok-marks.ensures.items_if_clones_equal (λ y e. e)) ∙ length-replicate c.args.blocks false
