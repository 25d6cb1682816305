use Rattle.std.proofs.Common.{ℕ, List, set, true, subst, sym, arith}
use Rattle.block_disk.specs.BlockLists.{Lists}
use Rattle.block_disk.proofs.Marks.{lists_more, lists_room, mark_read}
use Rattle.block_disk.proofs.pending.PendingBlocks.mark.Goals as goal

pub push_reserved-requires : goal.push_reserved-requires
push_reserved-requires c = omega (arith, c.args.self.now.room, lists_room _ _ _ c.args.self.now.lists c.requires (mark_read _ _ _ c.requires c.index.ensures c.if-index.false))

pub invariant_of-self-clause-lists : goal.invariant_of-self-clause-lists
invariant_of-self-clause-lists c = subst (λ (ns : List ℕ). Lists ns (set c.args.self.now.marks.items c.args.b.0 true)) (sym c.push_reserved.ensures.items) (lists_more _ _ _ c.args.self.now.lists c.requires (mark_read _ _ _ c.requires c.index.ensures c.if-index.false))
