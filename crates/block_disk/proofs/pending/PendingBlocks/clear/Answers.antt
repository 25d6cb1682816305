use Rattle.std.proofs.Common.{ℕ, List, sym, subst, arith}
use Rattle.block_disk.specs.BlockLists.{Lists}
use Rattle.block_disk.proofs.Marks.{listed_within, lists_clear, none_left}
use Rattle.block_disk.proofs.pending.PendingBlocks.clear.Goals as goal

pub clear_marks-requires : goal.clear_marks-requires
clear_marks-requires c = record { within = listed_within _ _ (subst (λ (ns : List ℕ). Lists ns c.args.self.now.marks.items) (sym c.deref.ensures.value) c.args.self.now.lists) }

pub invariant_of-self-clause-room : goal.invariant_of-self-clause-room
invariant_of-self-clause-room c = omega (arith, c.clear_marks.ensures.count, c.clear.ensures.capacity, c.args.self.now.room)

pub invariant_of-self-clause-lists : goal.invariant_of-self-clause-lists
invariant_of-self-clause-lists c =
    let lists = subst (λ (ns : List ℕ). Lists ns c.args.self.now.marks.items) (sym c.deref.ensures.value) c.args.self.now.lists in
    lists_clear _ _ _ c.clear.ensures.items (none_left _ _ _ lists c.clear_marks.ensures.count c.clear_marks.ensures.cleared c.clear_marks.ensures.unmarked)

pub returns : goal.returns
returns c =
    let lists = subst (λ (ns : List ℕ). Lists ns c.args.self.now.marks.items) (sym c.deref.ensures.value) c.args.self.now.lists in
    none_left _ _ _ lists c.clear_marks.ensures.count c.clear_marks.ensures.cleared c.clear_marks.ensures.unmarked
