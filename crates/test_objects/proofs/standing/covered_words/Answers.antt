use Rattle.std.proofs.Common.{◌+◌, ◌∙◌, ℕ, List, ap, arith, length, subst, sym}
use Rattle.block_disk.specs.MemDisks.{state_of}
use Rattle.test_objects.specs.Covers.{AreBlocks, PutsBlock, blocks_by}
use Rattle.test_objects.proofs.Reading.{blocks_more, front_of}
use Rattle.test_objects.proofs.standing.covered_words.Goals as goal

pub loop-b-preserved : goal.loop-b-preserved
loop-b-preserved c =
    let old = c.loop-b.found.items in
    let new = c.copy_block.new.to in
    let b = c.loop-b.b in
    let at : List (List ℕ) → ℕ → ℕ → ℕ = blocks_by c.args.shadows c.args.words.now in
    let first = (state_of c.args.disk.now).blocks in
    let put : PutsBlock (at first) b old new = subst (λ (xs : List ℕ). PutsBlock (at first) b xs new) c.deref_mut.ensures.value (subst (λ (d : List (List ℕ)). PutsBlock (at d) b c.deref_mut.result.now new) c.loop-b.invariant.disk c.in_ok-copy_block.ensures.put) in
    let whole = front_of new _ c.loop-b.found.len (omega (arith, put.count, c.deref_mut.ensures.len)) in
    record {
      disk = c.in_ok-copy_block.ensures.disk ∙ c.loop-b.invariant.disk;
      room = c.in_ok-copy_block.ensures.room;
      count = ap length whole ∙ put.count ∙ c.loop-b.invariant.count;
      found = subst (λ (xs : List ℕ). AreBlocks (at first) (b + 1) xs) (sym whole) (blocks_more (at first) b old new put c.loop-b.invariant.found);
    }
