use Rattle.volume_check.proofs.Common.{◌+◌, ◌≡◌, arith, subst, err_from_is_err_and, BlockWords}
use Rattle.rio_model.specs.Held.{held_of}
use Rattle.rio_model.specs.VolumeRules.{EntryRule, IsMapped}
use Rattle.volume_check.specs.Tree.{Counted}
use Rattle.volume_check.proofs.Chains.{inodes_on, words_back, words_on}
use Rattle.volume_check.proofs.LookOn.{next_ino}
use Rattle.volume_check.proofs.Looking.{can_go_on, on_err, on_ok, looked_none, on_quiet, quiet_memory, refused_err, refused_memory}
use Rattle.volume_check.proofs.name_counts.count_names.Goals as goal

pub count_entries-requires-clause-can : goal.count_entries-requires-clause-can
count_entries-requires-clause-can g c = can_go_on g.V.Blocks.seen g.V.Blocks.health g.V.Blocks.sound g.V.Blocks.passes g.met.V.Blocks.passes_trans _ _ c.requires.can c.loop-k.invariant.looked

pub count_entries-requires-clause-inodes : goal.count_entries-requires-clause-inodes
count_entries-requires-clause-inodes g c = inodes_on (g.V.Blocks.seen c.args.v.now) (g.V.Blocks.seen c.loop-k.v) c.args.inodes.now c.loop-k.invariant.looked.looks c.requires.inodes

pub count_entries-requires-clause-mapped : goal.count_entries-requires-clause-mapped
count_entries-requires-clause-mapped g c = words_on (g.V.Blocks.seen c.args.v.now) (g.V.Blocks.seen c.loop-k.v) (λ (f : BlockWords). IsMapped c.args.inodes.now.shape f) c.loop-k.invariant.looked.looks c.requires.mapped

pub count_entries-requires-clause-entries : goal.count_entries-requires-clause-entries
count_entries-requires-clause-entries g c = words_on (g.V.Blocks.seen c.args.v.now) (g.V.Blocks.seen c.loop-k.v) (λ (f : BlockWords). EntryRule (held_of c.args.inodes.now.shape f)) c.loop-k.invariant.looked.looks c.requires.entries

pub count_entries-requires-clause-ino : goal.count_entries-requires-clause-ino
count_entries-requires-clause-ino g c = next_ino c.args.inodes.now.shape c.loop-k.k c.loop-k-test.true

pub count_entries-requires-clause-counts : goal.count_entries-requires-clause-counts
count_entries-requires-clause-counts g c = words_on (g.V.Blocks.seen c.args.v.now) (g.V.Blocks.seen c.loop-k.v) (λ (f : BlockWords). Counted c.args.inodes.now.shape (held_of c.args.inodes.now.shape f) (c.loop-k.k + 1) 0 c.loop-k.counts.items) c.loop-k.invariant.looked.looks c.loop-k.invariant.counted

pub returns-in_err-count_entries-clause-looked : goal.returns-in_err-count_entries-clause-looked
returns-in_err-count_entries-clause-looked g c =
    let p = err_from_is_err_and c.from_residual-in_err-count_entries.result c.from_residual-in_err-count_entries.ensures.1 in
    on_err g.V.Blocks.seen g.V.Blocks.health g.V.Blocks.sound g.V.Blocks.passes g.met.V.Blocks.passes_trans _ _ _ c.count_entries.result c.from_residual-in_err-count_entries.result _ p.0 c.loop-k.invariant.looked c.in_err-count_entries.was p.1 p.2 c.count_entries.ensures.looked

pub loop-k-preserved : goal.loop-k-preserved
loop-k-preserved g c = record {
  looked = on_ok g.V.Blocks.seen g.V.Blocks.health g.V.Blocks.sound g.V.Blocks.passes g.met.V.Blocks.passes_trans _ _ _ _ c.loop-k.invariant.looked c.in_ok-count_entries.ensures.looked;
  counted = words_back (g.V.Blocks.seen c.args.v.now) (g.V.Blocks.seen c.loop-k.v) (λ (f : BlockWords). Counted c.args.inodes.now.shape (held_of c.args.inodes.now.shape f) (c.loop-k.k + 1 + 1) 0 c.count_entries.new.counts.items) c.loop-k.invariant.looked.looks c.in_ok-count_entries.ensures.counts;
}

pub returns-clause-counts : goal.returns-clause-counts
returns-clause-counts g c =
    let end : c.loop-k.k ≡ c.args.inodes.now.shape.inodes = (let past = c.loop-k-test.false in let most = c.loop-k.auto.k-end in omega arith) in
    subst (λ m. Counted c.args.inodes.now.shape (held_of c.args.inodes.now.shape (g.V.Blocks.seen c.args.v.now).words) (m + 1) 0 c.loop-k.counts.items) end c.loop-k.invariant.counted

pub returns-in_err-counts-clause-unrefused : goal.returns-in_err-counts-clause-unrefused
returns-in_err-counts-clause-unrefused g c =
    let p = err_from_is_err_and c.from_residual.result c.from_residual.ensures.1 in
    refused_memory (λ _ _. ⊥) c.from_residual.result p.0 p.1 p.2

pub returns-in_err-counts-clause-looked : goal.returns-in_err-counts-clause-looked
returns-in_err-counts-clause-looked g c =
    let p = err_from_is_err_and c.from_residual.result c.from_residual.ensures.1 in
    looked_none g.V.Blocks.seen g.V.Blocks.health g.V.Blocks.sound g.V.Blocks.passes c.args.v.now c.from_residual.result (g.met.V.Blocks.passes_refl c.args.v.now) c.requires.can.keeps (quiet_memory c.from_residual.result p.0 p.1 p.2)

pub returns-in_err-count_entries-clause-unrefused : goal.returns-in_err-count_entries-clause-unrefused
returns-in_err-count_entries-clause-unrefused g c =
    let p = err_from_is_err_and c.from_residual-in_err-count_entries.result c.from_residual-in_err-count_entries.ensures.1 in
    refused_err (λ _ _. ⊥) (λ _ _. ⊥) c.count_entries.result c.from_residual-in_err-count_entries.result _ p.0 c.in_err-count_entries.was p.1 p.2 (λ rule b h. h) c.count_entries.ensures.unrefused

pub returns-clause-looked : goal.returns-clause-looked
returns-clause-looked g c = on_quiet g.V.Blocks.seen g.V.Blocks.health g.V.Blocks.sound g.V.Blocks.passes _ _ _ tt c.loop-k.invariant.looked
