use Rattle.volume_check.proofs.Common.{List, ℕ, ◌+◌, ◌∙◌, ap, arith, refl, slice_index, subst, sym, err_from_is_err_and}
use Rattle.rio_model.specs.Held.{held_of}
use Rattle.rio_model.proofs.ReadStates.{holds_within}
use Rattle.volume_check.specs.Entries.{ino_in}
use Rattle.volume_check.specs.Tree.{Counted}
use Rattle.volume_check.specs.declared.name_counts.NameCount.{NameCount}
use Rattle.volume_check.proofs.Counting.{counted_entry, counted_node, counted_other}
use Rattle.volume_check.proofs.EntryRules.{entries_end, entry_read, said_is}
use Rattle.volume_check.proofs.Looking.{looked_err, looked_quiet, refused_err, looked_none}
use Rattle.volume_check.proofs.name_counts.count_entries.Goals as goal

pub returns-in_err-words-clause-unrefused : goal.returns-in_err-words-clause-unrefused
returns-in_err-words-clause-unrefused g c =
    let p = err_from_is_err_and c.from_residual.result c.from_residual.ensures.1 in
    refused_err (λ _ _. ⊥) (λ _ _. ⊥) c.read_entries.result c.from_residual.result _ p.0 c.in_err-words.was p.1 p.2 (λ rule b h. h) c.read_entries.ensures.unrefused

pub returns-in_err-words-clause-looked : goal.returns-in_err-words-clause-looked
returns-in_err-words-clause-looked g c =
    let p = err_from_is_err_and c.from_residual.result c.from_residual.ensures.1 in
    looked_err g.V.Blocks.seen g.V.Blocks.health g.V.Blocks.sound g.V.Blocks.passes _ _ c.read_entries.result c.from_residual.result _ p.0 c.in_err-words.was p.1 p.2 c.read_entries.ensures.looked

pub returns-clause-looked : goal.returns-clause-looked
returns-clause-looked g c = looked_quiet g.V.Blocks.seen g.V.Blocks.health g.V.Blocks.sound g.V.Blocks.passes _ _ _ _ tt tt c.in_ok-words.ensures.looked

pub returns-then-kind-ne-DIRECTORY-clause-counts : goal.returns-then-kind-ne-DIRECTORY-clause-counts
returns-then-kind-ne-DIRECTORY-clause-counts g c =
    let s = g.V.Blocks.seen c.args.v.now in
    let n = c.args.inodes.now in
    counted_other n.shape (held_of n.shape s.words) c.args.i.0 c.args.counts.now.items (λ dir. c.if-kind-ne-DIRECTORY.true (c.kind.ensures ∙ sym (said_is s n c.args.i.0 _ c.requires.inodes c.requires.ino refl) ∙ dir)) c.requires.counts

pub loop-j-init : goal.loop-j-init
loop-j-init g c = c.requires.counts

pub count_name-requires : goal.count_name-requires
count_name-requires g c =
    let s = g.V.Blocks.seen c.args.v.now in
    let n = c.args.inodes.now in
    let held = held_of n.shape s.words in
    let d : ℕ = c.args.i.0 in
    let dir = said_is s n d 1 c.requires.inodes c.requires.ino (sym c.kind.ensures ∙ c.if-kind-ne-DIRECTORY.false) in
    let less = c.loop-j-test.true in
    let read = entry_read n.shape held d c.loop-j.j c.named_ino.result.0 c.in_ok-words.words.items (holds_within n.shape s.words) c.requires.entries dir c.in_ok-words.ensures.words (omega arith) (c.named_ino.ensures ∙ ap (λ (xs : List ℕ). ino_in (slice_index xs) c.loop-j.j) c.deref.ensures.value) in
    let to = read.is_ino.to in
    let len = c.loop-j.invariant.len in
    omega (arith, to, len)

pub loop-j-preserved : goal.loop-j-preserved
loop-j-preserved g c =
    let s = g.V.Blocks.seen c.args.v.now in
    let n = c.args.inodes.now in
    let held = held_of n.shape s.words in
    let d : ℕ = c.args.i.0 in
    let dir = said_is s n d 1 c.requires.inodes c.requires.ino (sym c.kind.ensures ∙ c.if-kind-ne-DIRECTORY.false) in
    let less = c.loop-j-test.true in
    let read = entry_read n.shape held d c.loop-j.j c.named_ino.result.0 c.in_ok-words.words.items (holds_within n.shape s.words) c.requires.entries dir c.in_ok-words.ensures.words (omega arith) (c.named_ino.ensures ∙ ap (λ (xs : List ℕ). ino_in (slice_index xs) c.loop-j.j) c.deref.ensures.value) in
    subst (λ (xs : List NameCount). Counted n.shape held d (c.loop-j.j + 1) xs) (sym c.count_name.ensures)
    (counted_entry n.shape held d c.loop-j.j c.named_ino.result.0 c.loop-j.counts.items c.loop-j.invariant read.entry read.ino read.is_ino.to)

pub returns-clause-counts : goal.returns-clause-counts
returns-clause-counts g c =
    let s = g.V.Blocks.seen c.args.v.now in
    let n = c.args.inodes.now in
    let held = held_of n.shape s.words in
    counted_node n.shape held c.args.i.0 c.loop-j.j c.loop-j.counts.items (λ j entry. let less = entries_end held c.args.i.0 c.in_ok-words.words.items c.in_ok-words.ensures.words j entry in let end = c.loop-j-test.false in omega arith) c.loop-j.invariant

pub returns-then-kind-ne-DIRECTORY-clause-looked : goal.returns-then-kind-ne-DIRECTORY-clause-looked
returns-then-kind-ne-DIRECTORY-clause-looked g c = looked_none g.V.Blocks.seen g.V.Blocks.health g.V.Blocks.sound g.V.Blocks.passes c.args.v.now _ (g.met.V.Blocks.passes_refl c.args.v.now) c.requires.can.keeps tt

pub read_entries-requires-clause-directory : goal.read_entries-requires-clause-directory
read_entries-requires-clause-directory g c = sym c.kind.ensures ∙ c.if-kind-ne-DIRECTORY.false
