use Rattle.volume_check.proofs.Common.{ℕ, ◌<◌, ◌∙◌, ap, arith, subst, err_from_is_err_and, pages}
use Rattle.std.proofs.lemmas.List.{length-replicate}
use Rattle.volume_check.specs.Inodes.{layout_of}
use Rattle.volume_check.proofs.Counts.{kind_said, size_said}
use Rattle.volume_check.proofs.Looking.{looked_err, looked_quiet, quiet_memory, refused_err, refused_memory}
use Rattle.volume_check.proofs.NodeNumbers.{has_table, later_said, table_said}
use Rattle.volume_check.proofs.numbers.push_table.Goals as goal

pub read_words-requires-clause-span : goal.read_words-requires-clause-span
read_words-requires-clause-span g c =
    let s = g.V.Blocks.seen c.args.v.now in
    let n = c.args.inodes.now in
    let i = c.args.i.0 in
    let node = (layout_of s n).node i in
    let kind = kind_said s n i c.requires.inodes c.requires.ino in
    let size = size_said s n i c.requires.inodes c.requires.ino in
    let used : 0 < node.kind = subst (λ x. 0 < x) kind c.requires.used in
    let many : 24 < pages node.size = subst (λ x. 24 < pages x) size (let count = c.requires.count in let past = c.requires.past in omega (arith, count, past)) in
    let at = c.indirect-table.ensures ∙ table_said s n i 0 c.requires.inodes c.requires.ino in
    let below = c.requires.numbers.tables 0 (has_table node used many) in
    record { block = omega (arith, at, below); within = (let long = length-replicate {A = ℕ} 512 0 in omega (arith, long)) }

pub returns-in_err-read_words-clause-unrefused : goal.returns-in_err-read_words-clause-unrefused
returns-in_err-read_words-clause-unrefused g c =
    let p = err_from_is_err_and c.from_residual.result c.from_residual.ensures.1 in
    refused_err (λ _ _. ⊥) (λ _ _. ⊥) c.read_words.result c.from_residual.result _ p.0 c.in_err-read_words.was p.1 p.2 (λ rule b h. h) c.read_words.ensures.unrefused

pub returns-in_err-read_words-clause-looked : goal.returns-in_err-read_words-clause-looked
returns-in_err-read_words-clause-looked g c =
    let p = err_from_is_err_and c.from_residual.result c.from_residual.ensures.1 in
    looked_err g.V.Blocks.seen g.V.Blocks.health g.V.Blocks.sound g.V.Blocks.passes _ _ c.read_words.result c.from_residual.result _ p.0 c.in_err-read_words.was p.1 p.2 c.read_words.ensures.looked

pub returns-in_err-push_later-clause-unrefused : goal.returns-in_err-push_later-clause-unrefused
returns-in_err-push_later-clause-unrefused g c =
    let p = err_from_is_err_and c.from_residual-in_err-push_later.result c.from_residual-in_err-push_later.ensures.1 in
    refused_memory (λ _ _. ⊥) c.from_residual-in_err-push_later.result p.0 p.1 p.2

pub returns-in_err-push_later-clause-looked : goal.returns-in_err-push_later-clause-looked
returns-in_err-push_later-clause-looked g c =
    let p = err_from_is_err_and c.from_residual-in_err-push_later.result c.from_residual-in_err-push_later.ensures.1 in
    looked_quiet g.V.Blocks.seen g.V.Blocks.health g.V.Blocks.sound g.V.Blocks.passes _ _ _ _ tt (quiet_memory c.from_residual-in_err-push_later.result p.0 p.1 p.2) c.in_ok-read_words.ensures.looked

pub returns-clause-numbers : goal.returns-clause-numbers
returns-clause-numbers g c =
    let s = g.V.Blocks.seen c.args.v.now in
    let n = c.args.inodes.now in
    let i = c.args.i.0 in
    let node = (layout_of s n).node i in
    let at = c.indirect-table.ensures ∙ table_said s n i 0 c.requires.inodes c.requires.ino in
    let count = c.requires.count in
    let all = ap pages (size_said s n i c.requires.inodes c.requires.ino) in
    let bound = c.requires.numbers.size (subst (λ x. 0 < x) (kind_said s n i c.requires.inodes c.requires.ino) c.requires.used) in
    c.in_ok-push_later.ensures node (λ p past few. later_said s n i p c.indirect-table.result.0 c.read_words.new.into c.requires.inodes c.requires.ino at c.in_ok-read_words.ensures.words past (omega (arith, few, count, all, bound))) at

pub returns-clause-looked : goal.returns-clause-looked
returns-clause-looked g c = looked_quiet g.V.Blocks.seen g.V.Blocks.health g.V.Blocks.sound g.V.Blocks.passes _ _ _ _ tt tt c.in_ok-read_words.ensures.looked

pub push_later-requires-clause-past : goal.push_later-requires-clause-past
push_later-requires-clause-past g c = let past = c.requires.past in omega (arith, past)
