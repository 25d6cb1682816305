use Rattle.volume_check.proofs.Common.{◌%◌, ◌∙◌, ◌<◌, arith, ap, subst, sym, err_from_is_err_and}
use Rattle.rio_model.specs.Held.{held_of}
use Rattle.volume_check.specs.Entries.{HasEntries}
use Rattle.volume_check.specs.Inodes.{said}
use Rattle.volume_check.proofs.Looking.{looked_err, looked_quiet, refused_err}
use Rattle.volume_check.proofs.NodeParts.{entries_front, fits, held_size}
use Rattle.volume_check.proofs.entries.read_entries.Goals as goal

pub page_count-requires : goal.page_count-requires
page_count-requires g c =
    let most = (fits (g.V.Blocks.seen c.args.v.now) c.args.inodes.now c.args.i.0 c.requires.inodes c.requires.mapped.laid.sizes c.requires.ino (omega (arith, c.requires.directory))).most in
    omega (arith, most, c.size-size.ensures)

pub returns-in_err-words-clause-unrefused : goal.returns-in_err-words-clause-unrefused
returns-in_err-words-clause-unrefused g c =
    let p = err_from_is_err_and c.from_residual.result c.from_residual.ensures.1 in
    refused_err (λ _ _. ⊥) (λ _ _. ⊥) c.read_front.result c.from_residual.result _ p.0 c.in_err-words.was p.1 p.2 (λ rule b h. h) c.read_front.ensures.unrefused

pub returns-in_err-words-clause-looked : goal.returns-in_err-words-clause-looked
returns-in_err-words-clause-looked g c =
    let p = err_from_is_err_and c.from_residual.result c.from_residual.ensures.1 in
    looked_err g.V.Blocks.seen g.V.Blocks.health g.V.Blocks.sound g.V.Blocks.passes _ _ c.read_front.result c.from_residual.result _ p.0 c.in_err-words.was p.1 p.2 c.read_front.ensures.looked

pub returns-clause-words : goal.returns-clause-words
returns-clause-words g c =
    let s = g.V.Blocks.seen c.args.v.now in
    let n = c.args.inodes.now in
    let used : 0 < said n c.args.i.0 0 = omega (arith, c.requires.directory) in
    let whole = (fits s n c.args.i.0 c.requires.inodes c.requires.mapped.laid.sizes c.requires.ino used).directory c.requires.directory in
    subst (HasEntries (held_of n.shape s.words c.args.i.0)) (sym c.truncate.ensures.items)
    (entries_front (held_of n.shape s.words c.args.i.0) c.size-size.result c.page_count.result c.in_ok-words.words.items (held_size s n c.args.i.0 c.requires.inodes c.requires.ino used ∙ sym c.size-size.ensures) (ap (λ x. x % 64) c.size-size.ensures ∙ whole) c.page_count.ensures.pages c.in_ok-words.ensures.words)

pub returns-clause-looked : goal.returns-clause-looked
returns-clause-looked g c = looked_quiet g.V.Blocks.seen g.V.Blocks.health g.V.Blocks.sound g.V.Blocks.passes _ _ _ _ tt tt c.in_ok-words.ensures.looked
