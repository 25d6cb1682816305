use Rattle.volume_check.proofs.Common.{List, ℕ, ◌∙◌, refl, subst, sym, err_from_is_err_and}
use Rattle.rio_model.specs.Held.{held_of}
use Rattle.volume_check.specs.Entries.{HasEntries}
use Rattle.volume_check.proofs.EntryRules.{at_entry, entry_at, entry_none, said_is}
use Rattle.volume_check.proofs.Looking.{looked_err, looked_quiet, refused_err, looked_none}
use Rattle.volume_check.proofs.entries.keeps_entries.Goals as goal

pub returns-in_err-words-clause-unrefused : goal.returns-in_err-words-clause-unrefused
returns-in_err-words-clause-unrefused g c =
    let p = err_from_is_err_and c.from_residual.result c.from_residual.ensures.1 in
    refused_err (λ _ _. ⊥) (λ _ _. ⊥) c.read_entries.result c.from_residual.result _ p.0 c.in_err-words.was p.1 p.2 (λ rule b h. h) c.read_entries.ensures.unrefused

pub returns-in_err-words-clause-looked : goal.returns-in_err-words-clause-looked
returns-in_err-words-clause-looked g c =
    let p = err_from_is_err_and c.from_residual.result c.from_residual.ensures.1 in
    looked_err g.V.Blocks.seen g.V.Blocks.health g.V.Blocks.sound g.V.Blocks.passes _ _ c.read_entries.result c.from_residual.result _ p.0 c.in_err-words.was p.1 p.2 c.read_entries.ensures.looked

pub returns-clause-looked : goal.returns-clause-looked
returns-clause-looked g c = looked_quiet g.V.Blocks.seen g.V.Blocks.health g.V.Blocks.sound g.V.Blocks.passes _ _ _ _ tt tt c.in_ok-words.ensures.looked

pub returns-then-kind-ne-DIRECTORY-clause-keeps : goal.returns-then-kind-ne-DIRECTORY-clause-keeps
returns-then-kind-ne-DIRECTORY-clause-keeps g c = (
  λ e. entry_none (held_of c.args.inodes.now.shape (g.V.Blocks.seen c.args.v.now).words) c.args.i.0 c.kind.result (said_is (g.V.Blocks.seen c.args.v.now) c.args.inodes.now c.args.i.0 c.kind.result c.requires.inodes c.requires.ino (sym c.kind.ensures)) c.if-kind-ne-DIRECTORY.true,
  λ h. refl,
)

pub returns-clause-keeps : goal.returns-clause-keeps
returns-clause-keeps g c =
    let s = g.V.Blocks.seen c.args.v.now in
    let n = c.args.inodes.now in
    let dir = said_is s n c.args.i.0 1 c.requires.inodes c.requires.ino (sym c.kind.ensures ∙ c.if-kind-ne-DIRECTORY.false) in
    let has = subst (λ (xs : List ℕ). HasEntries (held_of n.shape s.words c.args.i.0) xs) (sym c.deref.ensures.value) c.in_ok-words.ensures.words in (
      λ e. entry_at s n c.args.i.0 c.deref.result.now c.requires.inodes has (c.are_entries.ensures.0 e),
      λ h. c.are_entries.ensures.1 (at_entry s n c.args.i.0 c.deref.result.now c.requires.inodes dir has h),
    )

pub returns-then-kind-ne-DIRECTORY-clause-looked : goal.returns-then-kind-ne-DIRECTORY-clause-looked
returns-then-kind-ne-DIRECTORY-clause-looked g c = looked_none g.V.Blocks.seen g.V.Blocks.health g.V.Blocks.sound g.V.Blocks.passes c.args.v.now _ (g.met.V.Blocks.passes_refl c.args.v.now) c.requires.can.keeps tt

pub read_entries-requires-clause-directory : goal.read_entries-requires-clause-directory
read_entries-requires-clause-directory g c = sym c.kind.ensures ∙ c.if-kind-ne-DIRECTORY.false
