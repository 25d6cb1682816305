use Rattle.volume_check.proofs.Common.{List, ℕ, ◌∙◌, ◌∷◌, ◌<◌, ap, arith, inl, inr, length, refl, slice_index, subst, sym, cases_eq, err_from_is_err_and}
use Rattle.rio_model.specs.Held.{held_of}
use Rattle.rio_model.proofs.ReadStates.{holds_within}
use Rattle.volume_check.specs.Entries.{ino_in}
use Rattle.volume_check.specs.Inodes.{said}
use Rattle.volume_check.specs.Tree.{IsReached}
use Rattle.volume_check.proofs.EntryRules.{entries_end, entry_read, said_is}
use Rattle.volume_check.proofs.ReachedBy.{enter_found, enter_grows, enter_reaches, grows_refl, grows_trans}
use Rattle.volume_check.proofs.Looking.{looked_err, looked_quiet, quiet_memory, refused_err, refused_memory}
use Rattle.volume_check.proofs.reaching.enter_entries.Goals as goal

pub returns-in_err-words-clause-unrefused : goal.returns-in_err-words-clause-unrefused
returns-in_err-words-clause-unrefused g c =
    let p = err_from_is_err_and c.from_residual.result c.from_residual.ensures.1 in
    refused_err (λ _ _. ⊥) (λ _ _. ⊥) c.read_entries.result c.from_residual.result _ p.0 c.in_err-words.was p.1 p.2 (λ rule b h. h) c.read_entries.ensures.unrefused

pub returns-in_err-words-clause-looked : goal.returns-in_err-words-clause-looked
returns-in_err-words-clause-looked g c =
    let p = err_from_is_err_and c.from_residual.result c.from_residual.ensures.1 in
    looked_err g.V.Blocks.seen g.V.Blocks.health g.V.Blocks.sound g.V.Blocks.passes _ _ c.read_entries.result c.from_residual.result _ p.0 c.in_err-words.was p.1 p.2 c.read_entries.ensures.looked

pub returns-clause-looked : goal.returns-clause-looked
returns-clause-looked g c = looked_quiet g.V.Blocks.seen g.V.Blocks.health g.V.Blocks.sound g.V.Blocks.passes _ _ _ _ tt tt c.in_ok-words.ensures.looked

pub loop-j-init : goal.loop-j-init
loop-j-init g c = record { found = c.requires.found; grows = grows_refl c.args.reach.now; entered = λ j less entry. absurd (omega (arith, less)) }

pub enter-requires-clause-ino : goal.enter-requires-clause-ino
enter-requires-clause-ino g c =
    let s = g.V.Blocks.seen c.args.v.now in
    let n = c.args.inodes.now in
    let held = held_of n.shape s.words in
    let d : ℕ = c.args.i.0 in
    let dir = said_is s n d 1 c.requires.inodes (c.requires.found.inos d c.requires.reached) c.requires.directory in
    let less = c.loop-j-test.true in
    let read = entry_read n.shape held d c.loop-j.j c.named_ino.result.0 c.in_ok-words.words.items (holds_within n.shape s.words) c.requires.entries dir c.in_ok-words.ensures.words (omega arith) (c.named_ino.ensures ∙ ap (λ (xs : List ℕ). ino_in (slice_index xs) c.loop-j.j) c.deref.ensures.value) in
    read.is_ino

pub returns-in_err-enter-clause-looked : goal.returns-in_err-enter-clause-looked
returns-in_err-enter-clause-looked g c =
    let p = err_from_is_err_and c.from_residual-in_err-enter.result c.from_residual-in_err-enter.ensures.1 in
    looked_quiet g.V.Blocks.seen g.V.Blocks.health g.V.Blocks.sound g.V.Blocks.passes _ _ _ _ tt (quiet_memory c.from_residual-in_err-enter.result p.0 p.1 p.2) c.in_ok-words.ensures.looked

pub loop-j-preserved : goal.loop-j-preserved
loop-j-preserved g c =
    let s = g.V.Blocks.seen c.args.v.now in
    let n = c.args.inodes.now in
    let held = held_of n.shape s.words in
    let d : ℕ = c.args.i.0 in
    let dir = said_is s n d 1 c.requires.inodes (c.requires.found.inos d c.requires.reached) c.requires.directory in
    let less = c.loop-j-test.true in
    let read = entry_read n.shape held d c.loop-j.j c.named_ino.result.0 c.in_ok-words.words.items (holds_within n.shape s.words) c.requires.entries dir c.in_ok-words.ensures.words (omega arith) (c.named_ino.ensures ∙ ap (λ (xs : List ℕ). ino_in (slice_index xs) c.loop-j.j) c.deref.ensures.value) in
    let inv = c.loop-j.invariant in
    let small : c.named_ino.result.0 < length c.loop-j.reach.reached.items = (let to = read.is_ino.to in let len = inv.found.len in omega (arith, to, len)) in
    let way = inv.found.ways d (inv.grows.reached d c.requires.reached) in
    let grows = enter_grows (said n c.named_ino.result.0 0) c.named_ino.result c.loop-j.reach c.enter.new.self small c.in_ok-enter.ensures in
    record {
      found = enter_found n.shape held (said n c.named_ino.result.0 0) c.named_ino.result ((d, c.loop-j.j) ∷ way.0) c.loop-j.reach c.enter.new.self inv.found read.is_ino (sym (said_is s n c.named_ino.result.0 (said n c.named_ino.result.0 0) c.requires.inodes read.is_ino refl)) (way.1, record { entry = read.entry; ino = read.ino }) c.in_ok-enter.ensures;
      grows = grows_trans c.args.reach.now c.loop-j.reach c.enter.new.self inv.grows grows;
      entered = λ j below entry. elim (cases_eq j c.loop-j.j) [
        | inl same ↦ subst (λ x. IsReached c.enter.new.self x) (sym (ap (λ x. ino_in (held d).word x) same ∙ read.ino)) (enter_reaches (said n c.named_ino.result.0 0) c.named_ino.result c.loop-j.reach c.enter.new.self small c.in_ok-enter.ensures)
        | inr other ↦ grows.reached _ (inv.entered j (omega (arith, below, other)) entry)
      ];
    }

pub returns-clause-all : goal.returns-clause-all
returns-clause-all g c = λ j entry. c.loop-j.invariant.entered j (let less = entries_end (held_of c.args.inodes.now.shape (g.V.Blocks.seen c.args.v.now).words) c.args.i.0 c.in_ok-words.words.items c.in_ok-words.ensures.words j entry in let end = c.loop-j-test.false in omega arith) entry

pub returns-in_err-enter-clause-unrefused : goal.returns-in_err-enter-clause-unrefused
returns-in_err-enter-clause-unrefused g c =
    let p = err_from_is_err_and c.from_residual-in_err-enter.result c.from_residual-in_err-enter.ensures.1 in
    refused_memory (λ _ _. ⊥) c.from_residual-in_err-enter.result p.0 p.1 p.2

pub read_entries-requires-clause-ino : goal.read_entries-requires-clause-ino
read_entries-requires-clause-ino g c = c.requires.found.inos c.args.i.0 c.requires.reached
