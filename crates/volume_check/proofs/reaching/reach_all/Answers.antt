use Rattle.volume_check.proofs.Common.{[], ◌<◌, ◌∙◌, ◌≡◌, arith, length, refl, slice_index, subst, sym, err_from_is_err_and, BlockWords, Ino}
use Rattle.rio_model.specs.Held.{held_of}
use Rattle.rio_model.specs.VolumeRules.{EntryRule, IsMapped}
use Rattle.rio_model.proofs.PlacedRules.{root_ino}
use Rattle.volume_check.specs.Inodes.{said}
use Rattle.volume_check.specs.Tree.{AllEntered, Found, IsReached, dir_numbers}
use Rattle.volume_check.proofs.Chains.{inodes_on, words_back, words_on}
use Rattle.volume_check.proofs.EntryRules.{said_is}
use Rattle.volume_check.proofs.Looking.{can_go_on, on_err, on_none, on_ok, looked_none, on_quiet, quiet_memory, refused_err, refused_memory}
use Rattle.volume_check.proofs.ReachedBy.{all_reached, dir_is, dirs_long, enter_found, enter_reaches, entered_more, found_none}
use Rattle.volume_check.proofs.reaching.reach_all.Goals as goal

pub loop-next-init : goal.loop-next-init
loop-next-init g c =
    let s = g.V.Blocks.seen c.args.v.now in
    let n = c.args.inodes.now in
    let held = held_of n.shape s.words in
    let root : Ino = record { 0 = 1 } in
    let ino = root_ino n.shape c.requires.inodes.served.sizes in
    let small : 1 < length c.in_ok-reach.reach.reached.items = (let len = c.in_ok-reach.ensures.len in let to = ino.to in omega (arith, len, to)) in
    record {
      looked = on_none g.V.Blocks.seen g.V.Blocks.health g.V.Blocks.sound g.V.Blocks.passes c.args.v.now (g.met.V.Blocks.passes_refl c.args.v.now) c.requires.can.keeps;
      found = enter_found n.shape held (said n 1 0) root [] c.in_ok-reach.reach c.enter.new.self (found_none n.shape held c.in_ok-reach.reach c.in_ok-reach.ensures.len c.in_ok-reach.ensures.none c.in_ok-reach.ensures.no_dirs) ino (sym (said_is s n 1 (said n 1 0) c.requires.inodes ino refl)) refl c.in_ok-enter.ensures;
      root = enter_reaches (said n 1 0) root c.in_ok-reach.reach c.enter.new.self small c.in_ok-enter.ensures;
      within = omega arith;
      entered = λ k less j entry. absurd (omega (arith, less));
    }

pub enter_entries-requires-clause-can : goal.enter_entries-requires-clause-can
enter_entries-requires-clause-can g c = can_go_on g.V.Blocks.seen g.V.Blocks.health g.V.Blocks.sound g.V.Blocks.passes g.met.V.Blocks.passes_trans _ _ c.requires.can c.loop-next.invariant.looked

pub enter_entries-requires-clause-inodes : goal.enter_entries-requires-clause-inodes
enter_entries-requires-clause-inodes g c = inodes_on (g.V.Blocks.seen c.args.v.now) (g.V.Blocks.seen c.loop-next.v) c.args.inodes.now c.loop-next.invariant.looked.looks c.requires.inodes

pub enter_entries-requires-clause-mapped : goal.enter_entries-requires-clause-mapped
enter_entries-requires-clause-mapped g c = words_on (g.V.Blocks.seen c.args.v.now) (g.V.Blocks.seen c.loop-next.v) (λ (f : BlockWords). IsMapped c.args.inodes.now.shape f) c.loop-next.invariant.looked.looks c.requires.mapped

pub enter_entries-requires-clause-entries : goal.enter_entries-requires-clause-entries
enter_entries-requires-clause-entries g c = words_on (g.V.Blocks.seen c.args.v.now) (g.V.Blocks.seen c.loop-next.v) (λ (f : BlockWords). EntryRule (held_of c.args.inodes.now.shape f)) c.loop-next.invariant.looked.looks c.requires.entries

pub enter_entries-requires-clause-found : goal.enter_entries-requires-clause-found
enter_entries-requires-clause-found g c = words_on (g.V.Blocks.seen c.args.v.now) (g.V.Blocks.seen c.loop-next.v) (λ (f : BlockWords). Found c.args.inodes.now.shape (held_of c.args.inodes.now.shape f) c.loop-next.reach) c.loop-next.invariant.looked.looks c.loop-next.invariant.found

pub enter_entries-requires-clause-reached : goal.enter_entries-requires-clause-reached
enter_entries-requires-clause-reached g c =
    let long = dirs_long c.loop-next.reach in
    let less = c.loop-next-test.true in
    let many = c.len.ensures in
    let small : c.loop-next.next < length (dir_numbers c.loop-next.reach) = omega arith in
    subst (λ d. IsReached c.loop-next.reach d) (dir_is c.loop-next.reach c.loop-next.next c.index-dir.result.now small c.index-dir.ensures) (c.loop-next.invariant.found.dirs c.loop-next.next small).0

pub enter_entries-requires-clause-directory : goal.enter_entries-requires-clause-directory
enter_entries-requires-clause-directory g c =
    let s = g.V.Blocks.seen c.args.v.now in
    let n = c.args.inodes.now in
    let long = dirs_long c.loop-next.reach in
    let less = c.loop-next-test.true in
    let many = c.len.ensures in
    let small : c.loop-next.next < length (dir_numbers c.loop-next.reach) = omega arith in
    let at = c.loop-next.invariant.found.dirs c.loop-next.next small in
    let is = dir_is c.loop-next.reach c.loop-next.next c.index-dir.result.now small c.index-dir.ensures in
    subst (λ d. said n d 0 ≡ 1) is (sym (said_is s n (slice_index (dir_numbers c.loop-next.reach) c.loop-next.next) _ c.requires.inodes (c.loop-next.invariant.found.inos _ at.0) refl) ∙ at.1)

pub returns-in_err-enter_entries-clause-looked : goal.returns-in_err-enter_entries-clause-looked
returns-in_err-enter_entries-clause-looked g c =
    let p = err_from_is_err_and c.from_residual-in_err-enter_entries.result c.from_residual-in_err-enter_entries.ensures.1 in
    on_err g.V.Blocks.seen g.V.Blocks.health g.V.Blocks.sound g.V.Blocks.passes g.met.V.Blocks.passes_trans _ _ _ c.enter_entries.result c.from_residual-in_err-enter_entries.result _ p.0 c.loop-next.invariant.looked c.in_err-enter_entries.was p.1 p.2 c.enter_entries.ensures.looked

pub loop-next-preserved : goal.loop-next-preserved
loop-next-preserved g c =
    let s = g.V.Blocks.seen c.args.v.now in
    let t = g.V.Blocks.seen c.loop-next.v in
    let shape = c.args.inodes.now.shape in
    let inv = c.loop-next.invariant in
    let call = c.in_ok-enter_entries.ensures in
    let long = dirs_long c.loop-next.reach in
    let less = c.loop-next-test.true in
    let many = c.len.ensures in
    let small : c.loop-next.next < length (dir_numbers c.loop-next.reach) = omega arith in
    let more = call.grows.more in
    record {
      looked = on_ok g.V.Blocks.seen g.V.Blocks.health g.V.Blocks.sound g.V.Blocks.passes g.met.V.Blocks.passes_trans _ _ _ _ inv.looked call.looked;
      found = words_back s t (λ (f : BlockWords). Found shape (held_of shape f) c.enter_entries.new.reach) inv.looked.looks call.found;
      root = call.grows.reached 1 inv.root;
      within = omega (arith, more, small);
      entered = λ k below. entered_more (held_of shape s.words) c.loop-next.reach c.enter_entries.new.reach c.loop-next.next c.index-dir.result.now.0 k call.grows small (dir_is c.loop-next.reach c.loop-next.next c.index-dir.result.now small c.index-dir.ensures) inv.entered (words_back s t (λ (f : BlockWords). AllEntered (held_of shape f) c.enter_entries.new.reach c.index-dir.result.now.0) inv.looked.looks call.all) below;
    }

pub returns-clause-reached : goal.returns-clause-reached
returns-clause-reached g c =
    let long = dirs_long c.loop-next.reach in
    let past = c.loop-next-test.false in
    let many = c.len.ensures in
    all_reached c.args.inodes.now.shape (held_of c.args.inodes.now.shape (g.V.Blocks.seen c.args.v.now).words) c.loop-next.reach c.loop-next.invariant.found c.loop-next.invariant.root (λ k small. c.loop-next.invariant.entered k (omega arith))

pub returns-in_err-reach-clause-unrefused : goal.returns-in_err-reach-clause-unrefused
returns-in_err-reach-clause-unrefused g c =
    let p = err_from_is_err_and c.from_residual.result c.from_residual.ensures.1 in
    refused_memory (λ _ _. ⊥) c.from_residual.result p.0 p.1 p.2

pub returns-in_err-reach-clause-looked : goal.returns-in_err-reach-clause-looked
returns-in_err-reach-clause-looked g c =
    let p = err_from_is_err_and c.from_residual.result c.from_residual.ensures.1 in
    looked_none g.V.Blocks.seen g.V.Blocks.health g.V.Blocks.sound g.V.Blocks.passes c.args.v.now c.from_residual.result (g.met.V.Blocks.passes_refl c.args.v.now) c.requires.can.keeps (quiet_memory c.from_residual.result p.0 p.1 p.2)

pub returns-in_err-enter-clause-unrefused : goal.returns-in_err-enter-clause-unrefused
returns-in_err-enter-clause-unrefused g c =
    let p = err_from_is_err_and c.from_residual-in_err-enter.result c.from_residual-in_err-enter.ensures.1 in
    refused_memory (λ _ _. ⊥) c.from_residual-in_err-enter.result p.0 p.1 p.2

pub returns-in_err-enter-clause-looked : goal.returns-in_err-enter-clause-looked
returns-in_err-enter-clause-looked g c =
    let p = err_from_is_err_and c.from_residual-in_err-enter.result c.from_residual-in_err-enter.ensures.1 in
    looked_none g.V.Blocks.seen g.V.Blocks.health g.V.Blocks.sound g.V.Blocks.passes c.args.v.now c.from_residual-in_err-enter.result (g.met.V.Blocks.passes_refl c.args.v.now) c.requires.can.keeps (quiet_memory c.from_residual-in_err-enter.result p.0 p.1 p.2)

pub returns-in_err-enter_entries-clause-unrefused : goal.returns-in_err-enter_entries-clause-unrefused
returns-in_err-enter_entries-clause-unrefused g c =
    let p = err_from_is_err_and c.from_residual-in_err-enter_entries.result c.from_residual-in_err-enter_entries.ensures.1 in
    refused_err (λ _ _. ⊥) (λ _ _. ⊥) c.enter_entries.result c.from_residual-in_err-enter_entries.result _ p.0 c.in_err-enter_entries.was p.1 p.2 (λ rule b h. h) c.enter_entries.ensures.unrefused

pub returns-clause-looked : goal.returns-clause-looked
returns-clause-looked g c = on_quiet g.V.Blocks.seen g.V.Blocks.health g.V.Blocks.sound g.V.Blocks.passes _ _ _ tt c.loop-next.invariant.looked
