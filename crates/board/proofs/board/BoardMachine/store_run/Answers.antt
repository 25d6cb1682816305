use Rattle.std.proofs.Common.{ℕ, ◌≡◌, ◌<◌, ◌≤◌, ◌+◌, ◌-◌, ◌*◌, ◌/◌, List, length, refl, take, drop, ◌∙◌, sym, ap, subst, arith, is_ok}
use Rattle.std.proofs.lemmas.Result.{err_from_is_err_and}
use Rattle.rio_base.specs.Machine.{Advances, Contents, Falls}
use Rattle.rio_base.proofs.MachineRules.{falls_refl, falls_trans, steps_refl, steps_trans}
use Rattle.rio_base.specs.Memory.{FrontStored}
use Rattle.rio_base.specs.Rules.{true_false}
use Rattle.board.specs.Boards.{protected_count, protected_of, running_of, scratch_of}
use Rattle.board.specs.Guards.{HaltsWithin, MakesSteps, StopsAfter, page_of}
use Rattle.board.proofs.DiskSteps.{disk_contents}
use Rattle.board.proofs.Ran.{Ran, lasts_rest, ran_more, ran_stops, ran_stored, same_rest}
use Rattle.board.proofs.Runs.{advances_halted, steps_advance}
use Rattle.board.proofs.StepRuns.{makes_none, never_at_once, sooner_none}
use Rattle.board.proofs.WordRuns.{front_more, protected_front, run_part}
use Rattle.rio_base.proofs.Exits.{on_err}
use Rattle.board.proofs.board.BoardMachine.store_run.Goals as goal

pub returns-in_err-n-clause-lasts : goal.returns-in_err-n-clause-lasts
returns-in_err-n-clause-lasts g c =
    let i = c.loop-done.invariant in
    let b = c.in_err-n.ensures in
    let mid = c.loop-done.self in
    let end = c.begin_run.new.self in
    let words = g.F.MemWords.words in
    let disk = g.D.DiskBlocks.contents in
    lasts_rest _ _
    (same_rest (words mid.mem) (words end.mem) mid.scratch end.scratch (disk mid.disk) (disk end.disk) mid.guard end.guard (ap disk b.disk) b.open_page
    ∙ ap (λ (m : Contents). record m { words = protected_of (words end.mem) end.scratch }) i.rest)
    (ap length b.protected ∙ i.stored.count)

pub returns-in_err-n-clause-stops : goal.returns-in_err-n-clause-stops
returns-in_err-n-clause-stops g c =
    let i = c.loop-done.invariant in
    let old = c.args.self.now in
    let k = c.loop-done.done in
    let size = protected_count (g.F.MemWords.words old.mem) old.scratch in
    let halts = subst (λ s. HaltsWithin c.loop-done.self.guard (length c.args.from.now - k) s) i.steps.protected c.in_err-n.ensures.halts in
    let all : k + (length c.args.from.now - k) ≡ length c.args.from.now = omega (arith, i.within) in
    (λ e. subst (λ n. HaltsWithin old.guard n size) all ((i.sooner (length c.args.from.now - k)).0 halts), λ h. c.from_residual.ensures.0)

pub loop-done-preserved : goal.loop-done-preserved
loop-done-preserved g c =
    let i = c.loop-done.invariant in
    let b = c.in_ok-n.ensures in
    let words = g.F.MemWords.words in
    let disk = g.D.DiskBlocks.contents in
    let old = c.args.self.now in
    let mid = c.loop-done.self in
    let begun = c.begin_run.new.self in
    let k = c.loop-done.done in
    let n = c.in_ok-n.n in
    let at = c.args.at.0 + k in
    let from = c.args.from.now in
    let run = take n (drop k from) in
    let size : protected_count (words begun.mem) begun.scratch ≡ protected_count (words old.mem) old.scratch = b.ends.steps.protected ∙ i.steps.protected in
    let page : 512 * (c.args.at.0 / 512) + 512 ≤ protected_count (words old.mem) old.scratch = old.open_within (c.args.at.0 / 512) c.requires.page in
    let small : k + n ≤ length from = omega (arith, b.some.1, i.within) in
    let room : at + n ≤ protected_count (words begun.mem) begun.scratch = omega (arith, size, page, small, c.requires.within) in
    let whole : FrontStored at n run (words begun.mem) (words c.store_run.new.self) = run_part at k n from (words begun.mem) (words c.store_run.new.self) small c.store_run.ensures in
    let part : FrontStored at n run (protected_of (words mid.mem) mid.scratch) (protected_of (words c.store_run.new.self) begun.scratch) =
    subst (λ (ws : List _). FrontStored at n run ws (protected_of (words c.store_run.new.self) begun.scratch)) b.protected (protected_front at n begun.scratch run (words begun.mem) (words c.store_run.new.self) whole room) in
    let before : Ran k (words old.mem) old.scratch (disk old.disk) old.guard (words mid.mem) mid.scratch (disk mid.disk) mid.guard =
    record { count = i.count; rest = i.rest; steps = i.steps; falls = i.falls; frozen = i.frozen; runs = i.runs; sooner = i.sooner; made = i.made } in
    let next : Ran n (words mid.mem) mid.scratch (disk mid.disk) mid.guard (words begun.mem) begun.scratch (disk begun.disk) begun.guard =
    record {
      count = b.count;
      rest = same_rest (words mid.mem) (words begun.mem) mid.scratch begun.scratch (disk mid.disk) (disk begun.disk) mid.guard begun.guard (ap disk b.disk) b.open_page;
      steps = b.ends.steps;
      falls = b.falls;
      frozen = λ e. absurd (true_false (sym e ∙ b.running.0));
      runs = b.running.1 ∙ sym b.running.0;
      sooner = b.sooner;
      made = b.made;
    } in
    let r = ran_stored (k + n) at n run (words old.mem) old.scratch (disk old.disk) old.guard (words begun.mem) (words c.store_run.new.self) begun.scratch (disk begun.disk) begun.guard (omega (arith, b.some.0)) whole room
    (ran_more k n (words old.mem) old.scratch (disk old.disk) old.guard (words mid.mem) mid.scratch (disk mid.disk) mid.guard (words begun.mem) begun.scratch (disk begun.disk) begun.guard before next) in
    record {
      within = small;
      stored = front_more c.args.at.0 k n from (protected_of (words old.mem) old.scratch) (protected_of (words mid.mem) mid.scratch) (protected_of (words c.store_run.new.self) begun.scratch) i.stored part;
      count = r.count;
      rest = r.rest;
      steps = r.steps;
      falls = r.falls;
      frozen = r.frozen;
      runs = r.runs;
      sooner = r.sooner;
      made = r.made;
    }

pub returns-clause-lasts : goal.returns-clause-lasts
returns-clause-lasts g c = lasts_rest _ _ c.loop-done.invariant.rest c.loop-done.invariant.stored.count

pub returns-clause-stops : goal.returns-clause-stops
returns-clause-stops g c =
    let i = c.loop-done.invariant in
    let old = c.args.self.now in
    let size = protected_count (g.F.MemWords.words old.mem) old.scratch in
    let all : length c.args.from.now ≡ c.loop-done.done + 0 = omega (arith, i.within, c.loop-done-test.false) in
    (λ e. absurd (true_false (sym e)), λ h. absurd (never_at_once c.loop-done.self.guard size ((i.sooner 0).1 (subst (λ n. HaltsWithin old.guard n size) all h))))

pub returns-clause-begun : goal.returns-clause-begun
returns-clause-begun g c = λ e.
    let i = c.loop-done.invariant in
    let old = c.args.self.now in
    let now = c.loop-done.self in
    let words = g.F.MemWords.words in
    let all : c.loop-done.done ≡ length c.args.from.now = omega (arith, i.within, c.loop-done-test.false) in
    subst (λ n. MakesSteps n (protected_count (words old.mem) old.scratch) (scratch_of (words old.mem) old.scratch) old.guard (scratch_of (words now.mem) now.scratch) now.guard) all i.made

pub returns-clause-counted : goal.returns-clause-counted
returns-clause-counted g c =
    let i = c.loop-done.invariant in
    let old = c.args.self.now in
    let now = c.loop-done.self in
    let words = g.F.MemWords.words in
    let all : c.loop-done.done ≡ length c.args.from.now = omega (arith, i.within, c.loop-done-test.false) in
    subst (λ n. Advances n (running_of (words old.mem) old.scratch old.guard) (running_of (words now.mem) now.scratch now.guard)) all (steps_advance c.loop-done.done (protected_count (words old.mem) old.scratch) (scratch_of (words old.mem) old.scratch) (scratch_of (words now.mem) now.scratch) old.guard now.guard (words old.mem) (words now.mem) old.scratch now.scratch i.made)

pub returns-in_err-n-clause-front : goal.returns-in_err-n-clause-front
returns-in_err-n-clause-front g c =
    let i = c.loop-done.invariant in
    let b = c.in_err-n.ensures in
    let words = g.F.MemWords.words in
    let old = c.args.self.now in
    let mid = c.loop-done.self in
    let end = c.begin_run.new.self in
    let k = c.loop-done.done in
    let first = running_of (words old.mem) old.scratch old.guard in
    let last = running_of (words end.mem) end.scratch end.guard in
    let before = protected_of (words old.mem) old.scratch in
    let now = protected_of (words end.mem) end.scratch in
    let steps : Advances k first last = advances_halted k _ _ _ _ old.guard mid.guard end.guard (words old.mem) (words mid.mem) (words end.mem) old.scratch mid.scratch end.scratch i.steps b.ends.steps i.made b.stops in
    let front : (n : ℕ) × (n < length c.args.from.now) × FrontStored c.args.at.0 n c.args.from.now before now × Advances n first last = (
      k,
      c.loop-done-test.true,
      subst (λ (ws : List _). FrontStored c.args.at.0 k c.args.from.now before ws) (sym b.protected) i.stored,
      steps,
    ) in
    on_err c.from_residual.result _ front

pub returns-in_err-n-clause-cut : goal.returns-in_err-n-clause-cut
returns-in_err-n-clause-cut g c =
    let i = c.loop-done.invariant in
    let b = c.in_err-n.ensures in
    let words = g.F.MemWords.words in
    let disk = g.D.DiskBlocks.contents in
    let old = c.args.self.now in
    let mid = c.loop-done.self in
    let end = c.begin_run.new.self in
    let k = c.loop-done.done in
    let before = protected_of (words old.mem) old.scratch in
    let now = protected_of (words end.mem) end.scratch in
    let ran : Ran k (words old.mem) old.scratch (disk old.disk) old.guard (words mid.mem) mid.scratch (disk mid.disk) mid.guard =
    record { count = i.count; rest = i.rest; steps = i.steps; falls = i.falls; frozen = i.frozen; runs = i.runs; sooner = i.sooner; made = i.made } in
    let cut : (n : ℕ) × (n < length c.args.from.now) × FrontStored c.args.at.0 n c.args.from.now before now × StopsAfter n (protected_count (words old.mem) old.scratch) (scratch_of (words old.mem) old.scratch) old.guard (scratch_of (words end.mem) end.scratch) end.guard = (
      k,
      c.loop-done-test.true,
      subst (λ (ws : List _). FrontStored c.args.at.0 k c.args.from.now before ws) (sym b.protected) i.stored,
      ran_stops k (words old.mem) old.scratch (disk old.disk) old.guard (words mid.mem) mid.scratch (disk mid.disk) mid.guard (words end.mem) end.scratch end.guard ran b.unmoved b.scratch b.stops,
    ) in
    on_err c.from_residual.result _ cut

pub returns-in_err-n-clause-ends : goal.returns-in_err-n-clause-ends
returns-in_err-n-clause-ends g c =
    let b = c.in_err-n.ensures in
    record {
      steps = steps_trans _ _ _ c.loop-done.invariant.steps b.ends.steps;
      told = λ s. b.ends.told refl;
      runs = λ n. absurd (n (c.from_residual.ensures.0));
    }

pub returns-in_err-n-clause-begun : goal.returns-in_err-n-clause-begun
returns-in_err-n-clause-begun g c =
    let told = err_from_is_err_and c.from_residual.result c.from_residual.ensures.1 in
    λ k. absurd (true_false (sym k ∙ ap is_ok told.1))

pub returns-in_err-n-clause-counted : goal.returns-in_err-n-clause-counted
returns-in_err-n-clause-counted g c =
    let told = err_from_is_err_and c.from_residual.result c.from_residual.ensures.1 in
    rw told.1 tt

pub returns-in_err-n-clause-falls : goal.returns-in_err-n-clause-falls
returns-in_err-n-clause-falls g c =
    let i = c.loop-done.invariant in
    let b = c.in_err-n.ensures in
    let old = c.args.self.now in
    let mid = c.loop-done.self in
    let end = c.begin_run.new.self in
    let words = g.F.MemWords.words in
    falls_trans (page_of old.guard) _ _ _ i.steps b.ends.steps i.falls (subst (λ o. Falls o (running_of (words mid.mem) mid.scratch mid.guard) (running_of (words end.mem) end.scratch end.guard)) (ap (λ (m : Contents). m.open_page) i.rest) b.falls)

pub returns-in_err-n-clause-frozen : goal.returns-in_err-n-clause-frozen
returns-in_err-n-clause-frozen g c =
    let i = c.loop-done.invariant in
    let b = c.in_err-n.ensures in
    let mid = c.loop-done.self in
    let end = c.begin_run.new.self in
    let words = g.F.MemWords.words in
    let disk = g.D.DiskBlocks.contents in
    λ s. disk_contents (words mid.mem) (words end.mem) mid.scratch end.scratch (disk mid.disk) (disk end.disk) mid.guard end.guard b.protected b.open_page (ap disk b.disk) ∙ (i.frozen s).1

pub returns-in_err-n-clause-halted : goal.returns-in_err-n-clause-halted
returns-in_err-n-clause-halted g c =
    let told = err_from_is_err_and c.from_residual.result c.from_residual.ensures.1 in
    λ s less. rw told.1 refl

pub returns-in_err-n-clause-rest : goal.returns-in_err-n-clause-rest
returns-in_err-n-clause-rest g c =
    let i = c.loop-done.invariant in
    let b = c.in_err-n.ensures in
    let mid = c.loop-done.self in
    let end = c.begin_run.new.self in
    let words = g.F.MemWords.words in
    let disk = g.D.DiskBlocks.contents in
    same_rest (words mid.mem) (words end.mem) mid.scratch end.scratch (disk mid.disk) (disk end.disk) mid.guard end.guard (ap disk b.disk) b.open_page
    ∙ ap (λ (m : Contents). record m { words = protected_of (words end.mem) end.scratch }) i.rest

pub returns-in_err-n-clause-stored : goal.returns-in_err-n-clause-stored
returns-in_err-n-clause-stored g c =
    let told = err_from_is_err_and c.from_residual.result c.from_residual.ensures.1 in
    rw told.1 tt

pub returns-clause-ends : goal.returns-clause-ends
returns-clause-ends g c =
    let i = c.loop-done.invariant in
    record { steps = i.steps; told = λ s. absurd (true_false (sym s)); runs = λ n. i.runs }

pub returns-clause-frozen : goal.returns-clause-frozen
returns-clause-frozen g c = λ s. (c.loop-done.invariant.frozen s).1

pub returns-clause-halted : goal.returns-clause-halted
returns-clause-halted g c =
    let i = c.loop-done.invariant in
    let all : c.loop-done.done ≡ length c.args.from.now = omega (arith, i.within, c.loop-done-test.false) in
    λ s less. absurd (omega (arith, all, (i.frozen s).0, less))

pub returns-clause-stored : goal.returns-clause-stored
returns-clause-stored g c =
    let i = c.loop-done.invariant in
    let old = c.args.self.now in
    let now = c.loop-done.self in
    let words = g.F.MemWords.words in
    let all : c.loop-done.done ≡ length c.args.from.now = omega (arith, i.within, c.loop-done-test.false) in
    subst (λ n. FrontStored c.args.at.0 n c.args.from.now (protected_of (words old.mem) old.scratch) (protected_of (words now.mem) now.scratch)) all i.stored

pub loop-done-init : goal.loop-done-init
loop-done-init g c =
    let old = c.args.self.now in
    let words = g.F.MemWords.words in
    record {
      within = omega arith;
      stored = record { count = refl; front = λ j less. absurd (omega (arith, less)); below = λ j less. refl; above = λ j more. refl };
      count = refl;
      rest = refl;
      steps = steps_refl _;
      falls = falls_refl _ _;
      frozen = λ s. (refl, refl);
      runs = refl;
      sooner = sooner_none (protected_count (words old.mem) old.scratch) old.guard;
      made = makes_none (protected_count (words old.mem) old.scratch) (scratch_of (words old.mem) old.scratch) old.guard;
    }

pub begin_run-requires : goal.begin_run-requires
begin_run-requires g c = omega (arith, c.loop-done-test.true)

pub loop-done-smaller : goal.loop-done-smaller
loop-done-smaller g c = omega (arith, c.loop-done-test.true, c.in_ok-n.ensures.some.0)

pub overflow_sub-from : goal.overflow_sub-from
overflow_sub-from g c = omega (arith, c.loop-done-test.true)

pub overflow_cast-from : goal.overflow_cast-from
overflow_cast-from g c = omega (arith, c.requires.within)

pub overflow_cast-done : goal.overflow_cast-done
overflow_cast-done g c = omega (arith, c.loop-done-test.true, c.requires.within)

pub overflow_add-next : goal.overflow_add-next
overflow_add-next g c = omega (arith, c.loop-done-test.true, c.in_ok-n.ensures.some.1, c.requires.within)

pub overflow_add-at : goal.overflow_add-at
overflow_add-at g c = omega (arith, c.args.self.now.open_within (c.args.at.0 / 512) c.requires.page, g.met.F.MemWords.small c.args.self.now.mem, c.loop-done-test.true, c.requires.within)
