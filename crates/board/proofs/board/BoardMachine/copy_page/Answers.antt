use Rattle.std.proofs.Common.{ℕ, ◌≡◌, ◌≤◌, ◌<◌, ◌+◌, ◌-◌, ◌*◌, ◌%◌, List, length, refl, take, drop, slice_index, ◌∙◌, sym, ap, subst, arith, is_ok}
use Rattle.std.proofs.lemmas.Result.{err_from_is_err_and}
use Rattle.rio_base.specs.Machine.{Advances, Contents, Copied, CopiedScratch, Falls}
use Rattle.rio_base.proofs.MachineRules.{falls_refl, falls_trans, steps_refl, steps_trans}
use Rattle.rio_base.specs.Memory.{FrontStored}
use Rattle.rio_base.specs.Rules.{true_false}
use Rattle.board.specs.BoardLaws.{count_protected, pages_protected}
use Rattle.board.specs.Boards.{protected_count, protected_of, running_of, scratch_of}
use Rattle.board.specs.Guards.{HaltsWithin, MakesSteps, StopsAfter, page_of}
use Rattle.board.proofs.Places.{page_in_memory, pages_apart}
use Rattle.board.proofs.DiskSteps.{disk_contents}
use Rattle.board.proofs.Ran.{Ran, lasts_rest, ran_more, ran_stops, ran_stored, same_rest}
use Rattle.board.proofs.Runs.{advances_halted, steps_advance}
use Rattle.board.proofs.StepRuns.{makes_none, never_at_once, sooner_none}
use Rattle.board.proofs.ScratchWords.{falls_first, run_scratch, scratch_more, scratch_none}
use Rattle.board.proofs.WordRuns.{copied_front, copied_more, protected_front, run_value}
use Rattle.rio_base.proofs.Exits.{on_err}
use Rattle.board.proofs.board.BoardMachine.copy_page.Goals as goal

pub returns-in_err-n-clause-lasts : goal.returns-in_err-n-clause-lasts
returns-in_err-n-clause-lasts g c =
    let i = c.loop-done.invariant in
    let b = c.in_err-n.ensures in
    let mid = c.loop-done.self in
    let end = c.begin_run.new.self in
    let words = g.F.MemWords.words in
    let disk = g.D.DiskBlocks.contents in
    lasts_rest _ _
    (same_rest (words mid.mem) (words end.mem) mid.scratch end.scratch (disk mid.disk) (disk end.disk) mid.guard end.guard (ap disk b.disk) b.open_page
    ∙ ap (λ (m : Contents). record m { words = protected_of (words end.mem) end.scratch }) i.rest)
    (ap length b.protected ∙ i.copied.count)

pub returns-in_err-n-clause-stops : goal.returns-in_err-n-clause-stops
returns-in_err-n-clause-stops g c =
    let i = c.loop-done.invariant in
    let old = c.args.self.now in
    let k = c.loop-done.done in
    let size = protected_count (g.F.MemWords.words old.mem) old.scratch in
    let halts = subst (λ s. HaltsWithin c.loop-done.self.guard (512 - k) s) i.steps.protected c.in_err-n.ensures.halts in
    let all : k + (512 - k) ≡ 512 = omega (arith, i.within) in
    (λ e. subst (λ n. HaltsWithin old.guard n size) all ((i.sooner (512 - k)).0 halts), λ h. c.from_residual.ensures.0)

pub invariant_of-self : goal.invariant_of-self
invariant_of-self g c =
    let i = c.loop-done.invariant in
    let b = c.in_ok-n.ensures in
    let words = g.F.MemWords.words in
    let old = c.args.self.now in
    let begun = c.begin_run.new.self in
    let from = 512 * c.args.from.0 + c.loop-done.done in
    let to = 512 * c.args.to.0 + c.loop-done.done in
    let total : length (words begun.mem) ≡ length (words old.mem) = b.count ∙ i.count in
    let source = page_in_memory (words old.mem) old.scratch c.args.from.0 old.whole c.requires.from in
    let page = old.open_within c.args.to.0 c.requires.to in
    let whole = copied_front (words begun.mem) from to c.in_ok-n.n (omega (arith, total, source, b.some.1, i.within)) (omega (arith, total, page, b.some.1, i.within)) in
    let count : length (words begun.mem) ≡ length (words c.copy_words.new.self) = sym (ap length c.copy_words.ensures ∙ whole.count) in
    record {
      whole = subst (λ n. n % 512 ≡ 0) count begun.whole;
      room = subst (λ n. 512 * begun.scratch < n) count begun.room;
      open_within = λ p e. subst (λ n. 512 * p + 512 ≤ n - 512 * begun.scratch) count (begun.open_within p e);
      armed_within = λ a e. subst (λ n. a.at.0 < n) count (begun.armed_within a e);
    }

pub loop-done-preserved : goal.loop-done-preserved
loop-done-preserved g c =
    let i = c.loop-done.invariant in
    let b = c.in_ok-n.ensures in
    let words = g.F.MemWords.words in
    let disk = g.D.DiskBlocks.contents in
    let old = c.args.self.now in
    let mid = c.loop-done.self in
    let begun = c.begin_run.new.self in
    let k = c.loop-done.done in
    let n = c.in_ok-n.n in
    let from = 512 * c.args.from.0 + k in
    let to = 512 * c.args.to.0 + k in
    let run = take n (drop from (words begun.mem)) in
    let first = running_of (words old.mem) old.scratch old.guard in
    let total : length (words begun.mem) ≡ length (words old.mem) = b.count ∙ i.count in
    let size : protected_count (words begun.mem) begun.scratch ≡ protected_count (words old.mem) old.scratch = b.ends.steps.protected ∙ i.steps.protected in
    let source = page_in_memory (words old.mem) old.scratch c.args.from.0 old.whole c.requires.from in
    let page : 512 * c.args.to.0 + 512 ≤ protected_count (words old.mem) old.scratch = old.open_within c.args.to.0 c.requires.to in
    let small : k + n ≤ 512 = omega (arith, b.some.1, i.within) in
    let room : to + n ≤ protected_count (words begun.mem) begun.scratch = omega (arith, size, page, small) in
    let whole : FrontStored to n run (words begun.mem) (words c.copy_words.new.self) =
    subst (λ (ws : List _). FrontStored to n run (words begun.mem) ws) (sym c.copy_words.ensures) (copied_front (words begun.mem) from to n (omega (arith, total, source, small)) (omega (arith, room))) in
    let part : FrontStored to n run (protected_of (words mid.mem) mid.scratch) (protected_of (words c.copy_words.new.self) begun.scratch) =
    subst (λ (ws : List _). FrontStored to n run ws (protected_of (words c.copy_words.new.self) begun.scratch)) b.protected (protected_front to n begun.scratch run (words begun.mem) (words c.copy_words.new.self) whole room) in
    let before : Ran k (words old.mem) old.scratch (disk old.disk) old.guard (words mid.mem) mid.scratch (disk mid.disk) mid.guard =
    record { count = i.count; rest = i.rest; steps = i.steps; falls = i.falls; frozen = i.frozen; runs = i.runs; sooner = i.sooner; made = i.made } in
    let next : Ran n (words mid.mem) mid.scratch (disk mid.disk) mid.guard (words begun.mem) begun.scratch (disk begun.disk) begun.guard =
    record {
      count = b.count;
      rest = same_rest (words mid.mem) (words begun.mem) mid.scratch begun.scratch (disk mid.disk) (disk begun.disk) mid.guard begun.guard (ap disk b.disk) b.open_page;
      steps = b.ends.steps;
      falls = b.falls;
      frozen = λ e. absurd (true_false (sym e ∙ b.running.0));
      runs = b.running.1 ∙ sym b.running.0;
      sooner = b.sooner;
      made = b.made;
    } in
    let both = ran_more k n (words old.mem) old.scratch (disk old.disk) old.guard (words mid.mem) mid.scratch (disk mid.disk) mid.guard (words begun.mem) begun.scratch (disk begun.disk) begun.guard before next in
    let r = ran_stored (k + n) to n run (words old.mem) old.scratch (disk old.disk) old.guard (words begun.mem) (words c.copy_words.new.self) begun.scratch (disk begun.disk) begun.guard (omega (arith, b.some.0)) whole room both in
    let made : Advances k first (running_of (words mid.mem) mid.scratch mid.guard) = steps_advance k _ _ _ old.guard mid.guard (words old.mem) (words mid.mem) old.scratch mid.scratch i.made in
    let all : Advances (k + n) first (running_of (words begun.mem) begun.scratch begun.guard) = steps_advance (k + n) _ _ _ old.guard begun.guard (words old.mem) (words begun.mem) old.scratch begun.scratch both.made in
    record {
      within = small;
      copied = copied_more c.args.from.0 c.args.to.0 k n run (protected_of (words old.mem) old.scratch) (protected_of (words mid.mem) mid.scratch) (protected_of (words c.copy_words.new.self) begun.scratch) c.requires.two small i.copied part
          (λ known j less. run_value (words begun.mem) begun.scratch from n j less (omega (arith, size, small, known, pages_protected (words old.mem) old.scratch old.whole old.room, count_protected (words old.mem) old.scratch)) ∙ ap (λ (ws : List _). slice_index ws (from + j)) b.protected);
      scratch = scratch_more c.args.from.0 c.args.to.0 k n run (protected_of (words mid.mem) mid.scratch) (protected_of (words c.copy_words.new.self) begun.scratch) first part
          (λ past j less. run_scratch (words begun.mem) (words old.mem) begun.scratch old.scratch from k n j begun.guard old.guard less both.steps all b.running.1 (falls_first k n first (running_of (words mid.mem) mid.scratch mid.guard) i.steps made b.at_first) (omega (arith, past)) (omega (arith, source, small)))
          i.scratch;
      count = r.count;
      rest = r.rest;
      steps = r.steps;
      falls = r.falls;
      frozen = r.frozen;
      runs = r.runs;
      sooner = r.sooner;
      made = r.made;
    }

pub returns-clause-lasts : goal.returns-clause-lasts
returns-clause-lasts g c = lasts_rest _ _ c.loop-done.invariant.rest c.loop-done.invariant.copied.count

pub returns-clause-stops : goal.returns-clause-stops
returns-clause-stops g c =
    let i = c.loop-done.invariant in
    let old = c.args.self.now in
    let size = protected_count (g.F.MemWords.words old.mem) old.scratch in
    let all : 512 ≡ c.loop-done.done + 0 = omega (arith, i.within, c.loop-done-test.false) in
    (λ e. absurd (true_false (sym e)), λ h. absurd (never_at_once c.loop-done.self.guard size ((i.sooner 0).1 (subst (λ n. HaltsWithin old.guard n size) all h))))

pub returns-clause-begun : goal.returns-clause-begun
returns-clause-begun g c = λ e.
    let i = c.loop-done.invariant in
    let old = c.args.self.now in
    let now = c.loop-done.self in
    let words = g.F.MemWords.words in
    let all : c.loop-done.done ≡ 512 = omega (arith, i.within, c.loop-done-test.false) in
    subst (λ n. MakesSteps n (protected_count (words old.mem) old.scratch) (scratch_of (words old.mem) old.scratch) old.guard (scratch_of (words now.mem) now.scratch) now.guard) all i.made

pub returns-clause-counted : goal.returns-clause-counted
returns-clause-counted g c =
    let i = c.loop-done.invariant in
    let old = c.args.self.now in
    let now = c.loop-done.self in
    let words = g.F.MemWords.words in
    let all : c.loop-done.done ≡ 512 = omega (arith, i.within, c.loop-done-test.false) in
    subst (λ n. Advances n (running_of (words old.mem) old.scratch old.guard) (running_of (words now.mem) now.scratch now.guard)) all (steps_advance c.loop-done.done (protected_count (words old.mem) old.scratch) (scratch_of (words old.mem) old.scratch) (scratch_of (words now.mem) now.scratch) old.guard now.guard (words old.mem) (words now.mem) old.scratch now.scratch i.made)

pub returns-in_err-n-clause-front : goal.returns-in_err-n-clause-front
returns-in_err-n-clause-front g c =
    let i = c.loop-done.invariant in
    let b = c.in_err-n.ensures in
    let words = g.F.MemWords.words in
    let old = c.args.self.now in
    let mid = c.loop-done.self in
    let end = c.begin_run.new.self in
    let k = c.loop-done.done in
    let first = running_of (words old.mem) old.scratch old.guard in
    let last = running_of (words end.mem) end.scratch end.guard in
    let before = protected_of (words old.mem) old.scratch in
    let now = protected_of (words end.mem) end.scratch in
    let steps : Advances k first last = advances_halted k _ _ _ _ old.guard mid.guard end.guard (words old.mem) (words mid.mem) (words end.mem) old.scratch mid.scratch end.scratch i.steps b.ends.steps i.made b.stops in
    let front : (n : ℕ) × (n < 512) × Copied c.args.from.0 c.args.to.0 n before now × CopiedScratch c.args.from.0 c.args.to.0 n first now × Advances n first last = (
      k,
      c.loop-done-test.true,
      subst (λ (ws : List _). Copied c.args.from.0 c.args.to.0 k before ws) (sym b.protected) i.copied,
      subst (λ (ws : List _). CopiedScratch c.args.from.0 c.args.to.0 k first ws) (sym b.protected) i.scratch,
      steps,
    ) in
    on_err c.from_residual.result _ front

pub returns-in_err-n-clause-cut : goal.returns-in_err-n-clause-cut
returns-in_err-n-clause-cut g c =
    let i = c.loop-done.invariant in
    let b = c.in_err-n.ensures in
    let words = g.F.MemWords.words in
    let disk = g.D.DiskBlocks.contents in
    let old = c.args.self.now in
    let mid = c.loop-done.self in
    let end = c.begin_run.new.self in
    let k = c.loop-done.done in
    let first = running_of (words old.mem) old.scratch old.guard in
    let before = protected_of (words old.mem) old.scratch in
    let now = protected_of (words end.mem) end.scratch in
    let ran : Ran k (words old.mem) old.scratch (disk old.disk) old.guard (words mid.mem) mid.scratch (disk mid.disk) mid.guard =
    record { count = i.count; rest = i.rest; steps = i.steps; falls = i.falls; frozen = i.frozen; runs = i.runs; sooner = i.sooner; made = i.made } in
    let cut : (n : ℕ) × (n < 512) × Copied c.args.from.0 c.args.to.0 n before now × CopiedScratch c.args.from.0 c.args.to.0 n first now × StopsAfter n (protected_count (words old.mem) old.scratch) (scratch_of (words old.mem) old.scratch) old.guard (scratch_of (words end.mem) end.scratch) end.guard = (
      k,
      c.loop-done-test.true,
      subst (λ (ws : List _). Copied c.args.from.0 c.args.to.0 k before ws) (sym b.protected) i.copied,
      subst (λ (ws : List _). CopiedScratch c.args.from.0 c.args.to.0 k first ws) (sym b.protected) i.scratch,
      ran_stops k (words old.mem) old.scratch (disk old.disk) old.guard (words mid.mem) mid.scratch (disk mid.disk) mid.guard (words end.mem) end.scratch end.guard ran b.unmoved b.scratch b.stops,
    ) in
    on_err c.from_residual.result _ cut

pub returns-in_err-n-clause-ends : goal.returns-in_err-n-clause-ends
returns-in_err-n-clause-ends g c =
    let b = c.in_err-n.ensures in
    record {
      steps = steps_trans _ _ _ c.loop-done.invariant.steps b.ends.steps;
      told = λ s. b.ends.told refl;
      runs = λ n. absurd (n (c.from_residual.ensures.0));
    }

pub returns-in_err-n-clause-begun : goal.returns-in_err-n-clause-begun
returns-in_err-n-clause-begun g c =
    let told = err_from_is_err_and c.from_residual.result c.from_residual.ensures.1 in
    λ k. absurd (true_false (sym k ∙ ap is_ok told.1))

pub returns-in_err-n-clause-copied : goal.returns-in_err-n-clause-copied
returns-in_err-n-clause-copied g c =
    let told = err_from_is_err_and c.from_residual.result c.from_residual.ensures.1 in
    rw told.1 tt

pub returns-in_err-n-clause-counted : goal.returns-in_err-n-clause-counted
returns-in_err-n-clause-counted g c =
    let told = err_from_is_err_and c.from_residual.result c.from_residual.ensures.1 in
    rw told.1 tt

pub returns-in_err-n-clause-falls : goal.returns-in_err-n-clause-falls
returns-in_err-n-clause-falls g c =
    let i = c.loop-done.invariant in
    let b = c.in_err-n.ensures in
    let old = c.args.self.now in
    let mid = c.loop-done.self in
    let end = c.begin_run.new.self in
    let words = g.F.MemWords.words in
    falls_trans (page_of old.guard) _ _ _ i.steps b.ends.steps i.falls (subst (λ o. Falls o (running_of (words mid.mem) mid.scratch mid.guard) (running_of (words end.mem) end.scratch end.guard)) (ap (λ (m : Contents). m.open_page) i.rest) b.falls)

pub returns-in_err-n-clause-frozen : goal.returns-in_err-n-clause-frozen
returns-in_err-n-clause-frozen g c =
    let i = c.loop-done.invariant in
    let b = c.in_err-n.ensures in
    let mid = c.loop-done.self in
    let end = c.begin_run.new.self in
    let words = g.F.MemWords.words in
    let disk = g.D.DiskBlocks.contents in
    λ s. disk_contents (words mid.mem) (words end.mem) mid.scratch end.scratch (disk mid.disk) (disk end.disk) mid.guard end.guard b.protected b.open_page (ap disk b.disk) ∙ (i.frozen s).1

pub returns-in_err-n-clause-halted : goal.returns-in_err-n-clause-halted
returns-in_err-n-clause-halted g c =
    let told = err_from_is_err_and c.from_residual.result c.from_residual.ensures.1 in
    λ s. rw told.1 refl

pub returns-in_err-n-clause-rest : goal.returns-in_err-n-clause-rest
returns-in_err-n-clause-rest g c =
    let i = c.loop-done.invariant in
    let b = c.in_err-n.ensures in
    let mid = c.loop-done.self in
    let end = c.begin_run.new.self in
    let words = g.F.MemWords.words in
    let disk = g.D.DiskBlocks.contents in
    same_rest (words mid.mem) (words end.mem) mid.scratch end.scratch (disk mid.disk) (disk end.disk) mid.guard end.guard (ap disk b.disk) b.open_page
    ∙ ap (λ (m : Contents). record m { words = protected_of (words end.mem) end.scratch }) i.rest

pub returns-in_err-n-clause-scratch : goal.returns-in_err-n-clause-scratch
returns-in_err-n-clause-scratch g c =
    let told = err_from_is_err_and c.from_residual.result c.from_residual.ensures.1 in
    rw told.1 tt

pub returns-clause-copied : goal.returns-clause-copied
returns-clause-copied g c =
    let i = c.loop-done.invariant in
    let old = c.args.self.now in
    let now = c.loop-done.self in
    let words = g.F.MemWords.words in
    let all : c.loop-done.done ≡ 512 = omega (arith, i.within, c.loop-done-test.false) in
    subst (λ n. Copied c.args.from.0 c.args.to.0 n (protected_of (words old.mem) old.scratch) (protected_of (words now.mem) now.scratch)) all i.copied

pub returns-clause-ends : goal.returns-clause-ends
returns-clause-ends g c =
    let i = c.loop-done.invariant in
    record { steps = i.steps; told = λ s. absurd (true_false (sym s)); runs = λ n. i.runs }

pub returns-clause-frozen : goal.returns-clause-frozen
returns-clause-frozen g c = λ s. (c.loop-done.invariant.frozen s).1

pub returns-clause-halted : goal.returns-clause-halted
returns-clause-halted g c =
    let i = c.loop-done.invariant in
    let all : c.loop-done.done ≡ 512 = omega (arith, i.within, c.loop-done-test.false) in
    λ s. absurd (omega (arith, all, (i.frozen s).0))

pub returns-clause-scratch : goal.returns-clause-scratch
returns-clause-scratch g c =
    let i = c.loop-done.invariant in
    let old = c.args.self.now in
    let now = c.loop-done.self in
    let words = g.F.MemWords.words in
    let all : c.loop-done.done ≡ 512 = omega (arith, i.within, c.loop-done-test.false) in
    subst (λ n. CopiedScratch c.args.from.0 c.args.to.0 n (running_of (words old.mem) old.scratch old.guard) (protected_of (words now.mem) now.scratch)) all i.scratch

pub loop-done-init : goal.loop-done-init
loop-done-init g c =
    let old = c.args.self.now in
    let words = g.F.MemWords.words in
    record {
      within = omega arith;
      copied = record { count = refl; front = λ known j less. absurd (omega (arith, less)); below = λ j less. refl; above = λ j more. refl };
      scratch = scratch_none _ _ _ _;
      count = refl;
      rest = refl;
      steps = steps_refl _;
      falls = falls_refl _ _;
      frozen = λ s. (refl, refl);
      runs = refl;
      sooner = sooner_none (protected_count (words old.mem) old.scratch) old.guard;
      made = makes_none (protected_count (words old.mem) old.scratch) (scratch_of (words old.mem) old.scratch) old.guard;
    }

pub begin_run-requires : goal.begin_run-requires
begin_run-requires g c = omega (arith, c.loop-done-test.true)

pub loop-done-smaller : goal.loop-done-smaller
loop-done-smaller g c = omega (arith, c.loop-done-test.true, c.in_ok-n.ensures.some.0)

pub overflow_sub-done : goal.overflow_sub-done
overflow_sub-done g c = omega (arith, c.loop-done-test.true)

pub overflow_mul-at : goal.overflow_mul-at
overflow_mul-at g c = omega (arith, page_in_memory (g.F.MemWords.words c.args.self.now.mem) c.args.self.now.scratch c.args.from.0 c.args.self.now.whole c.requires.from, g.met.F.MemWords.small c.args.self.now.mem)

pub overflow_add-at : goal.overflow_add-at
overflow_add-at g c = omega (arith, page_in_memory (g.F.MemWords.words c.args.self.now.mem) c.args.self.now.scratch c.args.from.0 c.args.self.now.whole c.requires.from, g.met.F.MemWords.small c.args.self.now.mem, c.loop-done-test.true)

pub overflow_mul-to : goal.overflow_mul-to
overflow_mul-to g c = omega (arith, c.args.self.now.open_within c.args.to.0 c.requires.to, g.met.F.MemWords.small c.args.self.now.mem)

pub overflow_add-to : goal.overflow_add-to
overflow_add-to g c = omega (arith, c.args.self.now.open_within c.args.to.0 c.requires.to, g.met.F.MemWords.small c.args.self.now.mem, c.loop-done-test.true)

pub overflow_add-done : goal.overflow_add-done
overflow_add-done g c = omega (arith, c.in_ok-n.ensures.some.1, c.loop-done-test.true)

pub copy_words-requires-clause-from : goal.copy_words-requires-clause-from
copy_words-requires-clause-from g c = omega (arith, page_in_memory (g.F.MemWords.words c.args.self.now.mem) c.args.self.now.scratch c.args.from.0 c.args.self.now.whole c.requires.from, c.in_ok-n.ensures.count, c.loop-done.invariant.count, c.in_ok-n.ensures.some.1, c.loop-done-test.true)

pub copy_words-requires-clause-to : goal.copy_words-requires-clause-to
copy_words-requires-clause-to g c = omega (arith, c.args.self.now.open_within c.args.to.0 c.requires.to, c.in_ok-n.ensures.count, c.loop-done.invariant.count, c.in_ok-n.ensures.some.1, c.loop-done-test.true)

pub copy_words-requires-clause-apart : goal.copy_words-requires-clause-apart
copy_words-requires-clause-apart g c = pages_apart c.args.from.0 c.args.to.0 c.loop-done.done c.in_ok-n.n c.requires.two (omega (arith, c.in_ok-n.ensures.some.1, c.loop-done-test.true))
