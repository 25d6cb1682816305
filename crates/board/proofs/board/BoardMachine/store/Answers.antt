use Rattle.std.proofs.Common.{◌≡◌, ◌<◌, ◌/◌, ◌∙◌, List, ap, arith, is_ok, refl, slice_set, subst, sym}
use Rattle.std.proofs.lemmas.Result.{err_from_is_err_and}
use Rattle.rio_base.specs.Machine.{Running}
use Rattle.rio_base.specs.Rules.{true_false}
use Rattle.board.specs.Boards.{contents_of, protected_count, scratch_of}
use Rattle.board.specs.Guards.{Makes}
use Rattle.board.proofs.DiskSteps.{disk_contents, unmade_lasts}
use Rattle.board.proofs.Places.{lasts_stored, running_same, stored_contents}
use Rattle.board.proofs.Runs.{halted_advances, step_advances}
use Rattle.board.proofs.board.BoardMachine.store.Goals as goal

pub returns-clause-lasts : goal.returns-clause-lasts
returns-clause-lasts g c =
    let old = c.args.self.now in
    let mid = c.begin.new.self in
    let words = g.F.MemWords.words in
    let at = c.args.at.0 in
    let within : at < protected_count (words mid.mem) mid.scratch = omega (arith, mid.open_within (at / 512) (c.in_ok-begin.ensures.open_page ∙ c.requires)) in
    rw (c.store.ensures, c.in_ok-begin.ensures.disk) (lasts_stored (contents_of (words old.mem) old.scratch (g.D.DiskBlocks.contents old.disk) old.guard) _ at c.args.v (stored_contents (words old.mem) (words mid.mem) old.scratch mid.scratch (g.D.DiskBlocks.contents old.disk) old.guard mid.guard at c.args.v within c.in_ok-begin.ensures.protected c.in_ok-begin.ensures.open_page))

pub returns-clause-ends : goal.returns-clause-ends
returns-clause-ends g c =
    let mid = c.begin.new.self in
    let words = g.F.MemWords.words in
    let at = c.args.at.0 in
    let within : at < protected_count (words mid.mem) mid.scratch = omega (arith, mid.open_within (at / 512) (c.in_ok-begin.ensures.open_page ∙ c.requires)) in
    rw (c.store.ensures, running_same (words mid.mem) mid.scratch at c.args.v mid.guard within) c.in_ok-begin.ensures.ends

pub returns-clause-stored : goal.returns-clause-stored
returns-clause-stored g c =
    let old = c.args.self.now in
    let mid = c.begin.new.self in
    let words = g.F.MemWords.words in
    let at = c.args.at.0 in
    let within : at < protected_count (words mid.mem) mid.scratch = omega (arith, mid.open_within (at / 512) (c.in_ok-begin.ensures.open_page ∙ c.requires)) in
    rw (c.store.ensures, c.in_ok-begin.ensures.disk) (stored_contents (words old.mem) (words mid.mem) old.scratch mid.scratch (g.D.DiskBlocks.contents old.disk) old.guard mid.guard at c.args.v within c.in_ok-begin.ensures.protected c.in_ok-begin.ensures.open_page)

pub returns-clause-begun : goal.returns-clause-begun
returns-clause-begun g c = λ e.
    let old = c.args.self.now in
    let mid = c.begin.new.self in
    let words = g.F.MemWords.words in
    let at = c.args.at.0 in
    let within : at < protected_count (words mid.mem) mid.scratch = omega (arith, mid.open_within (at / 512) (c.in_ok-begin.ensures.open_page ∙ c.requires)) in
    let same : scratch_of (slice_set (words mid.mem) at c.args.v) mid.scratch ≡ scratch_of (words mid.mem) mid.scratch = ap (λ (r : Running). r.scratch) (running_same (words mid.mem) mid.scratch at c.args.v mid.guard within) in
    let whole : scratch_of (words c.store.new.self) mid.scratch ≡ scratch_of (words mid.mem) mid.scratch = ap (λ (ws : List _). scratch_of ws mid.scratch) c.store.ensures ∙ same in
    subst (λ (s : List _). Makes (protected_count (words old.mem) old.scratch) (scratch_of (words old.mem) old.scratch) old.guard s mid.guard) (sym whole) c.in_ok-begin.ensures.made

pub returns-in_err-begin-clause-begun : goal.returns-in_err-begin-clause-begun
returns-in_err-begin-clause-begun g c =
    let told = err_from_is_err_and c.from_residual.result c.from_residual.ensures.1 in
    λ k. absurd (true_false (sym k ∙ ap is_ok told.1))

pub returns-in_err-begin-clause-counted : goal.returns-in_err-begin-clause-counted
returns-in_err-begin-clause-counted g c =
    let told = err_from_is_err_and c.from_residual.result c.from_residual.ensures.1 in
    rw told.1 tt

pub returns-in_err-begin-clause-ends : goal.returns-in_err-begin-clause-ends
returns-in_err-begin-clause-ends g c =
    let told = err_from_is_err_and c.from_residual.result c.from_residual.ensures.1 in
    rw told.1 c.in_err-begin.ensures.ends

pub returns-in_err-begin-clause-halted : goal.returns-in_err-begin-clause-halted
returns-in_err-begin-clause-halted g c =
    let told = err_from_is_err_and c.from_residual.result c.from_residual.ensures.1 in
    λ s. rw told.1 refl

pub returns-in_err-begin-clause-lasts : goal.returns-in_err-begin-clause-lasts
returns-in_err-begin-clause-lasts g c =
    let old = c.args.self.now in
    let end = c.begin.new.self in
    let words = g.F.MemWords.words in
    let disk = g.D.DiskBlocks.contents in
    unmade_lasts _ _ (disk_contents (words old.mem) (words end.mem) old.scratch end.scratch (disk old.disk) (disk end.disk) old.guard end.guard c.in_err-begin.ensures.protected c.in_err-begin.ensures.open_page (ap disk c.in_err-begin.ensures.disk))

pub returns-in_err-begin-clause-not_begun : goal.returns-in_err-begin-clause-not_begun
returns-in_err-begin-clause-not_begun g c = λ s. c.in_err-begin.ensures.stops

pub returns-in_err-begin-clause-same : goal.returns-in_err-begin-clause-same
returns-in_err-begin-clause-same g c =
    let told = err_from_is_err_and c.from_residual.result c.from_residual.ensures.1 in
    let old = c.args.self.now in
    let end = c.begin.new.self in
    let words = g.F.MemWords.words in
    let disk = g.D.DiskBlocks.contents in
    rw told.1 (disk_contents (words old.mem) (words end.mem) old.scratch end.scratch (disk old.disk) (disk end.disk) old.guard end.guard c.in_err-begin.ensures.protected c.in_err-begin.ensures.open_page (ap disk c.in_err-begin.ensures.disk))

pub returns-in_err-begin-clause-stops : goal.returns-in_err-begin-clause-stops
returns-in_err-begin-clause-stops g c =
    let told = err_from_is_err_and c.from_residual.result c.from_residual.ensures.1 in
    (λ s. c.in_err-begin.ensures.halts.0 refl, λ h. rw told.1 refl)

pub returns-in_err-begin-clause-stored : goal.returns-in_err-begin-clause-stored
returns-in_err-begin-clause-stored g c =
    let told = err_from_is_err_and c.from_residual.result c.from_residual.ensures.1 in
    rw told.1 tt

pub returns-in_err-begin-clause-unchanged : goal.returns-in_err-begin-clause-unchanged
returns-in_err-begin-clause-unchanged g c =
    let old = c.args.self.now in
    let end = c.begin.new.self in
    let words = g.F.MemWords.words in
    λ s. ap (λ (ws : List _). scratch_of ws end.scratch) c.in_err-begin.ensures.unmoved ∙ ap (λ p. scratch_of (words old.mem) p) c.in_err-begin.ensures.scratch

pub returns-in_err-begin-clause-uncounted : goal.returns-in_err-begin-clause-uncounted
returns-in_err-begin-clause-uncounted g c =
    let told = err_from_is_err_and c.from_residual.result c.from_residual.ensures.1 in
    let old = c.args.self.now in
    let end = c.begin.new.self in
    let words = g.F.MemWords.words in
    rw told.1 (halted_advances _ old.guard end.guard (words old.mem) (words end.mem) old.scratch end.scratch c.in_err-begin.ensures.stops)

pub returns-clause-counted : goal.returns-clause-counted
returns-clause-counted g c =
    let old = c.args.self.now in
    let mid = c.begin.new.self in
    let words = g.F.MemWords.words in
    let at = c.args.at.0 in
    let within : at < protected_count (words mid.mem) mid.scratch = omega (arith, mid.open_within (at / 512) (c.in_ok-begin.ensures.open_page ∙ c.requires)) in
    rw (c.store.ensures, running_same (words mid.mem) mid.scratch at c.args.v mid.guard within) (step_advances (protected_count (words old.mem) old.scratch) (scratch_of (words old.mem) old.scratch) (scratch_of (words mid.mem) mid.scratch) old.guard mid.guard (words old.mem) (words mid.mem) old.scratch mid.scratch c.in_ok-begin.ensures.made)

pub returns-clause-falls : goal.returns-clause-falls
returns-clause-falls g c =
    let mid = c.begin.new.self in
    let words = g.F.MemWords.words in
    let at = c.args.at.0 in
    let within : at < protected_count (words mid.mem) mid.scratch = omega (arith, mid.open_within (at / 512) (c.in_ok-begin.ensures.open_page ∙ c.requires)) in
    rw (c.store.ensures, running_same (words mid.mem) mid.scratch at c.args.v mid.guard within) c.in_ok-begin.ensures.falls

pub returns-clause-halted : goal.returns-clause-halted
returns-clause-halted g c = λ s. absurd (true_false (sym s ∙ c.in_ok-begin.ensures.running))

pub returns-clause-not_begun : goal.returns-clause-not_begun
returns-clause-not_begun g c = λ s. absurd (true_false (sym s))

pub returns-clause-stops : goal.returns-clause-stops
returns-clause-stops g c = (λ s. absurd (true_false (sym s)), λ h. absurd (true_false (sym (c.in_ok-begin.ensures.halts.1 h))))

pub returns-clause-unchanged : goal.returns-clause-unchanged
returns-clause-unchanged g c = λ s. absurd (true_false (sym s))
