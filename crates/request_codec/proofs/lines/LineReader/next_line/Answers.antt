use Rattle.std.proofs.Common.{refl, sym, ap, subst, ◌∙◌, ◌≤◌, ◌^◌, arith}
use Rattle.std.proofs.lemmas.Result.{err_from_is_err_and}
use Rattle.rio_base.specs.Rules.{true_false}
use Rattle.rio_base.proofs.MachineRules.{never}
use Rattle.request_codec.specs.Lines.{Reading}
use Rattle.request_codec.proofs.Passing.{ends_next, fails_next, found_line, memory_no_fault, more_unended, reads_next, stays_ended}
use Rattle.request_codec.proofs.lines.LineReader.next_line.Goals as goal

pub returns-then-branch-clause-line : goal.returns-then-branch-clause-line
returns-then-branch-clause-line g c =
    found_line _ _ _ _ _ _ _ _ _ _ c.loop-line.invariant.along c.self-in-loop-line.view_is c.in_ok-gather.ensures.found c.if-branch.true refl c.finish.ensures

pub returns-in_err-refill-clause-err : goal.returns-in_err-refill-clause-err
returns-in_err-refill-clause-err g c =
    let p = err_from_is_err_and c.from_residual-in_err-refill.result c.from_residual-in_err-refill.ensures.1 in
    rw (p.1, p.2) (fails_next _ _ _ _ _ _ _ _ _ _ _ _ c.loop-line.invariant.along c.self-in-loop-line.view_is c.in_ok-gather.ensures.found c.if-branch.false refl c.in_err-refill.ensures.err)

pub returns-then-not-branch-clause-line : goal.returns-then-not-branch-clause-line
returns-then-not-branch-clause-line g c =
    ends_next _ _ _ _ _ _ _ _ _ _ _ _ _ c.loop-line.invariant.along c.self-in-loop-line.view_is c.in_ok-gather.ensures.found c.if-branch.false refl c.in_ok-refill.ensures.more c.if-not-branch.true c.finish_last.ensures

pub loop-line-preserved : goal.loop-line-preserved
loop-line-preserved g c = record {
  along = reads_next _ _ _ _ _ _ _ _ _ _ _ _ c.loop-line.invariant.along c.self-in-loop-line.view_is c.in_ok-gather.ensures.found c.if-branch.false refl c.in_ok-refill.ensures.more;
  within = c.in_ok-refill.ensures.more.1;
  unended = more_unended _ _ _ _ _ c.in_ok-refill.ensures.more c.if-not-branch.false;
  later = omega (arith, c.in_ok-refill.ensures.later);
}

pub returns-then-self-clause-line : goal.returns-then-self-clause-line
returns-then-self-clause-line g c =
    let told = ap (λ (r : Reading). r.ended) (sym c.self.view_is) ∙ c.if-self.true in
    stays_ended _ _ told (ap (λ (r : Reading). r.held) (sym c.self.view_is) ∙ c.self.invariant c.if-self.true) (c.requires.spent told)

pub returns-then-branch-clause-within : goal.returns-then-branch-clause-within
returns-then-branch-clause-within g c =
    subst (λ (r : Reading). r.taken ≤ 2 ^ 40) (sym c.self-in-loop-line.view_is) c.loop-line.invariant.within

pub returns-then-branch-clause-closed : goal.returns-then-branch-clause-closed
returns-then-branch-clause-closed g c = λ e. absurd (true_false (sym e ∙ ap (λ (r : Reading). r.ended) c.self-in-loop-line.view_is ∙ c.loop-line.invariant.unended))

pub returns-then-branch-clause-spent : goal.returns-then-branch-clause-spent
returns-then-branch-clause-spent g c = λ e. absurd (true_false (sym e ∙ sym (ap (λ (r : Reading). r.ended) c.self.view_is) ∙ c.if-self.false))

pub returns-then-branch-clause-cause : goal.returns-then-branch-clause-cause
returns-then-branch-clause-cause g c = λ f. absurd (never _ _ f)

pub returns-in_err-gather-clause-line : goal.returns-in_err-gather-clause-line
returns-in_err-gather-clause-line g c =
    let p = err_from_is_err_and c.from_residual.result c.from_residual.ensures.1 in
    rw p.1 tt

pub returns-in_err-gather-clause-within : goal.returns-in_err-gather-clause-within
returns-in_err-gather-clause-within g c =
    let p = err_from_is_err_and c.from_residual.result c.from_residual.ensures.1 in
    rw p.1 tt

pub returns-in_err-gather-clause-closed : goal.returns-in_err-gather-clause-closed
returns-in_err-gather-clause-closed g c = λ e. absurd (true_false (sym e ∙ ap (λ (r : Reading). r.ended) c.self-in-loop-line.view_is ∙ c.loop-line.invariant.unended))

pub returns-in_err-gather-clause-spent : goal.returns-in_err-gather-clause-spent
returns-in_err-gather-clause-spent g c = λ e. absurd (true_false (sym e ∙ sym (ap (λ (r : Reading). r.ended) c.self.view_is) ∙ c.if-self.false))

pub returns-in_err-gather-clause-cause : goal.returns-in_err-gather-clause-cause
returns-in_err-gather-clause-cause g c =
    let p = err_from_is_err_and c.from_residual.result c.from_residual.ensures.1 in
    rw (p.1, p.2) (λ f. absurd (memory_no_fault f))

pub returns-in_err-refill-clause-line : goal.returns-in_err-refill-clause-line
returns-in_err-refill-clause-line g c =
    let p = err_from_is_err_and c.from_residual-in_err-refill.result c.from_residual-in_err-refill.ensures.1 in
    rw p.1 tt

pub returns-in_err-refill-clause-within : goal.returns-in_err-refill-clause-within
returns-in_err-refill-clause-within g c =
    let p = err_from_is_err_and c.from_residual-in_err-refill.result c.from_residual-in_err-refill.ensures.1 in
    rw p.1 tt

pub returns-in_err-refill-clause-closed : goal.returns-in_err-refill-clause-closed
returns-in_err-refill-clause-closed g c = λ e. absurd (true_false (sym e ∙ c.in_err-refill.ensures.unended))

pub returns-in_err-refill-clause-spent : goal.returns-in_err-refill-clause-spent
returns-in_err-refill-clause-spent g c = λ e. absurd (true_false (sym e ∙ sym (ap (λ (r : Reading). r.ended) c.self.view_is) ∙ c.if-self.false))

pub returns-in_err-refill-clause-later : goal.returns-in_err-refill-clause-later
returns-in_err-refill-clause-later g c = omega (arith, c.loop-line.invariant.later, c.in_err-refill.ensures.later)

pub returns-then-not-branch-clause-spent : goal.returns-then-not-branch-clause-spent
returns-then-not-branch-clause-spent g c = λ e. absurd (true_false (sym e ∙ sym (ap (λ (r : Reading). r.ended) c.self.view_is) ∙ c.if-self.false))

pub returns-then-not-branch-clause-later : goal.returns-then-not-branch-clause-later
returns-then-not-branch-clause-later g c = omega (arith, c.loop-line.invariant.later, c.in_ok-refill.ensures.later)

pub returns-then-not-branch-clause-cause : goal.returns-then-not-branch-clause-cause
returns-then-not-branch-clause-cause g c = λ f. absurd (never _ _ f)

pub returns-then-self-clause-cause : goal.returns-then-self-clause-cause
returns-then-self-clause-cause g c = λ f. absurd (never _ _ f)
