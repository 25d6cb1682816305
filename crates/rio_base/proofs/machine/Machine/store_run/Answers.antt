use Rattle.std.proofs.Common.{◌≡◌, length, true, IsErr, refl, ◌∙◌, sym, subst}
use Rattle.std.proofs.lemmas.Result.{err_from_is_err_and}
use Rattle.rio_base.specs.Machine.{Contents, Lasts}
use Rattle.rio_base.specs.Memory.{FrontStored}
use Rattle.rio_base.proofs.Exits.{none_ok, on_err}
use Rattle.rio_base.proofs.MachineRules.{advances_none, advances_stop, advances_then, ends_err, falls_on, falls_refl, lasts_words, rest_words, steps_refl, steps_trans}
use Rattle.rio_base.specs.Rules.{true_false}
use Rattle.rio_base.proofs.WordRuns.{front_next, front_none, run_within}
use Rattle.rio_base.proofs.machine.Machine.store_run.Goals as goal

pub loop-i-init : goal.loop-i-init
loop-i-init g c = record {
  stored = front_none _ _ _;
  rest = refl;
  counted = advances_none _;
  steps = steps_refl _;
  falls = falls_refl _ _;
  frozen = λ e. (refl, refl);
  runs = refl;
}

pub returns-in_err-store-clause-stored : goal.returns-in_err-store-clause-stored
returns-in_err-store-clause-stored g c =
    let p = err_from_is_err_and c.from_residual.result c.from_residual.ensures.1 in
    none_ok _ p.0 _ p.1

pub returns-in_err-store-clause-counted : goal.returns-in_err-store-clause-counted
returns-in_err-store-clause-counted g c =
    let p = err_from_is_err_and c.from_residual.result c.from_residual.ensures.1 in
    none_ok _ p.0 _ p.1

pub returns-in_err-store-clause-front : goal.returns-in_err-store-clause-front
returns-in_err-store-clause-front g c =
    let i = c.loop-i.invariant in
    let first = g.Self.Machine.contents c.args.self.now in
    let call = c.in_err-store.ensures in
    on_err c.from_residual.result _ (
      c.loop-i.i,
      c.loop-i-test.true,
      subst (λ (m : Contents). FrontStored c.args.at.0 c.loop-i.i c.args.from.now first.words m.words) (sym call.same) i.stored,
      advances_stop _ _ _ _ i.steps call.ends.steps i.counted call.uncounted,
    )

pub returns-in_err-store-clause-rest : goal.returns-in_err-store-clause-rest
returns-in_err-store-clause-rest g c =
    let first = g.Self.Machine.contents c.args.self.now in
    subst (λ (m : Contents). m ≡ record first { words = m.words }) (sym c.in_err-store.ensures.same) c.loop-i.invariant.rest

pub returns-in_err-store-clause-frozen : goal.returns-in_err-store-clause-frozen
returns-in_err-store-clause-frozen g c = λ e. c.in_err-store.ensures.same ∙ (c.loop-i.invariant.frozen e).1

pub returns-in_err-store-clause-lasts : goal.returns-in_err-store-clause-lasts
returns-in_err-store-clause-lasts g c =
    let i = c.loop-i.invariant in
    subst (λ (m : Contents). Lasts (g.Self.Machine.contents c.args.self.now) m) (sym c.in_err-store.ensures.same) (lasts_words _ _ i.rest i.stored.count)

pub returns-in_err-store-clause-falls : goal.returns-in_err-store-clause-falls
returns-in_err-store-clause-falls g c =
    let i = c.loop-i.invariant in
    let call = c.store.ensures in
    falls_on (g.Self.Machine.contents c.args.self.now) (g.Self.Machine.contents c.loop-i.self) _ _ _ i.rest i.steps call.ends.steps i.falls call.falls

pub returns-in_err-store-clause-ends : goal.returns-in_err-store-clause-ends
returns-in_err-store-clause-ends g c =
    let p = err_from_is_err_and c.from_residual.result c.from_residual.ensures.1 in
    ends_err _ _ _ _ _ (refl {a = true}) (subst (λ r. IsErr r) (sym p.1) (refl {a = true})) c.loop-i.invariant.steps c.in_err-store.ensures.ends

pub loop-i-preserved : goal.loop-i-preserved
loop-i-preserved g c =
    let i = c.loop-i.invariant in
    let contents = g.Self.Machine.contents in
    let before = contents c.loop-i.self in
    let first = contents c.args.self.now in
    let at = c.args.at.0 in
    let room = run_within at c.loop-i.i (length c.args.from.now) (length first.words) c.requires.within c.loop-i-test.true (g.met.Self.Machine.open_within c.args.self.now _ c.requires.page) in
    record {
      stored = rw c.in_ok-store.ensures.stored (front_next at c.loop-i.i _ c.args.from.now first.words before.words room refl i.stored);
      rest = rw c.in_ok-store.ensures.stored (rest_words first before _ i.rest);
      counted = advances_then c.loop-i.i 1 _ _ _ (λ e. absurd (true_false (sym (c.in_ok-store.ensures.halted e)))) i.steps c.in_ok-store.ensures.ends.steps i.counted c.in_ok-store.ensures.counted;
      steps = steps_trans _ _ _ i.steps c.in_ok-store.ensures.ends.steps;
      falls = falls_on first before _ _ _ i.rest i.steps c.in_ok-store.ensures.ends.steps i.falls c.in_ok-store.ensures.falls;
      frozen = λ e. absurd (true_false (sym (c.in_ok-store.ensures.halted (i.runs ∙ e))));
      runs = c.in_ok-store.ensures.ends.runs (λ e. true_false (sym e)) ∙ i.runs;
    }

pub returns-clause-lasts : goal.returns-clause-lasts
returns-clause-lasts g c = lasts_words _ _ c.loop-i.invariant.rest c.loop-i.invariant.stored.count

pub returns-clause-ends : goal.returns-clause-ends
returns-clause-ends g c =
    let i = c.loop-i.invariant in
    record { steps = i.steps; told = λ no. absurd (true_false (sym no)); runs = λ no. i.runs }
