use Rattle.std.proofs.Common.{None, Some, refl, subst, sym}
use Rattle.std.proofs.lemmas.Result.{IfOk-from_err}
use Rattle.std.specs.Prelude.{IsErr}
use Rattle.rio_base.proofs.Exits.{on_err}
use Rattle.rio_base.specs.Rules.{true_false}
use Rattle.board.specs.Guards.{Halts, Proceeds}
use Rattle.board.proofs.Runs.{begun_none, begun_scratch, not_begun}
use Rattle.board.proofs.board.Board.begin.Goals as goal

pub returns-in_err-fallen-clause-unmoved : goal.returns-in_err-fallen-clause-unmoved
returns-in_err-fallen-clause-unmoved g c = on_err c.from_residual.result _ refl

pub returns-in_err-fallen-clause-open_page : goal.returns-in_err-fallen-clause-open_page
returns-in_err-fallen-clause-open_page g c = (not_begun (g.F.MemWords.words c.args.self.now.mem) c.args.self.now.scratch c.protected_words-size.result c.args.self.now.guard c.begin.new.self (IsErr c.from_residual.result) c.from_residual.ensures.0 c.protected_words-size.ensures c.in_err-fallen.ensures.err).open_page

pub returns-in_err-fallen-clause-running : goal.returns-in_err-fallen-clause-running
returns-in_err-fallen-clause-running g c = IfOk-from_err c.from_residual.result _ c.from_residual.ensures.0

pub returns-in_err-fallen-clause-falls : goal.returns-in_err-fallen-clause-falls
returns-in_err-fallen-clause-falls g c = (not_begun (g.F.MemWords.words c.args.self.now.mem) c.args.self.now.scratch c.protected_words-size.result c.args.self.now.guard c.begin.new.self (IsErr c.from_residual.result) c.from_residual.ensures.0 c.protected_words-size.ensures c.in_err-fallen.ensures.err).falls

pub returns-in_err-fallen-clause-halts : goal.returns-in_err-fallen-clause-halts
returns-in_err-fallen-clause-halts g c = (λ e. subst (λ s. Halts c.args.self.now.guard s) c.protected_words-size.ensures (c.in_err-fallen.ensures.halts.0 refl), λ h. c.from_residual.ensures.0)

pub returns-in_err-fallen-clause-made : goal.returns-in_err-fallen-clause-made
returns-in_err-fallen-clause-made g c = IfOk-from_err c.from_residual.result _ c.from_residual.ensures.0

pub returns-in_err-fallen-clause-stops : goal.returns-in_err-fallen-clause-stops
returns-in_err-fallen-clause-stops g c = on_err c.from_residual.result _ (not_begun (g.F.MemWords.words c.args.self.now.mem) c.args.self.now.scratch c.protected_words-size.result c.args.self.now.guard c.begin.new.self (IsErr c.from_residual.result) c.from_residual.ensures.0 c.protected_words-size.ensures c.in_err-fallen.ensures.err).stops

pub returns-in_err-fallen-clause-ends : goal.returns-in_err-fallen-clause-ends
returns-in_err-fallen-clause-ends g c = (not_begun (g.F.MemWords.words c.args.self.now.mem) c.args.self.now.scratch c.protected_words-size.result c.args.self.now.guard c.begin.new.self (IsErr c.from_residual.result) c.from_residual.ensures.0 c.protected_words-size.ensures c.in_err-fallen.ensures.err).ends

pub returns-in_default-clause-open_page : goal.returns-in_default-clause-open_page
returns-in_default-clause-open_page g c =
    let step : Proceeds c.protected_words-size.result None c.args.self.now.guard c.begin.new.self = rw c.in_default.is at c.in_ok-fallen.ensures.ok in
    (begun_none (g.F.MemWords.words c.args.self.now.mem) c.args.self.now.scratch c.protected_words-size.result c.args.self.now.guard c.begin.new.self _ (λ s. true_false (sym s)) c.protected_words-size.ensures c.args.self.now.open_within step).open_page

pub returns-in_default-clause-running : goal.returns-in_default-clause-running
returns-in_default-clause-running g c =
    let step : Proceeds c.protected_words-size.result None c.args.self.now.guard c.begin.new.self = rw c.in_default.is at c.in_ok-fallen.ensures.ok in
    (begun_none (g.F.MemWords.words c.args.self.now.mem) c.args.self.now.scratch c.protected_words-size.result c.args.self.now.guard c.begin.new.self _ (λ s. true_false (sym s)) c.protected_words-size.ensures c.args.self.now.open_within step).running

pub returns-in_default-clause-falls : goal.returns-in_default-clause-falls
returns-in_default-clause-falls g c =
    let step : Proceeds c.protected_words-size.result None c.args.self.now.guard c.begin.new.self = rw c.in_default.is at c.in_ok-fallen.ensures.ok in
    (begun_none (g.F.MemWords.words c.args.self.now.mem) c.args.self.now.scratch c.protected_words-size.result c.args.self.now.guard c.begin.new.self _ (λ s. true_false (sym s)) c.protected_words-size.ensures c.args.self.now.open_within step).falls

pub returns-in_default-clause-halts : goal.returns-in_default-clause-halts
returns-in_default-clause-halts g c = (λ e. absurd (true_false (sym e)), λ h. absurd (true_false (sym (c.in_ok-fallen.ensures.halts.1 (subst (λ s. Halts c.args.self.now.guard s) (sym c.protected_words-size.ensures) h)))))

pub returns-in_default-clause-made : goal.returns-in_default-clause-made
returns-in_default-clause-made g c =
    let step : Proceeds c.protected_words-size.result None c.args.self.now.guard c.begin.new.self = rw c.in_default.is at c.in_ok-fallen.ensures.ok in
    (begun_none (g.F.MemWords.words c.args.self.now.mem) c.args.self.now.scratch c.protected_words-size.result c.args.self.now.guard c.begin.new.self _ (λ s. true_false (sym s)) c.protected_words-size.ensures c.args.self.now.open_within step).made

pub returns-in_default-clause-ends : goal.returns-in_default-clause-ends
returns-in_default-clause-ends g c =
    let step : Proceeds c.protected_words-size.result None c.args.self.now.guard c.begin.new.self = rw c.in_default.is at c.in_ok-fallen.ensures.ok in
    (begun_none (g.F.MemWords.words c.args.self.now.mem) c.args.self.now.scratch c.protected_words-size.result c.args.self.now.guard c.begin.new.self _ (λ s. true_false (sym s)) c.protected_words-size.ensures c.args.self.now.open_within step).ends

pub returns-in-Some-clause-protected : goal.returns-in-Some-clause-protected
returns-in-Some-clause-protected g c =
    let step : Proceeds c.protected_words-size.result (Some c.in-Some.fallen) c.args.self.now.guard c.begin.new.self = rw c.in-Some.is at c.in_ok-fallen.ensures.ok in
    (begun_scratch (g.F.MemWords.words c.args.self.now.mem) (g.F.MemWords.words c.store.new.self) c.args.self.now.scratch c.protected_words-size.result c.in-Some.fallen c.args.self.now.guard c.begin.new.self _ (λ s. true_false (sym s)) c.store.ensures c.protected_words-size.ensures step).protected

pub returns-in-Some-clause-count : goal.returns-in-Some-clause-count
returns-in-Some-clause-count g c =
    let step : Proceeds c.protected_words-size.result (Some c.in-Some.fallen) c.args.self.now.guard c.begin.new.self = rw c.in-Some.is at c.in_ok-fallen.ensures.ok in
    (begun_scratch (g.F.MemWords.words c.args.self.now.mem) (g.F.MemWords.words c.store.new.self) c.args.self.now.scratch c.protected_words-size.result c.in-Some.fallen c.args.self.now.guard c.begin.new.self _ (λ s. true_false (sym s)) c.store.ensures c.protected_words-size.ensures step).count

pub returns-in-Some-clause-open_page : goal.returns-in-Some-clause-open_page
returns-in-Some-clause-open_page g c =
    let step : Proceeds c.protected_words-size.result (Some c.in-Some.fallen) c.args.self.now.guard c.begin.new.self = rw c.in-Some.is at c.in_ok-fallen.ensures.ok in
    (begun_scratch (g.F.MemWords.words c.args.self.now.mem) (g.F.MemWords.words c.store.new.self) c.args.self.now.scratch c.protected_words-size.result c.in-Some.fallen c.args.self.now.guard c.begin.new.self _ (λ s. true_false (sym s)) c.store.ensures c.protected_words-size.ensures step).open_page

pub returns-in-Some-clause-running : goal.returns-in-Some-clause-running
returns-in-Some-clause-running g c =
    let step : Proceeds c.protected_words-size.result (Some c.in-Some.fallen) c.args.self.now.guard c.begin.new.self = rw c.in-Some.is at c.in_ok-fallen.ensures.ok in
    (begun_scratch (g.F.MemWords.words c.args.self.now.mem) (g.F.MemWords.words c.store.new.self) c.args.self.now.scratch c.protected_words-size.result c.in-Some.fallen c.args.self.now.guard c.begin.new.self _ (λ s. true_false (sym s)) c.store.ensures c.protected_words-size.ensures step).running

pub returns-in-Some-clause-falls : goal.returns-in-Some-clause-falls
returns-in-Some-clause-falls g c =
    let step : Proceeds c.protected_words-size.result (Some c.in-Some.fallen) c.args.self.now.guard c.begin.new.self = rw c.in-Some.is at c.in_ok-fallen.ensures.ok in
    (begun_scratch (g.F.MemWords.words c.args.self.now.mem) (g.F.MemWords.words c.store.new.self) c.args.self.now.scratch c.protected_words-size.result c.in-Some.fallen c.args.self.now.guard c.begin.new.self _ (λ s. true_false (sym s)) c.store.ensures c.protected_words-size.ensures step).falls

pub returns-in-Some-clause-halts : goal.returns-in-Some-clause-halts
returns-in-Some-clause-halts g c = (λ e. absurd (true_false (sym e)), λ h. absurd (true_false (sym (c.in_ok-fallen.ensures.halts.1 (subst (λ s. Halts c.args.self.now.guard s) (sym c.protected_words-size.ensures) h)))))

pub returns-in-Some-clause-made : goal.returns-in-Some-clause-made
returns-in-Some-clause-made g c =
    let step : Proceeds c.protected_words-size.result (Some c.in-Some.fallen) c.args.self.now.guard c.begin.new.self = rw c.in-Some.is at c.in_ok-fallen.ensures.ok in
    (begun_scratch (g.F.MemWords.words c.args.self.now.mem) (g.F.MemWords.words c.store.new.self) c.args.self.now.scratch c.protected_words-size.result c.in-Some.fallen c.args.self.now.guard c.begin.new.self _ (λ s. true_false (sym s)) c.store.ensures c.protected_words-size.ensures step).made

pub returns-in-Some-clause-ends : goal.returns-in-Some-clause-ends
returns-in-Some-clause-ends g c =
    let step : Proceeds c.protected_words-size.result (Some c.in-Some.fallen) c.args.self.now.guard c.begin.new.self = rw c.in-Some.is at c.in_ok-fallen.ensures.ok in
    (begun_scratch (g.F.MemWords.words c.args.self.now.mem) (g.F.MemWords.words c.store.new.self) c.args.self.now.scratch c.protected_words-size.result c.in-Some.fallen c.args.self.now.guard c.begin.new.self _ (λ s. true_false (sym s)) c.store.ensures c.protected_words-size.ensures step).ends
