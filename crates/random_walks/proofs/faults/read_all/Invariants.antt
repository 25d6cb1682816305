use Rattle.rio_model.specs.declared.state.State.{State}
use Rattle.random_walks.proofs.faults.read_all.Given as goal

-- the core holds some state
abbrev pub invariant-loop-line : goal.invariant-loop-line
invariant-loop-line g l = record {
  sound : g.C.AnswersRequests.sound l.core;
  holds : (s : State) × g.C.AnswersRequests.holds l.core s;
}
