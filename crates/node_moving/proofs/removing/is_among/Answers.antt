use Rattle.request_ends.proofs.Common.{◌≡◌, ◌∙◌, sym, ap, arith, inl, inr, slice_index}
use Rattle.std.proofs.lemmas.Bool.{cases_lt}
use Rattle.file_tree.specs.Walks.{ino_numbers}
use Rattle.node_moving.proofs.AmongInodes.{among_at, among_none, number_at}
use Rattle.node_moving.proofs.removing.is_among.Goals as goal

pub returns-then-busy-t : goal.returns-then-busy-t
returns-then-busy-t c = record { is = sym (among_at c.args.busy.now c.loop-t.t (record { 0 = 0 }) c.args.i.0 c.loop-t-test.true c.if-busy-t.true) }

pub loop-t-preserved : goal.loop-t-preserved
loop-t-preserved c = record {
  none = λ q few is. elim (cases_lt q c.loop-t.t) [
    | inl below ↦ c.loop-t.invariant.none q below is
    | inr from ↦ (let same : q ≡ c.loop-t.t = omega (arith, few, from) in c.if-busy-t.false (number_at c.args.busy.now c.loop-t.t (record { 0 = 0 }) c.loop-t-test.true ∙ ap (slice_index (ino_numbers c.args.busy.now)) (sym same) ∙ is))
  ];
}

pub returns : goal.returns
returns c = record { is = sym (among_none c.args.busy.now c.args.i.0 (λ q few. c.loop-t.invariant.none q (omega (arith, few, c.loop-t-test.false)))) }
