use Rattle.node_pages.proofs.Common.{◌≡◌, ◌<◌, ◌∙◌, ℕ, sym, ap, subst, arith, inl, inr, slice_index, cases_lt, numbers}
use Rattle.node_pages.proofs.Listed.{as_many, number_at}
use Rattle.node_pages.proofs.Skipped.{among_at, among_none}
use Rattle.node_pages.proofs.taking.is_among.Goals as goal

pub returns-then-blocks-k : goal.returns-then-blocks-k
returns-then-blocks-k c = sym (among_at (numbers c.args.blocks.now) c.loop-k.k c.args.b.0 (subst (λ (m : ℕ). c.loop-k.k < m) (sym (as_many c.args.blocks.now)) c.loop-k-test.true) (sym (number_at c.args.blocks.now c.loop-k.k (record { 0 = 0 }) c.loop-k-test.true) ∙ c.if-blocks-k.true))

pub loop-k-preserved : goal.loop-k-preserved
loop-k-preserved c = record {
  none = λ q few is. elim (cases_lt q c.loop-k.k) [
    | inl below ↦ c.loop-k.invariant.none q below is
    | inr from ↦ (let same : q ≡ c.loop-k.k = omega (arith, few, from) in c.if-blocks-k.false (number_at c.args.blocks.now c.loop-k.k (record { 0 = 0 }) c.loop-k-test.true ∙ ap (slice_index (numbers c.args.blocks.now)) (sym same) ∙ is))
  ];
}

pub returns : goal.returns
returns c = sym (among_none (numbers c.args.blocks.now) c.args.b.0 (λ q few. c.loop-k.invariant.none q (omega (arith, few, as_many c.args.blocks.now, c.loop-k-test.false))))
