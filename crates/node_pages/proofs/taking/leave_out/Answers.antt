use Rattle.node_pages.proofs.Common.{◌<◌, ◌∙◌, ◌++◌, ◌&&◌, cond, ℕ, [], ◌∷◌, not, length, sym, subst, arith, numbers}
use Rattle.std.proofs.Common.{nat_lt}
use Rattle.node_pages.specs.Changes.{is_among}
use Rattle.node_pages.proofs.Listed.{as_many, number_at}
use Rattle.node_pages.proofs.Skipped.{left_more}
use Rattle.node_pages.proofs.taking.leave_out.Goals as goal

pub loop-t-preserved : goal.loop-t-preserved
loop-t-preserved c =
    let skip = numbers c.args.skip.now in
    let blocks = numbers c.args.blocks.now in
    let few : c.loop-t.t < length blocks = subst (λ (m : ℕ). c.loop-t.t < m) (sym (as_many c.args.blocks.now)) c.loop-t-test.true in
    let at = number_at c.args.blocks.now c.loop-t.t (record { 0 = 0 }) c.loop-t-test.true in
    record {
      until = omega (arith, c.loop-t-test.true);
      left = left_more (λ b. not (is_among skip b)) c.args.n c.loop-t.t blocks (numbers c.loop-t.left.items) (numbers c.push_left.new.left.items) few c.loop-t.invariant.left
          (c.in_ok-push_left.ensures ∙ (λ p. numbers c.loop-t.left.items ++ cond (nat_lt (sym (as_many c.loop-t.left.items) p) c.args.n && not (is_among skip (at p))) (at p ∷ []) []));
    }
