use Rattle.std.proofs.Common.{refl, arith, subst, ◌≡◌, []}
use Rattle.request_codec.proofs.Names.{Counted, no_name_left, one_counted, all_counted, name_shortens, empties, goes_on}
use Rattle.request_codec.proofs.path.name_count.Goals as goal

pub returns-in_err-rest : goal.returns-in_err-rest
returns-in_err-rest c = rw c.from_residual.ensures (no_name_left _ _ _ c.loop-rest.invariant.counted (goes_on _ _ c.is_empty.ensures c.loop-rest-test.true) c.in_err-rest.ensures)

pub loop-rest-preserved : goal.loop-rest-preserved
loop-rest-preserved c = record {
  within = omega (arith, c.loop-rest.invariant.within, name_shortens _ _ c.in_ok-rest.ensures);
  counted = one_counted _ _ _ _ _ c.loop-rest.invariant.counted c.in_ok-rest.ensures refl;
}

pub returns : goal.returns
returns c =
    let empty : c.loop-rest.rest.now ≡ [] = empties _ _ c.is_empty.ensures c.loop-rest-test.false in
    all_counted _ _ (subst (λ xs. Counted c.args.path.now c.loop-rest.count xs) empty c.loop-rest.invariant.counted)
