use Rattle.std.proofs.Common.{◌+◌, ◌∙◌, arith, slice_set, subst, sym}
use Rattle.std.specs.Iterator.Adapters.{enumerate_source, enumerate_count}
use Rattle.std.specs.Slice.Iter.{chunks_exact_rest}
use Rattle.request_codec.proofs.Digits.{DecodedInto, decoded_all, decoded_into_more, room_for_two}
use Rattle.request_codec.proofs.hex_digits.decode_long.Goals as goal

pub loop-i-preserved : goal.loop-i-preserved
loop-i-preserved c =
    let step = c.in-Some-2.ensures.steps in
    let size = c.loop-i.invariant.size in
    let done = c.in-Some.done in
    record {
      size = step.0.0 ∙ size;
      decoded = subst (λ b. DecodedInto c.args.digits.now (slice_set c.loop-i.out (done + c.in-Some-2.i) b) c.with-seen.result (done + enumerate_count c.next.new.self) (chunks_exact_rest (enumerate_source c.next.new.self))) (sym c.byte_of.ensures) (decoded_into_more _ _ _ _ _ _ (done + enumerate_count c.loop-i.i-iterator) (done + c.in-Some-2.i) (done + enumerate_count c.next.new.self) _ _ _ c.loop-i.invariant.decoded step.0.1.0 (step.0.1.1 ∙ size) c.of-high.ensures c.of-low.ensures c.with-seen.ensures (omega (arith, step.1)) (omega (arith, step.2)));
    }

pub bounds-pair-0 : goal.bounds-pair-0
bounds-pair-0 c = let step = c.in-Some-2.ensures.steps in omega (arith, step.0.1.1, c.loop-i.invariant.size)

pub bounds-pair-1 : goal.bounds-pair-1
bounds-pair-1 c = let step = c.in-Some-2.ensures.steps in omega (arith, step.0.1.1, c.loop-i.invariant.size)

pub bounds-out-done : goal.bounds-out-done
bounds-out-done c =
    let step = c.in-Some-2.ensures.steps in
    omega (arith, room_for_two _ _ _ _ _ _ _ c.loop-i.invariant.decoded step.0.1.0 (step.0.1.1 ∙ c.loop-i.invariant.size), step.1)

pub returns : goal.returns
returns c =
    decoded_all c.args.digits.now c.loop-i.out c.loop-i.seen _ _ c.are_digits.result c.are_digits.ensures c.loop-i.invariant.decoded (omega (arith, c.in-None.ensures.steps.0.1.0, c.loop-i.invariant.size))
