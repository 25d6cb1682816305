use Rattle.plain_requests.proofs.Common.{◌≡◌, ◌++◌, take, ap, arith, ◌∙◌}
use Rattle.plain_requests.proofs.FileAnswers.{resized_by}
use Rattle.plain_requests.proofs.answering.contents.resized.Goals as goal

pub returns : goal.returns
returns c =
    let front : c.in_ok-made.made.items ≡ take c.min-kept.result c.args.old.now = c.in_ok-made.ensures.items_if_clones_equal (λ x y e. e) ∙ grind arith in
    resized_by c.args.old.now c.in_ok-made.made.items c.in_ok-zeros.zeros.items _ c.args.len c.min-kept.result c.min-kept.ensures front (c.in_ok-zeros.ensures.items_if_clones_equal (λ y e. e)) (c.in_ok-extend_from_slice.ensures.items ∙ ap (λ xs. c.in_ok-made.made.items ++ xs) c.as_slice.ensures.value)
