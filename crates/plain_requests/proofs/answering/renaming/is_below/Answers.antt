use Rattle.plain_requests.proofs.Common.{◌≡◌, ◌<◌, ◌≤◌, true, false, length, arith, sym, ap, ◌∙◌, nat_lt, nat_tests}
use Rattle.std.specs.Str.{bytes_eq}
use Rattle.plain_requests.proofs.AnswerSteps.{below_apart, below_end, below_next, below_past}
use Rattle.plain_requests.proofs.answering.renaming.is_below.Goals as goal

pub loop-i-preserved : goal.loop-i-preserved
loop-i-preserved c =
    let more : c.loop-i.i < length c.args.names.now = grind (arith, nat_tests, c.if-past.false) in
    let same : bytes_eq c.index-tops-i.result c.index-names-i.result ≡ true = grind (arith, nat_tests, c.are_same-same.ensures, c.if-not-same.false) in
    c.loop-i.invariant ∙ below_next c.args.tops.now c.args.names.now c.loop-i.i _ _ c.loop-i-test.true more c.index-tops-i.is c.index-names-i.is same

pub returns-then-past : goal.returns-then-past
returns-then-past c =
    let past : length c.args.names.now ≤ c.loop-i.i = grind (arith, nat_tests, c.if-past.true) in
    sym (c.loop-i.invariant ∙ below_past c.args.tops.now c.args.names.now c.loop-i.i c.loop-i-test.true past)

pub returns-then-not-same : goal.returns-then-not-same
returns-then-not-same c =
    let more : c.loop-i.i < length c.args.names.now = grind (arith, nat_tests, c.if-past.false) in
    let other : bytes_eq c.index-tops-i.result c.index-names-i.result ≡ false = grind (arith, nat_tests, c.are_same-same.ensures, c.if-not-same.true) in
    sym (c.loop-i.invariant ∙ below_apart c.args.tops.now c.args.names.now c.loop-i.i _ _ c.loop-i-test.true more c.index-tops-i.is c.index-names-i.is other)

pub returns : goal.returns
returns c =
    let end : c.loop-i.i ≡ length c.args.tops.now = omega arith in
    sym (c.loop-i.invariant ∙ below_end c.args.tops.now c.args.names.now c.loop-i.i c.loop-i-test.false ∙ ap (λ k. nat_lt k (length c.args.names.now)) end)
