-- Counts of replies.
use Rattle.std.proofs.Common.{Bool, ◌≤◌, ◌<◌, ◌^◌, arith, List, [], ◌∷◌, length}
use Rattle.std.specs.Prelude.{count_by}
use Rattle.std.proofs.lemmas.List.Sums.{count_by-le-length, sum_by-cons}
use Rattle.boots.specs.declared.transcript.BootRun.{BootRun}
use Rattle.rio_requests.specs.declared.reply.Reply.{Reply}
use Rattle.rio_requests.specs.declared.request.Request.{Request}
use Rattle.boots.specs.Summaries.{passing_count, reply_count}

-- no more pass a test than there are
pub passing_most : (test : Reply → Bool) (runs : List BootRun) → passing_count test runs ≤ reply_count runs
passing_most test [] = omega arith
passing_most test (run ∷ runs) =
    let here = count_by-le-length (λ (answer : Request × Reply). test answer.1) run.answered in
    let rest = passing_most test runs in
    let all = sum_by-cons (λ (r : BootRun). length r.answered) run runs in
    let some = sum_by-cons (λ (r : BootRun). count_by (λ (answer : Request × Reply). test answer.1) r.answered) run runs in
    omega (arith, here, rest, all, some)

pub passing_few : (test : Reply → Bool) (runs : List BootRun) → reply_count runs < 2 ^ 64 → passing_count test runs < 2 ^ 64
passing_few test runs few = let most = passing_most test runs in omega (arith, most, few)
