-- A legal transcript has no more replies than its plan has requests.
use Rattle.std.proofs.Common.{◌≡◌, ◌<◌, ◌≤◌, ◌++◌, ◌^◌, ℕ, Result, Ok, Err, ap, arith, subst, List, [], ◌∷◌, length, Option, Some, None, length-append}
use Rattle.std.specs.Prelude.{IfOk}
use Rattle.std.proofs.lemmas.List.{length-map}
use Rattle.std.proofs.lemmas.List.Sums.{sum_by-cons}
use Rattle.boots.specs.declared.plan.BootPlan.{BootPlan}
use Rattle.boots.specs.declared.plan.LivePlan.{LivePlan}
use Rattle.boots.specs.declared.transcript.BootEnd.{BootEnd}
use Rattle.boots.specs.declared.transcript.BootEnd.TheVariants.{Served, Stopped, BootFault}
use Rattle.boots.specs.declared.transcript.BootRun.{BootRun}
use Rattle.boots.specs.declared.transcript.Transcript.{Transcript}
use Rattle.boots.specs.Legal.{BootEnds, BootsLead, Legal, ServesNone, requests_of}
use Rattle.rio_model.specs.declared.state.State.{State}
use Rattle.rio_requests.specs.declared.reply.Reply.{Reply}
use Rattle.rio_requests.specs.declared.request.Request.{Request}
use Rattle.boots.specs.Plans.{plan_of}
use Rattle.boots.specs.Summaries.{reply_count}
use Rattle.rio_server.proofs.Planned.{request_total, total_few}

answered_count : (answered : List (Request × Reply)) → length (requests_of answered) ≡ length answered
answered_count answered = length-map answered (λ (pair : Request × Reply). pair.0)

none_answered : (s t : State) (requests : List Request) (answered : List (Request × Reply)) → ServesNone s answered t → length answered ≤ length requests
none_answered s t requests answered none = let empty : length answered ≡ 0 = ap length none.none in omega (arith, empty)

-- one boot answers no more than it was given
boot_few : (end : BootEnd) (on : Option Request) (set : Type 0) (s t : State) (requests : List Request) (answered : List (Request × Reply)) → BootEnds end on set s requests answered t
    → length answered ≤ length requests
boot_few Served None set s t requests answered ends =
    let same : length (requests_of answered) ≡ length requests = ap length ends.whole in
    omega (arith, same, answered_count answered)
boot_few Stopped (Some r) set s t requests answered ends =
    let front : List Request = requests_of answered ++ r ∷ [] in
    let whole : length requests ≡ length (front ++ ends.first.0) = ap length ends.first.1 in
    omega (arith, whole, length-append front ends.first.0, length-append (requests_of answered) (r ∷ []), answered_count answered)
boot_few Stopped None set s t requests answered ends = none_answered s t requests answered ends.0
boot_few BootFault None set s t requests answered ends = none_answered s t requests answered ends
boot_few Served (Some r) set s t requests answered ends = absurd ends
boot_few BootFault (Some r) set s t requests answered ends = absurd ends

boots_few : (s t : State) (plans : List BootPlan) (runs : List BootRun) → BootsLead s plans runs t → reply_count runs ≤ request_total plans
boots_few s t [] [] lead = omega arith
boots_few s t [] (run ∷ runs) lead = absurd lead
boots_few s t (plan ∷ plans) [] lead = absurd lead
boots_few s t (plan ∷ plans) (run ∷ runs) lead =
    let here = boot_few run.end run.stopped_on _ s lead.0 plan.requests run.answered lead.1.ends in
    let rest = boots_few lead.0 t plans runs lead.2 in
    let replies = sum_by-cons (λ (r : BootRun). length r.answered) run runs in
    let requests = sum_by-cons (λ (p : BootPlan). length p.requests) plan plans in
    omega (arith, here, rest, replies, requests)

pub drill_few : (seed boots requests : ℕ) (t : Transcript) → boots < 2 ^ 32 → requests < 2 ^ 32 → Legal (plan_of seed boots requests) t → reply_count t.boots < 2 ^ 64
drill_few seed boots requests t few_boots few_requests legal =
    let most = boots_few _ legal.last (plan_of seed boots requests).boots t.boots legal.boots in
    let few = total_few boots requests seed few_boots few_requests in
    omega (arith, most, few)

-- ---- as the call answers

pub legal_drill : {E : Type 0} {plan whole : LivePlan} (answer : Result Transcript E) → plan ≡ whole → IfOk answer (λ t. Legal plan t) → IfOk answer (λ t. Legal whole t)
legal_drill answer is legal = subst (λ (p : LivePlan). IfOk answer (λ t. Legal p t)) is legal

pub few_answered : {E : Type 0} {plan : LivePlan} (seed boots requests : ℕ) (answer : Result Transcript E) → boots < 2 ^ 32 → requests < 2 ^ 32 → plan ≡ plan_of seed boots requests
    → IfOk answer (λ t. Legal plan t) → IfOk answer (λ t. reply_count t.boots < 2 ^ 64)
few_answered seed boots requests (Ok t) few_boots few_requests is legal = drill_few seed boots requests t few_boots few_requests (subst (λ (p : LivePlan). Legal p t) is legal)
few_answered seed boots requests (Err e) few_boots few_requests is legal = tt
