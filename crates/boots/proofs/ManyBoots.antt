-- Boots that are run one after the other.
use Rattle.std.proofs.Common.{◌≡◌, ◌<◌, ◌+◌, ◌++◌, ℕ, List, [], ◌∷◌, length, take, get_or, refl, sym, ap, subst, ◌∙◌}
use Rattle.std.proofs.Math.Seq.{take-length}
use Rattle.std.proofs.lemmas.List.{take_more}
use Rattle.rio_model.specs.declared.state.State.{State}
use Rattle.boots.specs.declared.plan.BootPlan.{BootPlan}
use Rattle.boots.specs.declared.transcript.BootRun.{BootRun}
use Rattle.boots.specs.declared.plan.LivePlan.{LivePlan}
use Rattle.boots.specs.declared.transcript.Transcript.{Transcript}
use Rattle.rio_model.specs.Censuses.{IsCensus}
use Rattle.boots.specs.Legal.{BootLeads, BootsLead, Legal, file_bytes, first_state}

boots_push : (s t u : State) (plans : List BootPlan) (runs : List BootRun) (plan : BootPlan) (run : BootRun) → BootsLead s plans runs t → BootLeads t plan run u → BootsLead s (plans ++ plan ∷ []) (runs ++ run ∷ []) u
boots_push s t u [] [] plan run same leads = (u, subst (λ (x : State). BootLeads x plan run u) same leads, refl)
boots_push s t u (p ∷ plans) (r ∷ runs) plan run (mid, first, rest) leads = (mid, first, boots_push mid t u plans runs plan run rest leads)
boots_push s t u [] (r ∷ runs) plan run none leads = absurd none
boots_push s t u (p ∷ plans) [] plan run none leads = absurd none

-- the first n of these plans were run, and one more is
pub boots_more : (s t u : State) (plans : List BootPlan) (n : ℕ) (runs : List BootRun) (plan : BootPlan) (run : BootRun) → plan ≡ get_or plans n plan → n < length plans → BootsLead s (take n plans) runs t → BootLeads t plan run u → BootsLead s (take (n + 1) plans) (runs ++ run ∷ []) u
boots_more s t u plans n runs plan run is less lead leads =
    subst (λ (ps : List BootPlan). BootsLead s ps (runs ++ run ∷ []) u) (ap (λ (p : BootPlan). take n plans ++ p ∷ []) is ∙ sym (take_more plans n plan less)) (boots_push s t u (take n plans) runs plan run lead leads)

pub boots_none : (s : State) (plans : List BootPlan) (runs : List BootRun) → runs ≡ [] → BootsLead s (take 0 plans) runs s
boots_none s plans runs none = subst (λ (rs : List BootRun). BootsLead s [] rs s) (sym none) refl

pub boots_list : (s t : State) (plans : List BootPlan) (runs all : List BootRun) → all ≡ runs → BootsLead s plans runs t → BootsLead s plans all t
boots_list s t plans runs all same lead = subst (λ (rs : List BootRun). BootsLead s plans rs t) (sym same) lead

pub boots_all : (s t : State) (plans : List BootPlan) (n : ℕ) (runs : List BootRun) → n ≡ length plans → BootsLead s (take n plans) runs t → BootsLead s plans runs t
boots_all s t plans n runs all lead = subst (λ (ps : List BootPlan). BootsLead s ps runs t) (ap (λ k. take k plans) all ∙ take-length plans) lead

pub is_legal : (plan : LivePlan) (transcript : Transcript) (plans : List BootPlan) (runs : List BootRun) (t : State) → plans ≡ plan.boots → transcript.boots ≡ runs → BootsLead (first_state plan) plans runs t → IsCensus t transcript.last → transcript.bytes ≡ file_bytes t → Legal plan transcript
is_legal plan transcript plans runs t all told lead census bytes = record {
  last = t;
  boots = subst (λ (rs : List BootRun). BootsLead (first_state plan) plan.boots rs t) (sym told) (subst (λ (ps : List BootPlan). BootsLead (first_state plan) ps runs t) all lead);
  census = census;
  bytes = bytes;
}
