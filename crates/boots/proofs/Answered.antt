-- Requests that are answered one after the other.
use Rattle.std.proofs.Common.{◌≡◌, ◌<◌, ◌+◌, ◌++◌, ℕ, List, [], ◌∷◌, length, take, drop, get_or, refl, sym, ap, subst, ◌∙◌}
use Rattle.std.specs.Prelude.{map, Option, Some}
use Rattle.std.proofs.Math.Seq.{take-length}
use Rattle.std.proofs.lemmas.List.{take-append-drop, take_more}
use Rattle.rio_base.specs.Blocks.{Health}
use Rattle.rio_base.specs.Volume.{Below}
use Rattle.rio_model.specs.declared.state.State.{State}
use Rattle.rio_requests.specs.declared.reply.Reply.{Reply}
use Rattle.rio_requests.specs.declared.request.Request.{Request}
use Rattle.rio_requests.specs.Parts.{IsPart}
use Rattle.rio_requests.specs.Run.{Run, Step}
use Rattle.rio_requests.specs.Went.{StoppedOn, Went}
use Rattle.rio_requests.proofs.WentRules.{went_more, went_none}
use Rattle.boots.specs.Boots.{AreAnswered, MeetsStop}
use Rattle.boots.specs.Legal.{replies_of, requests_of}

-- ---- lists that get one more

pub requests_push : (answered : List (Request × Reply)) (r : Request) (reply : Reply) → requests_of (answered ++ (r, reply) ∷ []) ≡ requests_of answered ++ r ∷ []
requests_push [] r reply = refl
requests_push (pair ∷ answered) r reply = ap (λ (rest : List Request). pair.0 ∷ rest) (requests_push answered r reply)

replies_push : (answered : List (Request × Reply)) (r : Request) (reply : Reply) → replies_of (answered ++ (r, reply) ∷ []) ≡ replies_of answered ++ reply ∷ []
replies_push [] r reply = refl
replies_push (pair ∷ answered) r reply = ap (λ (rest : List Reply). pair.1 ∷ rest) (replies_push answered r reply)

asked_push : (answered : List (Request × Reply)) (r : Request) (reply : Reply) → map Some (requests_of (answered ++ (r, reply) ∷ [])) ≡ map Some (requests_of answered) ++ Some r ∷ []
asked_push [] r reply = refl
asked_push (pair ∷ answered) r reply = ap (λ (rest : List (Option Request)). Some pair.0 ∷ rest) (asked_push answered r reply)

run_push : (s t u : State) (requests : List (Option Request)) (replies : List Reply) (request : Option Request) (reply : Reply) → Run s requests replies t → Step t request reply u → Run s (requests ++ request ∷ []) (replies ++ reply ∷ []) u
run_push s t u [] [] request reply run step = (u, subst (λ (x : State). Step x request reply u) run step, refl)
run_push s t u (q ∷ requests) (p ∷ replies) request reply (mid, first, rest) step = (mid, first, run_push mid t u requests replies request reply rest step)
run_push s t u [] (p ∷ replies) request reply run step = absurd run
run_push s t u (q ∷ requests) [] request reply run step = absurd run

-- ---- requests

pub none_answered : (s : State) (h : Health) (b : Below) → AreAnswered s [] s h b h b
none_answered s h b = record { leads = refl; went = went_none h b }

-- one more
pub one_answered : (s t u : State) (answered : List (Request × Reply)) (r : Request) (reply : Reply) (h : Health) (b : Below) (i : Health) (c : Below) (j : Health) (d : Below) → AreAnswered s answered t h b i c → Step t (Some r) reply u → Went (Some r ∷ []) (reply ∷ []) i c j d → AreAnswered s (answered ++ (r, reply) ∷ []) u h b j d
one_answered s t u answered r reply h b i c j d so step went = record {
  leads =
      subst (λ (requests : List (Option Request)). Run s requests (replies_of (answered ++ (r, reply) ∷ [])) u) (sym (asked_push answered r reply))
      (subst (λ (replies : List Reply). Run s (map Some (requests_of answered) ++ Some r ∷ []) replies u) (sym (replies_push answered r reply)) (run_push s t u (map Some (requests_of answered)) (replies_of answered) (Some r) reply so.leads step));
  went =
      subst (λ (requests : List (Option Request)). Went requests (replies_of (answered ++ (r, reply) ∷ [])) h b j d) (sym (asked_push answered r reply))
      (subst (λ (replies : List Reply). Went (map Some (requests_of answered) ++ Some r ∷ []) replies h b j d) (sym (replies_push answered r reply)) (went_more (map Some (requests_of answered)) (replies_of answered) (Some r) reply h b i c j d so.went went));
}

-- ---- the requests of a boot, of which the first n were answered

-- a server holds the state that they lead to
abbrev pub Leads : (State → Type 0) → State → List Request → ℕ → List (Request × Reply) → Health → Below → Health → Below → Type 0
Leads holds s requests n answered h b i c = (t : State) × holds t × (requests_of answered ≡ take n requests) × AreAnswered s answered t h b i c

one_further : (requests : List Request) (n : ℕ) (r asked : Request) → r ≡ get_or requests n r → asked ≡ r → n < length requests → take n requests ++ asked ∷ [] ≡ take (n + 1) requests
one_further requests n r asked is same less = ap (λ (x : Request). take n requests ++ x ∷ []) (same ∙ is) ∙ sym (take_more requests n r less)

-- one more is
pub leads_more : (was now : State → Type 0) (s : State) (requests : List Request) (n : ℕ) (answered : List (Request × Reply)) (r asked : Request) (reply : Reply) (h : Health) (b : Below) (i : Health) (c : Below) (j : Health) (d : Below)
    → r ≡ get_or requests n r → asked ≡ r → n < length requests → Leads was s requests n answered h b i c → ((t : State) → was t → (u : State) × Step t (Some r) reply u × now u) → Went (Some r ∷ []) (reply ∷ []) i c j d
    → Leads now s requests (n + 1) (answered ++ (asked, reply) ∷ []) h b j d
leads_more was now s requests n answered r asked reply h b i c j d is same less (t, held, front, so) steps went =
    let next = steps t held in (
      next.0,
      next.2,
      requests_push answered asked reply ∙ ap (λ (xs : List Request). xs ++ asked ∷ []) front ∙ one_further requests n r asked is same less,
      subst (λ (x : Request). AreAnswered s (answered ++ (x, reply) ∷ []) next.0 h b j d) (sym same) (one_answered s t next.0 answered r reply h b i c j d so next.1 went),
    )

-- the next one meets a stop
pub leads_stop : (was stands : State → Type 0) (s : State) (requests : List Request) (n : ℕ) (answered : List (Request × Reply)) (r asked : Request) (h : Health) (b : Below) (i : Health) (c : Below) (j : Health) (d : Below)
    → r ≡ get_or requests n r → asked ≡ r → n < length requests → Leads was s requests n answered h b i c → ((t : State) → was t → (u : State) × IsPart t r u × stands u) → StoppedOn r i c j d
    → (u : State) × stands u × MeetsStop s requests answered asked u h b j d
leads_stop was stands s requests n answered r asked h b i c j d is same less (t, held, front, so) parts stop =
    let next = parts t held in (
      next.0,
      next.2,
      record {
        first = (drop (n + 1) requests, sym (ap (λ (xs : List Request). xs ++ drop (n + 1) requests) whole ∙ take-append-drop (n + 1) requests));
        mid = t;
        health = i;
        below = c;
        before = so;
        part = subst (λ (x : Request). IsPart t x next.0) (sym same) next.1;
        stopped = subst (λ (x : Request). StoppedOn x i c j d) (sym same) stop;
      },
    )
  where
    whole : requests_of answered ++ asked ∷ [] ≡ take (n + 1) requests
    whole = ap (λ (xs : List Request). xs ++ asked ∷ []) front ∙ one_further requests n r asked is same less

-- all were
pub leads_all : (holds : State → Type 0) (s : State) (requests : List Request) (n : ℕ) (answered : List (Request × Reply)) (h : Health) (b : Below) (i : Health) (c : Below) → n ≡ length requests → Leads holds s requests n answered h b i c → (t : State) × holds t × (requests_of answered ≡ requests) × AreAnswered s answered t h b i c
leads_all holds s requests n answered h b i c all (t, held, front, so) = (t, held, front ∙ ap (λ k. take k requests) all ∙ take-length requests, so)

-- none is yet
pub leads_none : (holds : State → Type 0) (s : State) (requests : List Request) (answered : List (Request × Reply)) (h : Health) (b : Below) → answered ≡ [] → holds s → Leads holds s requests 0 answered h b h b
leads_none holds s requests answered h b none held = subst (λ (list : List (Request × Reply)). Leads holds s requests 0 list h b h b) (sym none) (s, held, refl, none_answered s h b)

-- the list as it was made
pub leads_list : (holds : State → Type 0) (s : State) (requests : List Request) (n : ℕ) (answered all : List (Request × Reply)) (h : Health) (b : Below) (i : Health) (c : Below) → all ≡ answered → Leads holds s requests n answered h b i c → Leads holds s requests n all h b i c
leads_list holds s requests n answered all h b i c same leads = subst (λ (list : List (Request × Reply)). Leads holds s requests n list h b i c) (sym same) leads
