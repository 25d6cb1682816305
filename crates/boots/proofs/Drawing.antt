-- Requests and boots that are drawn one after the other.
use Rattle.std.proofs.Common.{◌≡◌, ◌∙◌, ◌<◌, ◌≤◌, ◌+◌, ◌-◌, ℕ, suc, sym, ap, arith, subst, List, [], ◌∷◌, ◌++◌, append-nil, append_assoc}
use Rattle.boots.specs.declared.plan.BootPlan.{BootPlan}
use Rattle.boots.specs.Plans.{boot_plan, last_boots, share, some_requests}
use Rattle.rio_requests.specs.declared.request.Request.{Request}
use Rattle.work_gen.specs.Draws.{Drawn}
use Rattle.work_gen.specs.Requests.{request}

-- ---- requests

-- these are there, and so many more, from the number x on, make the whole
abbrev pub Lacks : List Request → (left x : ℕ) → Drawn (List Request) → Type 0
Lacks items left x whole = ((some_requests left x).0 ≡ whole.0) × (items ++ (some_requests left x).1 ≡ whole.1)

drawn_next : (items now : List Request) (left x y : ℕ) (r : Request) (whole : Drawn (List Request)) → Lacks items (suc left) x whole → request x ≡ (y, r) → now ≡ items ++ r ∷ [] → Lacks now left y whole
drawn_next items now left x y r whole lacks drawn pushed =
    let P : Drawn Request → Type 0 = λ d. ((some_requests left d.0).0 ≡ whole.0) × (items ++ d.1 ∷ (some_requests left d.0).1 ≡ whole.1) in
    let next : P (y, r) = subst P drawn lacks in
    (next.0, ap (λ (xs : List Request). xs ++ (some_requests left y).1) pushed ∙ append_assoc items (r ∷ []) (some_requests left y).1 ∙ next.1)

-- one more is drawn
pub one_more : (items now : List Request) (count made x y : ℕ) (r : Request) (whole : Drawn (List Request)) → Lacks items (count - made) x whole → made < count → request x ≡ (y, r) → now ≡ items ++ r ∷ []
    → Lacks now (count - (made + 1)) y whole
one_more items now count made x y r whole lacks inside drawn pushed =
    let left : count - made ≡ suc (count - (made + 1)) = omega (arith, inside) in
    drawn_next items now (count - (made + 1)) x y r whole (subst (λ (n : ℕ). Lacks items n x whole) left lacks) drawn pushed

-- all are drawn
pub all_drawn : (items : List Request) (count made x : ℕ) (whole : Drawn (List Request)) → Lacks items (count - made) x whole → count ≤ made → whole ≡ (x, items)
all_drawn items count made x whole lacks past =
    let none : count - made ≡ 0 = omega (arith, past) in
    let all : Lacks items 0 x whole = subst (λ (n : ℕ). Lacks items n x whole) none lacks in
    let Pair : Type 0 = Drawn (List Request) in
    let first : (whole.0, whole.1) ≡ (x, whole.1) = ap (λ (n : ℕ). (n, whole.1)) (sym all.0) in
    let second : (x, whole.1) ≡ (x, items) = ap (λ (xs : List Request). (x, xs)) (sym (sym (append-nil items) ∙ all.1)) in
    first ∙ second

-- ---- boots

boots_next : (items now whole : List BootPlan) (boots requests left x y : ℕ) (plan : BootPlan) → items ++ last_boots boots requests (suc left) x ≡ whole
    → boot_plan left (share boots requests (boots - left)) x ≡ (y, plan) → now ≡ items ++ plan ∷ [] → now ++ last_boots boots requests left y ≡ whole
boots_next items now whole boots requests left x y plan lacks planned pushed =
    let P : Drawn BootPlan → Type 0 = λ d. items ++ d.1 ∷ last_boots boots requests left d.0 ≡ whole in
    let next : P (y, plan) = subst P planned lacks in
    ap (λ (plans : List BootPlan). plans ++ last_boots boots requests left y) pushed ∙ append_assoc items (plan ∷ []) (last_boots boots requests left y) ∙ next

-- one more is planned
pub one_more_boot : (items now whole : List BootPlan) (boots requests made count x y : ℕ) (plan : BootPlan) → items ++ last_boots boots requests (boots - made) x ≡ whole → made < boots
    → count ≡ share boots requests (made + 1) → boot_plan (boots - made - 1) count x ≡ (y, plan) → now ≡ items ++ plan ∷ []
    → now ++ last_boots boots requests (boots - (made + 1)) y ≡ whole
one_more_boot items now whole boots requests made count x y plan lacks inside shared planned pushed =
    let left : boots - made ≡ suc (boots - (made + 1)) = omega (arith, inside) in
    let following : boots - made - 1 ≡ boots - (made + 1) = omega (arith, inside) in
    let number : made + 1 ≡ boots - (boots - (made + 1)) = omega (arith, inside) in
    let have : count ≡ share boots requests (boots - (boots - (made + 1))) = shared ∙ ap (share boots requests) number in
    let same : boot_plan (boots - made - 1) count x ≡ boot_plan (boots - (made + 1)) (share boots requests (boots - (boots - (made + 1)))) x =
    ap (λ (n : ℕ). boot_plan n count x) following ∙ ap (λ (n : ℕ). boot_plan (boots - (made + 1)) n x) have in
    boots_next items now whole boots requests (boots - (made + 1)) x y plan (subst (λ (n : ℕ). items ++ last_boots boots requests n x ≡ whole) left lacks) (sym same ∙ planned) pushed

-- all are planned
pub all_planned : (items whole : List BootPlan) (boots requests made x : ℕ) → items ++ last_boots boots requests (boots - made) x ≡ whole → boots ≤ made → items ≡ whole
all_planned items whole boots requests made x lacks past =
    let none : boots - made ≡ 0 = omega (arith, past) in
    sym (append-nil items) ∙ ap (λ (n : ℕ). items ++ last_boots boots requests n x) (sym none) ∙ lacks
