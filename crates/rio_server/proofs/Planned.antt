-- The plan of a drill can be run, and has few requests.
use Rattle.std.proofs.Common.{◌≡◌, ◌<◌, ◌≤◌, ◌+◌, ◌-◌, ◌*◌, ◌/◌, ◌%◌, ◌^◌, ◌==◌, ℕ, Bool, true, false, cond, zero, suc, refl, ap, arith, List, [], ◌∷◌, length, All, Option, Some, None, nat_le}
use Rattle.std.specs.Prelude.{sum_by}
use Rattle.std.proofs.Math.Nat.{mul-div-le}
use Rattle.std.proofs.lemmas.List.Sums.{sum_by-cons}
use Rattle.boots.specs.declared.plan.BootPlan.{BootPlan}
use Rattle.boots.specs.Plans.{boot_plan, cut_boot, last_boot, last_boots, share, some_requests}
use Rattle.boots.specs.Legal.{IsBootPlan}
use Rattle.rio_requests.specs.Requests.{IsRequest}
use Rattle.work_gen.specs.Draws.{boot}
use Rattle.work_gen.specs.Requests.{request}
use Rattle.work_gen.proofs.Forms.{request_is}

-- ---- requests

cons_all : {X : Type 0} (P : X → Type 0) (x : X) (xs : List X) → P x → All P xs → All P (x ∷ xs)
cons_all P x xs first rest zero d below = first
cons_all P x xs first rest (suc k) d below = rest k d (omega (arith, below))

none_all : {X : Type 0} (P : X → Type 0) → All P []
none_all P k d below = absurd (omega (arith, below))

requests_are : (count x : ℕ) → All IsRequest (some_requests count x).1
requests_are zero x = none_all IsRequest
requests_are (suc count) x = cons_all IsRequest (request x).1 (some_requests count (request x).0).1 (request_is x) (requests_are count (request x).0)

request_count : (count x : ℕ) → length (some_requests count x).1 ≡ count
request_count zero x = refl
request_count (suc count) x = let rest = request_count count (request x).0 in omega (arith, rest)

-- ---- boots

store_at : Option (ℕ × ℕ × ℕ) → ℕ
store_at None = 0
store_at (Some (step, at, value)) = at

-- the word of a wild store is one of memory, which has 143,360 words
armed_within : (count x step at value : ℕ) → (cut_boot count x).1.arm ≡ Some (step, at, value) → at < 143360
unfolding store_at
armed_within count x step at value is =
    let same : (boot x).1.arm_at ≡ at = ap store_at is in
    let small : (boot x).1.arm_at < 143360 = omega arith in
    omega (arith, same, small)

last_is : (count x : ℕ) → IsBootPlan 143360 (last_boot count x).1
last_is count x = record { requests = requests_are count x; armed = λ step at value is. cc is; calls = none_all (λ n. 1 ≤ n) }

cut_is : (count x : ℕ) → IsBootPlan 143360 (cut_boot count x).1
cut_is count x = record { requests = requests_are count (boot x).0; armed = armed_within count x; calls = none_all (λ n. 1 ≤ n) }

boot_by : (is_last : Bool) (count x : ℕ) → IsBootPlan 143360 (cond is_last (last_boot count x) (cut_boot count x)).1
boot_by true count x = last_is count x
boot_by false count x = cut_is count x

pub boots_are : (boots requests left x : ℕ) → All (IsBootPlan 143360) (last_boots boots requests left x)
boots_are boots requests zero x = none_all (IsBootPlan 143360)
boots_are boots requests (suc left) x =
    let plan = boot_plan left (share boots requests (boots - left)) x in
    cons_all (IsBootPlan 143360) plan.1 (last_boots boots requests left plan.0) (boot_by (left == 0) (share boots requests (boots - left)) x) (boots_are boots requests left plan.0)

-- ---- how many requests there are

abbrev pub request_total : List BootPlan → ℕ
request_total plans = sum_by (λ (plan : BootPlan). length plan.requests) plans

count_by_kind : (is_last : Bool) (count x : ℕ) → length (cond is_last (last_boot count x) (cut_boot count x)).1.requests ≡ count
count_by_kind true count x = request_count count x
count_by_kind false count x = request_count count (boot x).0

share_most : (boots requests j : ℕ) → share boots requests j ≤ requests / boots + 1
share_most boots requests j = by (nat_le j (requests % boots))
  where
    by : (more : Bool) → requests / boots + cond more 1 0 ≤ requests / boots + 1
    by true = omega arith
    by false = omega arith

total_most : (boots requests left x : ℕ) → request_total (last_boots boots requests left x) ≤ left * (requests / boots + 1)
total_most boots requests zero x = omega arith
total_most boots requests (suc left) x =
    let count : ℕ = share boots requests (boots - left) in
    let plan = boot_plan left count x in
    let here = count_by_kind (left == 0) count x in
    let most = share_most boots requests (boots - left) in
    let rest = total_most boots requests left plan.0 in
    let all = sum_by-cons (λ (p : BootPlan). length p.requests) plan.1 (last_boots boots requests left plan.0) in
    let Q : ℕ = requests / boots + 1 in
    let product : suc left * Q ≡ Q + left * Q = omega arith in
    omega (arith, here, most, rest, all, product)

-- the requests of all boots are few
pub total_few : (boots requests x : ℕ) → boots < 2 ^ 32 → requests < 2 ^ 32 → request_total (last_boots boots requests boots x) < 2 ^ 64
total_few boots requests x few_boots few_requests =
    let total = total_most boots requests boots x in
    let shared : boots * (requests / boots) ≤ requests = mul-div-le requests boots in
    let product : boots * (requests / boots + 1) ≡ boots * (requests / boots) + boots = omega arith in
    omega (arith, total, shared, product, few_boots, few_requests)
