-- Laws of copied runs.
use Rattle.std.proofs.Common.{◌≡◌, ℕ, ◌+◌, ◌-◌, ◌<◌, ◌≤◌, List, ap, ◌∙◌, arith, inl, inr, ◌⊎◌}
use Rattle.std.proofs.lemmas.Bool.Decides.{nat_tests}
use Rattle.rio_base.specs.Regions.{AreWords, OldOrPutWords, RegionContent, put_words}
use Rattle.undo_list.specs.Stages.{Apart, CopiedFront, copied}

-- a copy behind what was copied
pub copied_on : (f m : RegionContent) (from to n k j : ℕ) → Apart from to n → k + j ≤ n → m ≡ copied f from to k → copied m (from + k) (to + k) j ≡ copied f from to (k + j)
copied_on f m from to n k j apart small is = ap (λ w. copied w (from + k) (to + k) j) is ∙ (λ i x. one x (grind arith) i)
  where
    one : (x : ℕ) → ((to + k ≤ x) × (x < to + k + j)) ⊎ ((x < to + k) ⊎ (to + k + j ≤ x)) → copied (copied f from to k) (from + k) (to + k) j x ≡ copied f from to (k + j) x
    one x (inl i) =
        let low : to + k ≤ x = i.0 in
        let high : x < to + k + j = i.1 in
        let place : from + k + (x - (to + k)) ≡ from + (x - to) = omega arith in
        grind (arith, nat_tests, apart)
    one x (inr (inl h)) = grind (arith, nat_tests)
    one x (inr (inr h)) = grind (arith, nat_tests)

pub front_on : (f m new : RegionContent) (from to n k j : ℕ) → Apart from to n → k + j ≤ n → m ≡ copied f from to k → CopiedFront m new (from + k) (to + k) j → CopiedFront f new from to n
front_on f m new from to n k j apart small is c = (k + c.0, omega (arith, c.1), c.2 ∙ copied_on f m from to n k c.0 apart (omega (arith, c.1)) is)

-- nothing is copied
pub front_none : (f g : RegionContent) (from to n : ℕ) → g ≡ f → CopiedFront f g from to n
front_none f g from to n same = (0, omega arith, same ∙ (λ i x. none x i))
  where
    none : (x : ℕ) → f x ≡ copied f from to 0 x
    none x = grind (arith, nat_tests)

-- words that were read are stored elsewhere
pub copied_put : (f m : RegionContent) (from to k n : ℕ) (run : List ℕ) → m ≡ f → k ≤ n → AreWords f from n run → put_words m to k run ≡ copied f from to k
copied_put f m from to k n run same small read = ap (λ w. put_words w to k run) same ∙ (λ i x. one x (grind arith) i)
  where
    one : (x : ℕ) → ((to ≤ x) × (x < to + k)) ⊎ ((x < to) ⊎ (to + k ≤ x)) → put_words f to k run x ≡ copied f from to k x
    one x (inl i) =
        let low : to ≤ x = i.0 in
        let high : x < to + k = i.1 in
        grind (arith, nat_tests, read.each (x - to) (omega (arith, small)))
    one x (inr (inl h)) = grind (arith, nat_tests)
    one x (inr (inr h)) = grind (arith, nat_tests)

pub front_put : (f m g : RegionContent) (from to most n : ℕ) (run : List ℕ) → m ≡ f → most ≤ n → AreWords f from n run → OldOrPutWords m g to run most → CopiedFront f g from to n
front_put f m g from to most n run same small read put = (put.0, omega (arith, put.1, small), put.2 ∙ copied_put f m from to put.0 n run same (omega (arith, put.1, small)) read)
