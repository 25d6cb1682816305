-- The frame that was used next after another.
use Rattle.std.specs.Prelude.{◌≡◌, ◌≢◌, ℕ, ◌<◌, ◌⊎◌, List, [], ◌∷◌, ◌++◌, Some, None, refl}
use Rattle.std.proofs.Common.{◌∙◌, ap, sym, subst, inl, inr, arith}
use Rattle.frame_pool.specs.declared.frame.Frame.{Frame}
use Rattle.frame_pool.specs.Frames.{older_at, order_at, younger_at}
use Rattle.frame_pool.specs.Orders.{first_of}
use Rattle.frame_pool.specs.Rings.{Chain, HasEachOnce, IsRing}
use Rattle.frame_pool.proofs.Moves.{AreBelow, all_below}
use Rattle.frame_pool.proofs.Times.{times_most, times_same}

-- what is read behind number k: the end of the chain, or a number of the list
abbrev Follows : ℕ → List ℕ → ℕ → Type 0
Follows n ys next = ((ys ≡ []) × (next ≡ n)) ⊎ ((first_of ys ≡ Some next) × (next < n))

at_front : (n : ℕ) (o y : ℕ → ℕ) (k : ℕ) (ys : List ℕ) → Chain o y k ys n → AreBelow n ys → Follows n ys (y k)
unfolding Chain
at_front n o y k [] c all = inl (refl, c.0)
at_front n o y k (x ∷ ys) c all = inr (ap Some (sym c.0), subst (λ i. i < n) (sym c.0) (all.each x (omega (arith, times_same x x ys refl))))

behind : (n : ℕ) (o y : ℕ → ℕ) (k a : ℕ) (xs ys : List ℕ) → Chain o y a (xs ++ (k ∷ ys)) n → AreBelow n (xs ++ (k ∷ ys)) → Follows n ys (y k)
unfolding Chain
behind n o y k a [] ys c all = at_front n o y k ys c.1.1 (record { each = λ j some. all.each j (omega (arith, some, times_most j k ys)) })
behind n o y k a (x ∷ xs) ys c all = behind n o y k x xs ys c.1.1 (record { each = λ j some. all.each j (omega (arith, some, times_most j x (xs ++ (k ∷ ys)))) })

follows : (frames : List Frame) (n k : ℕ) (xs ys : List ℕ) → IsRing frames n → HasEachOnce (order_at frames n) n → order_at frames n ≡ xs ++ (k ∷ ys) → Follows n ys (younger_at frames k)
follows frames n k xs ys ring once e = behind n (older_at frames) (younger_at frames) k n xs ys (subst (λ l. Chain (older_at frames) (younger_at frames) n l n) e ring) (subst (AreBelow n) e (all_below n (order_at frames n) once))

first_none : (n next : ℕ) (ys : List ℕ) → Follows n ys next → next ≡ n → None ≡ first_of ys
first_none n next ys (inl f) e = sym (ap first_of f.0)
first_none n next ys (inr f) e = absurd (omega (arith, f.1, e))

first_some : (n next : ℕ) (ys : List ℕ) → Follows n ys next → next ≢ n → Some next ≡ first_of ys
first_some n next ys (inl f) ne = absurd (ne f.1)
first_some n next ys (inr f) ne = sym f.0

-- the last frame has none behind it
pub none_next : (frames : List Frame) (n k next : ℕ) (xs ys : List ℕ) → IsRing frames n → HasEachOnce (order_at frames n) n → next ≡ younger_at frames k → next ≡ n → order_at frames n ≡ xs ++ (k ∷ ys) → None ≡ first_of ys
none_next frames n k next xs ys ring once is last e = first_none n (younger_at frames k) ys (follows frames n k xs ys ring once e) (sym is ∙ last)

-- each other has the one that it is linked with
pub some_next : (frames : List Frame) (n k next : ℕ) (xs ys : List ℕ) → IsRing frames n → HasEachOnce (order_at frames n) n → next ≡ younger_at frames k → next ≢ n → order_at frames n ≡ xs ++ (k ∷ ys) → Some next ≡ first_of ys
some_next frames n k next xs ys ring once is ne e = ap Some is ∙ first_some n (younger_at frames k) ys (follows frames n k xs ys ring once e) (λ q. ne (is ∙ q))
