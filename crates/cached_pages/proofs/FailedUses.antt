-- The order of use after a call that failed.
use Rattle.cached_pages.proofs.Common.{◌≡◌, ℕ, ◌⊎◌, List, Option, Some, None, is_some, refl, ◌∙◌, ap, sym, inl, inr, none_some, true_false, order_of, entry_of_block}
use Rattle.frame_pool.specs.Orders.{freed_first}
use Rattle.frame_pool.specs.Pools.{least_recent}
use Rattle.cached_pages.specs.declared.tables.CacheTables.{CacheTables}
use Rattle.cached_pages.specs.Uses.{FailedUse, FreesNext, UsedLast, freed_order}

-- ---- a frame is made free for a block

pub next_same : (t u : CacheTables) → order_of u.pool ≡ order_of t.pool → FreesNext t u
next_same t u same = record { order = inl same }

pub next_refl : (t : CacheTables) → FreesNext t t
next_refl t = next_same t t refl

pub next_freed : (k : ℕ) (t u : CacheTables) → least_recent t.pool ≡ Some k → order_of u.pool ≡ freed_first k (order_of t.pool) → FreesNext t u
next_freed k t u oldest e = record { order = inr (e ∙ sym (ap (λ (o : Option ℕ). freed_order o (order_of t.pool)) oldest)) }

pub next_then : (t u v : CacheTables) → FreesNext t u → order_of v.pool ≡ order_of u.pool → FreesNext t v
next_then t u v h same = record { order = from h.order }
  where
    from : (order_of u.pool ≡ order_of t.pool) ⊎ (order_of u.pool ≡ freed_order (least_recent t.pool) (order_of t.pool)) → (order_of v.pool ≡ order_of t.pool) ⊎ (order_of v.pool ≡ freed_order (least_recent t.pool) (order_of t.pool))
    from (inl e) = inl (same ∙ e)
    from (inr e) = inr (same ∙ e)

-- ---- the call fails

-- the block didn't come
pub failed_missed : (b : ℕ) (words : List ℕ) (t u : CacheTables) → entry_of_block words b ≡ None → FreesNext t u → FailedUse b words t u
failed_missed b words t u none h = record { came = λ some. absurd (true_false (sym some ∙ ap is_some none)); missed = λ gone. h }

-- it came
pub failed_used : (b : ℕ) (words : List ℕ) (t u : CacheTables) → UsedLast b words t u → FailedUse b words t u
failed_used b words t u h = record { came = λ some. h; missed = λ none. absurd (none_some h.frame (entry_of_block words b) none h.found) }
