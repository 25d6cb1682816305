-- Wild stores on a cache's machine, between its calls.
use Rattle.cached_pages.proofs.Common.{◌≡◌, ℕ, ◌+◌, ◌-◌, ◌/◌, ◌<◌, length, Some, None, refl, ◌∙◌, ap, sym, subst, arith, length-set, Contents, Running, none_some}
use Rattle.rio_base.specs.Machine.{Meets, after_wild}
use Rattle.rio_base.specs.declared.wild.Wild.{Wild}
use Rattle.rio_base.specs.declared.wild.Wild.TheVariants.{Changed, Trapped, Spared}
use Rattle.rio_base.specs.Volume.{Below}
use Rattle.cached_pages.specs.declared.tables.CacheTables.{CacheTables}
use Rattle.cached_pages.specs.Caches.{CacheSound, cache_below, cache_health, cache_kept, is_roomy}
use Rattle.rio_model.specs.Cover.{causes_of, home_of}
use Rattle.page_cache.specs.Wilds.{Arms, Strikes}

wild_scratch : (w : Wild) (at v : ℕ) (r : Running) → length (after_wild w at v r).scratch ≡ length r.scratch
wild_scratch Changed at v r = length-set r.scratch (at - r.protected) v
wild_scratch Spared at v r = refl
wild_scratch Trapped at v r = refl

-- what holds stays, where the machine's contents do, and its scratch pages are as many
pub sound_on : (n m : ℕ) (c d : Contents) (t : CacheTables) → CacheSound c n t → d ≡ c → m ≡ n → CacheSound d m t
sound_on n m c d t s e same = subst (λ x. CacheSound x m t) (sym e) (subst (λ x. CacheSound c x t) (sym same) s)

pub wild_sound : (w : Wild) (at v : ℕ) (c d : Contents) (r s : Running) (t : CacheTables) → CacheSound c (length r.scratch) t → d ≡ c → s ≡ after_wild w at v r → CacheSound d (length s.scratch) t
wild_sound w at v c d r s t sound e run = sound_on (length r.scratch) (length s.scratch) c d t sound e (ap (λ (u : Running). length u.scratch) run ∙ wild_scratch w at v r)

pub arm_sound : (at step v : ℕ) (c d : Contents) (r s : Running) (t : CacheTables) → CacheSound c (length r.scratch) t → d ≡ c → s ≡ record r { armed = Some at; armed_left = step; armed_value = v } → CacheSound d (length s.scratch) t
arm_sound at step v c d r s t sound e run = sound_on (length r.scratch) (length s.scratch) c d t sound e (ap (λ (u : Running). length u.scratch) run)

-- ---- what the volume tells

pub place_of : (at : ℕ) (c : Contents) (r : Running) → r.protected ≡ length c.words → at < r.protected + length r.scratch → at < length c.words + length r.scratch
place_of at c r same less = omega (arith, same, less)

health_on : (c d : Contents) (s : Running) → d ≡ c → cache_health d s ≡ cache_health c s
health_on c d s e = ap (λ x. cache_health x s) e

below_on : (c d : Contents) (s : Running) → d ≡ c → cache_below d s ≡ cache_below c s
below_on c d s e = ap (λ x. cache_below x s) e

-- as many words of scratch, and else the same
below_scratch : (c : Contents) (r : Running) → ℕ → Below
below_scratch c r n = record { roomy = is_roomy c; home = Some (home_of c); writes = c.writes; around = c.around; causes = causes_of r; memory = record { protected = r.protected; scratch = n }; limit = c.faults.limit }

below_changed : (at v : ℕ) (c : Contents) (r : Running) → cache_below c (after_wild Changed at v r) ≡ cache_below c r
unfolding below_scratch
below_changed at v c r = ap (below_scratch c r) (length-set r.scratch (at - r.protected) v)

pub strikes_of : (w : Wild) (at v : ℕ) (c d : Contents) (r s : Running) → c.open_page ≡ None → r.protected ≡ length c.words → d ≡ c → s ≡ after_wild w at v r → Meets c at w → Strikes at w (cache_health c r) (cache_below c r) (cache_health d s) (cache_below d s)
strikes_of Changed at v c d r s closed same e run meets = record {
  traps = λ less. absurd (omega (arith, less, same, meets));
  changes = λ more. (refl, health_on c d s e ∙ ap (cache_health c) run, below_on c d s e ∙ ap (cache_below c) run ∙ below_changed at v c r);
}
strikes_of Spared at v c d r s closed same e run meets = absurd (none_some (at / 512) c.open_page closed meets)
strikes_of Trapped at v c d r s closed same e run meets = record {
  traps = λ less. (refl, health_on c d s e ∙ ap (cache_health c) run, below_on c d s e ∙ ap (cache_below c) run);
  changes = λ more. absurd (omega (arith, more, same, meets.0));
}

pub arms_of : (at step v : ℕ) (c d : Contents) (r s : Running) → d ≡ c → s ≡ record r { armed = Some at; armed_left = step; armed_value = v } → Arms at (cache_health c r) (cache_below c r) (cache_health d s) (cache_below d s)
arms_of at step v c d r s e run = record { health = health_on c d s e ∙ ap (cache_health c) run; below = below_on c d s e ∙ ap (cache_below c) run }

pub kept_on : (c d : Contents) (t u : CacheTables) → d ≡ c → u ≡ t → cache_kept d u ≡ cache_kept c t
kept_on c d t u e f = ap (λ x. cache_kept x u) e ∙ ap (cache_kept c) f
