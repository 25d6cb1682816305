-- With a frame for each block, a frame is free while a block isn't cached.
use Rattle.cached_pages.proofs.Common.{◌≡◌, ◌≢◌, ℕ, suc, ◌<◌, ◌≤◌, ◌==◌, Bool, true, false, ◌⊎◌, if◌then◌else◌, List, length, Some, None, is_some, refl, ◌∙◌, ap, sym, subst, inl, inr, arith, cases_eq, eq-eqb, ne_eqb, Contents, none_some, true_false, IsValid, frames_of, is_valid, tag_at, tag_block, block_of, entry_of_block}
use Rattle.rio_base.specs.Disks.{raised}
use Rattle.frame_pool.specs.Pools.{IsVictim, NoneFree}
use Rattle.rio_model.specs.Registry.{is_dirty}
use Rattle.rio_model.proofs.CoverLookups.{found_none}
use Rattle.write_back.specs.Flushing.{SameDisk}
use Rattle.cached_pages.specs.declared.tables.CacheTables.{CacheTables}
use Rattle.cached_pages.specs.Caches.{CacheSound, FewWrites}
use Rattle.cached_pages.proofs.Pigeons.{pigeons}

-- the blocks of the entries, and b behind them
block_by : List ℕ → ℕ → ℕ → ℕ → ℕ
block_by words frames b k = if k == frames then b else tag_block (tag_at words k)

at_end : (words : List ℕ) (frames b k : ℕ) → k ≡ frames → block_by words frames b k ≡ b
unfolding block_by
at_end words frames b k e = rw (eq-eqb k frames e) refl

before_end : (words : List ℕ) (frames b k : ℕ) → k ≢ frames → block_by words frames b k ≡ tag_block (tag_at words k)
unfolding block_by
before_end words frames b k ne = rw (ne_eqb k frames ne) refl

bound_is : (valid : Bool) (block : ℕ) → ((if valid then Some block else None) ≡ None → ⊥) → valid ≡ true
bound_is true block h = refl
bound_is false block h = absurd (h refl)

pub roomy_free : (b n k : ℕ) (c : Contents) (t : CacheTables) → CacheSound c n t → entry_of_block c.words b ≡ None → b < length c.disk → length c.disk ≤ frames_of c.words → (block_of t.pool k ≡ None) ⊎ NoneFree t.pool → block_of t.pool k ≡ None
roomy_free b n k c t s none there roomy (inl e) = e
roomy_free b n k c t s none there roomy (inr h) = absurd (omega (arith, roomy, pigeons f (suc (frames_of c.words)) (length c.disk) (record { below = λ j less. below j less (cases_eq j (frames_of c.words)); apart = λ i j x y e. apart i j x y e (cases_eq i (frames_of c.words)) (cases_eq j (frames_of c.words)) })))
  where
    f : ℕ → ℕ
    f = block_by c.words (frames_of c.words) b

    valid : (j : ℕ) → j < frames_of c.words → IsValid c.words j
    valid j less = record { within = less; valid = bound_is (is_valid (tag_at c.words j)) (tag_block (tag_at c.words j)) (λ e. h j (subst (λ m. j < m) (sym s.frames) less) (s.bound j less ∙ e)) }

    below : (j : ℕ) → j < suc (frames_of c.words) → (j ≡ frames_of c.words) ⊎ (j ≢ frames_of c.words) → block_by c.words (frames_of c.words) b j < length c.disk
    below j less (inl e) = subst (λ x. x < length c.disk) (sym (at_end c.words (frames_of c.words) b j e)) there
    below j less (inr ne) = subst (λ x. x < length c.disk) (sym (before_end c.words (frames_of c.words) b j ne)) ((s.coherent.entries j).on_disk (valid j (omega (arith, less, ne))))

    apart : (i j : ℕ) → i < suc (frames_of c.words) → j < suc (frames_of c.words) → block_by c.words (frames_of c.words) b i ≡ block_by c.words (frames_of c.words) b j → (i ≡ frames_of c.words) ⊎ (i ≢ frames_of c.words) → (j ≡ frames_of c.words) ⊎ (j ≢ frames_of c.words) → i ≡ j
    apart i j x y e (inl p) (inl q) = p ∙ sym q
    apart i j x y e (inl p) (inr ne) = absurd (found_none c.words b j none (valid j (omega (arith, y, ne))) (sym (before_end c.words (frames_of c.words) b j ne) ∙ sym e ∙ at_end c.words (frames_of c.words) b i p))
    apart i j x y e (inr ne) (inl q) = absurd (found_none c.words b i none (valid i (omega (arith, x, ne))) (sym (before_end c.words (frames_of c.words) b i ne) ∙ e ∙ at_end c.words (frames_of c.words) b j q))
    apart i j x y e (inr ne) (inr no_end) = s.coherent.rules.blocks i j (valid i (omega (arith, x, ne))) (valid j (omega (arith, y, no_end))) (sym (before_end c.words (frames_of c.words) b i ne) ∙ e ∙ before_end c.words (frames_of c.words) b j no_end)

-- a valid victim: no frame is free
pub none_free : (k n : ℕ) (c : Contents) (t : CacheTables) → CacheSound c n t → (block_of t.pool k ≡ None) ⊎ NoneFree t.pool → IsValid c.words k → (j : ℕ) → j < frames_of c.words → is_valid (tag_at c.words j) ≡ false → ⊥
none_free k n c t s (inl e) v j less gone = none_some (tag_block (tag_at c.words k)) (block_of t.pool k) e (s.bound k v.within ∙ rw v.valid refl)
none_free k n c t s (inr h) v j less gone = h j (subst (λ m. j < m) (sym s.frames) less) (s.bound j less ∙ rw gone refl)

-- the frame to be used next has a block: so has each
pub all_valid : (k n : ℕ) (c : Contents) (t : CacheTables) → CacheSound c n t → IsVictim t.pool k → is_valid (tag_at c.words k) ≡ true → (j : ℕ) → j < frames_of c.words → is_valid (tag_at c.words j) ≡ true
all_valid k n c t s victim is j less = from (is_valid (tag_at c.words j)) refl
  where
    from : (v : Bool) → is_valid (tag_at c.words j) ≡ v → is_valid (tag_at c.words j) ≡ true
    from true e = e
    from false e = absurd (none_free k n c t s victim.free (record { within = subst (λ f. k < f) s.frames victim.within; valid = is }) j less e)

some_inj : (x y : ℕ) → Some x ≡ Some y → x ≡ y
some_inj x y e = cc

-- a valid victim, while b isn't cached: no frame is free, and there are fewer frames than blocks
pub few_evicted : (b n k : ℕ) (c d : Contents) (t : CacheTables) → CacheSound c n t → entry_of_block c.words b ≡ None → b < length c.disk → IsVictim t.pool k → IsValid c.words k → d.writes ≤ raised c.writes 1 → (is_dirty (tag_at c.words k) ≡ false → SameDisk c d) → FewWrites b t c d
few_evicted b n k c d t s none there victim v one clean = record {
  one = one;
  cached = λ e. absurd (true_false (sym e ∙ ap is_some none));
  free = λ j less gone. absurd (none_free k n c t s victim.free v j less gone);
  roomy = λ r. absurd (none_some (tag_block (tag_at c.words k)) (block_of t.pool k) (roomy_free b n k c t s none there r victim.free) (s.bound k v.within ∙ rw v.valid refl));
  clean = λ j e bright. clean (subst (λ i. is_dirty (tag_at c.words i) ≡ false) (some_inj j k (sym e ∙ victim.first)) bright);
}
