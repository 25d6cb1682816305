-- The steps of a store, one after another, and what callers see of them.
use Rattle.cached_pages.proofs.Common.{◌≡◌, ◌≢◌, ℕ, Bool, true, false, ◌⊎◌, List, Option, Some, None, is_some, refl, ◌∙◌, ap, sym, inl, inr, arith, PageName, Contents, none_some, true_false, IsValid, is_dirty, tag_at, tag_block, Coherent, Narrows, entry_of_block, name_in, found_at, found_is}
use Rattle.rio_base.specs.Blocks.{Drops}
use Rattle.rio_base.specs.Volume.{CachesStored, stored_name, widened}
use Rattle.cached_pages.specs.Caches.{Adds, cache_seen}
use Rattle.cached_pages.specs.Stores.{SameCached, Widens}

-- ---- entries and names

pub valid_cached : (n k : ℕ) (a c : Contents) → Coherent a n → IsValid a.words k → SameCached a.words c.words → IsValid c.words k
valid_cached n k a c s v h = (found_is c.words _ k (h.found (tag_block (tag_at a.words k)) ∙ found_at a.words _ k s.rules.blocks v refl)).0

name_kept : (n k : ℕ) (a c : Contents) → Coherent a n → IsValid a.words k → SameCached a.words c.words → name_in c.words (Some k) ≡ name_in a.words (Some k)
name_kept n k a c s v h = h.names (tag_block (tag_at a.words k)) k (found_at a.words _ k s.rules.blocks v refl)

pub widens_cached : (n k : ℕ) (name : Option PageName) (a c : Contents) → Coherent a n → IsValid a.words k → SameCached a.words c.words → Widens k name a.words c.words
widens_cached n k name a c s v h = record { found = h.found; others = λ b j e ne. h.names b j e; own = inl (name_kept n k a c s v h) }

pub widens_after : (n k : ℕ) (name : Option PageName) (a c d : Contents) → Coherent a n → IsValid a.words k → SameCached a.words c.words → Widens k name c.words d.words → Widens k name a.words d.words
widens_after n k name a c d s v h w = record { found = λ b. w.found b ∙ h.found b; others = λ b j e ne. w.others b j (h.found b ∙ e) ne ∙ h.names b j e; own = from w.own }
  where
    same : name_in c.words (Some k) ≡ name_in a.words (Some k)
    same = name_kept n k a c s v h

    from : (name_in d.words (Some k) ≡ name_in c.words (Some k)) ⊎ (name_in d.words (Some k) ≡ widened (name_in c.words (Some k)) name) → (name_in d.words (Some k) ≡ name_in a.words (Some k)) ⊎ (name_in d.words (Some k) ≡ widened (name_in a.words (Some k)) name)
    from (inl e) = inl (e ∙ same)
    from (inr e) = inr (e ∙ ap (λ o. widened o name) same)

pub named_after : (n k : ℕ) (name : Option PageName) (a c d : Contents) → Coherent a n → IsValid a.words k → SameCached a.words c.words → name_in d.words (Some k) ≡ widened (name_in c.words (Some k)) name → name_in d.words (Some k) ≡ widened (name_in a.words (Some k)) name
named_after n k name a c d s v h e = e ∙ ap (λ o. widened o name) (name_kept n k a c s v h)

pub dirty_after : (k : ℕ) (c d : List ℕ) → tag_at d k ≡ tag_at c k → is_dirty (tag_at c k) ≡ true → is_dirty (tag_at d k) ≡ true
dirty_after k c d e dirty = ap is_dirty e ∙ dirty

-- ---- what callers see: who is cached, under which name

cached_some : (o : Option ℕ) → is_some o ≡ true → (k : ℕ) × (o ≡ Some k)
cached_some None e = absurd (true_false (sym e))
cached_some (Some k) e = (k, refl)

pub cached_none : (o : Option ℕ) → is_some o ≡ false → o ≡ None
cached_none None e = refl
cached_none (Some k) e = absurd (true_false e)

widened_self : (o : Option PageName) → widened o o ≡ o
widened_self None = refl
widened_self (Some p) = ap (λ s. Some (record p { size = s })) (omega arith)

pub stored_adds : (b : ℕ) (name : Option PageName) (old new : Contents) → Adds b name old.words new.words → CachesStored (cache_seen old) (cache_seen new) b name
stored_adds b name old new h = record {
  others = λ c ne e. let k = cached_some (entry_of_block new.words c) e in let was = h.others c k.0 ne k.1 in (ap is_some was.0, ap (name_in new.words) k.1 ∙ was.1 ∙ sym (ap (name_in old.words) was.0));
  named = λ e. let k = cached_some (entry_of_block new.words b) e in from k.0 k.1 (h.named k.0 k.1);
}
  where
    from : (k : ℕ) → entry_of_block new.words b ≡ Some k → ((entry_of_block old.words b ≡ Some k) × (name_in new.words (Some k) ≡ name_in old.words (Some k))) ⊎ (name_in new.words (Some k) ≡ name) → ((is_some (entry_of_block old.words b) ≡ true) × (name_in new.words (entry_of_block new.words b) ≡ name_in old.words (entry_of_block old.words b))) ⊎ (name_in new.words (entry_of_block new.words b) ≡ name) ⊎ ((is_some (entry_of_block old.words b) ≡ true) × (name_in new.words (entry_of_block new.words b) ≡ widened (name_in old.words (entry_of_block old.words b)) name))
    from k f (inl was) = inl (ap is_some was.0, ap (name_in new.words) f ∙ was.1 ∙ sym (ap (name_in old.words) was.0))
    from k f (inr is) = inr (inl (ap (name_in new.words) f ∙ is))

pub stored_ready : (b k : ℕ) (name : Option PageName) (a c d : Contents) → Adds b name a.words c.words → entry_of_block c.words b ≡ Some k → Widens k name c.words d.words → CachesStored (cache_seen a) (cache_seen d) b name
stored_ready b k name a c d h found w = record {
  others = λ x ne e. let j = cached_some (entry_of_block c.words x) (ap is_some (sym (w.found x)) ∙ e) in others x ne j.0 j.1 (h.others x j.0 ne j.1);
  named = λ e. from (h.named k found) w.own;
}
  where
    others : (x : ℕ) → x ≢ b → (j : ℕ) → entry_of_block c.words x ≡ Some j → (entry_of_block a.words x ≡ Some j) × (name_in c.words (Some j) ≡ name_in a.words (Some j)) → (is_some (entry_of_block a.words x) ≡ true) × (name_in d.words (entry_of_block d.words x) ≡ name_in a.words (entry_of_block a.words x))
    others x ne j e was =
        let other : j ≢ k = λ q. ne (sym (found_is c.words x j e).1 ∙ ap (λ m. tag_block (tag_at c.words m)) q ∙ (found_is c.words b k found).1) in
        (ap is_some was.0, ap (name_in d.words) (w.found x ∙ e) ∙ w.others x j e other ∙ was.1 ∙ sym (ap (name_in a.words) was.0))

    now : name_in d.words (entry_of_block d.words b) ≡ name_in d.words (Some k)
    now = ap (name_in d.words) (w.found b ∙ found)

    from : ((entry_of_block a.words b ≡ Some k) × (name_in c.words (Some k) ≡ name_in a.words (Some k))) ⊎ (name_in c.words (Some k) ≡ name) → (name_in d.words (Some k) ≡ name_in c.words (Some k)) ⊎ (name_in d.words (Some k) ≡ widened (name_in c.words (Some k)) name) → ((is_some (entry_of_block a.words b) ≡ true) × (name_in d.words (entry_of_block d.words b) ≡ name_in a.words (entry_of_block a.words b))) ⊎ (name_in d.words (entry_of_block d.words b) ≡ name) ⊎ ((is_some (entry_of_block a.words b) ≡ true) × (name_in d.words (entry_of_block d.words b) ≡ widened (name_in a.words (entry_of_block a.words b)) name))
    from (inl was) (inl e) = inl (ap is_some was.0, now ∙ e ∙ was.1 ∙ sym (ap (name_in a.words) was.0))
    from (inl was) (inr e) = inr (inr (ap is_some was.0, now ∙ e ∙ ap (λ o. widened o name) (was.1 ∙ sym (ap (name_in a.words) was.0))))
    from (inr is) (inl e) = inr (inl (now ∙ e ∙ is))
    from (inr is) (inr e) = inr (inl (now ∙ e ∙ ap (λ o. widened o name) is ∙ widened_self name))

pub named_ready : (b k : ℕ) (name : Option PageName) (a c d : Contents) → Adds b name a.words c.words → (is_some (entry_of_block a.words b) ≡ true → c ≡ a) → entry_of_block c.words b ≡ Some k → Widens k name c.words d.words → name_in d.words (Some k) ≡ widened (name_in c.words (Some k)) name → name_in d.words (entry_of_block d.words b) ≡ stored_name (is_some (entry_of_block a.words b)) (name_in a.words (entry_of_block a.words b)) name
named_ready b k name a c d h hit found w named = from (is_some (entry_of_block a.words b)) refl
  where
    now : name_in d.words (entry_of_block d.words b) ≡ name_in d.words (Some k)
    now = ap (name_in d.words) (w.found b ∙ found)

    came : entry_of_block a.words b ≡ None → ((entry_of_block a.words b ≡ Some k) × (name_in c.words (Some k) ≡ name_in a.words (Some k))) ⊎ (name_in c.words (Some k) ≡ name) → name_in c.words (Some k) ≡ name
    came none (inl was) = absurd (none_some k (entry_of_block a.words b) none was.0)
    came none (inr is) = is

    from : (cached : Bool) → is_some (entry_of_block a.words b) ≡ cached → name_in d.words (entry_of_block d.words b) ≡ stored_name cached (name_in a.words (entry_of_block a.words b)) name
    from true e = now ∙ named ∙ ap (λ o. widened o name) (ap (name_in c.words) (sym found) ∙ ap (λ (m : Contents). name_in m.words (entry_of_block m.words b)) (hit e))
    from false e = now ∙ named ∙ ap (λ o. widened o name) (came (cached_none (entry_of_block a.words b) e) (h.named k found)) ∙ widened_self name

pub drops_narrows : (old new : Contents) → Narrows old.words new.words → Drops (cache_seen old) (cache_seen new)
drops_narrows old new h = record { kept = λ c e. let k = cached_some (entry_of_block new.words c) e in let was = h.found c k.0 k.1 in (ap is_some was.0, ap (name_in new.words) k.1 ∙ was.1 ∙ sym (ap (name_in old.words) was.0)) }

-- a call that changes no entry comes after
name_seen : (c d : Contents) → SameCached c.words d.words → (x : ℕ) → name_in d.words (entry_of_block d.words x) ≡ name_in c.words (entry_of_block c.words x)
name_seen c d h x = from (entry_of_block c.words x) refl
  where
    from : (o : Option ℕ) → entry_of_block c.words x ≡ o → name_in d.words (entry_of_block d.words x) ≡ name_in c.words (entry_of_block c.words x)
    from None e = ap (name_in d.words) (h.found x ∙ e) ∙ sym (ap (name_in c.words) e)
    from (Some k) e = ap (name_in d.words) (h.found x ∙ e) ∙ h.names x k e ∙ sym (ap (name_in c.words) e)

pub stored_put : (b : ℕ) (name : Option PageName) (a c d : Contents) → CachesStored (cache_seen a) (cache_seen c) b name → SameCached c.words d.words → CachesStored (cache_seen a) (cache_seen d) b name
stored_put b name a c d h k = record {
  others = λ x ne e. let was = h.others x ne (cached x e) in (was.0, name_seen c d k x ∙ was.1);
  named = λ e. from (h.named (cached b e));
}
  where
    cached : (x : ℕ) → is_some (entry_of_block d.words x) ≡ true → is_some (entry_of_block c.words x) ≡ true
    cached x e = ap is_some (sym (k.found x)) ∙ e

    from : ((is_some (entry_of_block a.words b) ≡ true) × (name_in c.words (entry_of_block c.words b) ≡ name_in a.words (entry_of_block a.words b))) ⊎ (name_in c.words (entry_of_block c.words b) ≡ name) ⊎ ((is_some (entry_of_block a.words b) ≡ true) × (name_in c.words (entry_of_block c.words b) ≡ widened (name_in a.words (entry_of_block a.words b)) name)) → ((is_some (entry_of_block a.words b) ≡ true) × (name_in d.words (entry_of_block d.words b) ≡ name_in a.words (entry_of_block a.words b))) ⊎ (name_in d.words (entry_of_block d.words b) ≡ name) ⊎ ((is_some (entry_of_block a.words b) ≡ true) × (name_in d.words (entry_of_block d.words b) ≡ widened (name_in a.words (entry_of_block a.words b)) name))
    from (inl was) = inl (was.0, name_seen c d k b ∙ was.1)
    from (inr (inl is)) = inr (inl (name_seen c d k b ∙ is))
    from (inr (inr was)) = inr (inr (was.0, name_seen c d k b ∙ was.1))

pub named_put : (b : ℕ) (name own : Option PageName) (cached : Bool) (c d : Contents) → SameCached c.words d.words → name_in c.words (entry_of_block c.words b) ≡ stored_name cached own name → name_in d.words (entry_of_block d.words b) ≡ stored_name cached own name
named_put b name own cached c d h e = name_seen c d h b ∙ e

-- ---- what is written to the disk

-- the entry of b after the page was made ready
pub found_ready : (b k : ℕ) (name : Option PageName) (c d : List ℕ) → entry_of_block c b ≡ Some k → Widens k name c d → entry_of_block d b ≡ Some k
found_ready b k name c d found w = w.found b ∙ found
