-- Calls that leave all but some blocks as they were, one after the other.
use Rattle.node_pages.proofs.Common.{◌≡◌, ◌≢◌, ℕ, ◌+◌, ◌<◌, ◌==◌, Bool, true, false, cond, List, length, refl, sym, ap, subst, ◌∙◌, arith, inl, inr, slice_index, Option, cases_eq, nat_tests, PageName, BlockWords, Seen, CanName, Caches, Drops, caches_by_one, Kept, SameBut}
use Rattle.rio_base.proofs.BlockSets.{caches_by_drops, caches_by_trans, caches_by_wider, firm_outside_one, firm_outside_trans, firm_outside_wider, same_outside_one, same_outside_trans, same_outside_wider}
use Rattle.rio_base.specs.Blocks.{InRange}
use Rattle.rio_base.specs.Volume.{FirmBut, cleared}
use Rattle.node_pages.specs.Changes.{Apart}
use Rattle.node_pages.specs.Staging.{Beside, Zeroed}

pub beside_trans : (p : ℕ → Type 0) (x : Seen) (k : Kept) (y : Seen) (j : Kept) (z : Seen) (l : Kept) → Beside p x k y j → Beside p y j z l → Beside p x k z l
beside_trans p x k y j z l h m = record {
  count = m.count ∙ h.count;
  words = same_outside_trans p _ _ _ h.words m.words;
  standing = same_outside_trans p _ _ _ h.standing m.standing;
  firm = firm_outside_trans p _ _ _ h.firm m.firm;
  caches = caches_by_trans _ x y z h.caches m.caches;
}

pub beside_wider : (p q : ℕ → Type 0) (x : Seen) (k : Kept) (y : Seen) (j : Kept) → ((b : ℕ) → p b → q b) → Beside p x k y j → Beside q x k y j
beside_wider p q x k y j f h = record {
  count = h.count;
  words = same_outside_wider p q _ _ f h.words;
  standing = same_outside_wider p q _ _ f h.standing;
  firm = firm_outside_wider p q _ _ f h.firm;
  caches = caches_by_wider _ _ x y (λ b name. f b) h.caches;
}

-- a call on one block
pub beside_drops : (a : ℕ) (x : Seen) (k : Kept) (y : Seen) (j : Kept) → y.count ≡ x.count → SameBut a x.words y.words → SameBut a k.standing j.standing → FirmBut a k j → Drops x y → Beside (λ b. b ≡ a) x k y j
beside_drops a x k y j count words standing firm drops = record {
  count = count;
  words = same_outside_one _ a _ _ refl words;
  standing = same_outside_one _ a _ _ refl standing;
  firm = firm_outside_one _ a _ _ refl firm;
  caches = caches_by_drops _ x y drops;
}

pub beside_caches : (a : ℕ) (name : Option PageName) (x : Seen) (k : Kept) (y : Seen) (j : Kept) → y.count ≡ x.count → SameBut a x.words y.words → SameBut a k.standing j.standing → FirmBut a k j → Caches x y a name → Beside (λ b. b ≡ a) x k y j
beside_caches a name x k y j count words standing firm caches = record {
  count = count;
  words = same_outside_one _ a _ _ refl words;
  standing = same_outside_one _ a _ _ refl standing;
  firm = firm_outside_one _ a _ _ refl firm;
  caches = caches_by_one _ x y a name caches refl;
}

-- a block that was made zero
pub cleared_here : (f g : BlockWords) (b w : ℕ) → g ≡ cleared f b → g b w ≡ 0
cleared_here f g b w e = let same : (b == b) ≡ true = grind (arith, nat_tests) in ap (λ (h : BlockWords). h b w) e ∙ ap (λ t. cond t 0 (f b w)) same

pub not_true : (a b : Bool) → (a ≡ true → b ≡ true) → b ≡ false → a ≡ false
not_true true b f e = sym (f refl) ∙ e
not_true false b f e = refl

-- outside the set a cached block was cached, under its name
pub kept_outside : (p : ℕ → Type 0) (x : Seen) (k : Kept) (y : Seen) (j : Kept) (b : ℕ) → Beside p x k y j → (p b → ⊥) → y.cached b ≡ true → (x.cached b ≡ true) × (y.names b ≡ x.names b)
kept_outside p x k y j b h out on = elim (h.caches.each b on) [ inl kept ↦ kept | inr inside ↦ absurd (out inside) ]

-- one more block staged
pub staged_more : (taken : List ℕ) (name : ℕ → Option PageName) (n : ℕ) (x : Seen) (k : Kept) (y : Seen) (j : Kept) → Apart taken → n < length taken → Zeroed taken name n x k → Beside (λ b. b ≡ slice_index taken n) x k y j → ((w : ℕ) → y.words (slice_index taken n) w ≡ 0) → j.loose (slice_index taken n) ≡ false → (y.cached (slice_index taken n) ≡ true → y.names (slice_index taken n) ≡ name n) → Zeroed taken name (n + 1) y j
staged_more taken name n x k y j apart within h one zero firm named = record {
  zeros = λ t w few. elim (cases_eq t n) [
    | inl here ↦ subst (λ s. y.words (slice_index taken s) w ≡ 0) (sym here) (zero w)
    | inr away ↦ one.words.others _ w (other t few away) ∙ h.zeros t w (omega (arith, few, away))
  ];
  firm = λ t few. elim (cases_eq t n) [
    | inl here ↦ subst (λ s. j.loose (slice_index taken s) ≡ false) (sym here) firm
    | inr away ↦ not_true (j.loose (slice_index taken t)) (k.loose (slice_index taken t)) (one.firm.loose _ (other t few away)) (h.firm t (omega (arith, few, away)))
  ];
  named = λ t few c. elim (cases_eq t n) [
    | inl here ↦ ap (λ s. y.names (slice_index taken s)) here ∙ named (subst (λ s. y.cached (slice_index taken s) ≡ true) here c) ∙ ap name (sym here)
    | inr away ↦ let was = kept_outside _ x k y j _ one (other t few away) c in was.1 ∙ h.named t (omega (arith, few, away)) was.0
  ];
}
  where
    other : (t : ℕ) → t < n + 1 → t ≢ n → slice_index taken t ≡ slice_index taken n → ⊥
    other t few away e = away (apart t n (omega (arith, few, within, away)) within e)

-- a block that is not cached may get any name, and then has it
not_both : (t : Bool) → t ≡ true → t ≡ false → ⊥
not_both t on out = cc

pub fresh_name : (x : Seen) (b : ℕ) (name : Option PageName) → InRange name → x.cached b ≡ false → CanName x b name
fresh_name x b name fits out = record { in_range = fits; agrees = λ on. absurd (not_both (x.cached b) on out) }

pub fresh_named : (x y : Seen) (b : ℕ) (name : Option PageName) → x.cached b ≡ false → Caches x y b name → y.cached b ≡ true → y.names b ≡ name
fresh_named x y b name out h on = elim (h.named on) [ inl kept ↦ absurd (not_both (x.cached b) kept.0 out) | inr is ↦ is ]
