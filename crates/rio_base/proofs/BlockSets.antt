-- Laws of what specs/BlockSets.antt defines.
use Rattle.std.specs.Prelude.{◌≡◌, ◌≢◌, ℕ, true, ◌⊎◌, Option, refl}
use Rattle.std.proofs.Common.{◌∙◌, sym, subst, inl, inr}
use Rattle.std.proofs.lemmas.Bool.{cases_eq}
use Rattle.rio_base.specs.declared.places.PageName.{PageName}
use Rattle.rio_base.specs.Blocks.{BlockWords, Seen, Caches, Drops}
use Rattle.rio_base.specs.Volume.{Kept, CachesStored, Firm, FirmBut, SameBut, widened}
use Rattle.rio_base.specs.BlockSets.{CachesBy, SameOutside, FirmOutside}

pub caches_by_refl : (bears : ℕ → Option PageName → Type 0) (s : Seen) → CachesBy bears s s
caches_by_refl bears s = record { each = λ c cached. inl (cached, refl) }

by_then : (bears : ℕ → Option PageName → Type 0) (s t u : Seen) (c : ℕ) → CachesBy bears s t → ((t.cached c ≡ true) × (u.names c ≡ t.names c)) ⊎ bears c (u.names c) → ((s.cached c ≡ true) × (u.names c ≡ s.names c)) ⊎ bears c (u.names c)
by_then bears s t u c h (inr given) = inr given
by_then bears s t u c h (inl kept) = before (h.each c kept.0)
  where
    before : ((s.cached c ≡ true) × (t.names c ≡ s.names c)) ⊎ bears c (t.names c) → ((s.cached c ≡ true) × (u.names c ≡ s.names c)) ⊎ bears c (u.names c)
    before (inl k) = inl (k.0, kept.1 ∙ k.1)
    before (inr b) = inr (subst (bears c) (sym kept.1) b)

pub caches_by_trans : (bears : ℕ → Option PageName → Type 0) (s t u : Seen) → CachesBy bears s t → CachesBy bears t u → CachesBy bears s u
caches_by_trans bears s t u h k = record { each = λ c cached. by_then bears s t u c h (k.each c cached) }

pub caches_by_drops : (bears : ℕ → Option PageName → Type 0) (s t : Seen) → Drops s t → CachesBy bears s t
caches_by_drops bears s t h = record { each = λ c cached. inl (h.kept c cached) }

at_named : (bears : ℕ → Option PageName → Type 0) (s t : Seen) (b c : ℕ) (name : Option PageName) → Caches s t b name → bears b name → t.cached c ≡ true → (c ≡ b) ⊎ (c ≢ b) → ((s.cached c ≡ true) × (t.names c ≡ s.names c)) ⊎ bears c (t.names c)
at_named bears s t b c name h k cached (inr away) = inl (h.others c away cached)
at_named bears s t b c name h k cached (inl same) = subst (λ x. ((s.cached x ≡ true) × (t.names x ≡ s.names x)) ⊎ bears x (t.names x)) (sym same) (given (h.named (subst (λ x. t.cached x ≡ true) same cached)))
  where
    given : ((s.cached b ≡ true) × (t.names b ≡ s.names b)) ⊎ (t.names b ≡ name) → ((s.cached b ≡ true) × (t.names b ≡ s.names b)) ⊎ bears b (t.names b)
    given (inl kept) = inl kept
    given (inr e) = inr (subst (bears b) (sym e) k)

pub caches_by_one : (bears : ℕ → Option PageName → Type 0) (s t : Seen) (b : ℕ) (name : Option PageName) → Caches s t b name → bears b name → CachesBy bears s t
caches_by_one bears s t b name h k = record { each = λ c cached. at_named bears s t b c name h k cached (cases_eq c b) }

-- the same of a store, which may also widen the name that the block had
pub caches_by_stored : (bears : ℕ → Option PageName → Type 0) (s t : Seen) (b : ℕ) (name : Option PageName) → CachesStored s t b name → bears b name → (s.cached b ≡ true → bears b (widened (s.names b) name)) → CachesBy bears s t
caches_by_stored bears s t b name h given wide = record { each = λ c cached. at c cached (cases_eq c b) }
  where
    here : ((s.cached b ≡ true) × (t.names b ≡ s.names b)) ⊎ (t.names b ≡ name) ⊎ ((s.cached b ≡ true) × (t.names b ≡ widened (s.names b) name)) → ((s.cached b ≡ true) × (t.names b ≡ s.names b)) ⊎ bears b (t.names b)
    here (inl kept) = inl kept
    here (inr (inl e)) = inr (subst (bears b) (sym e) given)
    here (inr (inr e)) = inr (subst (bears b) (sym e.1) (wide e.0))

    at : (c : ℕ) → t.cached c ≡ true → (c ≡ b) ⊎ (c ≢ b) → ((s.cached c ≡ true) × (t.names c ≡ s.names c)) ⊎ bears c (t.names c)
    at c cached (inr away) = inl (h.others c away cached)
    at c cached (inl same) = subst (λ x. ((s.cached x ≡ true) × (t.names x ≡ s.names x)) ⊎ bears x (t.names x)) (sym same) (here (h.named (subst (λ x. t.cached x ≡ true) same cached)))

pub same_outside_trans : (inside : ℕ → Type 0) (f g h : BlockWords) → SameOutside inside f g → SameOutside inside g h → SameOutside inside f h
same_outside_trans inside f g h a b = record { others = λ c w n. b.others c w n ∙ a.others c w n }

pub same_outside_one : (inside : ℕ → Type 0) (b : ℕ) (f g : BlockWords) → inside b → SameBut b f g → SameOutside inside f g
same_outside_one inside b f g k h = record { others = λ c w n. h.others c w (λ e. n (subst inside (sym e) k)) }

pub firm_outside_trans : (inside : ℕ → Type 0) (k l m : Kept) → FirmOutside inside k l → FirmOutside inside l m → FirmOutside inside k m
firm_outside_trans inside k l m h i = record { loose = λ c n z. h.loose c n (i.loose c n z) }

pub firm_outside_one : (inside : ℕ → Type 0) (b : ℕ) (k l : Kept) → inside b → FirmBut b k l → FirmOutside inside k l
firm_outside_one inside b k l j h = record { loose = λ c n z. h.loose c (λ e. n (subst inside (sym e) j)) z }

pub firm_outside_all : (inside : ℕ → Type 0) (k l : Kept) → Firm k l → FirmOutside inside k l
firm_outside_all inside k l h = record { loose = λ c n z. h.loose c z }

-- ---- a larger set

pub caches_by_wider : (bears more : ℕ → Option PageName → Type 0) (s t : Seen) → ((c : ℕ) (name : Option PageName) → bears c name → more c name) → CachesBy bears s t → CachesBy more s t
caches_by_wider bears more s t wider h = record { each = λ c cached. at c (h.each c cached) }
  where
    at : (c : ℕ) → ((s.cached c ≡ true) × (t.names c ≡ s.names c)) ⊎ bears c (t.names c) → ((s.cached c ≡ true) × (t.names c ≡ s.names c)) ⊎ more c (t.names c)
    at c (inl kept) = inl kept
    at c (inr given) = inr (wider c (t.names c) given)

pub same_outside_wider : (inside more : ℕ → Type 0) (f g : BlockWords) → ((c : ℕ) → inside c → more c) → SameOutside inside f g → SameOutside more f g
same_outside_wider inside more f g wider h = record { others = λ c w n. h.others c w (λ i. n (wider c i)) }

pub firm_outside_wider : (inside more : ℕ → Type 0) (k l : Kept) → ((c : ℕ) → inside c → more c) → FirmOutside inside k l → FirmOutside more k l
firm_outside_wider inside more k l wider h = record { loose = λ c n z. h.loose c (λ i. n (wider c i)) z }

pub same_outside_refl : (inside : ℕ → Type 0) (f : BlockWords) → SameOutside inside f f
same_outside_refl inside f = record { others = λ c w n. refl }

pub firm_outside_refl : (inside : ℕ → Type 0) (k : Kept) → FirmOutside inside k k
firm_outside_refl inside k = record { loose = λ c n z. z }
