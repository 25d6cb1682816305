-- The rules as they are looked at, one after the other, and the first that fails.
use Rattle.std.proofs.Common.{◌≡◌, ◌≢◌, ◌⊎◌, ℕ, ◌+◌, ◌<◌, ◌≤◌, inl, inr, List, Bool, true, false, arith, ap, subst, sym, refl, ◌∙◌}
use Rattle.std.specs.Prelude.{◌↔◌, leb, IsTrue, MatchResult, Result, Err}
use Rattle.std.proofs.lemmas.Bool.{cases_eq, leb-true, leb-false}
use Rattle.rio_base.specs.Rules.{true_false}
use Rattle.rio_model.specs.Registry.{BlockRule, FailsRegistry, GateRule, KeepsRegistry, MetadataRule, NameRule, ShadowRule, ShadowsApart, SizeRule, TagRule, gate_of}
use Rattle.registry.specs.declared.image_rules.BadImage.{BadImage}

-- what a test that failed says of its rule
pub broken : (P : Type 0) (b : Bool) → (IsTrue b ↔ P) → b ≡ false → P → ⊥
broken P b is fails p = true_false (sym (is.1 p) ∙ fails)

-- what a test that did not fail says of it
pub kept : (P : Type 0) (b : Bool) → (IsTrue b ↔ P) → b ≡ true → P
kept P b is holds = is.0 holds

-- a rule of each entry, looked at one after the other
pub keep_next : (P : ℕ → Type 0) (n : ℕ) → ((k : ℕ) → k < n → P k) → P n → (k : ℕ) → k < n + 1 → P k
keep_next P n before here k less = from (cases_eq k n)
  where
    from : (k ≡ n) ⊎ (k ≢ n) → P k
    from (inl e) = subst P (sym e) here
    from (inr ne) = before k (omega (arith, less, ne))

pub all_kept : (P : ℕ → Type 0) (n m : ℕ) → m ≤ n → ((k : ℕ) → k < n → P k) → IsTrue true ↔ ((k : ℕ) → k < m → P k)
all_kept P n m most h = (λ holds k less. h k (omega (arith, less, most)), λ all. refl)

pub one_breaks : (P : ℕ → Type 0) (k m : ℕ) → k < m → (P k → ⊥) → IsTrue false ↔ ((k : ℕ) → k < m → P k)
one_breaks P k m less breaks = (λ holds. absurd (true_false (sym holds)), λ all. absurd (breaks (all k less)))

pub gate_kept : (words : List ℕ) (n : ℕ) → n ≡ gate_of words → leb n 1 ≡ true → GateRule words
gate_kept words n is holds = subst (λ (m : ℕ). m ≤ 1) is (leb-true n 1 holds)

pub gate_broken : (words : List ℕ) (n : ℕ) → n ≡ gate_of words → leb n 1 ≡ false → GateRule words → ⊥
gate_broken words n is fails h = let more = leb-false n 1 fails in omega (arith, is, h, more)

-- the answer of an exit
pub tells : (words : List ℕ) (s : Result (Unit {0}) BadImage) (d e : BadImage) (r : ℕ) → s ≡ Err d → d ≡ e → e.0 ≡ r → FailsRegistry words r → MatchResult s (λ _. KeepsRegistry words) (λ bad. FailsRegistry words bad.0)
tells words s d e r sd de er h =
    subst (λ (z : Result (Unit {0}) BadImage). MatchResult z (λ _. KeepsRegistry words) (λ bad. FailsRegistry words bad.0)) (sym (sd ∙ ap Err de)) (subst (λ (n : ℕ). FailsRegistry words n) (sym er) h)

-- ---- which fails first

pub fails_5 : (words : List ℕ) → (GateRule words → ⊥) → FailsRegistry words 5
fails_5 words fails = inl (refl, fails)

pub fails_6 : (words : List ℕ) → GateRule words → (TagRule words → ⊥) → FailsRegistry words 6
fails_6 words gate fails = inr (gate, inl (refl, fails))

pub fails_7 : (words : List ℕ) → GateRule words → TagRule words → (BlockRule words → ⊥) → FailsRegistry words 7
fails_7 words gate tags fails = inr (gate, inr (tags, inl (refl, fails)))

pub fails_8 : (words : List ℕ) → GateRule words → TagRule words → BlockRule words → (MetadataRule words → ⊥) → FailsRegistry words 8
fails_8 words gate tags blocks fails = inr (gate, inr (tags, inr (blocks, inl (refl, fails))))

pub fails_9 : (words : List ℕ) → GateRule words → TagRule words → BlockRule words → MetadataRule words → (NameRule words → ⊥) → FailsRegistry words 9
fails_9 words gate tags blocks metadata fails = inr (gate, inr (tags, inr (blocks, inr (metadata, inl (refl, fails)))))

pub fails_10 : (words : List ℕ) → GateRule words → TagRule words → BlockRule words → MetadataRule words → NameRule words → (SizeRule words → ⊥) → FailsRegistry words 10
fails_10 words gate tags blocks metadata names fails = inr (gate, inr (tags, inr (blocks, inr (metadata, inr (names, inl (refl, fails))))))

pub fails_11 : (words : List ℕ) → GateRule words → TagRule words → BlockRule words → MetadataRule words → NameRule words → SizeRule words → (ShadowRule words → ⊥) → FailsRegistry words 11
fails_11 words gate tags blocks metadata names sizes fails = inr (gate, inr (tags, inr (blocks, inr (metadata, inr (names, inr (sizes, inl (refl, fails)))))))

pub fails_12 : (words : List ℕ) → GateRule words → TagRule words → BlockRule words → MetadataRule words → NameRule words → SizeRule words → ShadowRule words → (ShadowsApart words → ⊥) → FailsRegistry words 12
fails_12 words gate tags blocks metadata names sizes shadows fails = inr (gate, inr (tags, inr (blocks, inr (metadata, inr (names, inr (sizes, inr (shadows, (refl, fails))))))))
