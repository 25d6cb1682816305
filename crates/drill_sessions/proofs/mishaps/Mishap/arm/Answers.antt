use Rattle.std.proofs.Common.{◌≡◌, ◌*◌, ◌<◌, ℕ, Some, ap, refl, subst, sym}
use Rattle.rio_base.specs.Image.{image_pages, registry_pages}
use Rattle.drill_sessions.proofs.mishaps.Mishap.arm.Goals as goal

some_is : (x y : ℕ × ℕ × ℕ) → Some x ≡ Some y → x ≡ y
some_is x y e = cc

-- 280 pages of 512 words
drill_words : 512 * image_pages 256 4 ≡ 143360
unfolding registry_pages
drill_words = refl

pub returns-in-Armed : goal.returns-in-Armed
returns-in-Armed c = λ step at value is. subst (λ (words : ℕ). at < words) (sym drill_words)
    (subst (λ (word : ℕ). word < 143360) (ap (λ (store : ℕ × ℕ × ℕ). store.1) (some_is _ _ is)) c.if-at-lt-WORDS.true)
