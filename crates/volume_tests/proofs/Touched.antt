-- Which blocks an open update has touched.
use Rattle.std.proofs.Common.{ℕ, true, ◌≡◌, ◌∙◌, ap, arith, subst, sym}
use Rattle.std.proofs.lemmas.Bool.Decides.{nat_tests}
use Rattle.rio_base.specs.Volume.{Kept, SameUpdate, with_block}

with_itself : (k : Kept) (b : ℕ) → with_block k.touched b b ≡ true
with_itself k b = grind (arith, nat_tests)

pub has_touched : (k l : Kept) (b c : ℕ) → l.touched ≡ with_block k.touched b → b ≡ c → l.touched c ≡ true
has_touched k l b c is same = ap (λ f. f c) is ∙ subst (λ x. with_block k.touched x c ≡ true) (sym same) (with_itself k c)

pub stays_touched : (k l : Kept) (c : ℕ) → SameUpdate k l → k.touched c ≡ true → l.touched c ≡ true
stays_touched k l c s h = ap (λ f. f c) s.touched ∙ h
