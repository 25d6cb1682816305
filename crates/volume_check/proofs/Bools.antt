-- Tests that hold and do not, and two tests that are compared.
use Rattle.std.specs.Prelude.{◌≡◌, Bool, true, false, not, refl}
use mathlib.Core.Bool.{beq}

pub never : {t : Bool} → t ≡ true → t ≡ false → ⊥
never p q = cc

pub same_test : (a b : Bool) → not (beq a b) ≡ false → a ≡ b
same_test true true e = refl
same_test true false e = cc
same_test false true e = cc
same_test false false e = refl

pub other_test : (a b : Bool) → not (beq a b) ≡ true → a ≡ b → ⊥
other_test true true e q = cc
other_test true false e q = cc
other_test false true e q = cc
other_test false false e q = cc
