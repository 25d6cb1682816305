-- A block of zeros put over its place in a list of blocks.
use Rattle.std.proofs.Common.{◌≡◌, ◌≢◌, ℕ, ◌+◌, ◌-◌, ◌*◌, ◌<◌, ◌≤◌, List, slice_index_or, ◌++◌, take, drop, replicate, length, length-drop, length-append, refl, subst, arith, ap, ◌∙◌, sym}
use Rattle.std.proofs.lemmas.Bool.Decides.{nat_tests}
use Rattle.std.proofs.lemmas.List.{get_or_append_left, get_or-append_right, get_or-take, get_or-drop, get_or-replicate, take_at, length-take-le, length-take, length-replicate}
use borrow.Rule.Slice.PartMut.{put_mid}
use Rattle.test_objects.specs.ListVolumes.{flat, zeroed}
use Rattle.rio_base.specs.Blocks.{BlockWords}
use Rattle.rio_base.specs.Volume.{cleared, SameBut}

-- a list that is zero at one block, and as before elsewhere
pub record IsCleared (old new : List ℕ) (b : ℕ) : Type 0 where
  pub inside : (i : ℕ) → 512 * b ≤ i → i < 512 * b + 512 → slice_index_or new i 0 ≡ 0
  pub below : (i : ℕ) → i < 512 * b → slice_index_or new i 0 ≡ slice_index_or old i 0
  pub above : (i : ℕ) → 512 * b + 512 ≤ i → slice_index_or new i 0 ≡ slice_index_or old i 0

at_word : (old new : List ℕ) (b c w : ℕ) → IsCleared old new b → flat new c w ≡ cleared (flat old) b c w
at_word old new b c w h = grind (arith, nat_tests, h.inside (512 * c + w), h.below (512 * c + w), h.above (512 * c + w))

away_cleared : (f : BlockWords) (b c w : ℕ) → c ≢ b → cleared f b c w ≡ f c w
away_cleared f b c w away = grind (arith, nat_tests)

pub flat-cleared : (old new : List ℕ) (b : ℕ) → IsCleared old new b → flat new ≡ cleared (flat old) b
flat-cleared old new b h = λ i c w. at_word old new b c w h i

pub mid_cleared : (xs ys : List ℕ) (a k m b : ℕ) → a ≡ 512 * b + 0 → k ≡ 512 → 512 * b + 512 ≤ length xs → ys ≡ replicate m 0 → m ≡ 512 → IsCleared xs (put_mid a k xs ys) b
mid_cleared xs ys a k m b at size fits zeros many =
    let back = drop k (drop a xs) in
    let front : length (take a xs) ≡ a = length-take-le a xs (omega arith) in
    let len : length ys ≡ 512 = ap length zeros ∙ length-replicate m 0 ∙ many in
    record {
      inside = λ i from to. get_or-append_right (take a xs) (ys ++ back) a i 0 front (omega arith) ∙ get_or_append_left ys back 0 (i - a) (omega arith) ∙ ap (λ (zs : List ℕ). slice_index_or zs (i - a) 0) zeros ∙ get_or-replicate m (i - a) 0 0 (omega arith);
      below = λ i to. get_or_append_left (take a xs) (ys ++ back) 0 i (omega arith) ∙ get_or-take a xs i 0 (omega arith);
      above = λ i from. get_or-append_right (take a xs) (ys ++ back) a i 0 front (omega arith) ∙ get_or-append_right ys back 512 (i - a) 0 len (omega arith) ∙ get_or-drop k (drop a xs) (i - a - 512) 0 ∙ get_or-drop a xs (k + (i - a - 512)) 0 ∙ ap (λ j. slice_index_or xs j 0) (omega arith);
    }

-- what `fill` leaves of a list of blocks
pub fill_zeroed : (xs ys : List ℕ) (a k b : ℕ) → a ≡ 512 * b + 0 → k ≡ 512 → 512 * b + 512 ≤ length xs → ys ≡ replicate (length (take k (drop a xs))) 0 → put_mid a k xs ys ≡ zeroed xs b
unfolding zeroed
fill_zeroed xs ys a k b at size fits zeros =
    let place : a ≡ 512 * b = omega arith in
    let many : length (take k (drop a xs)) ≡ 512 = omega (arith, length-take k (drop a xs), length-drop a xs) in
    let content : ys ≡ replicate 512 0 = zeros ∙ ap (λ n. replicate n 0) many in
    ap (λ n. put_mid n k xs ys) place ∙ ap (λ n. put_mid (512 * b) n xs ys) size ∙ ap (λ zs. put_mid (512 * b) 512 xs zs) content

pub flat_zeroed : (xs : List ℕ) (b : ℕ) → 512 * b + 512 ≤ length xs → flat (zeroed xs b) ≡ cleared (flat xs) b
unfolding zeroed
flat_zeroed xs b fits = flat-cleared xs _ b (mid_cleared xs (replicate 512 0) (512 * b) 512 512 b (omega arith) refl fits refl refl)

pub length_zeroed : (xs : List ℕ) (b : ℕ) → 512 * b + 512 ≤ length xs → length (zeroed xs b) ≡ length xs
unfolding zeroed
length_zeroed xs b fits =
    let middle = length-append (replicate 512 0) (drop 512 (drop (512 * b) xs)) in
    omega (arith, length-append (take (512 * b) xs) (replicate 512 0 ++ drop 512 (drop (512 * b) xs)), middle, length-take (512 * b) xs, length-replicate {A = ℕ} 512 0, length-drop 512 (drop (512 * b) xs), length-drop (512 * b) xs)

pub same_but_cleared : (f g : BlockWords) (b : ℕ) → g ≡ cleared f b → SameBut b f g
same_but_cleared f g b h = record { others = λ c w away. ap (λ (k : BlockWords). k c w) h ∙ away_cleared f b c w away }

-- a list of blocks after one of them is zeroed through a slice of the whole list
pub listed_words : (items given ys : List ℕ) (n b : ℕ) → given ≡ items → length given ≡ n → ys ≡ zeroed given b → 512 * b + 512 ≤ length items → flat (take n (ys ++ drop (length ys) items)) ≡ cleared (flat items) b
listed_words items given ys n b lent size zeros fits =
    let room : 512 * b + 512 ≤ length given = subst (λ (zs : List ℕ). 512 * b + 512 ≤ length zs) (sym lent) fits in
    let len : length ys ≡ n = ap length zeros ∙ length_zeroed given b room ∙ size in
    ap flat (take_at ys (drop (length ys) items) n len ∙ zeros ∙ ap (λ zs. zeroed zs b) lent) ∙ flat_zeroed items b fits
