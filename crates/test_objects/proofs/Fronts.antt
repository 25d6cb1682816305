-- Words put over a part of a list, as the blocks of the volume in memory and as the words of the region.
use Rattle.std.proofs.Common.{◌≡◌, ◌≢◌, ℕ, ◌+◌, ◌-◌, ◌*◌, ◌<◌, ◌≤◌, List, slice_index, slice_index_or, ◌++◌, take, drop, length, length-drop, length-append, append_assoc, subst, arith, ap, ◌∙◌, sym}
use Rattle.std.proofs.lemmas.Bool.Decides.{nat_tests}
use Rattle.std.proofs.lemmas.List.{get_or_append_left, get_or-append_right, get_or-take, get_or-drop, length-take-le}
use Rattle.std.proofs.Math.Seq.{paste}
use Rattle.test_objects.specs.ListVolumes.{flat}
use Rattle.rio_base.specs.Memory.{FrontStored}
use Rattle.rio_base.specs.Blocks.{BlockWords}
use Rattle.rio_base.specs.Volume.{SameBut, put_run}
use Rattle.rio_base.specs.Regions.{put_words}

mid_stored : (xs from : List ℕ) (a n : ℕ) → a + n ≤ length xs → n ≤ length from → FrontStored a n from xs (take a xs ++ (take n from ++ drop (a + n) xs))
mid_stored xs from a n fits enough =
    let back = drop (a + n) xs in
    let front : length (take a xs) ≡ a = length-take-le a xs (omega arith) in
    let len : length (take n from) ≡ n = length-take-le n from enough in
    record {
      count = omega (arith, length-append (take a xs) (take n from ++ back), length-append (take n from) back, length-drop (a + n) xs, front, len);
      front = λ i less. get_or-append_right (take a xs) (take n from ++ back) a (a + i) 0 front (omega arith) ∙ ap (λ j. slice_index (take n from ++ back) j) (omega arith) ∙ get_or_append_left (take n from) back 0 i (omega arith) ∙ get_or-take n from i 0 less;
      below = λ i less. get_or_append_left (take a xs) (take n from ++ back) 0 i (omega arith) ∙ get_or-take a xs i 0 less;
      above = λ i more. get_or-append_right (take a xs) (take n from ++ back) a i 0 front (omega arith) ∙ get_or-append_right (take n from) back n (i - a) 0 len (omega arith) ∙ get_or-drop (a + n) xs (i - a - n) 0 ∙ ap (λ j. slice_index xs j) (omega arith);
    }

pub pasted_stored : (xs from : List ℕ) (a n : ℕ) → a + n ≤ length xs → n ≤ length from → FrontStored a n from xs (paste xs a from n)
pasted_stored xs from a n fits enough = subst (λ (ys : List ℕ). FrontStored a n from xs ys) (sym (append_assoc (take a xs) (take n from) (drop (a + n) xs))) (mid_stored xs from a n fits enough)

at_block : (old new from : List ℕ) (at b w n c x : ℕ) → FrontStored at n from old new → at ≡ 512 * b + w → w + n ≤ 512 → flat new c x ≡ put_run (flat old) b w n from c x
at_block old new from at b w n c x h place fits =
    let here : c ≡ b → w ≤ x → at + (x - w) ≡ 512 * c + x = λ e l. omega (arith, e, l, place) in
    grind (arith, nat_tests, here, h.front (x - w), h.below (512 * c + x), h.above (512 * c + x))

flat_stored : (old new from : List ℕ) (at b w n : ℕ) → FrontStored at n from old new → at ≡ 512 * b + w → w + n ≤ 512 → flat new ≡ put_run (flat old) b w n from
flat_stored old new from at b w n h place fits = λ i c x. at_block old new from at b w n c x h place fits i

pub flat_pasted : (old new from : List ℕ) (at b w n : ℕ) → new ≡ paste old at from n → at ≡ 512 * b + w → w + n ≤ 512 → at + n ≤ length old → n ≤ length from → flat new ≡ put_run (flat old) b w n from
flat_pasted old new from at b w n is place fits room enough = flat_stored old new from at b w n (subst (λ (ys : List ℕ). FrontStored at n from old ys) (sym is) (pasted_stored old from at n room enough)) place fits

-- a run of words of a block is within the list of all blocks
pub run_within : (at b w n count size : ℕ) → at ≡ 512 * b + w → b < count → w + n ≤ 512 → size ≡ 512 * count → at + n ≤ size
run_within at b w n count size place block fits whole = omega arith

at_word : (old new from : List ℕ) (at n x : ℕ) → FrontStored at n from old new → slice_index_or new x 0 ≡ put_words (λ y. slice_index_or old y 0) at n from x
at_word old new from at n x h = grind (arith, nat_tests, h.front (x - at), h.below x, h.above x)

pub content_pasted : (old new from : List ℕ) (at n : ℕ) → new ≡ paste old at from n → at + n ≤ length old → n ≤ length from → (λ x. slice_index_or new x 0) ≡ put_words (λ y. slice_index_or old y 0) at n from
content_pasted old new from at n is room enough = λ i x. at_word old new from at n x (subst (λ (ys : List ℕ). FrontStored at n from old ys) (sym is) (pasted_stored old from at n room enough)) i

pub length_pasted : (old new from : List ℕ) (at n : ℕ) → new ≡ paste old at from n → at + n ≤ length old → n ≤ length from → length new ≡ length old
length_pasted old new from at n is room enough = ap length is ∙ (pasted_stored old from at n room enough).count

pub same_run : (f g : BlockWords) (b w n : ℕ) (from : List ℕ) → g ≡ put_run f b w n from → SameBut b f g
same_run f g b w n from h = record { others = λ c x away. ap (λ (k : BlockWords). k c x) h ∙ away_run f b w n from c x away }
  where
    away_run : (f : BlockWords) (b w n : ℕ) (from : List ℕ) (c x : ℕ) → c ≢ b → put_run f b w n from c x ≡ f c x
    away_run f b w n from c x away = grind (arith, nat_tests)
