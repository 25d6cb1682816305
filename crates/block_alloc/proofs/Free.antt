-- The free blocks, word by word of the bitmap.
use Rattle.std.proofs.Common.{◌≡◌, ◌≢◌, ℕ, zero, suc, ◌+◌, ◌-◌, ◌*◌, ◌%◌, ◌^◌, ◌<◌, ◌≤◌, min, Bool, true, false, cond, List, [], ◌∷◌, ◌++◌, length, length-append, length-take, append_assoc, take, refl, sym, ap, subst, ◌∙◌, arith, ◌==◌, nat_lt, ◌&&◌, bit_and}
use Rattle.std.specs.Prelude.{count_ones, Result, Ok, Err, OnOk}
use Rattle.std.specs.Int.{bit_at, w64, bit_not, trailing_zeros}
use Rattle.std.specs.List.{filter, range_with_len}
use Rattle.std.proofs.lemmas.Bool.Decides.{nat_tests}
use Rattle.std.proofs.lemmas.List.{append-nil, get_or_append_left, take-append-le, map-append, length-map}
use Rattle.std.proofs.Math.Seq.{take-nil}
use Rattle.rio_base.specs.declared.places.Block.{Block}
use Rattle.std.proofs.lemmas.Nat.{ones-le}
use Rattle.std.proofs.lemmas.Nat.Bits.{bit_at-zero, bit_at-trailing_zeros, bit_at_clear_same, bit_at_clear_other}
use Rattle.rio_base.specs.declared.places.VolumeShape.{VolumeShape}
use Rattle.rio_base.specs.Blocks.{BlockWords, IsRun}
use Rattle.rio_base.specs.Bitmap.{is_free, free_blocks}
use Rattle.block_alloc.specs.Bitmap.{numbers}
use Rattle.block_alloc.specs.Words.{counts, FreeBits, HoldsRun, set_bits}
use Rattle.block_alloc.proofs.Ranges.{filter_same, filter_none, filter_split, take_both}
use Rattle.block_alloc.proofs.Bits.{Shows, count_shown}

-- the free blocks among the first 64 * w places of the bitmap
abbrev pub free_before : VolumeShape → BlockWords → ℕ → List ℕ
free_before shape words w = filter (counts shape words) (range_with_len 0 (64 * w))

next_word : (p : ℕ → Bool) (w : ℕ) → filter p (range_with_len 0 (64 * (w + 1))) ≡ filter p (range_with_len 0 (64 * w)) ++ filter p (range_with_len (64 * w) 64)
next_word p w =
    let size : 64 * (w + 1) ≡ 64 * w + 64 = omega arith in
    let start : 0 + 64 * w ≡ 64 * w = omega arith in
    ap (λ n. filter p (range_with_len 0 n)) size ∙ filter_split p (64 * w) 64 0 ∙ ap (λ s. filter p (range_with_len 0 (64 * w)) ++ filter p (range_with_len s 64)) start

pub filter_short : (p : ℕ → Bool) (n s : ℕ) → length (filter p (range_with_len s n)) ≤ n
filter_short p zero s = omega arith
filter_short p (suc n) s = shorter (p s) s (filter p (range_with_len (s + 1) n)) n (filter_short p n (s + 1))
  where
    shorter : (b : Bool) (s : ℕ) (xs : List ℕ) (n : ℕ) → length xs ≤ n → length (cond b (s ∷ xs) xs) ≤ suc n
    shorter true s xs n h = omega arith
    shorter false s xs n h = omega arith

pub count_more : (shape : VolumeShape) (words now : BlockWords) (w x free : ℕ) → now ≡ words → x < 2 ^ 64 → FreeBits shape now w x → free ≡ length (free_before shape words w) → free + count_ones x ≡ length (free_before shape words (w + 1))
count_more shape words now w x free same fits bits before =
    let p = counts shape words in
    let shown : Shows x p (64 * w) 64 = record { fits = fits; each = (subst (λ f. FreeBits shape f w x) same bits).each } in
    ap (λ n. n + count_ones x) before ∙ ap (λ n. length (free_before shape words w) + n) (count_shown 64 x (64 * w) p shown) ∙ sym (length-append (free_before shape words w) (filter p (range_with_len (64 * w) 64))) ∙ ap length (sym (next_word p w))

below_end : (shape : VolumeShape) (words : BlockWords) (b : ℕ) → b < shape.blocks → counts shape words b ≡ is_free shape words b
below_end shape words b within = and_true (nat_lt b shape.blocks) (is_free shape words b) (grind (arith, nat_tests))
  where
    and_true : (a b : Bool) → a ≡ true → (a && b) ≡ b
    and_true true b e = refl
    and_true false b e = cc

past_end : (shape : VolumeShape) (words : BlockWords) (b : ℕ) → shape.blocks ≤ b → counts shape words b ≡ false
past_end shape words b past = and_false (nat_lt b shape.blocks) (is_free shape words b) (grind (arith, nat_tests))
  where
    and_false : (a b : Bool) → a ≡ false → (a && b) ≡ false
    and_false true b e = cc
    and_false false b e = refl

-- the free blocks, and behind them places past the end
pub whole : (shape : VolumeShape) (words : BlockWords) (w : ℕ) → shape.blocks ≤ 64 * w → free_before shape words w ≡ free_blocks shape words
whole shape words w past =
    let p = counts shape words in
    let size : 64 * w ≡ shape.blocks + (64 * w - shape.blocks) = omega arith in
    let start : 0 + shape.blocks ≡ shape.blocks = omega arith in
    let front : filter p (range_with_len 0 shape.blocks) ≡ free_blocks shape words = filter_same p (is_free shape words) shape.blocks 0 (record { each = λ i within. below_end shape words (0 + i) (omega arith) }) in
    let back : filter p (range_with_len (0 + shape.blocks) (64 * w - shape.blocks)) ≡ [] = filter_none p (64 * w - shape.blocks) (0 + shape.blocks) (record { each = λ i within. past_end shape words ((0 + shape.blocks) + i) (omega arith) }) in
    ap (λ n. filter p (range_with_len 0 n)) size ∙ filter_split p shape.blocks (64 * w - shape.blocks) 0 ∙ ap (λ xs. filter p (range_with_len 0 shape.blocks) ++ xs) back ∙ append-nil (filter p (range_with_len 0 shape.blocks)) ∙ front

-- the count fits a u32
pub count_fits : (shape : VolumeShape) (words : BlockWords) (w x free : ℕ) → w < 512 → x < 2 ^ 64 → free ≡ length (free_before shape words w) → free + count_ones x < 2 ^ 32
count_fits shape words w x free within fits before = omega (arith, filter_short (counts shape words) (64 * w) 0, ones-le 64 x fits)

-- ---- the lowest free blocks

equal_one : (b : Bool) → (cond b 1 0 == 1) ≡ b
equal_one true = refl
equal_one false = refl

pub bits_free : (shape : VolumeShape) (words now : BlockWords) (w x : ℕ) → now ≡ words → FreeBits shape now w x → set_bits x (64 * w) ≡ filter (counts shape words) (range_with_len (64 * w) 64)
unfolding set_bits
bits_free shape words now w x same bits =
    let here : FreeBits shape words w x = subst (λ f. FreeBits shape f w x) same bits in
    filter_same (λ b. bit_at x (b - 64 * w) == 1) (counts shape words) 64 (64 * w) (record {
      each = λ i within.
          let place : (64 * w + i) - 64 * w ≡ i = omega arith in
          ap (λ k. bit_at x k == 1) place ∙ ap (λ k. k == 1) (here.each i within) ∙ equal_one (counts shape words (64 * w + i));
    })

-- the first place where a test holds, and a test that differs there alone
pub record FirstOf (p q : ℕ → Bool) (s n t : ℕ) : Type 0 where
  pub within : t < n
  pub below : (i : ℕ) → i < t → p (s + i) ≡ false
  pub here : p (s + t) ≡ true
  pub gone : q (s + t) ≡ false
  pub same : (i : ℕ) → i < n → i ≢ t → q (s + i) ≡ p (s + i)

cond_true : (b : Bool) (xs ys : List ℕ) → b ≡ true → cond b xs ys ≡ xs
cond_true b xs ys e = ap (λ c. cond c xs ys) e

cond_false : (b : Bool) (xs ys : List ℕ) → b ≡ false → cond b xs ys ≡ ys
cond_false b xs ys e = ap (λ c. cond c xs ys) e

at_start : (p : ℕ → Bool) (s : ℕ) (b : Bool) → p (s + 0) ≡ b → p s ≡ b
at_start p s b e = let place : s ≡ s + 0 = omega arith in ap p place ∙ e

shift : (p : ℕ → Bool) (s i : ℕ) → p ((s + 1) + i) ≡ p (s + suc i)
shift p s i = let place : (s + 1) + i ≡ s + suc i = omega arith in ap p place

first_rest : (p q : ℕ → Bool) (s n t : ℕ) → FirstOf p q s (suc n) (suc t) → FirstOf p q (s + 1) n t
first_rest p q s n t h = record {
  within = omega (arith, h.within);
  below = λ i small. shift p s i ∙ h.below (suc i) (omega arith);
  here = shift p s t ∙ h.here;
  gone = shift q s t ∙ h.gone;
  same = λ i small away. shift q s i ∙ h.same (suc i) (omega arith) (λ e. away (omega arith)) ∙ sym (shift p s i);
}

pub filter_first : (p q : ℕ → Bool) (n t s : ℕ) → FirstOf p q s n t → filter p (range_with_len s n) ≡ (s + t) ∷ filter q (range_with_len s n)
filter_first p q zero t s h = absurd (omega (arith, h.within))
filter_first p q (suc n) zero s h =
    let place : s ≡ s + zero = omega arith in
    let rest : filter p (range_with_len (s + 1) n) ≡ filter q (range_with_len (s + 1) n) = filter_same p q n (s + 1) (record { each = λ i small. shift p s i ∙ sym (h.same (suc i) (omega arith) (λ e. absurd (omega arith))) ∙ sym (shift q s i) }) in
    cond_true (p s) _ _ (at_start p s true h.here) ∙ ap (λ xs. s ∷ xs) rest ∙ ap (λ k. k ∷ filter q (range_with_len (s + 1) n)) place ∙ ap (λ xs. (s + zero) ∷ xs) (sym (cond_false (q s) _ _ (at_start q s false h.gone)))
filter_first p q (suc n) (suc t) s h =
    let place : (s + 1) + t ≡ s + suc t = omega arith in
    let off : p s ≡ false = at_start p s false (h.below 0 (omega arith)) in
    let quiet : q s ≡ false = at_start q s false (h.same 0 (omega arith) (λ e. absurd (omega arith)) ∙ h.below 0 (omega arith)) in
    cond_false (p s) _ _ off ∙ filter_first p q n t (s + 1) (first_rest p q s n t h) ∙ ap (λ k. k ∷ filter q (range_with_len (s + 1) n)) place ∙ ap (λ xs. (s + suc t) ∷ xs) (sym (cond_false (q s) _ _ quiet))

pub first_bit : (x s t : ℕ) → 0 < x → x < 2 ^ 64 → t ≡ trailing_zeros w64 x → set_bits x s ≡ (s + t) ∷ set_bits (bit_and x (bit_not w64 (1 * 2 ^ t % 2 ^ 64))) s
unfolding set_bits
first_bit x s t some fits is =
    let low = subst (λ k. (k < 64) × (bit_at x k ≡ 1) × ((i : ℕ) → i < k → bit_at x i ≡ 0)) (sym is) (bit_at-trailing_zeros w64 x some fits) in
    let y = bit_and x (bit_not w64 (1 * 2 ^ t % 2 ^ 64)) in
    filter_first (λ b. bit_at x (b - s) == 1) (λ b. bit_at y (b - s) == 1) 64 t s (record {
      within = low.0;
      below = λ i small. tested x s i 0 (low.2 i small);
      here = tested x s t 1 low.1;
      gone = tested y s t 0 (bit_at_clear_same w64 x t low.0);
      same = λ i small away. let place : (s + i) - s ≡ i = omega arith in ap (λ k. bit_at y k == 1) place ∙ ap (λ a. a == 1) (bit_at_clear_other w64 x t low.0 i small away) ∙ ap (λ k. bit_at x k == 1) (sym place);
    })
  where
    tested : (z s i bit : ℕ) → bit_at z i ≡ bit → (bit_at z ((s + i) - s) == 1) ≡ (bit == 1)
    tested z s i bit e = let place : (s + i) - s ≡ i = omega arith in ap (λ k. bit_at z k == 1) place ∙ ap (λ a. a == 1) e

pub no_bits : (s : ℕ) → set_bits 0 s ≡ []
unfolding set_bits
no_bits s = filter_none (λ b. bit_at 0 (b - s) == 1) 64 s (record { each = λ i within. ap (λ a. a == 1) (bit_at-zero ((s + i) - s)) })

-- ---- the list that is taken

-- one more block is pushed
pub push_step : (items : List Block) (first t n : ℕ) (xs ys : List ℕ) → length items < n → xs ≡ (first + t) ∷ ys → numbers (items ++ record { 0 = first + t } ∷ []) ++ take (n - length (items ++ record { 0 = first + t } ∷ [])) ys ≡ numbers items ++ take (n - length items) xs
push_step items first t n xs ys room is =
    let b : Block = record { 0 = first + t } in
    let more : n - length items ≡ suc (n - length (items ++ b ∷ [])) = omega (arith, length-append items (b ∷ [])) in
    let pushed : numbers (items ++ b ∷ []) ≡ numbers items ++ (first + t) ∷ [] = map-append (λ (c : Block). c.0) items (b ∷ []) in
    let k = n - length (items ++ b ∷ []) in
    ap (λ (zs : List ℕ). zs ++ take k ys) pushed ∙ append_assoc (numbers items) ((first + t) ∷ []) (take k ys) ∙ ap (λ m. numbers items ++ take m ((first + t) ∷ ys)) (sym more) ∙ ap (λ (zs : List ℕ). numbers items ++ take (n - length items) zs) (sym is)

pub push_kept : (items new : List Block) (first t n : ℕ) (xs ys zs : List ℕ) → length items < n → new ≡ items ++ record { 0 = first + t } ∷ [] → xs ≡ (first + t) ∷ ys → numbers items ++ take (n - length items) xs ≡ zs → numbers new ++ take (n - length new) ys ≡ zs
push_kept items new first t n xs ys zs room pushed is kept = ap (λ (bs : List Block). numbers bs ++ take (n - length bs) ys) pushed ∙ push_step items first t n xs ys room is ∙ kept

pub push_done : (items : List Block) (k first rest : ℕ) (zs : List ℕ) → rest ≡ 0 → numbers items ++ take k (set_bits rest first) ≡ zs → numbers items ≡ zs
push_done items k first rest zs none kept =
    let empty : take k (set_bits rest first) ≡ [] = ap (λ r. take k (set_bits r first)) none ∙ ap (take k) (no_bits first) ∙ take-nil k in
    sym (append-nil (numbers items)) ∙ ap (λ (xs : List ℕ). numbers items ++ xs) (sym empty) ∙ kept

-- one more word of the bitmap
pub take_more : (shape : VolumeShape) (words now : BlockWords) (w x n : ℕ) (items new : List Block) → now ≡ words → FreeBits shape now w x → numbers items ≡ take n (free_before shape words w) → numbers new ≡ numbers items ++ take (n - length items) (set_bits x (64 * w)) → numbers new ≡ take n (free_before shape words (w + 1))
take_more shape words now w x n items new same bits before pushed =
    let p = counts shape words in
    let old = free_before shape words w in
    let size : length items ≡ length (take n old) = sym (length-map items (λ (b : Block). b.0)) ∙ ap length before in
    pushed ∙ ap (λ (zs : List ℕ). zs ++ take (n - length items) (set_bits x (64 * w))) before ∙ ap (λ m. take n old ++ take (n - m) (set_bits x (64 * w))) size ∙ ap (λ (zs : List ℕ). take n old ++ take (n - length (take n old)) zs) (bits_free shape words now w x same bits) ∙ take_both n old (filter p (range_with_len (64 * w) 64)) ∙ ap (take n) (sym (next_word p w))

taken_length : (items : List Block) (n : ℕ) (xs : List ℕ) → numbers items ≡ take n xs → length items ≡ min n (length xs)
taken_length items n xs e = sym (length-map items (λ (b : Block). b.0)) ∙ ap length e ∙ length-take n xs

-- all words were looked at, and there are too few
pub too_few : (shape : VolumeShape) (words : BlockWords) (w n : ℕ) (items : List Block) → shape.blocks ≤ 64 * w → numbers items ≡ take n (free_before shape words w) → length items < n → length (free_blocks shape words) < n
too_few shape words w n items past found few = omega (arith, taken_length items n (free_before shape words w) found, ap length (whole shape words w past))

-- enough were found, wherever that was
pub enough : (shape : VolumeShape) (words : BlockWords) (w n : ℕ) (items : List Block) → shape.blocks ≤ 32768 → numbers items ≡ take n (free_before shape words w) → n ≤ length items → (numbers items ≡ take n (free_blocks shape words)) × (n ≤ length (free_blocks shape words))
enough shape words w n items small found many =
    let p = counts shape words in
    let old = free_before shape words w in
    let size : 64 * (w + 512) ≡ 64 * w + 32768 = omega arith in
    let rest = filter p (range_with_len (0 + 64 * w) 32768) in
    let all : free_blocks shape words ≡ old ++ rest = sym (whole shape words (w + 512) (omega arith)) ∙ ap (λ k. filter p (range_with_len 0 k)) size ∙ filter_split p (64 * w) 32768 0 in
    let few : n ≤ length old = omega (arith, taken_length items n old found) in
    (found ∙ sym (take-append-le n old rest few) ∙ ap (take n) (sym all), omega (arith, few, ap length all, length-append old rest))

-- the run that was read serves the next word too, unless that begins a run
pub run_on : (shape : VolumeShape) (words now : BlockWords) (w : ℕ) (run : List ℕ) → (w + 1) % 64 ≢ 0 → now ≡ words → HoldsRun shape now w run → HoldsRun shape words (w + 1) run
run_on shape words now w run on same held = record {
  each = λ x in_run within. (subst (λ (f : BlockWords). HoldsRun shape f w run) same held).each x (omega arith) within;
}

-- a run that begins with word w was read: its words lie in front of what the room held before
pub run_read : {T E : Type 0} (r : Result T E) (shape : VolumeShape) (words : BlockWords) (w n : ℕ) (into rest : List ℕ) → w % 64 ≡ 0 → length into ≡ n → ((i : ℕ) → i < 64 → 64 * (w + i) < shape.blocks → i < n) → OnOk r (IsRun words 1 w n into) → OnOk r (HoldsRun shape words w (into ++ rest))
run_read (Ok x) shape words w n into rest begins long most run = record {
  each = λ x in_run within.
      let place : x ≡ w + x % 64 = omega (arith, begins, in_run) in
      let less : x % 64 < n = most (x % 64) (omega arith) (omega (arith, place, within)) in
      get_or_append_left into rest 0 (x % 64) (omega (arith, less, long)) ∙ run.each (x % 64) less ∙ ap (words 1) (sym place);
}
run_read (Err e) shape words w n into rest begins long most run = tt
