-- The bytes of a block from one place on made zero, by a run of words.
use Rattle.file_pages.proofs.Common.{◌≡◌, ◌≢◌, ℕ, ◌+◌, ◌-◌, ◌/◌, ◌%◌, ◌^◌, ◌<◌, ◌≤◌, ◌⊎◌, zero, suc, List, length, refl, sym, ap, ◌∙◌, arith, inl, inr, length-drop, replicate, set, slice_index, cases_lt, length-set, get_or-drop, get_or-take, length-take, length-take-le, BlockWords, put_run, run_same_but}
use Rattle.std.specs.Prelude.{drop, take}
use Rattle.std.proofs.lemmas.List.{length-replicate, get_or-set_same, get_or-set_other, get_or_past}
use Rattle.rio_model.specs.Held.{byte_of}
use Rattle.file_pages.specs.PageBytes.{block_byte}
use Rattle.file_pages.specs.Storing.{KeepsFront, ZerosFrom}
use Rattle.file_pages.proofs.StoredRuns.{run_inside, run_outside}

pub low_below : (w k t : ℕ) → t < k → k < 8 → byte_of (w % 256 ^ k) t ≡ byte_of w t
unfolding byte_of
low_below w zero t below small = absurd (omega (arith, below))
low_below w (suc zero) zero below small = omega arith
low_below w (suc zero) (suc t) below small = absurd (omega (arith, below))
low_below w (suc (suc zero)) zero below small = omega arith
low_below w (suc (suc zero)) (suc zero) below small = omega arith
low_below w (suc (suc zero)) (suc (suc t)) below small = absurd (omega (arith, below))
low_below w (suc (suc (suc zero))) zero below small = omega arith
low_below w (suc (suc (suc zero))) (suc zero) below small = omega arith
low_below w (suc (suc (suc zero))) (suc (suc zero)) below small = omega arith
low_below w (suc (suc (suc zero))) (suc (suc (suc t))) below small = absurd (omega (arith, below))
low_below w (suc (suc (suc (suc zero)))) zero below small = omega arith
low_below w (suc (suc (suc (suc zero)))) (suc zero) below small = omega arith
low_below w (suc (suc (suc (suc zero)))) (suc (suc zero)) below small = omega arith
low_below w (suc (suc (suc (suc zero)))) (suc (suc (suc zero))) below small = omega arith
low_below w (suc (suc (suc (suc zero)))) (suc (suc (suc (suc t)))) below small = absurd (omega (arith, below))
low_below w (suc (suc (suc (suc (suc zero))))) zero below small = omega arith
low_below w (suc (suc (suc (suc (suc zero))))) (suc zero) below small = omega arith
low_below w (suc (suc (suc (suc (suc zero))))) (suc (suc zero)) below small = omega arith
low_below w (suc (suc (suc (suc (suc zero))))) (suc (suc (suc zero))) below small = omega arith
low_below w (suc (suc (suc (suc (suc zero))))) (suc (suc (suc (suc zero)))) below small = omega arith
low_below w (suc (suc (suc (suc (suc zero))))) (suc (suc (suc (suc (suc t))))) below small = absurd (omega (arith, below))
low_below w (suc (suc (suc (suc (suc (suc zero)))))) zero below small = omega arith
low_below w (suc (suc (suc (suc (suc (suc zero)))))) (suc zero) below small = omega arith
low_below w (suc (suc (suc (suc (suc (suc zero)))))) (suc (suc zero)) below small = omega arith
low_below w (suc (suc (suc (suc (suc (suc zero)))))) (suc (suc (suc zero))) below small = omega arith
low_below w (suc (suc (suc (suc (suc (suc zero)))))) (suc (suc (suc (suc zero)))) below small = omega arith
low_below w (suc (suc (suc (suc (suc (suc zero)))))) (suc (suc (suc (suc (suc zero))))) below small = omega arith
low_below w (suc (suc (suc (suc (suc (suc zero)))))) (suc (suc (suc (suc (suc (suc t)))))) below small = absurd (omega (arith, below))
low_below w (suc (suc (suc (suc (suc (suc (suc zero))))))) zero below small = omega arith
low_below w (suc (suc (suc (suc (suc (suc (suc zero))))))) (suc zero) below small = omega arith
low_below w (suc (suc (suc (suc (suc (suc (suc zero))))))) (suc (suc zero)) below small = omega arith
low_below w (suc (suc (suc (suc (suc (suc (suc zero))))))) (suc (suc (suc zero))) below small = omega arith
low_below w (suc (suc (suc (suc (suc (suc (suc zero))))))) (suc (suc (suc (suc zero)))) below small = omega arith
low_below w (suc (suc (suc (suc (suc (suc (suc zero))))))) (suc (suc (suc (suc (suc zero))))) below small = omega arith
low_below w (suc (suc (suc (suc (suc (suc (suc zero))))))) (suc (suc (suc (suc (suc (suc zero)))))) below small = omega arith
low_below w (suc (suc (suc (suc (suc (suc (suc zero))))))) (suc (suc (suc (suc (suc (suc (suc t))))))) below small = absurd (omega (arith, below))
low_below w (suc (suc (suc (suc (suc (suc (suc (suc k)))))))) t below small = absurd (omega (arith, small))

pub low_above : (w k t : ℕ) → k ≤ t → t < 8 → byte_of (w % 256 ^ k) t ≡ 0
unfolding byte_of
low_above w zero zero above small = omega arith
low_above w (suc k) zero above small = absurd (omega (arith, above))
low_above w zero (suc zero) above small = omega arith
low_above w (suc zero) (suc zero) above small = omega arith
low_above w (suc (suc k)) (suc zero) above small = absurd (omega (arith, above))
low_above w zero (suc (suc zero)) above small = omega arith
low_above w (suc zero) (suc (suc zero)) above small = omega arith
low_above w (suc (suc zero)) (suc (suc zero)) above small = omega arith
low_above w (suc (suc (suc k))) (suc (suc zero)) above small = absurd (omega (arith, above))
low_above w zero (suc (suc (suc zero))) above small = omega arith
low_above w (suc zero) (suc (suc (suc zero))) above small = omega arith
low_above w (suc (suc zero)) (suc (suc (suc zero))) above small = omega arith
low_above w (suc (suc (suc zero))) (suc (suc (suc zero))) above small = omega arith
low_above w (suc (suc (suc (suc k)))) (suc (suc (suc zero))) above small = absurd (omega (arith, above))
low_above w zero (suc (suc (suc (suc zero)))) above small = omega arith
low_above w (suc zero) (suc (suc (suc (suc zero)))) above small = omega arith
low_above w (suc (suc zero)) (suc (suc (suc (suc zero)))) above small = omega arith
low_above w (suc (suc (suc zero))) (suc (suc (suc (suc zero)))) above small = omega arith
low_above w (suc (suc (suc (suc zero)))) (suc (suc (suc (suc zero)))) above small = omega arith
low_above w (suc (suc (suc (suc (suc k))))) (suc (suc (suc (suc zero)))) above small = absurd (omega (arith, above))
low_above w zero (suc (suc (suc (suc (suc zero))))) above small = omega arith
low_above w (suc zero) (suc (suc (suc (suc (suc zero))))) above small = omega arith
low_above w (suc (suc zero)) (suc (suc (suc (suc (suc zero))))) above small = omega arith
low_above w (suc (suc (suc zero))) (suc (suc (suc (suc (suc zero))))) above small = omega arith
low_above w (suc (suc (suc (suc zero)))) (suc (suc (suc (suc (suc zero))))) above small = omega arith
low_above w (suc (suc (suc (suc (suc zero))))) (suc (suc (suc (suc (suc zero))))) above small = omega arith
low_above w (suc (suc (suc (suc (suc (suc k)))))) (suc (suc (suc (suc (suc zero))))) above small = absurd (omega (arith, above))
low_above w zero (suc (suc (suc (suc (suc (suc zero)))))) above small = omega arith
low_above w (suc zero) (suc (suc (suc (suc (suc (suc zero)))))) above small = omega arith
low_above w (suc (suc zero)) (suc (suc (suc (suc (suc (suc zero)))))) above small = omega arith
low_above w (suc (suc (suc zero))) (suc (suc (suc (suc (suc (suc zero)))))) above small = omega arith
low_above w (suc (suc (suc (suc zero)))) (suc (suc (suc (suc (suc (suc zero)))))) above small = omega arith
low_above w (suc (suc (suc (suc (suc zero))))) (suc (suc (suc (suc (suc (suc zero)))))) above small = omega arith
low_above w (suc (suc (suc (suc (suc (suc zero)))))) (suc (suc (suc (suc (suc (suc zero)))))) above small = omega arith
low_above w (suc (suc (suc (suc (suc (suc (suc k))))))) (suc (suc (suc (suc (suc (suc zero)))))) above small = absurd (omega (arith, above))
low_above w zero (suc (suc (suc (suc (suc (suc (suc zero))))))) above small = omega arith
low_above w (suc zero) (suc (suc (suc (suc (suc (suc (suc zero))))))) above small = omega arith
low_above w (suc (suc zero)) (suc (suc (suc (suc (suc (suc (suc zero))))))) above small = omega arith
low_above w (suc (suc (suc zero))) (suc (suc (suc (suc (suc (suc (suc zero))))))) above small = omega arith
low_above w (suc (suc (suc (suc zero)))) (suc (suc (suc (suc (suc (suc (suc zero))))))) above small = omega arith
low_above w (suc (suc (suc (suc (suc zero))))) (suc (suc (suc (suc (suc (suc (suc zero))))))) above small = omega arith
low_above w (suc (suc (suc (suc (suc (suc zero)))))) (suc (suc (suc (suc (suc (suc (suc zero))))))) above small = omega arith
low_above w (suc (suc (suc (suc (suc (suc (suc zero))))))) (suc (suc (suc (suc (suc (suc (suc zero))))))) above small = omega arith
low_above w (suc (suc (suc (suc (suc (suc (suc (suc k)))))))) (suc (suc (suc (suc (suc (suc (suc zero))))))) above small = absurd (omega (arith, above))
low_above w k (suc (suc (suc (suc (suc (suc (suc (suc t)))))))) above small = absurd (omega (arith, small))

pub zero_byte : (t : ℕ) → byte_of 0 t ≡ 0
unfolding byte_of
zero_byte zero = refl
zero_byte (suc zero) = refl
zero_byte (suc (suc zero)) = refl
zero_byte (suc (suc (suc zero))) = refl
zero_byte (suc (suc (suc (suc zero)))) = refl
zero_byte (suc (suc (suc (suc (suc zero))))) = refl
zero_byte (suc (suc (suc (suc (suc (suc zero)))))) = refl
zero_byte (suc (suc (suc (suc (suc (suc (suc zero))))))) = refl
zero_byte (suc (suc (suc (suc (suc (suc (suc (suc t)))))))) = refl

-- a run whose first word has the old bytes below the place, and zeros above it
pub record ClearsRun (f : BlockWords) (b at : ℕ) (run : List ℕ) : Type 0 where
  pub first : slice_index run 0 ≡ f b (at / 8) % 256 ^ (at % 8)
  pub rest : (t : ℕ) → 0 < t → slice_index run t ≡ 0

pub run_front : (f g : BlockWords) (b at n : ℕ) (run : List ℕ) → ClearsRun f b at run → g ≡ put_run f b (at / 8) n run → KeepsFront f g b at
run_front f g b at n run h is = record {
  others = λ c w away. ap (λ (k : BlockWords). k c w) is ∙ (run_same_but f b (at / 8) n run).others c w away;
  front = λ y low. ap (λ (k : BlockWords). byte_of (k b (y / 8)) (y % 8)) is ∙ by y low (cases_lt (y / 8) (at / 8)) (cases_lt 0 n);
}
  where
    by : (y : ℕ) → y < at → ((y / 8 < at / 8) ⊎ (at / 8 ≤ y / 8)) → ((0 < n) ⊎ (n ≤ 0)) → byte_of (put_run f b (at / 8) n run b (y / 8)) (y % 8) ≡ block_byte f b y
    by y low (inl below) _ = ap (λ z. byte_of z (y % 8)) (run_outside f b (at / 8) n (y / 8) run (inl below))
    by y low (inr from) (inr none) = ap (λ z. byte_of z (y % 8)) (run_outside f b (at / 8) n (y / 8) run (inr (omega (arith, none, from))))
    by y low (inr from) (inl some) =
        let same : y / 8 ≡ at / 8 = omega (arith, low, from) in
        let start : y / 8 - at / 8 ≡ 0 = omega (arith, same) in
        ap (λ z. byte_of z (y % 8)) (run_inside f b (at / 8) n (y / 8) run from (omega (arith, same, some)) ∙ ap (slice_index run) start ∙ h.first)
        ∙ low_below (f b (at / 8)) (at % 8) (y % 8) (omega (arith, low, same)) (omega arith)
        ∙ ap (λ x. byte_of (f b x) (y % 8)) (sym same)

pub run_zeros : (f g : BlockWords) (b at n : ℕ) (run : List ℕ) → ClearsRun f b at run → 512 ≤ at / 8 + n → g ≡ put_run f b (at / 8) n run → ZerosFrom g b at
run_zeros f g b at n run h far is = λ y from within. ap (λ (k : BlockWords). byte_of (k b (y / 8)) (y % 8)) is ∙ ap (λ z. byte_of z (y % 8)) (run_inside f b (at / 8) n (y / 8) run (omega (arith, from)) (omega (arith, within, far))) ∙ by y from (cases_lt 0 (y / 8 - at / 8))
  where
    by : (y : ℕ) → at ≤ y → ((0 < y / 8 - at / 8) ⊎ (y / 8 - at / 8 ≤ 0)) → byte_of (slice_index run (y / 8 - at / 8)) (y % 8) ≡ 0
    by y from (inl later) = ap (λ z. byte_of z (y % 8)) (h.rest (y / 8 - at / 8) later) ∙ zero_byte (y % 8)
    by y from (inr here) =
        let start : y / 8 - at / 8 ≡ 0 = omega (arith, here) in
        ap (λ z. byte_of z (y % 8)) (ap (slice_index run) start ∙ h.first) ∙ low_above (f b (at / 8)) (at % 8) (y % 8) (omega (arith, from, here)) (omega arith)

pub clears_run : (f : BlockWords) (b at word n : ℕ) (all : List ℕ) → 0 < n → word ≡ f b (at / 8) → slice_index all (at / 8) ≡ word % 256 ^ (at % 8) → ((t : ℕ) → t ≢ at / 8 → slice_index all t ≡ 0) → ClearsRun f b at (take n (drop (at / 8) all))
clears_run f b at word n all some is first rest = record {
  first = get_or-take n (drop (at / 8) all) 0 0 some ∙ get_or-drop (at / 8) all 0 0 ∙ ap (slice_index all) (let e : at / 8 + 0 ≡ at / 8 = omega arith in e) ∙ first ∙ ap (λ w. w % 256 ^ (at % 8)) is;
  rest = λ t later. elim (cases_lt t n) [
    | inl below ↦ get_or-take n (drop (at / 8) all) t 0 below ∙ get_or-drop (at / 8) all t 0 ∙ rest (at / 8 + t) (λ e. omega (arith, e, later))
    | inr past ↦ get_or_past (take n (drop (at / 8) all)) t 0 (omega (arith, length-take n (drop (at / 8) all), past))
  ];
}

pub run_whole : (k : ℕ) (all : List ℕ) → k ≤ 512 → length all ≡ 512 → 512 ≤ k + length (take (512 - k) (drop k all))
run_whole k all few long = omega (arith, length-take-le (512 - k) (drop k all) (omega (arith, length-drop k all, long)), few)

no_word : (n t : ℕ) → slice_index (replicate n 0) t ≡ 0
no_word zero t = refl
no_word (suc n) zero = refl
no_word (suc n) (suc t) = no_word n t

-- a list of zeros with one word
pub one_word : (n k v : ℕ) → k < n → slice_index (set (replicate n 0) k v) k ≡ v
one_word n k v few = get_or-set_same (replicate n 0) k v 0 (omega (arith, few, length-replicate {A = ℕ} n 0))

pub other_word : (n k v t : ℕ) → t ≢ k → slice_index (set (replicate n 0) k v) t ≡ 0
other_word n k v t away = get_or-set_other (replicate n 0) k t v 0 away ∙ no_word n t

pub many_words : (n k v : ℕ) → length (set (replicate n 0) k v) ≡ n
many_words n k v = length-set (replicate n 0) k v ∙ length-replicate {A = ℕ} n 0
