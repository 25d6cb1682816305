-- A run of words stored, byte by byte.
use Rattle.file_pages.proofs.Common.{◌≡◌, ℕ, ◌+◌, ◌-◌, ◌*◌, ◌/◌, ◌%◌, ◌<◌, ◌≤◌, ◌==◌, ◌&&◌, ◌⊎◌, true, false, cond, List, length, sym, ap, subst, ◌∙◌, arith, inl, inr, nat_lt, cases_lt, nat_tests, BlockWords, SameBut, put_run, run_same_but}
use Rattle.std.proofs.Common.{slice_index}
use Rattle.std.specs.Prelude.{not}
use Rattle.rio_model.specs.Held.{byte_of}
use Rattle.file_pages.specs.PageBytes.{PutsBytes, block_byte, bytes_stored}
use Rattle.node_pages.specs.WordBytes.{over}
use Rattle.node_pages.proofs.ByteRuns.{over_in, over_out}

pub run_inside : (f : BlockWords) (b w n x : ℕ) (words : List ℕ) → w ≤ x → x < w + n → put_run f b w n words b x ≡ slice_index words (x - w)
run_inside f b w n x words low high = let test : ((b == b) && (not (nat_lt x w) && nat_lt x (w + n))) ≡ true = grind (arith, nat_tests, low, high) in ap (λ t. cond t (slice_index words (x - w)) (f b x)) test

pub run_outside : (f : BlockWords) (b w n x : ℕ) (words : List ℕ) → (x < w) ⊎ (w + n ≤ x) → put_run f b w n words b x ≡ f b x
run_outside f b w n x words out = ap (λ t. cond t (slice_index words (x - w)) (f b x)) (test out)
  where
    test : (x < w) ⊎ (w + n ≤ x) → ((b == b) && (not (nat_lt x w) && nat_lt x (w + n))) ≡ false
    test (inl low) = grind (arith, nat_tests, low)
    test (inr high) = grind (arith, nat_tests, high)

pub run_puts : (f g : BlockWords) (b at n : ℕ) (bytes words : List ℕ) → g ≡ put_run f b (at / 8) n words → n ≤ length words → 8 * (at / 8 + length words) < at + length bytes + 8 → ((y : ℕ) → y < 8 * length words → byte_of (slice_index words (y / 8)) (y % 8) ≡ over (λ x. block_byte f b (8 * (at / 8) + x)) (at % 8) bytes (length bytes) y) → PutsBytes f g b at bytes (bytes_stored at (length bytes) n)
run_puts f g b at n bytes words is few room each = record {
  others = subst (λ h. SameBut b f h) (sym is) (run_same_but f b w n words);
  each = λ y within. ap (λ (h : BlockWords). byte_of (h b (y / 8)) (y % 8)) is ∙ by y (cases_lt (y / 8) w) (cases_lt (y / 8) (w + n));
}
  where
    w : ℕ
    w = at / 8

    len : ℕ
    len = length bytes

    k : ℕ
    k = bytes_stored at len n

    out : (y : ℕ) → (y / 8 < w) ⊎ (w + n ≤ y / 8) → byte_of (put_run f b w n words b (y / 8)) (y % 8) ≡ over (block_byte f b) at bytes k y
    out y o = ap (λ z. byte_of z (y % 8)) (run_outside f b w n (y / 8) words o) ∙ sym (over_out (block_byte f b) at bytes k y (away o))
      where
        away : (y / 8 < w) ⊎ (w + n ≤ y / 8) → (y < at) ⊎ (at + k ≤ y)
        away (inl low) = inl (omega (arith, low))
        away (inr high) = elim (cases_lt y at) [ inl below ↦ inl below | inr from ↦ inr (omega (arith, high, from)) ]

    inside : (y : ℕ) → w ≤ y / 8 → y / 8 < w + n → byte_of (put_run f b w n words b (y / 8)) (y % 8) ≡ over (block_byte f b) at bytes k y
    inside y low high =
        let x = y - 8 * w in
        let word : y / 8 - w ≡ x / 8 = omega (arith, low) in
        let rest : y % 8 ≡ x % 8 = omega (arith, low) in
        let back : 8 * w + x ≡ y = omega (arith, low) in
        ap (λ z. byte_of z (y % 8)) (run_inside f b w n (y / 8) words low high)
        ∙ (λ p. byte_of (slice_index words (word p)) (rest p))
        ∙ each x (omega (arith, low, high, few))
        ∙ same x y back low high (cases_lt y at) (cases_lt y (at + len))
      where
        same : (x y : ℕ) → 8 * w + x ≡ y → w ≤ y / 8 → y / 8 < w + n → ((y < at) ⊎ (at ≤ y)) → ((y < at + len) ⊎ (at + len ≤ y)) → over (λ z. block_byte f b (8 * w + z)) (at % 8) bytes len x ≡ over (block_byte f b) at bytes k y
        same x y back low high (inl below) _ = over_out (λ z. block_byte f b (8 * w + z)) (at % 8) bytes len x (inl (omega (arith, back, below))) ∙ ap (block_byte f b) back ∙ sym (over_out (block_byte f b) at bytes k y (inl below))
        same x y back low high (inr from) (inr past) = over_out (λ z. block_byte f b (8 * w + z)) (at % 8) bytes len x (inr (omega (arith, back, past))) ∙ ap (block_byte f b) back ∙ sym (over_out (block_byte f b) at bytes k y (inr (omega (arith, past))))
        same x y back low high (inr from) (inl to) = over_in (λ z. block_byte f b (8 * w + z)) (at % 8) bytes len x (omega (arith, back, from)) (omega (arith, back, to)) ∙ ap (slice_index bytes) (omega (arith, back, from)) ∙ sym (over_in (block_byte f b) at bytes k y from (omega (arith, to, high)))

    by : (y : ℕ) → ((y / 8 < w) ⊎ (w ≤ y / 8)) → ((y / 8 < w + n) ⊎ (w + n ≤ y / 8)) → byte_of (put_run f b w n words b (y / 8)) (y % 8) ≡ over (block_byte f b) at bytes k y
    by y (inl low) _ = out y (inl low)
    by y (inr from) (inr past) = out y (inr past)
    by y (inr from) (inl to) = inside y from to
