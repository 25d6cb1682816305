-- Words that bytes are, stored by runs.
use Rattle.vista_region.proofs.Common.{◌≡◌, ℕ, ◌+◌, ◌-◌, ◌*◌, ◌/◌, ◌<◌, ◌≤◌, ◌⊎◌, inl, inr, Result, List, length, take, drop, slice_index, nat_lt, cond, true, false, ◌&&◌, sym, ap, subst, ◌∙◌, arith, length-drop, OnOk, not, nat_tests, length-take-le, get_or-map-range_with_len, length-map-range_with_len, FaultAt, RunFail, RegionContent, Puts, live, words_of}
use Rattle.std.proofs.lemmas.List.{drop-drop, drop-take, ext_get_or}
use Rattle.byteorder.specs.Endian.{little_number}
use Rattle.byteorder.specs.Numbers.{little_from-take}
use Rattle.rio_base.specs.Regions.{put_words}
use Rattle.rio_model.specs.Undo.{Keeps}
use Rattle.rio_model.proofs.UndoRules.{keeps_trans}

abbrev word_at : List ℕ → ℕ → ℕ
word_at bytes j = little_number 8 (drop (8 * j) bytes)

pub words_long : (bytes : List ℕ) → length (words_of bytes) ≡ length bytes / 8
words_long bytes = length-map-range_with_len (word_at bytes) 0 (length bytes / 8)

pub words_get : (bytes : List ℕ) (j : ℕ) → j < length bytes / 8 → slice_index (words_of bytes) j ≡ word_at bytes j
words_get bytes j small = get_or-map-range_with_len (word_at bytes) 0 (length bytes / 8) j j 0 small (omega arith)

-- read from bytes
pub words_read : (bytes room : List ℕ) → length bytes ≡ 8 * length room → ((k : ℕ) → k < length room → slice_index room k ≡ little_number 8 (drop (8 * k) bytes)) → room ≡ words_of bytes
words_read bytes room long read = ext_get_or 0 room (words_of bytes) (let l = words_long bytes in omega (arith, l, long)) (λ k small. read k small ∙ sym (words_get bytes k (omega (arith, long, small))))

-- words of a part of the bytes
pub part_word : (bytes : List ℕ) (a k j : ℕ) → 8 * (a + k) ≤ length bytes → j < k → slice_index (words_of (take (8 * k) (drop (8 * a) bytes))) j ≡ slice_index (words_of bytes) (a + j)
part_word bytes a k j within small =
    let part : List ℕ = take (8 * k) (drop (8 * a) bytes) in
    let long : length part ≡ 8 * k = length-take-le (8 * k) (drop (8 * a) bytes) (omega (arith, within, length-drop (8 * a) bytes)) in
    let place : 8 * a + 8 * j ≡ 8 * (a + j) = omega arith in
    let rest : 8 * k ≡ 8 * j + (8 * k - 8 * j) = omega (arith, small) in
    words_get part j (omega (arith, long, small))
    ∙ ap (λ z. little_number 8 (drop (8 * j) (take z (drop (8 * a) bytes)))) rest
    ∙ ap (little_number 8) (drop-take (8 * j) (8 * k - 8 * j) (drop (8 * a) bytes))
    ∙ little_from-take 0 8 (8 * k - 8 * j) (drop (8 * j) (drop (8 * a) bytes)) (omega (arith, small))
    ∙ ap (little_number 8) (drop-drop (8 * j) (8 * a) bytes ∙ ap (λ n. drop n bytes) place)
    ∙ sym (words_get bytes (a + j) (omega (arith, within, small)))

-- ---- a run after others

pub put_in : (f : ℕ → ℕ) (at n x : ℕ) (words : List ℕ) → at ≤ x → x < at + n → put_words f at n words x ≡ slice_index words (x - at)
put_in f at n x words low high = let test : (not (nat_lt x at) && nat_lt x (at + n)) ≡ true = grind (arith, nat_tests) in ap (λ b. cond b (slice_index words (x - at)) (f x)) test

pub put_out : (f : ℕ → ℕ) (at n x : ℕ) (words : List ℕ) → (x < at) ⊎ (at + n ≤ x) → put_words f at n words x ≡ f x
put_out f at n x words out = ap (λ b. cond b (slice_index words (x - at)) (f x)) (test out)
  where
    test : (x < at) ⊎ (at + n ≤ x) → (not (nat_lt x at) && nat_lt x (at + n)) ≡ false
    test (inl h) = grind (arith, nat_tests)
    test (inr h) = grind (arith, nat_tests)

puts_on : (l : ℕ → ℕ) (place a k : ℕ) (words more : List ℕ) → ((j : ℕ) → j < k → slice_index more j ≡ slice_index words (a + j)) → put_words (put_words l place a words) (place + a) k more ≡ put_words l place (a + k) words
puts_on l place a k words more same = λ i x. one x (grind arith) i
  where
    one : (x : ℕ) → ((x < place) ⊎ (place + (a + k) ≤ x)) ⊎ (((place ≤ x) × (x < place + a)) ⊎ ((place + a ≤ x) × (x < place + (a + k)))) → put_words (put_words l place a words) (place + a) k more x ≡ put_words l place (a + k) words x
    one x (inl out) = put_out (put_words l place a words) (place + a) k x more (far out) ∙ put_out l place a x words (near out) ∙ sym (put_out l place (a + k) x words out)
      where
        far : (x < place) ⊎ (place + (a + k) ≤ x) → (x < place + a) ⊎ (place + a + k ≤ x)
        far (inl h) = inl (omega (arith, h))
        far (inr h) = inr (omega (arith, h))

        near : (x < place) ⊎ (place + (a + k) ≤ x) → (x < place) ⊎ (place + a ≤ x)
        near (inl h) = inl h
        near (inr h) = inr (omega (arith, h))
    one x (inr (inl h)) = put_out (put_words l place a words) (place + a) k x more (inl h.1) ∙ put_in l place a x words h.0 h.1 ∙ sym (put_in l place (a + k) x words h.0 (omega (arith, h.1)))
    one x (inr (inr h)) =
        let at : a + (x - (place + a)) ≡ x - place = omega (arith, h.0) in
        put_in (put_words l place a words) (place + a) k x more h.0 (omega (arith, h.1)) ∙ same (x - (place + a)) (omega (arith, h.0, h.1)) ∙ ap (slice_index words) at ∙ sym (put_in l place (a + k) x words (omega (arith, h.0)) h.1)

pub puts_next : (n m : ℕ) (f h g : RegionContent) (place a k next : ℕ) (bytes : List ℕ) → m ≡ n → Puts n f h place a (words_of bytes) → Puts m h g (place + a) k (words_of (take (8 * next - 8 * a) (drop (8 * a) bytes))) → a + k ≤ next → 8 * next ≤ length bytes → Puts n f g place (a + k) (words_of bytes)
puts_next n m f h g place a k next bytes same p q small within = record {
  keeps = keeps_trans n f h g p.keeps (subst (λ z. Keeps z h g) same q.keeps);
  present = q.present ∙ ap (λ l. put_words l (place + a) k (words_of (take (8 * next - 8 * a) (drop (8 * a) bytes)))) p.present ∙ puts_on (live f) place a k (words_of bytes) (words_of (take (8 * next - 8 * a) (drop (8 * a) bytes))) each;
}
  where
    each : (j : ℕ) → j < k → slice_index (words_of (take (8 * next - 8 * a) (drop (8 * a) bytes))) j ≡ slice_index (words_of bytes) (a + j)
    each j lt =
        let many : 8 * next - 8 * a ≡ 8 * (next - a) = omega arith in
        ap (λ z. slice_index (words_of (take z (drop (8 * a) bytes))) j) many ∙ part_word bytes a (next - a) j (omega (arith, within, small)) (omega (arith, lt, small))

-- ---- a run that was stored through a room

pub stored_ok : {E : Type 0} (r : Result (Unit {0}) E) (n : ℕ) (f g : RegionContent) (place : ℕ) (bytes room : List ℕ) → room ≡ words_of bytes → OnOk r (Puts n f g place (length room) room) → OnOk r (Puts n f g place (length bytes / 8) (words_of bytes))
stored_ok r n f g place bytes room is h = subst (λ k. OnOk r (Puts n f g place k (words_of bytes))) (ap length is ∙ words_long bytes) (subst (λ ws. OnOk r (Puts n f g place (length room) ws)) is h)

pub stored_fault : (r : Result (Unit {0}) RunFail) (n : ℕ) (f g : RegionContent) (place : ℕ) (bytes room : List ℕ) → room ≡ words_of bytes → FaultAt r (λ k. (k ≤ length room) × Puts n f g place k room) → FaultAt r (λ k. (k ≤ length bytes / 8) × Puts n f g place k (words_of bytes))
stored_fault r n f g place bytes room is h = subst (λ z. FaultAt r (λ k. (k ≤ z) × Puts n f g place k (words_of bytes))) (ap length is ∙ words_long bytes) (subst (λ ws. FaultAt r (λ k. (k ≤ length room) × Puts n f g place k ws)) is h)
