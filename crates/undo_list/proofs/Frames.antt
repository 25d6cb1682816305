-- Laws of a record that is written, published, put back and dropped.
use Rattle.std.proofs.Common.{◌≡◌, ℕ, ◌+◌, ◌-◌, ◌*◌, ◌<◌, ◌≤◌, List, [], ◌∷◌, ◌++◌, length, slice_index, take, length-take, refl, sym, ap, subst, ◌∙◌, arith, inl, inr, ◌⊎◌, false}
use Rattle.std.proofs.lemmas.Bool.Decides.{nat_tests}
use Rattle.std.proofs.lemmas.List.{get_or-append-add, get_or-take, get_or_append_left, length-append, length-take-le}
use Rattle.std.proofs.lemmas.List.FromFn.{get_or-map-range_with_len, length-map-range_with_len}
use Rattle.rio_base.specs.Rules.{true_false}
use Rattle.rio_base.specs.Regions.{AreWords, RegionContent, put_word, put_words, OldOrPutWord, OldOrPutWords}
use Rattle.rio_model.specs.Undo.{UndoRecord, taken, undo_word, undo_words, undo_records, is_covered, IsRecord, places, live, map_from, saving, IsRegion, SameSizes, Rests, Gains, Undoes, Dropped, Puts, CoversAll}
use Rattle.rio_model.proofs.UndoRules.{Saves, keeps_refl, rests_refl, rests_undoes, gains_undoes, undoes_trans, sizes_trans, head_sizes, head_live, gains_by, region_same, covered_keeps, covered_by, newest_dropped, dropped_by, puts_covered}
use Rattle.undo_list.specs.Stages.{CopiedFront, copied, Off, Staged, PutsFront}
use Rattle.undo_list.specs.declared.records.SavedAt.{SavedAt}
use Rattle.undo_list.proofs.Chains.{NewestFits}

-- ---- words outside a span

pub off_same : (from to : ℕ) (f g : RegionContent) → g ≡ f → Off from to f g
off_same from to f g e = record { each = λ x out. ap (λ (h : RegionContent). h x) e }

pub off_trans : {from to : ℕ} {f g h : RegionContent} → Off from to f g → Off from to g h → Off from to f h
off_trans a b = record { each = λ x out. b.each x out ∙ a.each x out }

off_copied : (f : RegionContent) (src dst k x : ℕ) → (x < dst) ⊎ (dst + k ≤ x) → copied f src dst k x ≡ f x
off_copied f src dst k x (inl h) = grind (arith, nat_tests)
off_copied f src dst k x (inr h) = grind (arith, nat_tests)

copied_at : (f : RegionContent) (src dst n k : ℕ) → k < n → copied f src dst n (dst + k) ≡ f (src + k)
copied_at f src dst n k small = let place : src + (dst + k - dst) ≡ src + k = omega arith in grind (arith, nat_tests)

put_out : (f : RegionContent) (at n x : ℕ) (words : List ℕ) → (x < at) ⊎ (at + n ≤ x) → put_words f at n words x ≡ f x
put_out f at n x words (inl h) = grind (arith, nat_tests)
put_out f at n x words (inr h) = grind (arith, nat_tests)

-- a front of a run is stored within a span
pub off_run : (f m g : RegionContent) (from to most : ℕ) (words : List ℕ) → m ≡ f → from + most ≤ to → OldOrPutWords m g from words most → Off from to f g
off_run f m g from to most words same fits put = record { each = λ x out. ap (λ (w : RegionContent). w x) put.2 ∙ put_out m from put.0 x words (beside x out) ∙ ap (λ (w : RegionContent). w x) same }
  where
    beside : (x : ℕ) → (x < from) ⊎ (to ≤ x) → (x < from) ⊎ (from + put.0 ≤ x)
    beside x (inl h) = inl h
    beside x (inr h) = inr (omega (arith, put.1, fits))

pub off_taken : (f m g : RegionContent) (from to k : ℕ) (words : List ℕ) → m ≡ f → from + k ≤ to → OldOrPutWords m g from (take k words) (length (take k words)) → Off from to f g
off_taken f m g from to k words same fits put = off_run f m g from to (length (take k words)) (take k words) same (omega (arith, fits, length-take k words)) put

-- a front of a copy is stored within a span
pub off_front : (f g : RegionContent) (src from to dst n : ℕ) → from ≤ dst → dst + n ≤ to → CopiedFront f g src dst n → Off from to f g
off_front f g src from to dst n low high c = record { each = λ x out. ap (λ (w : RegionContent). w x) c.2 ∙ off_copied f src dst c.0 x (beside x out) }
  where
    beside : (x : ℕ) → (x < from) ⊎ (to ≤ x) → (x < dst) ⊎ (dst + c.0 ≤ x)
    beside x (inl h) = inl (omega (arith, low))
    beside x (inr h) = inr (omega (arith, c.1, high))

-- ---- a record is written

-- its first three words by themselves, and then the others
pub staged_long : (f m g : RegionContent) (at head place p from n c : ℕ) → 515 + at + n ≤ from → p ≡ place → c ≡ n → m ≡ put_words f (512 + at) 3 (head ∷ p ∷ c ∷ []) → g ≡ copied m from (515 + at) n → Staged f g at head place from n
staged_long f m g at head place p from n c behind place_is count_is put copy = record {
  older = same (512 + at) (inl (omega arith)) ∙ grind (arith, nat_tests);
  first = same (512 + (at + 1)) (inl (omega arith)) ∙ two ∙ place_is;
  count = same (512 + (at + 2)) (inl (omega arith)) ∙ three ∙ count_is;
  old = λ k small. ap (λ (w : RegionContent). w (512 + (at + 3 + k))) copy ∙ ap (copied m from (515 + at) n) (omega arith) ∙ copied_at m from (515 + at) n k small ∙ here (from + k) (omega arith);
}
  where
    front : RegionContent
    front = put_words f (512 + at) 3 (head ∷ p ∷ c ∷ [])

    same : (x : ℕ) → (x < 515 + at) ⊎ (515 + at + n ≤ x) → g x ≡ front x
    same x out = ap (λ (w : RegionContent). w x) copy ∙ off_copied m from (515 + at) n x out ∙ ap (λ (w : RegionContent). w x) put

    two : front (512 + (at + 1)) ≡ p
    two = let e : 512 + (at + 1) - (512 + at) ≡ 1 = omega arith in grind (arith, nat_tests)

    three : front (512 + (at + 2)) ≡ c
    three = let e : 512 + (at + 2) - (512 + at) ≡ 2 = omega arith in grind (arith, nat_tests)

    here : (x : ℕ) → 515 + at ≤ x → m x ≡ f x
    here x high = ap (λ (w : RegionContent). w x) put ∙ grind (arith, nat_tests)

-- all of its words at once: a front of its first three words, the words that it saves, and what stands behind them
pub staged_short : (f m g : RegionContent) (at head place p from n c k : ℕ) (saved rest : List ℕ) → 515 + at + n ≤ from → p ≡ place → c ≡ n → m ≡ f → length saved ≡ k → k ≡ n → AreWords f from k saved → g ≡ put_words m (512 + at) (length (take (3 + n) (head ∷ p ∷ c ∷ (saved ++ rest)))) (take (3 + n) (head ∷ p ∷ c ∷ (saved ++ rest))) → Staged f g at head place from n
staged_short f m g at head place p from n c k saved rest behind place_is count_is same long many read put = record {
  older = all (512 + at) 0 (omega arith) (omega arith);
  first = all (512 + (at + 1)) 1 (omega arith) (omega arith) ∙ place_is;
  count = all (512 + (at + 2)) 2 (omega arith) (omega arith) ∙ count_is;
  old = λ j small. all (512 + (at + 3 + j)) (3 + j) (omega arith) (omega arith) ∙ behind_front j (omega arith) ∙ read.each j (omega arith);
}
  where
    line : List ℕ
    line = head ∷ p ∷ c ∷ (saved ++ rest)

    size : length (take (3 + n) line) ≡ 3 + n
    size = length-take-le (3 + n) line (omega (arith, long, many, length-append saved rest))

    all : (x i : ℕ) → x ≡ 512 + at + i → i < 3 + n → g x ≡ slice_index line i
    all x i is small =
        let index : x - (512 + at) ≡ i = omega arith in
        let here : put_words m (512 + at) (length (take (3 + n) line)) (take (3 + n) line) x ≡ slice_index (take (3 + n) line) (x - (512 + at)) = grind (arith, nat_tests, size) in
        ap (λ (w : RegionContent). w x) put ∙ here ∙ ap (slice_index (take (3 + n) line)) index ∙ get_or-take (3 + n) line i 0 small

    behind_front : (j : ℕ) → j < length saved → slice_index line (3 + j) ≡ slice_index saved j
    behind_front j small = get_or-append-add (head ∷ p ∷ c ∷ []) (saved ++ rest) j 0 ∙ get_or_append_left saved rest 0 j small

-- a record of two words that were read, all of it at once
pub staged_pair : (f g : RegionContent) (at head place p a b : ℕ) → p ≡ place → g ≡ put_words f (512 + at) 5 (head ∷ p ∷ 2 ∷ a ∷ b ∷ []) → (from : ℕ) → a ≡ f from → b ≡ f (from + 1) → Staged f g at head place from 2
staged_pair f g at head place p a b place_is put from one two = record {
  older = all (512 + at) 0 (omega arith) (omega arith);
  first = all (512 + (at + 1)) 1 (omega arith) (omega arith) ∙ place_is;
  count = all (512 + (at + 2)) 2 (omega arith) (omega arith);
  old = λ k small. saved k (grind arith);
}
  where
    line : List ℕ
    line = head ∷ p ∷ 2 ∷ a ∷ b ∷ []

    all : (x i : ℕ) → x ≡ 512 + at + i → i < 5 → g x ≡ slice_index line i
    all x i is small =
        let index : x - (512 + at) ≡ i = omega arith in
        let here : put_words f (512 + at) 5 line x ≡ slice_index line (x - (512 + at)) = grind (arith, nat_tests) in
        ap (λ (w : RegionContent). w x) put ∙ here ∙ ap (slice_index line) index

    saved : (k : ℕ) → (k ≡ 0) ⊎ (k ≡ 1) → undo_word g (at + 3 + k) ≡ f (from + k)
    saved k (inl e) = all (512 + (at + 3 + k)) 3 (omega (arith, e)) (omega arith) ∙ one ∙ ap f (omega (arith, e))
    saved k (inr e) = all (512 + (at + 3 + k)) 4 (omega (arith, e)) (omega arith) ∙ two ∙ ap f (omega (arith, e))

-- ---- a region through a change of undo words that no record takes

sizes_off : (from to : ℕ) (f g : RegionContent) → 512 ≤ from → Off from to f g → SameSizes f g
sizes_off from to f g low off = record { magic = off.each 0 (inl (omega arith)); undo = off.each 1 (inl (omega arith)); data_pages = off.each 2 (inl (omega arith)) }

live_off : (from to : ℕ) (f g : RegionContent) → 512 ≤ from → to ≤ map_from f → Off from to f g → live g ≡ live f
live_off from to f g low high off = λ i q. here q i
  where
    same : g 1 ≡ f 1
    same = off.each 1 (inl (omega arith))

    here : (q : ℕ) → live g q ≡ live f q
    here q = ap (λ u. g (512 * (1 + u) + q)) same ∙ off.each (512 * (1 + f 1) + q) (inr (omega arith))

pub rests_off : (n : ℕ) (f g : RegionContent) (from to : ℕ) → IsRegion n f → 512 + taken (undo_records f) ≤ from → to ≤ map_from f → Off from to f g → Rests n f g
rests_off n f g from to h low high off =
    let sizes = sizes_off from to f g (omega arith) off in
    let now = region_same n f g h sizes (off.each 3 (inl (omega arith))) (λ p small. off.each (512 + p) (inl (omega arith))) in
    record { region = now.0; sizes = sizes; present = live_off from to f g (omega arith) high off; records = now.1 }

-- ---- a record is published

head_off : (f : RegionContent) (v x : ℕ) → 3 < x → put_word f 3 v x ≡ f x
head_off f v x h = grind (arith, nat_tests)

pub gains_put : (n : ℕ) (f m : RegionContent) (at place from k : ℕ) → IsRegion n f → at ≡ taken (undo_records f) → Off (512 + at) (515 + at + k) f m → Staged f m at (f 3) place from k → from ≡ map_from f + place → place + k ≤ places f → at + 3 + k ≤ undo_words f → Gains n f (put_word m 3 (at + 1)) place k
gains_put n f m at place from k h is off st source within fits =
    let g = put_word m 3 (at + 1) in
    let r = saving (live f) place k in
    let sizes = sizes_trans f m g (sizes_off (512 + at) (515 + at + k) f m (omega arith) off) (head_sizes m (at + 1)) in
    let long : length r.old ≡ k = length-map-range_with_len (live f) place k in
    let lies : IsRecord g at r = record {
      first = head_off m (at + 1) (512 + (at + 1)) (omega arith) ∙ st.first;
      count = head_off m (at + 1) (512 + (at + 2)) (omega arith) ∙ st.count ∙ sym long;
      old = λ j small. head_off m (at + 1) (512 + (at + 3 + j)) (omega arith) ∙ st.old j (omega arith) ∙ ap f (omega arith) ∙ sym (get_or-map-range_with_len (live f) place k j (place + j) 0 (omega arith) refl);
    } in
    let words : (p : ℕ) → p < taken (undo_records f) → undo_word g p ≡ undo_word f p = λ p small. head_off m (at + 1) (512 + p) (omega arith) ∙ off.each (512 + p) (inl (omega arith)) in
    let older : undo_word g (taken (undo_records f)) ≡ f 3 = subst (λ a. undo_word g a ≡ f 3) is (head_off m (at + 1) (512 + at) (omega arith) ∙ st.older) in
    gains_by n f g place k h sizes (head_live m (at + 1) ∙ live_off (512 + at) (515 + at + k) f m (omega arith) (omega arith) off) (omega arith) words older (subst (λ a. IsRecord g a r) is lies) within (omega arith)

pub published : (n : ℕ) (f m g : RegionContent) (at place from k v : ℕ) → IsRegion n f → at ≡ taken (undo_records f) → Off (512 + at) (515 + at + k) f m → Staged f m at (f 3) place from k → from ≡ map_from f + place → place + k ≤ places f → at + 3 + k ≤ undo_words f → v ≡ at + 1 → OldOrPutWord m g 3 v → Rests n f g ⊎ Gains n f g place k
published n f m g at place from k v h is off st source within fits value (inl same) = inl (rests_off n f g (512 + at) (515 + at + k) h (omega arith) (omega arith) (off_trans off (off_same (512 + at) (515 + at + k) m g same)))
published n f m g at place from k v h is off st source within fits value (inr put) = inr (subst (λ w. Gains n f w place k) (sym (put ∙ ap (λ x. put_word m 3 x) value)) (gains_put n f m at place from k h is off st source within fits))

pub either_undoes : (n : ℕ) (f g : RegionContent) (place k : ℕ) → Rests n f g ⊎ Gains n f g place k → Undoes n f g
either_undoes n f g place k (inl h) = rests_undoes n f g h
either_undoes n f g place k (inr h) = gains_undoes n f g place k h

pub undoes_from : (n m : ℕ) (f1 f g : RegionContent) → f1 ≡ f → m ≡ n → Undoes m f1 g → Undoes n f g
undoes_from n m f1 f g same size h = subst (λ k. Undoes k f g) size (subst (λ w. Undoes m w g) same h)

-- ---- the same, told from an earlier state of the same words

pub rests_same : (n : ℕ) (f g : RegionContent) → IsRegion n f → g ≡ f → Rests n f g
rests_same n f g h same = subst (λ w. Rests n f w) (sym same) (rests_refl n f h)

pub rests_from : (n m : ℕ) (f1 f g : RegionContent) → f1 ≡ f → m ≡ n → Rests m f1 g → Rests n f g
rests_from n m f1 f g same size h = subst (λ k. Rests k f g) size (subst (λ w. Rests m w g) same h)

pub gains_from : (n m : ℕ) (f1 f g : RegionContent) (place k : ℕ) → f1 ≡ f → m ≡ n → Gains m f1 g place k → Gains n f g place k
gains_from n m f1 f g place k same size h = subst (λ j. Gains j f g place k) size (subst (λ w. Gains m w g place k) same h)

pub either_from : (n m : ℕ) (f1 f g : RegionContent) (place k : ℕ) → f1 ≡ f → m ≡ n → Rests m f1 g ⊎ Gains m f1 g place k → Rests n f g ⊎ Gains n f g place k
either_from n m f1 f g place k same size (inl h) = inl (rests_from n m f1 f g same size h)
either_from n m f1 f g place k same size (inr h) = inr (gains_from n m f1 f g place k same size h)

pub either_region : (n j : ℕ) (f g : RegionContent) (place k : ℕ) → j ≡ n → Rests n f g ⊎ Gains n f g place k → IsRegion j g
either_region n j f g place k size h = subst (λ i. IsRegion i g) (sym size) (either_undoes n f g place k h).region

-- ---- the newest record is put back

-- a front of its words is back
pub newest_back : (n : ℕ) (f g : RegionContent) (r : UndoRecord) (older : List UndoRecord) (src dst k : ℕ) → IsRegion n f → undo_records f ≡ r ∷ older → dst ≡ map_from f + r.first → k ≤ length r.old → g ≡ copied f src dst k → Undoes n f g
newest_back n f g r older src dst k h is at small copy = (covered_keeps n f g h low same).undoes
  where
    low : (x : ℕ) → x < map_from f → g x ≡ f x
    low x s = ap (λ (w : RegionContent). w x) copy ∙ off_copied f src dst k x (inl (omega arith))

    map_same : map_from g ≡ map_from f
    map_same = ap (λ u. 512 * (1 + u)) (low 1 (omega arith))

    is_out : (q : ℕ) → is_covered (undo_records f) q ≡ false → ((r.first ≤ q) × (q < r.first + length r.old)) ⊎ ((q < r.first) ⊎ (r.first + length r.old ≤ q)) → (map_from f + q < dst) ⊎ (dst + k ≤ map_from f + q)
    is_out q e (inl i) = absurd (true_false (sym (covered_by r older q i) ∙ ap (λ (xs : List UndoRecord). is_covered xs q) (sym is) ∙ e))
    is_out q e (inr (inl o)) = inl (omega arith)
    is_out q e (inr (inr o)) = inr (omega arith)

    same : (q : ℕ) → is_covered (undo_records f) q ≡ false → live g q ≡ live f q
    same q e = ap (λ a. g (a + q)) map_same ∙ ap (λ (w : RegionContent). w (map_from f + q)) copy ∙ off_copied f src dst k (map_from f + q) (is_out q e (grind arith))

-- all of its words are back, so it is dropped
back_dropped : (n : ℕ) (f g : RegionContent) (r : UndoRecord) (older : List UndoRecord) (at head : ℕ) → IsRegion n f → undo_records f ≡ r ∷ older → IsRecord f at r → at ≡ taken older → head ≡ undo_word f at → g ≡ copied f (515 + at) (map_from f + r.first) (length r.old) → Undoes n f (put_word g 3 head)
back_dropped n f g r older at head h is lies place head_is copy =
    let back = newest_back n f g r older (515 + at) (map_from f + r.first) (length r.old) h is refl (omega arith) copy in
    let low : (x : ℕ) → x < map_from f → g x ≡ f x = λ x s. ap (λ (w : RegionContent). w x) copy ∙ off_copied f (515 + at) (map_from f + r.first) (length r.old) x (inl (omega arith)) in
    let sizes : SameSizes f g = back.sizes in
    let recs : undo_records g ≡ undo_records f = (region_same n f g h sizes (low 3 (omega arith)) (λ p small. low (512 + p) (omega (arith, h.room)))).1 in
    let size : taken (undo_records f) ≡ taken older + 3 + length r.old = ap taken is in
    let at_low : undo_word g (taken older) ≡ undo_word f (taken older) = low (512 + taken older) (omega (arith, h.room, size)) in
    let saves : Saves (live g) r.first (length r.old) r = record {
      first = refl;
      count = refl;
      old = λ k small. sym (ap (λ u. g (512 * (1 + u) + (r.first + k))) sizes.undo ∙ ap g (omega arith) ∙ ap (λ (w : RegionContent). w (map_from f + r.first + k)) copy ∙ copied_at f (515 + at) (map_from f + r.first) (length r.old) k small ∙ ap f (omega arith) ∙ lies.old k small);
    } in
    let same : undo_word g (taken older) ≡ head = at_low ∙ ap (undo_word f) (sym place) ∙ sym head_is in
    subst (λ v. Undoes n f (put_word g 3 v)) same (undoes_trans n f g (put_word g 3 (undo_word g (taken older))) back (newest_dropped n g r older back.region (recs ∙ is) saves))

pub front_back : (n : ℕ) (f f2 g : RegionContent) (head dst : ℕ) (v : SavedAt) → IsRegion n f → f2 ≡ f → NewestFits f head (undo_records f) v → dst ≡ map_from f + v.first → CopiedFront f2 g (515 + v.at) dst v.count → Undoes n f g
front_back n f f2 g head dst v h same w at c = newest_back n f g w.newest w.rest (515 + v.at) dst c.0 h w.is (at ∙ ap (λ x. map_from f + x) w.first) (omega (arith, c.1, w.count)) (c.2 ∙ ap (λ (x : RegionContent). copied x (515 + v.at) dst c.0) same)

-- all of it is back, and the head is stored or not
pub newest_ends : (n : ℕ) (f f2 m g : RegionContent) (head dst : ℕ) (v : SavedAt) → IsRegion n f → f2 ≡ f → NewestFits f head (undo_records f) v → v.older ≡ undo_word f v.at → dst ≡ map_from f + v.first → m ≡ copied f2 (515 + v.at) dst v.count → OldOrPutWord m g 3 v.older → Undoes n f g
newest_ends n f f2 m g head dst v h same w older at copy (inl kept) = front_back n f f2 g head dst v h same w at (v.count, omega arith, kept ∙ copy)
newest_ends n f f2 m g head dst v h same w older at copy (inr put) =
    let here : m ≡ copied f (515 + v.at) (map_from f + w.newest.first) (length w.newest.old) = copy ∙ ap (λ (x : RegionContent). copied x (515 + v.at) dst v.count) same ∙ ap (λ d. copied f (515 + v.at) d v.count) (at ∙ ap (λ x. map_from f + x) w.first) ∙ ap (λ k. copied f (515 + v.at) (map_from f + w.newest.first) k) w.count in
    subst (λ x. Undoes n f x) (sym put) (back_dropped n f m w.newest w.rest v.at v.older h w.is w.lies w.at older here)

-- ---- all records are dropped, or a word is stored

pub drop_ends : (n : ℕ) (f g : RegionContent) → IsRegion n f → OldOrPutWord f g 3 0 → (g ≡ f) ⊎ Dropped n f g
drop_ends n f g h (inl same) = inl same
drop_ends n f g h (inr put) = inr (dropped_by n f g h put)

pub puts_at : (n : ℕ) (f f1 g : RegionContent) (at place k most : ℕ) (words : List ℕ) → f1 ≡ f → IsRegion n f → k ≤ most → CoversAll (undo_records f) place most → at ≡ map_from f + place → g ≡ put_words f1 at k words → Puts n f g place k words
puts_at n f f1 g at place k most words same h small covered is put = puts_covered n f g place k words h (λ q low high. covered q low (omega arith)) (put ∙ ap (λ w. put_words w at k words) same ∙ ap (λ x. put_words f x k words) is)

pub puts_front : (n : ℕ) (f f1 g : RegionContent) (at place : ℕ) (words : List ℕ) → f1 ≡ f → IsRegion n f → CoversAll (undo_records f) place (length words) → at ≡ map_from f + place → OldOrPutWords f1 g at words (length words) → PutsFront n f g place words
puts_front n f f1 g at place words same h covered is o = (o.0, o.1, puts_at n f f1 g at place o.0 (length words) words same h o.1 covered is o.2)

-- none of them is stored
pub puts_none : (n : ℕ) (f g : RegionContent) (place : ℕ) (words : List ℕ) → IsRegion n f → g ≡ f → Puts n f g place 0 words
puts_none n f g place words h same = subst (λ w. Puts n f w place 0 words) (sym same) (record { keeps = keeps_refl n f h; present = λ i q. none q i })
  where
    none : (q : ℕ) → live f q ≡ put_words (live f) place 0 words q
    none q = grind (arith, nat_tests)

-- ---- the region at a later state

pub region_at : (n k : ℕ) (f g : RegionContent) → IsRegion n f → k ≡ n → g ≡ f → IsRegion k g
region_at n k f g h size same = subst (λ j. IsRegion j g) (sym size) (subst (λ w. IsRegion n w) (sym same) h)

pub puts_region : (n k : ℕ) (f g : RegionContent) (place : ℕ) (words : List ℕ) → k ≡ n → PutsFront n f g place words → IsRegion k g
puts_region n k f g place words size p = subst (λ j. IsRegion j g) (sym size) p.2.keeps.undoes.region

pub drop_region : (n k : ℕ) (f g : RegionContent) → IsRegion n f → k ≡ n → (g ≡ f) ⊎ Dropped n f g → IsRegion k g
drop_region n k f g h size (inl same) = region_at n k f g h size same
drop_region n k f g h size (inr d) = subst (λ j. IsRegion j g) (sym size) d.region
