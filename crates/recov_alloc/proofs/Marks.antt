-- Laws of bits of the heap map that are stored.
use Rattle.std.proofs.Common.{◌≡◌, ◌≢◌, ℕ, ◌+◌, ◌-◌, ◌*◌, ◌/◌, ◌%◌, ◌<◌, ◌≤◌, ◌⊎◌, inl, inr, refl, sym, ap, subst, ◌∙◌, arith, cond, Bool, true, false, List, [], ◌∷◌, slice_index, nat_lt, nat_le, eqb, ◌&&◌}
use Rattle.std.specs.Int.{bit_at}
use mir.Val.{bool_byte}
use Rattle.std.proofs.lemmas.Bool.{cases_eq}
use Rattle.std.proofs.lemmas.Bool.Decides.{nat_tests}
use Rattle.rio_base.specs.Regions.{AreWords, RegionContent, put_words}
use Rattle.rio_model.specs.Undo.{CoversAll, Gains, is_covered, live, saving, undo_records}
use Rattle.rio_model.specs.Heap.{Allocates, IsBlock, IsFirstFit, Releases, starts, touched_pages, used}
use Rattle.undo_list.specs.Bits.{WithBits}
use Rattle.recov_alloc.specs.Marks.{ChangesMap, MapCovered, MarksBlock, StoresPair}
use Rattle.recov_alloc.proofs.MarksLaws.{MarksUnits}

-- ---- the two map words of a page

first_word : (f : ℕ → ℕ) (at a b : ℕ) → put_words f at 2 (a ∷ b ∷ []) at ≡ a
first_word f at a b = grind (arith, nat_tests)

second_word : (f : ℕ → ℕ) (at a b : ℕ) → put_words f at 2 (a ∷ b ∷ []) (at + 1) ≡ b
second_word f at a b = let e : at + 1 - at ≡ 1 = omega arith in grind (arith, nat_tests)

other_word : (f : ℕ → ℕ) (at a b q : ℕ) → (q < at) ⊎ (at + 1 < q) → put_words f at 2 (a ∷ b ∷ []) q ≡ f q
other_word f at a b q (inl h) = grind (arith, nat_tests)
other_word f at a b q (inr h) = grind (arith, nat_tests)

-- whether a start is stored, as how many are
pub start_count : (b : Bool) → bool_byte b ≡ cond b 1 0
start_count true = refl
start_count false = refl

pub pair_stored : (l l1 m : ℕ → ℕ) (x n s v a b : ℕ) (pair : List ℕ) → l1 ≡ l → AreWords l (2 * (x / 64)) 2 pair → WithBits (slice_index pair 0) a (x % 64) (x % 64 + n) v → WithBits (slice_index pair 1) b (x % 64) (x % 64 + s) v → m ≡ put_words l1 (2 * (x / 64)) 2 (a ∷ b ∷ []) → StoresPair l m x n s v
pair_stored l l1 m x n s v a b pair same read used_bits start_bits put = record {
  used = subst (λ w. WithBits w (m place) (x % 64) (x % 64 + n) v) (read.each 0 (omega arith) ∙ ap l (omega arith)) (subst (λ w. WithBits (slice_index pair 0) w (x % 64) (x % 64 + n) v) (sym (here place ∙ first_word l place a b)) used_bits);
  starts = subst (λ w. WithBits w (m (place + 1)) (x % 64) (x % 64 + s) v) (read.each 1 (omega arith)) (subst (λ w. WithBits (slice_index pair 1) w (x % 64) (x % 64 + s) v) (sym (here (place + 1) ∙ second_word l place a b)) start_bits);
  others = λ q out. here q ∙ other_word l place a b q out;
}
  where
    place : ℕ
    place = 2 * (x / 64)

    here : (q : ℕ) → m q ≡ put_words l place 2 (a ∷ b ∷ []) q
    here q = ap (λ (f : ℕ → ℕ). f q) put ∙ ap (λ (f : ℕ → ℕ). put_words f place 2 (a ∷ b ∷ []) q) same

in_units : (t x u v : ℕ) (y : ℕ) → t ≤ y → y < x → cond (nat_le t y && nat_lt y x) v u ≡ v
in_units t x u v y low high = grind (arith, nat_tests)

out_units : (t x u v : ℕ) (y : ℕ) → (y < t) ⊎ (x ≤ y) → cond (nat_le t y && nat_lt y x) v u ≡ u
out_units t x u v y (inl h) = grind (arith, nat_tests)
out_units t x u v y (inr h) = grind (arith, nat_tests)

at_start : (t x u v y : ℕ) → y ≡ t → t < x → cond (eqb y t && nat_lt t x) v u ≡ v
at_start t x u v y e h = grind (arith, nat_tests)

no_start : (t x u v y : ℕ) → (y ≢ t) ⊎ (x ≤ t) → cond (eqb y t && nat_lt t x) v u ≡ u
no_start t x u v y (inl e) = grind (arith, nat_tests)
no_start t x u v y (inr h) = grind (arith, nat_tests)

-- units of one page more, and the start with the first ones
pub units_more : (l m k : ℕ → ℕ) (t x j s v : ℕ) → t ≤ x → 1 ≤ j → x % 64 + j ≤ 64 → s ≡ cond (eqb x t) 1 0 → MarksUnits l m t x v → StoresPair m k x j s v → MarksUnits l k t (x + j) v
unfolding used starts
units_more l m k t x j s v low some fits first h p = record {
  used = λ y. at y (grind arith);
  starts = λ y. start y (cases_eq y t) (cases_eq x t);
  others = λ q out. p.others q (apart q out) ∙ h.others q (outer q out);
}
  where
    apart : (q : ℕ) → (q < 2 * (t / 64)) ⊎ (2 * ((x + j - 1) / 64) + 1 < q) → (q < 2 * (x / 64)) ⊎ (2 * (x / 64) + 1 < q)
    apart q (inl h) = inl (omega (arith, low))
    apart q (inr h) = inr (omega (arith, some))

    outer : (q : ℕ) → (q < 2 * (t / 64)) ⊎ (2 * ((x + j - 1) / 64) + 1 < q) → (q < 2 * (t / 64)) ⊎ (2 * ((x - 1) / 64) + 1 < q)
    outer q (inl h) = inl h
    outer q (inr h) = inr (omega (arith, some))

    away : (p q : ℕ) → p ≢ q → (2 * p < 2 * q) ⊎ (2 * q + 1 < 2 * p)
    away p q apart = grind (arith, apart)

    away_start : (p q : ℕ) → p ≢ q → (2 * p + 1 < 2 * q) ⊎ (2 * q + 1 < 2 * p + 1)
    away_start p q apart = grind (arith, apart)

    same_word : (y : ℕ) → y / 64 ≡ x / 64 → (y < x) ⊎ (x + j ≤ y) → used k y ≡ used m y
    same_word y e out = ap (λ p. bit_at (k (2 * p)) (y % 64)) e ∙ p.used.outside (y % 64) (omega arith) (by out) ∙ ap (λ p. bit_at (m (2 * p)) (y % 64)) (sym e)
      where
        by : (y < x) ⊎ (x + j ≤ y) → (y % 64 < x % 64) ⊎ (x % 64 + j ≤ y % 64)
        by (inl h) = inl (omega (arith, e))
        by (inr h) = inr (omega (arith, e))

    kept : (y : ℕ) → (y < x) ⊎ (x + j ≤ y) → (y / 64 ≡ x / 64) ⊎ (y / 64 ≢ x / 64) → used k y ≡ used m y
    kept y out (inl e) = same_word y e out
    kept y out (inr e) = ap (λ w. bit_at w (y % 64)) (p.others (2 * (y / 64)) (away (y / 64) (x / 64) e))

    at : (y : ℕ) → ((x ≤ y) × (y < x + j)) ⊎ ((y < x) ⊎ (x + j ≤ y)) → used k y ≡ cond (nat_le t y && nat_lt y (x + j)) v (used l y)
    at y (inl i) =
        let page : y / 64 ≡ x / 64 = omega (arith, i.0, i.1, fits) in
        ap (λ p. bit_at (k (2 * p)) (y % 64)) page ∙ p.used.inside (y % 64) (omega (arith, i.0, page)) (omega (arith, i.1, page)) ∙ sym (in_units t (x + j) (used l y) v y (omega (arith, i.0)) i.1)
    at y (inr (inl h1)) = kept y (inl h1) (cases_eq (y / 64) (x / 64)) ∙ h.used y ∙ grind (arith, nat_tests)
    at y (inr (inr h1)) = kept y (inr h1) (cases_eq (y / 64) (x / 64)) ∙ h.used y ∙ out_units t x (used l y) v y (inr (omega arith)) ∙ sym (out_units t (x + j) (used l y) v y (inr h1))

    -- a start that is not stored now
    kept_start : (y : ℕ) → (y ≢ x) ⊎ (s ≡ 0) → (y / 64 ≡ x / 64) ⊎ (y / 64 ≢ x / 64) → starts k y ≡ starts m y
    kept_start y out (inl e) = ap (λ p. bit_at (k (2 * p + 1)) (y % 64)) e ∙ p.starts.outside (y % 64) (omega arith) (by out) ∙ ap (λ p. bit_at (m (2 * p + 1)) (y % 64)) (sym e)
      where
        few : s ≤ 1
        few = grind (arith, nat_tests, first)

        by : (y ≢ x) ⊎ (s ≡ 0) → (y % 64 < x % 64) ⊎ (x % 64 + s ≤ y % 64)
        by (inl apart) = grind (arith, e, apart, few)
        by (inr none) = grind (arith, e, none)
    kept_start y out (inr e) = ap (λ w. bit_at w (y % 64)) (p.others (2 * (y / 64) + 1) (away_start (y / 64) (x / 64) e))

    start : (y : ℕ) → (y ≡ t) ⊎ (y ≢ t) → (x ≡ t) ⊎ (x ≢ t) → starts k y ≡ cond (eqb y t && nat_lt t (x + j)) v (starts l y)
    start y (inl e) (inl g) =
        let one : s ≡ 1 = grind (arith, nat_tests, first, g) in
        let page : y / 64 ≡ x / 64 = omega (arith, e, g) in
        ap (λ p. bit_at (k (2 * p + 1)) (y % 64)) page ∙ p.starts.inside (y % 64) (omega (arith, e, g)) (omega (arith, e, g, one)) ∙ sym (at_start t (x + j) (starts l y) v y e (omega (arith, g, some)))
    start y (inl e) (inr g) =
        let none : s ≡ 0 = grind (arith, nat_tests, first, g) in
        let behind : t < x = grind (arith, g, low) in
        kept_start y (inr none) (cases_eq (y / 64) (x / 64)) ∙ h.starts y ∙ at_start t x (starts l y) v y e behind ∙ sym (at_start t (x + j) (starts l y) v y e (omega (arith, behind)))
    start y (inr e) (inl g) = kept_start y (inl (λ same. e (same ∙ g))) (cases_eq (y / 64) (x / 64)) ∙ h.starts y ∙ no_start t x (starts l y) v y (inl e) ∙ sym (no_start t (x + j) (starts l y) v y (inl e))
    start y (inr e) (inr g) =
        let none : s ≡ 0 = grind (arith, nat_tests, first, g) in
        kept_start y (inr none) (cases_eq (y / 64) (x / 64)) ∙ h.starts y ∙ no_start t x (starts l y) v y (inl e) ∙ sym (no_start t (x + j) (starts l y) v y (inl e))

pub block_marked : (l m : ℕ → ℕ) (t n x v : ℕ) → 1 ≤ n → x ≡ t + n → MarksUnits l m t x v → MarksBlock l m t n v
block_marked l m t n x v some end h = record {
  used = λ y. h.used y ∙ ap (λ z. cond (nat_le t y && nat_lt y z) v (used l y)) end;
  starts = λ y. h.starts y ∙ grind (arith, nat_tests);
  others = record { each = λ q out. h.others q (subst (λ z. (q < 2 * (t / 64)) ⊎ (2 * ((z - 1) / 64) + 1 < q)) (sym end) out) };
}

-- the map words of one page of the block are covered
pub page_covered : (f g : RegionContent) (t n x j : ℕ) → undo_records g ≡ undo_records f → MapCovered f t n → t ≤ x → 1 ≤ j → x + j ≤ t + n → CoversAll (undo_records g) (2 * (x / 64)) 2
page_covered f g t n x j same covered low some high q a b = ap (λ rs. is_covered rs q) same ∙ covered q (omega (arith, a, low)) (omega (arith, b, low, some, high))

-- ---- blocks

-- the bits of a block in one page are stored at once
pub page_marked : (l m : ℕ → ℕ) (t n v : ℕ) → 1 ≤ n → t % 64 + n ≤ 64 → StoresPair l m t n 1 v → MarksBlock l m t n v
page_marked l m t n v some fits p = block_marked l m t n (t + n) v some refl (units_more l l m t t n 1 v (omega arith) some fits (grind (arith, nat_tests)) none p)
  where
    none : MarksUnits l l t t v
    none = record {
      used = λ y. sym (out_units t t (used l y) v y (grind arith));
      starts = λ y. sym (no_start t t (starts l y) v y (inr (omega arith)));
      others = λ q out. refl;
    }

pub one_page : (t n : ℕ) → 1 ≤ n → t % 64 + n ≤ 64 → touched_pages t n ≡ 1
one_page t n some fits = omega (arith, some, fits)

-- a record of the map words that stood is made, and then the bits are stored
pub changed : (f f1 g h : RegionContent) (k t n v : ℕ) → f1 ≡ f → Gains k f1 g (2 * (t / 64)) (2 * touched_pages t n) → MarksBlock (live g) (live h) t n v → undo_records h ≡ undo_records g → ChangesMap f h t n v
changed f f1 g h k t n v same gain marks recs = record {
  marks = subst (λ l. MarksBlock l (live h) t n v) (gain.present ∙ ap live same) marks;
  records = recs ∙ gain.records ∙ ap (λ (w : RegionContent). saving (live w) (2 * (t / 64)) (2 * touched_pages t n) ∷ undo_records w) same;
}

pub allocated : (f f1 f2 h : RegionContent) (units t : ℕ) → f1 ≡ f → f2 ≡ f1 → IsFirstFit (live f1) (64 * f1 2) units t → ChangesMap f2 h t units 1 → Allocates f h units t
allocated f f1 f2 h units t first second fit change =
    let now = subst (λ w. ChangesMap w h t units 1) (second ∙ first) change in
    record {
      fit = subst (λ (w : RegionContent). IsFirstFit (live w) (64 * w 2) units t) first fit;
      added = record { used = now.marks.used; starts = now.marks.starts };
      others = now.marks.others;
      records = now.records;
    }

pub released : (f f1 f2 h : RegionContent) (units t : ℕ) → f1 ≡ f → f2 ≡ f1 → IsBlock (live f1) (64 * f1 2) t units → ChangesMap f2 h t units 0 → Releases f h units t
released f f1 f2 h units t first second block change =
    let now = subst (λ w. ChangesMap w h t units 0) (second ∙ first) change in
    record {
      block = subst (λ (w : RegionContent). IsBlock (live w) (64 * w 2) t units) first block;
      removed = record { used = now.marks.used; starts = now.marks.starts };
      others = now.marks.others;
      records = now.records;
    }
