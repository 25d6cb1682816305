-- Laws of undo records: what the words were before, how a list of records lasts, grows and shrinks, and what the changes of
-- a region leave.
use Rattle.rio_model.proofs.Common.{Some, None, length, slice_index, range_with_len, ◌≡◌, ℕ, zero, suc, ◌+◌, ◌-◌, ◌*◌, ◌<◌, ◌≤◌, ◌⊎◌, inl, inr, Bool, true, false, cond, Option, List, [], ◌∷◌, map, refl, sym, ap, subst, ◌∙◌, arith, nat_tests, true_false}
use Rattle.std.specs.Prelude.{◌≡◌, ℕ, zero, suc, ◌+◌, ◌-◌, ◌*◌, ◌<◌, ◌≤◌, Bool, true, Option, is_some, List, [], ◌∷◌, map}
use Rattle.rio_base.specs.Regions.{RegionContent, put_word, put_words}
use Rattle.std.proofs.Common.{Some, None, length}
use Rattle.std.proofs.lemmas.List.{ext_get_or}
use Rattle.std.proofs.lemmas.List.FromFn.{get_or-map-range_with_len, length-map-range_with_len}
use Rattle.rio_model.specs.Undo.{UndoRecord, taken, undo_word, record_at, records_from, undo_records, IsRecord, Links, Within, covers, own_word, first_some, saved_word, is_covered, word_or, before_by, before, live, places, undo_words, map_pages, map_from, region_words, saving, CoversAll, IsRegion, SameSizes, Undoes, Keeps, Rests, Gains, Sets, Puts, Undone, Dropped}

-- a record of the words of a span
pub record Saves (words : ℕ → ℕ) (from n : ℕ) (r : UndoRecord) : Type 0 where
  pub first : r.first ≡ from
  pub count : length r.old ≡ n
  pub old : (k : ℕ) → k < n → slice_index r.old k ≡ words (from + k)

-- ---- the words of before

word_same : (o : Option ℕ) (a b : ℕ) → (is_some o ≡ false → a ≡ b) → word_or o a ≡ word_or o b
word_same (Some v) a b h = refl
word_same None a b h = h refl

-- words that differ only where a record covers them were the same before
pub before_same : (rs : List UndoRecord) (m l : ℕ → ℕ) → ((q : ℕ) → is_covered rs q ≡ false → m q ≡ l q) → before_by rs m ≡ before_by rs l
before_same rs m l h = λ i q. word_same (saved_word rs q) (m q) (l q) (h q) i

joined : (o p : Option ℕ) (w : ℕ) → word_or p w ≡ w → word_or (first_some o p) w ≡ word_or o w
joined (Some v) p w h = refl
joined None p w h = h

own_live : (l : ℕ → ℕ) (r : UndoRecord) (q : ℕ) → Saves l r.first (length r.old) r → word_or (own_word r q) (l q) ≡ l q
unfolding own_word
own_live l r q s = by_case (covers r q) (λ inside. s.old (q - r.first) (grind (arith, nat_tests)) ∙ ap l (grind (arith, nat_tests)))
  where
    by_case : (b : Bool) → (b ≡ true → slice_index r.old (q - r.first) ≡ l q) → word_or (cond b (Some (slice_index r.old (q - r.first))) None) (l q) ≡ l q
    by_case true h = h refl
    by_case false h = refl

-- a record of the present words does not change what was before
pub before_saved : (r : UndoRecord) (rs : List UndoRecord) (l : ℕ → ℕ) → Saves l r.first (length r.old) r → before_by (r ∷ rs) l ≡ before_by rs l
before_saved r rs l s = λ i q. joined (saved_word rs q) (own_word r q) (l q) (own_live l r q s) i

-- ---- lists of records in the words

pub links_head : (f : RegionContent) (head : ℕ) (rs : List UndoRecord) → Links f head rs → head ≤ taken rs
links_head f head [] l = omega arith
links_head f head (r ∷ older) l = omega (arith, l.0)

pub record_same : (f g : RegionContent) (p : ℕ) (r : UndoRecord) → ((x : ℕ) → x < p + 3 + length r.old → undo_word g x ≡ undo_word f x) → IsRecord f p r → IsRecord g p r
record_same f g p r h s = record {
  first = h (p + 1) (omega arith) ∙ s.first;
  count = h (p + 2) (omega arith) ∙ s.count;
  old = λ k small. h (p + 3 + k) (omega arith) ∙ s.old k small;
}

pub links_same : (f g : RegionContent) (head : ℕ) (rs : List UndoRecord) → ((p : ℕ) → p < taken rs → undo_word g p ≡ undo_word f p) → Links f head rs → Links g head rs
links_same f g head [] h l = l
links_same f g head (r ∷ older) h l =
    let here = h (taken older) (omega arith) in
    (l.0, record_same f g (taken older) r h l.1, subst (λ x. Links g x older) (sym here) (links_same f g (undo_word f (taken older)) older (λ p small. h p (omega arith)) l.2))

record_is : (f : RegionContent) (p : ℕ) (r : UndoRecord) → IsRecord f p r → record_at f p ≡ r
unfolding record_at
record_is f p r s =
    let size : length (map (undo_word f) (range_with_len (p + 3) (undo_word f (p + 2)))) ≡ length r.old = length-map-range_with_len (undo_word f) (p + 3) (undo_word f (p + 2)) ∙ s.count in
    let same : map (undo_word f) (range_with_len (p + 3) (undo_word f (p + 2))) ≡ r.old = ext_get_or 0 _ _ size (λ k small. get_or-map-range_with_len (undo_word f) (p + 3) (undo_word f (p + 2)) k (p + 3 + k) 0 (omega (arith, s.count, size)) refl ∙ s.old k (omega (arith, size))) in
    λ i. record { first = s.first i; old = same i }

no_head : (f : RegionContent) (n : ℕ) → records_from f n 0 ≡ []
unfolding records_from
no_head f zero = refl
no_head f (suc n) = refl

one_head : (f : RegionContent) (n t : ℕ) → records_from f (suc n) (suc t) ≡ record_at f t ∷ records_from f n (undo_word f t)
unfolding records_from
one_head f n t = refl

pub records_are : (f : RegionContent) (n head : ℕ) (rs : List UndoRecord) → Links f head rs → head ≤ n → records_from f n head ≡ rs
records_are f n head [] l fuel = ap (records_from f n) l ∙ no_head f n
records_are f zero head (r ∷ older) l fuel = absurd (omega (arith, l.0))
records_are f (suc n) head (r ∷ older) l fuel =
    let rest = records_are f n (undo_word f (taken older)) older l.2 (omega (arith, links_head f (undo_word f (taken older)) older l.2, l.0)) in
    ap (records_from f (suc n)) l.0 ∙ one_head f n (taken older) ∙ ap (λ (x : UndoRecord). x ∷ records_from f n (undo_word f (taken older))) (record_is f (taken older) r l.1) ∙ ap (λ (xs : List UndoRecord). r ∷ xs) rest

-- ---- regions

pub region_by : (n : ℕ) (f g : RegionContent) (rs : List UndoRecord) → IsRegion n f → SameSizes f g → Links g (g 3) rs → taken rs ≤ undo_words f → Within (places f) rs → IsRegion n g × (undo_records g ≡ rs)
region_by n f g rs h same links fits within =
    let is : undo_records g ≡ rs = records_are g (g 3) (g 3) rs links (omega arith) in (
      record {
        magic = same.magic ∙ h.magic;
        undo = subst (λ u. 1 ≤ u) (sym same.undo) h.undo;
        data_pages = subst (λ d. 1 ≤ d) (sym same.data_pages) h.data_pages;
        size = h.size ∙ ap (λ u. region_words u (f 2)) (sym same.undo) ∙ ap (λ d. region_words (g 1) d) (sym same.data_pages);
        links = subst (λ xs. Links g (g 3) xs) (sym is) links;
        room = subst (λ xs. taken xs ≤ undo_words g) (sym is) (subst (λ u. taken rs ≤ 512 * u) (sym same.undo) fits);
        within = subst (λ xs. Within (places g) xs) (sym is) (subst (λ d. Within (512 * (map_pages d + d)) rs) (sym same.data_pages) within);
      },
      is,
    )

-- no word of a record, nor of the header, has changed
pub region_same : (n : ℕ) (f g : RegionContent) → IsRegion n f → SameSizes f g → g 3 ≡ f 3 → ((p : ℕ) → p < taken (undo_records f) → undo_word g p ≡ undo_word f p) → IsRegion n g × (undo_records g ≡ undo_records f)
region_same n f g h same head words = region_by n f g (undo_records f) h same (subst (λ x. Links g x (undo_records f)) (sym head) (links_same f g (f 3) (undo_records f) words h.links)) h.room h.within

-- one more record lies behind the others, and the head names it
pub region_published : (n : ℕ) (f g : RegionContent) (r : UndoRecord) → IsRegion n f → SameSizes f g → g 3 ≡ suc (taken (undo_records f)) → ((p : ℕ) → p < taken (undo_records f) → undo_word g p ≡ undo_word f p) → undo_word g (taken (undo_records f)) ≡ f 3 → IsRecord g (taken (undo_records f)) r → r.first + length r.old ≤ places f → taken (undo_records f) + 3 + length r.old ≤ undo_words f → IsRegion n g × (undo_records g ≡ r ∷ undo_records f)
region_published n f g r h same head words older staged within fits = region_by n f g (r ∷ undo_records f) h same (head, staged, subst (λ x. Links g x (undo_records f)) (sym older) (links_same f g (f 3) (undo_records f) words h.links)) fits (within, h.within)

-- the head names the record before the newest
pub region_unlinked : (n : ℕ) (f g : RegionContent) (r : UndoRecord) (older : List UndoRecord) → IsRegion n f → undo_records f ≡ r ∷ older → SameSizes f g → g 3 ≡ undo_word f (taken older) → ((p : ℕ) → p < taken (undo_records f) → undo_word g p ≡ undo_word f p) → IsRegion n g × (undo_records g ≡ older)
region_unlinked n f g r older h is same head words =
    let links = subst (λ xs. Links f (f 3) xs) is h.links in
    let within = subst (λ xs. Within (places f) xs) is h.within in
    let size : taken (undo_records f) ≡ taken older + 3 + length r.old = ap taken is in
    region_by n f g older h same (subst (λ x. Links g x older) (sym head) (links_same f g (undo_word f (taken older)) older (λ p small. words p (omega arith)) links.2)) (omega (arith, h.room)) within.1

-- the head names none
pub region_emptied : (n : ℕ) (f g : RegionContent) → IsRegion n f → SameSizes f g → g 3 ≡ 0 → IsRegion n g × (undo_records g ≡ [])
region_emptied n f g h same head = region_by n f g [] h same head (omega arith) tt

-- ---- calls one after another

pub sizes_refl : (f : RegionContent) → SameSizes f f
sizes_refl f = record { magic = refl; undo = refl; data_pages = refl }

pub sizes_trans : (f g h : RegionContent) → SameSizes f g → SameSizes g h → SameSizes f h
sizes_trans f g h a b = record { magic = b.magic ∙ a.magic; undo = b.undo ∙ a.undo; data_pages = b.data_pages ∙ a.data_pages }

pub rests_refl : (n : ℕ) (f : RegionContent) → IsRegion n f → Rests n f f
rests_refl n f h = record { region = h; sizes = sizes_refl f; present = refl; records = refl }

pub rests_trans : (n : ℕ) (f g h : RegionContent) → Rests n f g → Rests n g h → Rests n f h
rests_trans n f g h a b = record { region = b.region; sizes = sizes_trans f g h a.sizes b.sizes; present = b.present ∙ a.present; records = b.records ∙ a.records }

pub undoes_refl : (n : ℕ) (f : RegionContent) → IsRegion n f → Undoes n f f
undoes_refl n f h = record { region = h; sizes = sizes_refl f; before = refl }

pub undoes_trans : (n : ℕ) (f g h : RegionContent) → Undoes n f g → Undoes n g h → Undoes n f h
undoes_trans n f g h a b = record { region = b.region; sizes = sizes_trans f g h a.sizes b.sizes; before = b.before ∙ a.before }

pub keeps_refl : (n : ℕ) (f : RegionContent) → IsRegion n f → Keeps n f f
keeps_refl n f h = record { undoes = undoes_refl n f h; records = refl }

pub keeps_trans : (n : ℕ) (f g h : RegionContent) → Keeps n f g → Keeps n g h → Keeps n f h
keeps_trans n f g h a b = record { undoes = undoes_trans n f g h a.undoes b.undoes; records = b.records ∙ a.records }

pub rests_undoes : (n : ℕ) (f g : RegionContent) → Rests n f g → Undoes n f g
rests_undoes n f g h = record { region = h.region; sizes = h.sizes; before = ap (λ (xs : List UndoRecord). before_by xs (live g)) h.records ∙ ap (λ (l : ℕ → ℕ). before_by (undo_records f) l) h.present }

-- ---- a record of the present words is added

saving_saves : (l : ℕ → ℕ) (place k : ℕ) → Saves l place (length (saving l place k).old) (saving l place k)
saving_saves l place k = record { first = refl; count = refl; old = λ j small. get_or-map-range_with_len l place k j (place + j) 0 (omega (arith, length-map-range_with_len l place k)) refl }

pub gains_undoes : (n : ℕ) (f g : RegionContent) (place k : ℕ) → Gains n f g place k → Undoes n f g
gains_undoes n f g place k h = record {
  region = h.region;
  sizes = h.sizes;
  before = ap (λ (xs : List UndoRecord). before_by xs (live g)) h.records ∙ ap (λ (l : ℕ → ℕ). before_by (saving (live f) place k ∷ undo_records f) l) h.present ∙ before_saved (saving (live f) place k) (undo_records f) (live f) (saving_saves (live f) place k);
}

-- the undo words that it takes
pub gains_taken : (n : ℕ) (f g : RegionContent) (place k : ℕ) → Gains n f g place k → taken (undo_records g) ≡ taken (undo_records f) + 3 + k
gains_taken n f g place k h = ap taken h.records ∙ ap (λ x. taken (undo_records f) + 3 + x) (length-map-range_with_len (live f) place k)

cover_here : (r : UndoRecord) (older : List UndoRecord) (q : ℕ) → covers r q ≡ true → is_covered (r ∷ older) q ≡ true
unfolding own_word
cover_here r older q e = by (saved_word older q) (covers r q) e
  where
    by : (o : Option ℕ) (b : Bool) → b ≡ true → is_some (first_some o (cond b (Some (slice_index r.old (q - r.first))) None)) ≡ true
    by (Some v) b e = refl
    by None true e = refl
    by None false e = absurd (true_false (sym e))

cover_older : (r : UndoRecord) (older : List UndoRecord) (q : ℕ) → covers r q ≡ false → is_covered (r ∷ older) q ≡ is_covered older q
unfolding own_word
cover_older r older q e = by (saved_word older q) (covers r q) e
  where
    by : (o : Option ℕ) (b : Bool) → b ≡ false → is_some (first_some o (cond b (Some (slice_index r.old (q - r.first))) None)) ≡ is_some o
    by (Some v) b e = refl
    by None true e = absurd (true_false e)
    by None false e = refl

-- a place is covered by a list of records where it is by the newest or by one of the others
pub covered_by : (r : UndoRecord) (older : List UndoRecord) (q : ℕ) → (r.first ≤ q) × (q < r.first + length r.old) → is_covered (r ∷ older) q ≡ true
covered_by r older q h = cover_here r older q (let low : r.first ≤ q = h.0 in let high : q < r.first + length r.old = h.1 in grind (arith, nat_tests))

pub covered_else : (r : UndoRecord) (older : List UndoRecord) (q : ℕ) → (q < r.first) ⊎ (r.first + length r.old ≤ q) → is_covered (r ∷ older) q ≡ is_covered older q
covered_else r older q (inl h) = cover_older r older q (grind (arith, nat_tests))
covered_else r older q (inr h) = cover_older r older q (grind (arith, nat_tests))

-- the places of a new record are covered
pub gains_covers : (n : ℕ) (f g : RegionContent) (place k : ℕ) → Gains n f g place k → CoversAll (undo_records g) place k
gains_covers n f g place k h q low high = ap (λ (xs : List UndoRecord). is_covered xs q) h.records ∙ covered_by (saving (live f) place k) (undo_records f) q (low, subst (λ x. q < place + x) (sym (length-map-range_with_len (live f) place k)) high)

-- the record lies behind the others, and the head names it
pub gains_by : (n : ℕ) (f g : RegionContent) (place k : ℕ) → IsRegion n f → SameSizes f g → live g ≡ live f → g 3 ≡ suc (taken (undo_records f)) → ((p : ℕ) → p < taken (undo_records f) → undo_word g p ≡ undo_word f p) → undo_word g (taken (undo_records f)) ≡ f 3 → IsRecord g (taken (undo_records f)) (saving (live f) place k) → place + k ≤ places f → taken (undo_records f) + 3 + k ≤ undo_words f → Gains n f g place k
gains_by n f g place k h sizes present head words older lies within fits =
    let long : length (saving (live f) place k).old ≡ k = length-map-range_with_len (live f) place k in
    let now = region_published n f g (saving (live f) place k) h sizes head words older lies (omega arith) (omega arith) in
    record { region = now.0; sizes = sizes; present = present; records = now.1 }

-- ---- words at covered places are stored

uncovered : (r : UndoRecord) (rs : List UndoRecord) (q : ℕ) → is_covered (r ∷ rs) q ≡ false → (covers r q ≡ false) × (is_covered rs q ≡ false)
unfolding own_word
uncovered r rs q e = by (saved_word rs q) (covers r q) e
  where
    by : (o : Option ℕ) (b : Bool) → is_some (first_some o (cond b (Some (slice_index r.old (q - r.first))) None)) ≡ false → (b ≡ false) × (is_some o ≡ false)
    by (Some v) b e = absurd (true_false e)
    by None true e = absurd (true_false e)
    by None false e = (refl, refl)

-- below the places nothing changes, and at the places only what records cover
pub covered_keeps : (n : ℕ) (f g : RegionContent) → IsRegion n f → ((x : ℕ) → x < map_from f → g x ≡ f x) → ((q : ℕ) → is_covered (undo_records f) q ≡ false → live g q ≡ live f q) → Keeps n f g
covered_keeps n f g h low same =
    let sizes : SameSizes f g = record { magic = low 0 (omega arith); undo = low 1 (omega arith); data_pages = low 2 (omega arith) } in
    let now = region_same n f g h sizes (low 3 (omega arith)) (λ p small. low (512 + p) (omega (arith, h.room))) in
    record { undoes = record { region = now.0; sizes = sizes; before = ap (λ (xs : List UndoRecord). before_by xs (live g)) now.1 ∙ before_same (undo_records f) (live g) (live f) same }; records = now.1 }

words_low : (f : RegionContent) (at k x : ℕ) (words : List ℕ) → x < at → put_words f at k words x ≡ f x
words_low f at k x words h = grind (arith, nat_tests)

words_out : (f : RegionContent) (at k x : ℕ) (words : List ℕ) → (x < at) ⊎ (at + k ≤ x) → put_words f at k words x ≡ f x
words_out f at k x words (inl h) = grind (arith, nat_tests)
words_out f at k x words (inr h) = grind (arith, nat_tests)

shifted : (f : RegionContent) (a place k q : ℕ) (words : List ℕ) → put_words f (a + place) k words (a + q) ≡ put_words (λ x. f (a + x)) place k words q
shifted f a place k q words = let at : (a + q) - (a + place) ≡ q - place = omega arith in grind (arith, nat_tests)

-- the words at the places, after a run of them is stored
pub live_puts : (f : RegionContent) (place k : ℕ) (words : List ℕ) → live (put_words f (map_from f + place) k words) ≡ put_words (live f) place k words
live_puts f place k words = λ i q. one q i
  where
    one : (q : ℕ) → live (put_words f (map_from f + place) k words) q ≡ put_words (live f) place k words q
    one q = ap (λ u. put_words f (map_from f + place) k words (512 * (1 + u) + q)) (words_low f (map_from f + place) k 1 words (omega arith)) ∙ shifted f (map_from f) place k q words

true_not : (b : Bool) → b ≡ true → b ≡ false → ⊥
true_not b t f = true_false (sym t ∙ f)

pub puts_covered : (n : ℕ) (f g : RegionContent) (place k : ℕ) (words : List ℕ) → IsRegion n f → CoversAll (undo_records f) place k → g ≡ put_words f (map_from f + place) k words → Puts n f g place k words
puts_covered n f g place k words h covered put = subst (λ w. Puts n f w place k words) (sym put) (record { keeps = covered_keeps n f _ h low same; present = live_puts f place k words })
  where
    low : (x : ℕ) → x < map_from f → put_words f (map_from f + place) k words x ≡ f x
    low x s = words_low f (map_from f + place) k x words (omega arith)

    out : (q : ℕ) → is_covered (undo_records f) q ≡ false → (q < place) ⊎ (place + k ≤ q)
    out q e = by (grind arith)
      where
        by : ((place ≤ q) × (q < place + k)) ⊎ ((q < place) ⊎ (place + k ≤ q)) → (q < place) ⊎ (place + k ≤ q)
        by (inl i) = absurd (true_not (is_covered (undo_records f) q) (covered q i.0 i.1) e)
        by (inr o) = o

    same : (q : ℕ) → is_covered (undo_records f) q ≡ false → live (put_words f (map_from f + place) k words) q ≡ live f q
    same q e = ap (λ (l : ℕ → ℕ). l q) (live_puts f place k words) ∙ words_out (live f) place k q words (out q e)

one_word : (f : RegionContent) (at v : ℕ) → put_word f at v ≡ put_words f at 1 (v ∷ [])
one_word f at v = λ i x. one x (grind arith) i
  where
    one : (x : ℕ) → (x ≡ at) ⊎ ((x < at) ⊎ (at < x)) → put_word f at v x ≡ put_words f at 1 (v ∷ []) x
    one x (inl e) = let none : x - at ≡ 0 = omega arith in grind (arith, nat_tests)
    one x (inr (inl e)) = grind (arith, nat_tests)
    one x (inr (inr e)) = grind (arith, nat_tests)

pub sets_covered : (n : ℕ) (f g : RegionContent) (place v : ℕ) → IsRegion n f → is_covered (undo_records f) place ≡ true → g ≡ put_word f (map_from f + place) v → Sets n f g place v
sets_covered n f g place v h covered put =
    let puts = puts_covered n f g place 1 (v ∷ []) h (λ q low high. ap (is_covered (undo_records f)) (omega arith) ∙ covered) (put ∙ one_word f (map_from f + place) v) in
    record { keeps = puts.keeps; present = puts.present ∙ sym (one_word (live f) place v) }

-- ---- records are dropped

put_low : (f : RegionContent) (at v x : ℕ) → x < at → put_word f at v x ≡ f x
put_low f at v x h = grind (arith, nat_tests)

put_off : (f : RegionContent) (at v x : ℕ) → at < x → put_word f at v x ≡ f x
put_off f at v x h = grind (arith, nat_tests)

-- the head changes no place and no number of pages
pub head_sizes : (f : RegionContent) (v : ℕ) → SameSizes f (put_word f 3 v)
head_sizes f v = record { magic = refl; undo = refl; data_pages = refl }

pub head_live : (f : RegionContent) (v : ℕ) → live (put_word f 3 v) ≡ live f
head_live f v = λ i q. put_off f 3 v (512 * (1 + f 1) + q) (omega arith) i

-- a record whose old words all stand may be dropped
pub newest_dropped : (n : ℕ) (f : RegionContent) (r : UndoRecord) (older : List UndoRecord) → IsRegion n f → undo_records f ≡ r ∷ older → Saves (live f) r.first (length r.old) r → Undoes n f (put_word f 3 (undo_word f (taken older)))
newest_dropped n f r older h is back =
    let g = put_word f 3 (undo_word f (taken older)) in
    let drop = region_unlinked n f g r older h is (head_sizes f (undo_word f (taken older))) refl (λ p small. put_off f 3 (undo_word f (taken older)) (512 + p) (omega arith)) in
    record {
      region = drop.0;
      sizes = head_sizes f (undo_word f (taken older));
      before = ap (λ (xs : List UndoRecord). before_by xs (live g)) drop.1 ∙ ap (λ (l : ℕ → ℕ). before_by older l) (head_live f (undo_word f (taken older))) ∙ sym (before_saved r older (live f) back) ∙ ap (λ (xs : List UndoRecord). before_by xs (live f)) (sym is);
    }

-- no head, no records
pub no_records : (n : ℕ) (f : RegionContent) → IsRegion n f → f 3 ≡ 0 → undo_records f ≡ []
no_records n f h none = by (undo_records f) h.links
  where
    by : (rs : List UndoRecord) → Links f (f 3) rs → rs ≡ []
    by [] l = refl
    by (r ∷ older) l = absurd (omega (arith, l.0))

-- where no record is left, the words are those of before
pub undone_by : (n : ℕ) (f g : RegionContent) → Undoes n f g → g 3 ≡ 0 → Undone n f g
undone_by n f g u none =
    let recs : undo_records g ≡ [] = no_records n g u.region none in
    record { region = u.region; sizes = u.sizes; present = ap (λ (xs : List UndoRecord). before_by xs (live g)) (sym recs) ∙ u.before; records = recs }

-- however often putting back was tried and stopped in between
pub undone_after : (n : ℕ) (f g h : RegionContent) → Undoes n f g → Undone n g h → Undone n f h
undone_after n f g h u d = record { region = d.region; sizes = sizes_trans f g h u.sizes d.sizes; present = d.present ∙ u.before; records = d.records }

pub undone_undoes : (n : ℕ) (f g : RegionContent) → Undone n f g → Undoes n f g
undone_undoes n f g u = record { region = u.region; sizes = u.sizes; before = ap (λ (xs : List UndoRecord). before_by xs (live g)) u.records ∙ u.present }

-- the head alone is stored: the words of before become the present ones
pub dropped_by : (n : ℕ) (f g : RegionContent) → IsRegion n f → g ≡ put_word f 3 0 → Dropped n f g
dropped_by n f g h put =
    let now = region_emptied n f (put_word f 3 0) h (head_sizes f 0) refl in
    subst (λ w. Dropped n f w) (sym put) (record { region = now.0; sizes = head_sizes f 0; present = head_live f 0; records = now.1 })

pub dropped_before : (n : ℕ) (f g : RegionContent) → Dropped n f g → before g ≡ live f
dropped_before n f g d = ap (λ (xs : List UndoRecord). before_by xs (live g)) d.records ∙ d.present
