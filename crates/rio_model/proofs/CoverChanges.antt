-- What one change of words, or one write of a block, does to what reads and stands.
use Rattle.rio_model.proofs.Common.{length, slice_index, slice_set, Some, None, ◌∙◌, ap, sym, subst, inl, inr, arith, cases_eq, cases_Bool, eq-eqb, nat_tests, BlockWords, true_false, put}
use Rattle.std.specs.Prelude.{◌≡◌, ◌≢◌, ℕ, ◌+◌, ◌*◌, ◌<◌, ◌≤◌, ◌==◌, ◌&&◌, true, false, ◌⊎◌, List, Option, refl}
use Rattle.std.proofs.Common.{get_or-set_same, get_or-set_other}
use Rattle.std.proofs.lemmas.Bool.{ne_eqb}
use Rattle.std.proofs.lemmas.List.{length-set}
use Rattle.rio_base.specs.Image.{entry_at, registry_pages}
use Rattle.rio_base.specs.Rules.{none_some}
use Rattle.rio_model.specs.Registry.{BlockRule, IsValid, OneEntry, frames_of, gate_of, is_valid, page_of_entry, shadow_at, tag_at, tag_block}
use Rattle.rio_model.specs.Cover.{cover_by, entry_of_block, frame_page, holds, home_word}
use Rattle.rio_model.proofs.CoverLookups.{behind_one, entry_one, found_at, found_free, found_same, frames_one, header_one, tag_one}
use Rattle.rio_model.specs.CoverLookups.{cover_at, cover_home, cover_past, cover_same, found_is}
use Rattle.rio_model.specs.CoverChanges.{covers_by, place_bare, OnePage, SameEntries}

pub place_shadow : (words : List ℕ) (k : ℕ) → gate_of words ≡ 1 → shadow_at words k ≢ 0 → page_of_entry words k ≡ registry_pages (frames_of words) + shadow_at words k
unfolding page_of_entry
place_shadow words k g s = rw (eq-eqb (gate_of words) 1 g, ne_eqb (shadow_at words k) 0 s) refl

-- which it is
pub place_cases : (words : List ℕ) (k : ℕ) → (((gate_of words ≢ 1) ⊎ (shadow_at words k ≡ 0)) × (page_of_entry words k ≡ frame_page words k)) ⊎ ((gate_of words ≡ 1) × (shadow_at words k ≢ 0) × (page_of_entry words k ≡ registry_pages (frames_of words) + shadow_at words k))
place_cases words k = from (cases_eq (gate_of words) 1) (cases_eq (shadow_at words k) 0)
  where
    from : (gate_of words ≡ 1) ⊎ (gate_of words ≢ 1) → (shadow_at words k ≡ 0) ⊎ (shadow_at words k ≢ 0) → (((gate_of words ≢ 1) ⊎ (shadow_at words k ≡ 0)) × (page_of_entry words k ≡ frame_page words k)) ⊎ ((gate_of words ≡ 1) × (shadow_at words k ≢ 0) × (page_of_entry words k ≡ registry_pages (frames_of words) + shadow_at words k))
    from (inr n) s = inl (inl n, place_bare words k (inl n))
    from (inl g) (inl z) = inl (inr z, place_bare words k (inr z))
    from (inl g) (inr n) = inr (g, n, place_shadow words k g n)

pub frame_behind : (words : List ℕ) (k : ℕ) → registry_pages (frames_of words) + 17 + k ≡ frame_page words k
unfolding frame_page
frame_behind words k = omega arith

pub page_behind : (words : List ℕ) (k : ℕ) → registry_pages (frames_of words) + 1 ≤ page_of_entry words k
page_behind words k = from (place_cases words k)
  where
    from : (((gate_of words ≢ 1) ⊎ (shadow_at words k ≡ 0)) × (page_of_entry words k ≡ frame_page words k)) ⊎ ((gate_of words ≡ 1) × (shadow_at words k ≢ 0) × (page_of_entry words k ≡ registry_pages (frames_of words) + shadow_at words k)) → registry_pages (frames_of words) + 1 ≤ page_of_entry words k
    from (inl h) = omega (arith, h.1, frame_behind words k)
    from (inr h) = omega (arith, h.1, h.2)

-- the page that counts is the same where header and shadow are
pub place_same : (old new : List ℕ) (k : ℕ) → frames_of new ≡ frames_of old → gate_of new ≡ gate_of old → shadow_at new k ≡ shadow_at old k → page_of_entry new k ≡ page_of_entry old k
unfolding page_of_entry
place_same old new k f g s = rw (f, g, s) refl

pub frame_same : (old new : List ℕ) (k : ℕ) → frames_of new ≡ frames_of old → frame_page new k ≡ frame_page old k
unfolding frame_page
frame_same old new k f = ap (λ n. registry_pages n + (17 + k)) f

-- ---- entry k alone changes

word_one : (k : ℕ) (old new : List ℕ) (p q w : ℕ) → OneEntry k old new → k < frames_of old → q ≡ p → registry_pages (frames_of old) + 1 ≤ p → slice_index new (512 * q + w) ≡ slice_index old (512 * p + w)
word_one k old new p q w one within same past = ap (λ n. slice_index new (512 * n + w)) same ∙ behind_one k old new (512 * p + w) one within (omega (arith, past))

pub frame_word_one : (k j w : ℕ) (old new : List ℕ) → OneEntry k old new → k < frames_of old → slice_index new (512 * frame_page new j + w) ≡ slice_index old (512 * frame_page old j + w)
frame_word_one k j w old new one within = word_one k old new (frame_page old j) (frame_page new j) w one within (frame_same old new j (frames_one k old new one)) (omega (arith, frame_behind old j))

pub shadow_one : (k j : ℕ) (old new : List ℕ) → OneEntry k old new → (j ≡ k → shadow_at new k ≡ shadow_at old k) → shadow_at new j ≡ shadow_at old j
shadow_one k j old new one same = from (cases_eq j k)
  where
    from : (j ≡ k) ⊎ (j ≢ k) → shadow_at new j ≡ shadow_at old j
    from (inl e) = subst (λ n. shadow_at new n ≡ shadow_at old n) (sym e) (same e)
    from (inr n) = entry_one k j 4 old new one n (omega arith)

pub place_one : (k j : ℕ) (old new : List ℕ) → OneEntry k old new → (j ≡ k → shadow_at new k ≡ shadow_at old k) → page_of_entry new j ≡ page_of_entry old j
place_one k j old new one same = place_same old new j (frames_one k old new one) (header_one k old new 4 one (omega arith)) (shadow_one k j old new one same)

pub page_word_one : (k j w : ℕ) (old new : List ℕ) → OneEntry k old new → k < frames_of old → (j ≡ k → shadow_at new k ≡ shadow_at old k) → slice_index new (512 * page_of_entry new j + w) ≡ slice_index old (512 * page_of_entry old j + w)
page_word_one k j w old new one within same = word_one k old new (page_of_entry old j) (page_of_entry new j) w one within (place_one k j old new one same) (page_behind old j)

-- validity and block of entry k stay: the same entries are found
pub found_one : (k b : ℕ) (old new : List ℕ) → OneEntry k old new → holds new b k ≡ holds old b k → entry_of_block new b ≡ entry_of_block old b
found_one k b old new one same = found_same old new b (frames_one k old new one) (λ j less. at j (cases_eq j k))
  where
    at : (j : ℕ) → (j ≡ k) ⊎ (j ≢ k) → holds new b j ≡ holds old b j
    at j (inl e) = subst (λ n. holds new b n ≡ holds old b n) (sym e) same
    at j (inr n) = ap (λ t. is_valid t && (tag_block t == b)) (tag_one k j old new one n)

holds_by : (t u b : ℕ) → is_valid u ≡ is_valid t → tag_block u ≡ tag_block t → (is_valid u && (tag_block u == b)) ≡ (is_valid t && (tag_block t == b))
holds_by t u b v same = ap (λ x. x && (tag_block u == b)) v ∙ ap (λ n. is_valid t && (n == b)) same

pub found_kept : (k b : ℕ) (old new : List ℕ) → OneEntry k old new → is_valid (tag_at new k) ≡ is_valid (tag_at old k) → tag_block (tag_at new k) ≡ tag_block (tag_at old k) → entry_of_block new b ≡ entry_of_block old b
found_kept k b old new one valid block = found_one k b old new one (holds_by (tag_at old k) (tag_at new k) b valid block)

-- flags or size of entry k change
pub reads_kept : (k : ℕ) (old new : List ℕ) (disk : List (List ℕ)) → OneEntry k old new → k < frames_of old → is_valid (tag_at new k) ≡ is_valid (tag_at old k) → tag_block (tag_at new k) ≡ tag_block (tag_at old k) → cover_by (frame_page new) new disk ≡ cover_by (frame_page old) old disk
reads_kept k old new disk one within valid block = covers_by (frame_page old) old disk (frame_page new) new disk (λ b w less. cover_same (frame_page old) old disk (frame_page new) new disk b w (record {
  entry = found_kept k b old new one valid block;
  pages = λ j x e small. frame_word_one k j x old new one within;
  homes = λ x e small. refl;
}))

pub stands_kept : (k : ℕ) (old new : List ℕ) (disk : List (List ℕ)) → OneEntry k old new → k < frames_of old → is_valid (tag_at new k) ≡ is_valid (tag_at old k) → tag_block (tag_at new k) ≡ tag_block (tag_at old k) → shadow_at new k ≡ shadow_at old k → cover_by (page_of_entry new) new disk ≡ cover_by (page_of_entry old) old disk
stands_kept k old new disk one within valid block shadow = covers_by (page_of_entry old) old disk (page_of_entry new) new disk (λ b w less. cover_same (page_of_entry old) old disk (page_of_entry new) new disk b w (record {
  entry = found_kept k b old new one valid block;
  pages = λ j x e small. page_word_one k j x old new one within (λ same. shadow);
  homes = λ x e small. refl;
}))

-- entry k had no valid tag and has none, or had another block: nothing is found otherwise for block b
other_block : (t b : ℕ) → (is_valid t ≡ true → tag_block t ≢ b) → (is_valid t && (tag_block t == b)) ≡ false
other_block t b h = from (cases_Bool (is_valid t)) (cases_eq (tag_block t) b)
  where
    from : (is_valid t ≡ true) ⊎ (is_valid t ≡ false) → (tag_block t ≡ b) ⊎ (tag_block t ≢ b) → (is_valid t && (tag_block t == b)) ≡ false
    from (inl v) (inl e) = absurd (h v e)
    from (inl v) (inr n) = rw (v, ne_eqb (tag_block t) b n) refl
    from (inr v) c = rw v refl

pub found_other : (k b : ℕ) (old new : List ℕ) → OneEntry k old new → (is_valid (tag_at old k) ≡ true → tag_block (tag_at old k) ≢ b) → (is_valid (tag_at new k) ≡ true → tag_block (tag_at new k) ≢ b) → entry_of_block new b ≡ entry_of_block old b
found_other k b old new one was is = found_one k b old new one (other_block (tag_at new k) b is ∙ sym (other_block (tag_at old k) b was))

-- entry k of block b becomes invalid: block b has none
pub found_cleared : (k : ℕ) (old new : List ℕ) → OneEntry k old new → BlockRule old → IsValid old k → is_valid (tag_at new k) ≡ false → entry_of_block new (tag_block (tag_at old k)) ≡ None
found_cleared k old new one rule v gone = found_free new (tag_block (tag_at old k)) (λ j w same. no j w same (cases_eq j k))
  where
    no : (j : ℕ) → IsValid new j → tag_block (tag_at new j) ≡ tag_block (tag_at old k) → (j ≡ k) ⊎ (j ≢ k) → ⊥
    no j w same (inl e) = true_false (sym (subst (λ n. is_valid (tag_at new n) ≡ true) e w.valid) ∙ gone)
    no j w same (inr n) =
        let t = tag_one k j old new one n in
        n (rule j k (record { within = subst (λ f. j < f) (frames_one k old new one) w.within; valid = ap is_valid (sym t) ∙ w.valid }) v (ap tag_block (sym t) ∙ same))

-- entry k becomes the one of block b, which had none
pub found_made : (k b : ℕ) (old new : List ℕ) → OneEntry k old new → ((j : ℕ) → IsValid old j → tag_block (tag_at old j) ≢ b) → IsValid new k → tag_block (tag_at new k) ≡ b → BlockRule new → entry_of_block new b ≡ Some k
found_made k b old new one free v same rule = found_at new b k rule v same

pub one_page_set : (words : List ℕ) (p w v : ℕ) → w < 512 → OnePage p words (slice_set words (512 * p + w) v)
one_page_set words p w v small = record {
  count = length-set words (512 * p + w) v;
  below = λ i less. get_or-set_other words (512 * p + w) i v 0 (omega (arith, less));
  above = λ i more. get_or-set_other words (512 * p + w) i v 0 (omega (arith, more, small));
}

-- a word of another page
pub off_page : (p q w : ℕ) (old new : List ℕ) → OnePage p old new → q ≢ p → w < 512 → slice_index new (512 * q + w) ≡ slice_index old (512 * q + w)
off_page p q w old new one n small = from (order n)
  where
    order : q ≢ p → (q < p) ⊎ (p < q)
    order n = grind (arith, n)

    from : (q < p) ⊎ (p < q) → slice_index new (512 * q + w) ≡ slice_index old (512 * q + w)
    from (inl less) = one.below (512 * q + w) (omega (arith, less, small))
    from (inr more) = one.above (512 * q + w) (omega (arith, more))

pub same_entries : (p : ℕ) (old new : List ℕ) → OnePage p old new → registry_pages (frames_of old) + 1 ≤ p → SameEntries old new
same_entries p old new one past = record { count = one.count; each = λ i less. one.below i (omega (arith, less, past)) }

pub header_same : (old new : List ℕ) (i : ℕ) → SameEntries old new → i < 512 → slice_index new i ≡ slice_index old i
header_same old new i h less = h.each i (omega (arith, less))

pub entry_same : (old new : List ℕ) (k x : ℕ) → SameEntries old new → k < frames_of old → x < 5 → slice_index new (entry_at k + x) ≡ slice_index old (entry_at k + x)
unfolding entry_at registry_pages
entry_same old new k x h within small = h.each (entry_at k + x) (omega (arith, within, small))

pub tag_same : (old new : List ℕ) (k : ℕ) → SameEntries old new → k < frames_of old → tag_at new k ≡ tag_at old k
unfolding entry_at registry_pages
tag_same old new k h within = h.each (entry_at k) (omega (arith, within))

pub found_entries : (old new : List ℕ) (b : ℕ) → SameEntries old new → entry_of_block new b ≡ entry_of_block old b
found_entries old new b h = found_same old new b (header_same old new 2 h (omega arith)) (λ j less. ap (λ t. is_valid t && (tag_block t == b)) (tag_same old new j h less))

pub frame_entries : (old new : List ℕ) (k : ℕ) → SameEntries old new → frame_page new k ≡ frame_page old k
frame_entries old new k h = frame_same old new k (header_same old new 2 h (omega arith))

pub place_entries : (old new : List ℕ) (k : ℕ) → SameEntries old new → k < frames_of old → page_of_entry new k ≡ page_of_entry old k
place_entries old new k h within = place_same old new k (header_same old new 2 h (omega arith)) (header_same old new 4 h (omega arith)) (entry_same old new k 4 h within (omega arith))

-- a page that counts for no entry changes
pub cover_off : (p : ℕ) (page page2 : ℕ → ℕ) (old new : List ℕ) (disk : List (List ℕ)) → OnePage p old new → SameEntries old new → ((k : ℕ) → IsValid old k → page2 k ≡ page k) → ((k : ℕ) → IsValid old k → page k ≢ p) → cover_by page2 new disk ≡ cover_by page old disk
cover_off p page page2 old new disk one same places off = covers_by page old disk page2 new disk (λ b w less. cover_same page old disk page2 new disk b w (record {
  entry = found_entries old new b same;
  pages = λ k x e small. let f = found_is old b k e in ap (λ n. slice_index new (512 * n + x)) (places k f.0) ∙ off_page p (page k) x old new one (off k f.0) small;
  homes = λ x e small. refl;
}))

-- one word of the page of entry k changes, where no other entry has that page
pub cover_put : (k b w v : ℕ) (page page2 : ℕ → ℕ) (words : List ℕ) (disk : List (List ℕ)) → entry_of_block words b ≡ Some k → w < 512 → 512 * page k + w < length words → ((j : ℕ) → IsValid words j → j ≢ k → page j ≢ page k) → ((j : ℕ) → IsValid words j → page2 j ≡ page j) → SameEntries words (slice_set words (512 * page k + w) v) → cover_by page2 (slice_set words (512 * page k + w) v) disk ≡ put (cover_by page words disk) b w v
cover_put k b w v page page2 words disk found small room off places same = λ i c x. at c x (cases_eq c b) (cases_eq x w) (small_or x) i
  where
    small_or : (x : ℕ) → (x < 512) ⊎ (512 ≤ x)
    small_or x = grind arith

    now : List ℕ
    now = slice_set words (512 * page k + w) v

    one : OnePage (page k) words (slice_set words (512 * page k + w) v)
    one = one_page_set words (page k) w v small

    put_away : (f : BlockWords) (c x : ℕ) → (c ≢ b) ⊎ (x ≢ w) → f c x ≡ put f b w v c x
    put_away f c x (inl n) = grind (arith, nat_tests, n)
    put_away f c x (inr n) = grind (arith, nat_tests, n)

    put_here : (f : BlockWords) (c x : ℕ) → c ≡ b → x ≡ w → v ≡ put f b w v c x
    put_here f c x e d = grind (arith, nat_tests, e, d)

    old_at : ℕ → ℕ → ℕ
    old_at = cover_by page words disk

    other : (c x : ℕ) (o : Option ℕ) → c ≢ b → x < 512 → entry_of_block words c ≡ o → cover_by page2 (slice_set words (512 * page k + w) v) disk c x ≡ cover_by page words disk c x
    other c x None n less e = cover_home page2 _ disk c x (found_entries words _ c same ∙ e) less ∙ sym (cover_home page words disk c x e less)
    other c x (Some j) n less e =
        let f = found_is words c j e in
        let g = found_is words b k found in
        let differ : j ≢ k = λ q. n (sym f.1 ∙ ap (λ m. tag_block (tag_at words m)) q ∙ g.1) in
        cover_at page2 _ disk c x j (found_entries words _ c same ∙ e) less ∙ ap (λ m. slice_index (slice_set words (512 * page k + w) v) (512 * m + x)) (places j f.0) ∙ off_page (page k) (page j) x words _ one (off j f.0 differ) less ∙ sym (cover_at page words disk c x j e less)

    here : (x : ℕ) → x < 512 → cover_by page2 (slice_set words (512 * page k + w) v) disk b x ≡ slice_index (slice_set words (512 * page k + w) v) (512 * page k + x)
    here x less = cover_at page2 _ disk b x k (found_entries words _ b same ∙ found) less ∙ ap (λ m. slice_index (slice_set words (512 * page k + w) v) (512 * m + x)) (places k (found_is words b k found).0)

    at : (c x : ℕ) → (c ≡ b) ⊎ (c ≢ b) → (x ≡ w) ⊎ (x ≢ w) → (x < 512) ⊎ (512 ≤ x) → cover_by page2 (slice_set words (512 * page k + w) v) disk c x ≡ put (cover_by page words disk) b w v c x
    at c x ce (inl d) (inr large) = absurd (omega (arith, d, small, large))
    at c x ce (inr m) (inr large) = cover_past page2 _ disk c x large ∙ sym (cover_past page words disk c x large) ∙ put_away (cover_by page words disk) c x (inr m)
    at c x (inr n) xe (inl less) = other c x (entry_of_block words c) n less refl ∙ put_away (cover_by page words disk) c x (inl n)
    at c x (inl e) (inl d) (inl less) = subst (λ (m : ℕ). cover_by page2 (slice_set words (512 * page k + w) v) disk m x ≡ v) (sym e) (here x less ∙ ap (λ m. slice_index (slice_set words (512 * page k + w) v) (512 * page k + m)) d ∙ get_or-set_same words (512 * page k + w) v 0 room) ∙ put_here (cover_by page words disk) c x e d
    at c x (inl e) (inr m) (inl less) = subst (λ (n : ℕ). cover_by page2 (slice_set words (512 * page k + w) v) disk n x ≡ cover_by page words disk n x) (sym e) (here x less ∙ get_or-set_other words (512 * page k + w) (512 * page k + x) v 0 (λ q. m (omega (arith, q))) ∙ sym (cover_at page words disk b x k found less)) ∙ put_away (cover_by page words disk) c x (inr m)

-- ---- block b, which has an entry, is written

pub cover_written : (b k : ℕ) (page : ℕ → ℕ) (words : List ℕ) (old new : List (List ℕ)) → entry_of_block words b ≡ Some k → ((c : ℕ) → c ≢ b → (w : ℕ) → home_word new c w ≡ home_word old c w) → cover_by page words new ≡ cover_by page words old
cover_written b k page words old new found others = covers_by page words old page words new (λ c w less. cover_same page words old page words new c w (record {
  entry = refl;
  pages = λ j x e small. refl;
  homes = λ x e small. others c (λ same. none_some k (entry_of_block words c) e (ap (entry_of_block words) same ∙ found)) x;
}))
