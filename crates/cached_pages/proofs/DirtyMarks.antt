-- Which entries are dirty after a call that weren't before it.
use Rattle.cached_pages.proofs.Common.{◌≡◌, ◌≢◌, ℕ, ◌<◌, ◌⊎◌, true, false, List, Option, Some, None, refl, ◌∙◌, ap, sym, subst, inl, inr, cases_eq, Contents, PageName, none_some, true_false, OneEntry, frames_of, is_dirty, is_valid, tag_at, tag_block, HeldEntry, Narrows, SameNames, entry_of_block, OnePage, SameEntries, found_entries, found_kept, tag_same, tag_one, found_is}
use Rattle.rio_model.proofs.CoverStands.{found_named}
use Rattle.rio_model.specs.Cover.{frame_page}
use Rattle.cached_pages.specs.Caches.{Adds}
use Rattle.cached_pages.specs.Stores.{SameCached}
use Rattle.cached_pages.specs.Uses.{DirtiesOnly}
use Rattle.cached_pages.proofs.Rooms.{at_first, begun_tag, page_same}

-- ---- one call after another

pub marks_refl : (block : Option ℕ) (words : List ℕ) → DirtiesOnly block words words
marks_refl block words = record { was = λ c k ne e dirty. (e, dirty) }

pub marks_same : (block : Option ℕ) (old new : List ℕ) → new ≡ old → DirtiesOnly block old new
marks_same block old new same = subst (DirtiesOnly block old) (sym same) (marks_refl block old)

pub marks_trans : (block : Option ℕ) (a c d : List ℕ) → DirtiesOnly block a c → DirtiesOnly block c d → DirtiesOnly block a d
marks_trans block a c d h i = record { was = λ x k ne e dirty. let mid = i.was x k ne e dirty in h.was x k ne mid.0 mid.1 }

-- a call that dirties none
pub marks_any : (block : Option ℕ) (old new : List ℕ) → DirtiesOnly None old new → DirtiesOnly block old new
marks_any block old new h = record { was = λ c k ne e dirty. h.was c k (none_some c None refl) e dirty }

-- ---- no block comes

pub marks_narrows : (block : Option ℕ) (old new : List ℕ) → Narrows old new → ((k : ℕ) → is_dirty (tag_at new k) ≡ true → is_dirty (tag_at old k) ≡ true) → DirtiesOnly block old new
marks_narrows block old new h d = record { was = λ c k ne e dirty. ((h.found c k e).0, d k dirty) }

-- entry k alone changed, and isn't dirty unless it was
pub marks_one : (block : Option ℕ) (k : ℕ) (old new : List ℕ) → Narrows old new → OneEntry k old new → (is_dirty (tag_at new k) ≡ true → is_dirty (tag_at old k) ≡ true) → DirtiesOnly block old new
marks_one block k old new h one d = marks_narrows block old new h (λ j dirty. from j dirty (cases_eq j k))
  where
    from : (j : ℕ) → is_dirty (tag_at new j) ≡ true → (j ≡ k) ⊎ (j ≢ k) → is_dirty (tag_at old j) ≡ true
    from j dirty (inl e) = ap (λ x. is_dirty (tag_at old x)) e ∙ d (ap (λ x. is_dirty (tag_at new x)) (sym e) ∙ dirty)
    from j dirty (inr ne) = ap is_dirty (sym (tag_one k j old new one ne)) ∙ dirty

-- entry k became invalid
pub marks_gone : (block : Option ℕ) (k : ℕ) (old new : List ℕ) → Narrows old new → OneEntry k old new → tag_at new k ≡ 0 → DirtiesOnly block old new
marks_gone block k old new h one gone = marks_one block k old new h one (λ dirty. absurd (true_false (sym dirty ∙ ap is_dirty gone)))

-- ---- no tag changes

pub marks_tags : (block : Option ℕ) (old new : List ℕ) → ((c : ℕ) → entry_of_block new c ≡ entry_of_block old c) → ((k : ℕ) → k < frames_of old → tag_at new k ≡ tag_at old k) → DirtiesOnly block old new
marks_tags block old new found tags = record {
  was = λ c k ne e dirty.
      let before = sym (found c) ∙ e in
      (before, ap is_dirty (sym (tags k (found_is old c k before).0.within)) ∙ dirty);
}

pub marks_entries : (block : Option ℕ) (old new : List ℕ) → SameEntries old new → DirtiesOnly block old new
marks_entries block old new same = marks_tags block old new (λ c. found_entries old new c same) (λ k less. tag_same old new k same less)

pub marks_named : (block : Option ℕ) (old new : List ℕ) → SameNames old new → DirtiesOnly block old new
marks_named block old new names = marks_tags block old new (λ c. found_named old new c names) names.tag

-- entry k alone changed, and not its tag
pub marks_begun : (block : Option ℕ) (k : ℕ) (old new : List ℕ) → OneEntry k old new → tag_at new k ≡ tag_at old k → DirtiesOnly block old new
marks_begun block k old new one same = marks_tags block old new (λ c. found_kept k c old new one (ap is_valid same) (ap tag_block same)) (λ j less. begun_tag k j old new one same)

-- a frame was filled
pub marks_filled : (block : Option ℕ) (old mid : Contents) (k : ℕ) (new : List ℕ) → mid.words ≡ old.words → OnePage (frame_page mid.words k) mid.words new → DirtiesOnly block old.words new
marks_filled block old mid k new same one = marks_entries block old.words new (page_same old.words new k (at_first old mid k new same one))

pub marks_page : (block : Option ℕ) (k : ℕ) (old new : List ℕ) → OnePage (frame_page old k) old new → DirtiesOnly block old new
marks_page block k old new one = marks_entries block old new (page_same old new k one)

-- ---- the entry of one block changes

-- entry k, which is of block b, alone changed
pub marks_block : (b k : ℕ) (old new : List ℕ) → ((c : ℕ) → entry_of_block new c ≡ entry_of_block old c) → OneEntry k old new → tag_block (tag_at new k) ≡ b → DirtiesOnly (Some b) old new
marks_block b k old new found one block = record {
  was = λ c j ne e dirty.
      let other : j ≢ k = λ q. ne (ap Some (sym block ∙ ap (λ x. tag_block (tag_at new x)) (sym q) ∙ (found_is new c j e).1)) in
      (sym (found c) ∙ e, ap is_dirty (sym (tag_one k j old new one other)) ∙ dirty);
}

-- it says of its page what it said
pub marks_held : (k : ℕ) (old new : List ℕ) → SameCached old new → OneEntry k old new → HeldEntry k old new → DirtiesOnly (Some (tag_block (tag_at old k))) old new
marks_held k old new cached one held = marks_block (tag_block (tag_at old k)) k old new cached.found one held.block

-- entry k was made for block b
pub marks_made : (b k : ℕ) (name : Option PageName) (old new : List ℕ) → Adds b name old new → OneEntry k old new → entry_of_block new b ≡ Some k → DirtiesOnly (Some b) old new
marks_made b k name old new adds one found = record {
  was = λ c j ne e dirty.
      let away : c ≢ b = λ q. ne (ap Some (sym q)) in
      let other : j ≢ k = λ q. away (sym (found_is new c j e).1 ∙ ap (λ x. tag_block (tag_at new x)) q ∙ (found_is new b k found).1) in
      ((adds.others c j away e).0, ap is_dirty (sym (tag_one k j old new one other)) ∙ dirty);
}

-- it is clean
pub marks_clean : (b k : ℕ) (name : Option PageName) (old new : List ℕ) → Adds b name old new → OneEntry k old new → entry_of_block new b ≡ Some k → is_dirty (tag_at new k) ≡ false → DirtiesOnly None old new
marks_clean b k name old new adds one found clean = record { was = λ c j ne e dirty. from c j e dirty (cases_eq c b) }
  where
    some_same : (x y : ℕ) → Some x ≡ Some y → x ≡ y
    some_same x y e = cc

    from : (c j : ℕ) → entry_of_block new c ≡ Some j → is_dirty (tag_at new j) ≡ true → (c ≡ b) ⊎ (c ≢ b) → (entry_of_block old c ≡ Some j) × (is_dirty (tag_at old j) ≡ true)
    from c j e dirty (inl q) =
        let same : j ≡ k = some_same j k (sym e ∙ ap (entry_of_block new) q ∙ found) in
        absurd (true_false (sym dirty ∙ ap (λ x. is_dirty (tag_at new x)) same ∙ clean))
    from c j e dirty (inr away) = (marks_made b k name old new adds one found).was c j (λ q. away (some_same c b (sym q))) e dirty

-- of the block that the entry is of
pub marks_of : (b k : ℕ) (words old new : List ℕ) → entry_of_block words b ≡ Some k → DirtiesOnly (Some (tag_block (tag_at words k))) old new → DirtiesOnly (Some b) old new
marks_of b k words old new found h = subst (λ x. DirtiesOnly (Some x) old new) (found_is words b k found).1 h
