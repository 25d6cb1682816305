-- A header in front of zeros is a fresh region.
use Rattle.std.proofs.Common.{◌≡◌, ℕ, suc, ◌+◌, ◌*◌, ◌/◌, ◌%◌, ◌<◌, ◌≤◌, List, [], sym, ap, subst, ◌∙◌, arith}
use Rattle.std.specs.Int.{bit_at}
use Rattle.std.proofs.lemmas.Bool.Decides.{nat_tests}
use Rattle.std.proofs.lemmas.Nat.Bits.{bit_at-zero}
use Rattle.rio_base.specs.Regions.{RegionContent, put_word}
use Rattle.rio_model.specs.Undo.{Links, UndoRecord, Within, taken, live, map_pages, records_from, region_magic, region_words, undo_records}
use Rattle.rio_model.specs.Heap.{OfBlocks, used, starts}
use Rattle.test_objects.specs.declared.faulty_region.FaultyRegion.{FaultyRegion}
use Rattle.test_objects.specs.FaultyRegions.{IsFreshRegion, faulty_content}

no_unit : (l : ℕ → ℕ) (t : ℕ) → ((q : ℕ) → l q ≡ 0) → (used l t ≡ 0) × (starts l t ≡ 0)
unfolding used starts
no_unit l t none = (ap (λ w. bit_at w (t % 64)) (none (2 * (t / 64))) ∙ bit_at-zero (t % 64), ap (λ w. bit_at w (t % 64)) (none (2 * (t / 64) + 1)) ∙ bit_at-zero (t % 64))

no_blocks : (l : ℕ → ℕ) (n : ℕ) → ((q : ℕ) → l q ≡ 0) → OfBlocks l n
no_blocks l n none = record {
  used_start = λ t within s. absurd (omega (arith, s, (no_unit l t none).1));
  first = λ some u. absurd (omega (arith, u, (no_unit l 0 none).0));
  after = λ t within u v. absurd (omega (arith, v, (no_unit l (suc t) none).0));
  past = λ t low high. no_unit l t none;
}

no_head : (f : RegionContent) → f 3 ≡ 0 → undo_records f ≡ []
unfolding records_from
no_head f e = ap (λ h. records_from f h h) e

pub is_fresh : (undo pages : ℕ) (r : FaultyRegion) (zeros : RegionContent) → 1 ≤ undo → 1 ≤ pages → r.count ≡ 512 * (1 + undo + (map_pages pages + pages)) → ((x : ℕ) → zeros x ≡ 0) → faulty_content r ≡ put_word (put_word (put_word zeros 0 region_magic) 1 undo) 2 pages → IsFreshRegion pages r
is_fresh undo pages r zeros some_undo some_pages size none words =
    let f = faulty_content r in
    let at : (x : ℕ) → f x ≡ put_word (put_word (put_word zeros 0 region_magic) 1 undo) 2 pages x = λ x. ap (λ (w : RegionContent). w x) words in
    let undo_is : f 1 ≡ undo = at 1 in
    let pages_is : f 2 ≡ pages = at 2 in
    let head : f 3 ≡ 0 = at 3 ∙ none 3 in
    let recs : undo_records f ≡ [] = no_head f head in
    let rest : (x : ℕ) → 3 < x → f x ≡ 0 = λ x h. at x ∙ behind x h ∙ none x in
    record {
      region = record {
        magic = at 0;
        undo = subst (λ u. 1 ≤ u) (sym undo_is) some_undo;
        data_pages = subst (λ d. 1 ≤ d) (sym pages_is) some_pages;
        size = size ∙ ap (λ u. region_words u pages) (sym undo_is) ∙ ap (λ d. region_words (f 1) d) (sym pages_is);
        links = subst (λ (xs : List UndoRecord). Links f (f 3) xs) (sym recs) head;
        room = subst (λ (xs : List UndoRecord). taken xs ≤ 512 * f 1) (sym recs) (omega arith);
        within = subst (λ (xs : List UndoRecord). Within (512 * (map_pages (f 2) + f 2)) xs) (sym recs) tt;
      };
      pages = pages_is;
      heap = no_blocks (live f) pages (λ q. rest (512 * (1 + f 1) + q) (omega arith));
      records = recs;
    }
  where
    behind : (x : ℕ) → 3 < x → put_word (put_word (put_word zeros 0 region_magic) 1 undo) 2 pages x ≡ zeros x
    behind x h = grind (arith, nat_tests)
